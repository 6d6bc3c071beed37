-- What a pass knows of the clock once it has left.
use Rattle.std.proofs.Common.{◌≡◌, ◌⊎◌, ℕ, ◌≤◌, ◌^◌, List, [], ◌∷◌, ◌++◌, Result, Ok, Err, Some, None, refl, sym, ap, ◌∙◌, subst, arith}
use Rattle.std.specs.List.{All}
use Rattle.std.specs.Prelude.{OnOk, OnErr, IfOk, IfErr}
use Rattle.std.proofs.lemmas.List.{map-append, append-nil}
use Rattle.std.proofs.lemmas.List.Elements.{All-nil, All-cons}
use Rattle.xa_types.specs.declared.ids.CallerId.{CallerId}
use Rattle.xa_types.specs.declared.stamp.Stamp.{Stamp}
use Rattle.xa_stamp.specs.declared.home.Stamped.{Stamped}
use Rattle.xa_stamp.specs.Home.{Rises, last_stamp}
use Rattle.xa_lock.specs.declared.makers.Made.{Made}
use Rattle.xa_lock.specs.declared.pass.Page.{Page}
use Rattle.xa_lock.specs.Makers.{maker_of, noted_in}
use Rattle.xa_lock.specs.Pages.{GrewBy, Knows, page_seeing, page_leaving}
use Rattle.xa_ticks.specs.declared.clock.Moment.{Moment}
use Rattle.xa_ticks.specs.declared.clock.TickRefused.{TickRefused}
use Rattle.xa_ticks.specs.declared.clock.TickRefused.TheVariants.{NoMemory}
use Rattle.xa_ticks.specs.Clock.{ClockState, ReadsAsNoted, Advances, made_of, made_in, tick_by, tick_refused}
use Rattle.xa_ticks.specs.Visits.{ClockVisits, ReachesClock, TickedAs}
use Rattle.xa_held.proofs.Pages.{grown_by, same_maker, own_more}
use Rattle.xa_worker.specs.Crew.{no_stamp}

-- no stamp is greater than the last one
below_last : (first : Stamp) (entries : List Stamped) → Rises first entries → (first.0 ≤ last_stamp first entries) × All (λ noted. noted.stamp.0 ≤ last_stamp first entries) entries
below_last first [] rises = (omega arith, All-nil (λ (x : Stamped). x.stamp.0 ≤ first.0))
below_last first (x ∷ entries) rises =
    let rest = below_last x.stamp entries rises.1 in
    (omega (arith, rises.0, rest.0), All-cons (λ (y : Stamped). y.stamp.0 ≤ last_stamp x.stamp entries) x entries rest.0 rest.1)

-- entries without their makers are what they were
pub bare_made : (entries : List Stamped) → noted_in (made_in entries) ≡ entries
bare_made [] = refl
bare_made (x ∷ entries) = ap (λ (l : List Stamped). x ∷ l) (bare_made entries)

-- how the clock changed, by what a tick answered
pub record Turned (old new : ClockState) (more : List Stamped) (How : ClockState → ClockState → Type 0) : Type 0 where
  pub entries : new.entries ≡ old.entries ++ more
  pub how : How old new

-- the events that the answer tells of
abbrev pub told_in : CallerId → ℕ → Result Moment TickRefused → List Stamped
told_in by op (Ok moment) = record { stamp = moment.stamp; event = tick_by by op moment.now } ∷ []
told_in by op (Err why) = []

pub turned : (seen : Stamp) (by : CallerId) (op n : ℕ) (old new : ClockState) (r : Result Moment TickRefused) → IfOk r (λ moment. Advances seen by op n moment new old) → OnErr r (new ≡ old) → new.entries ≡ old.entries ++ told_in by op r
turned seen by op n old new (Ok moment) moved kept = ap (λ (c : ClockState). c.entries) moved.made
turned seen by op n old new (Err why) moved kept = ap (λ (c : ClockState). c.entries) kept ∙ sym (append-nil old.entries)

-- the pass p entered, was q there, and found `old`; it left `new`, with these events more
module _ (p q : Page Made) (old new : ClockState) (more : List Stamped) (found : q ≡ page_seeing p (made_in old.entries)) (knows : Knows maker_of p (made_in old.entries)) (grew : new.entries ≡ old.entries ++ more) where
  grew_made : made_in new.entries ≡ made_in old.entries ++ made_in more
  grew_made = ap made_in grew ∙ map-append made_of old.entries more

  pub grown : All (λ (m : Made). m.maker.0 ≡ p.maker) (made_in more) → GrewBy maker_of q.maker q.seen (made_in new.entries)
  grown ours = grown_by p q (made_in old.entries) (made_in new.entries) (made_in more) found grew_made maker_of ours

  module _ (q' : Page Made) (left : q' ≡ page_leaving q (made_in new.entries)) (reads : ReadsAsNoted new) where
    pub visits : (How : ClockState → ClockState → Type 0) → How old new → ClockVisits p q' more How
    visits How how = record {
      old = old;
      new = new;
      knew = knows;
      grew = grew;
      maker = same_maker p q (made_in old.entries) (made_in new.entries) (made_in more) found grew_made q' left;
      own = own_more p q (made_in old.entries) (made_in new.entries) (made_in more) found grew_made q' left;
      saw = ap (λ (z : Page Made). z.seen) left;
      reads = reads;
      how = how;
    }

    pub reaches : (last : Stamp) → last.0 ≡ last_stamp no_stamp new.entries → last.0 ≤ 2 ^ 63 → ReachesClock q' last
    reaches last is bound =
        let seen : noted_in q'.seen ≡ new.entries = ap (λ (z : Page Made). noted_in z.seen) left ∙ bare_made new.entries in
        let below = below_last no_stamp new.entries reads.rises in
        record {
          each = subst (λ (l : List Stamped). All (λ (x : Stamped). x.stamp.0 ≤ last.0) l) (sym seen) (subst (λ (n : ℕ). All (λ (x : Stamped). x.stamp.0 ≤ n) new.entries) (sym is) below.1);
          bound = bound;
          is = is ∙ ap (last_stamp no_stamp) (sym {A = List Stamped} seen);
        }

-- whose events these are
pub its : (by : CallerId) (op maker : ℕ) (r : Result Moment TickRefused) → maker ≡ by.0 → All (λ (m : Made). m.maker.0 ≡ maker) (made_in (told_in by op r))
its by op maker (Ok moment) ours = All-cons (λ (m : Made). m.maker.0 ≡ maker) (made_of (record { stamp = moment.stamp; event = tick_by by op moment.now })) [] (sym ours) (All-nil (λ (m : Made). m.maker.0 ≡ maker))
its by op maker (Err why) ours = All-nil (λ (m : Made). m.maker.0 ≡ maker)

-- what the answer says of the clock it says for the pass
pub ticked : (p q q' : Page Made) (old new : ClockState) (seen : Stamp) (by : CallerId) (op n : ℕ) (r : Result Moment TickRefused) → q ≡ page_seeing p (made_in old.entries) → Knows maker_of p (made_in old.entries)
    → q' ≡ page_leaving q (made_in new.entries) → ReadsAsNoted new → IfOk r (λ moment. Advances seen by op n moment new old) → OnOk r (tick_refused seen n old ≡ None) → IfErr r (λ why. (tick_refused seen n old ≡ Some why) ⊎ (why ≡ NoMemory)) → OnErr r (new ≡ old)
    → TickedAs p q' seen by op n r
ticked p q q' old new seen by op n (Ok moment) found knows left reads moved allowed refused kept =
    visits p q old new (told_in by op (Ok moment)) found knows (turned seen by op n old new (Ok moment) moved kept) q' left reads _ (allowed, moved)
ticked p q q' old new seen by op n (Err why) found knows left reads moved allowed refused kept =
    visits p q old new [] found knows (turned seen by op n old new (Err why) moved kept) q' left reads _ (kept, refused)
