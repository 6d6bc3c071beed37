-- What a pass saw of the clock, as the law of workers asks it.
use Rattle.std.proofs.Common.{◌≡◌, ◌⊎◌, ℕ, ◌+◌, ◌≤◌, ◌<◌, ◌==◌, ◌||◌, Bool, true, false, List, [], ◌∷◌, ◌++◌, map, reverse, Result, Ok, Err, Some, inl, inr, refl, sym, ap, ◌∙◌, subst, arith, eqb-true}
use Rattle.std.specs.List.{list_any}
use Rattle.std.proofs.lemmas.Bool.{cases_Bool, or_right}
use Rattle.std.proofs.lemmas.List.{map-append, reverse-append, append_assoc}
use Rattle.std.proofs.lemmas.List.Elements.{All-weaker}
use Rattle.xa_types.specs.declared.ids.CallerId.{CallerId}
use Rattle.xa_types.specs.declared.setup.Setup.{Setup}
use Rattle.xa_types.specs.declared.stamp.Stamp.{Stamp}
use Rattle.xa_events.specs.declared.event.Event.{Event}
use Rattle.xa_events.specs.declared.event.Event.TheVariants.{Tick}
use Rattle.xa_events.specs.Clock.{is_tick, is_tick_to, tick_to, is_shown, now}
use Rattle.xa_events.specs.Words.{AtEach}
use Rattle.xa_events.specs.Cases.{HomePart}
use Rattle.xa_events.proofs.WordsLemmas.{latest_yes}
use Rattle.xa_stamp.specs.declared.home.Stamped.{Stamped}
use Rattle.xa_lock.specs.declared.makers.Made.{Made}
use Rattle.xa_lock.specs.declared.pass.Page.{Page}
use Rattle.xa_lock.specs.Makers.{noted_in}
use Rattle.xa_lock.specs.Pages.{StartsWith}
use Rattle.xa_worker.specs.Seen.{past_in, SawFront, StandsBehind}
use Rattle.xa_ticks.specs.declared.clock.Moment.{Moment}
use Rattle.xa_ticks.specs.declared.clock.TickRefused.{TickRefused}
use Rattle.xa_ticks.specs.Clock.{ClockState, made_in, made_of, tick_by}
use Rattle.xa_ticks.proofs.Ticking.{past-push, now-tick, shown_now, now_grows}
use Rattle.xa_ticks.specs.Visits.{ClockVisits, ReachesClock, ReadAs, TickedAs, HasShown}
use Rattle.xa_ticks.proofs.Passing.{bare_made}

-- what was shown is shown with more events
shown-more : (tick : ℕ) (e : Event) (past : List Event) → is_shown tick past ≡ true → is_shown tick (e ∷ past) ≡ true
unfolding is_shown
shown-more tick e past shown = more (tick == 0) (list_any (is_tick_to tick) past) (is_tick_to tick e) shown
  where
    more : (a b c : Bool) → (a || b) ≡ true → (a || (c || b)) ≡ true
    more true b c so = refl
    more false b c so = or_right c b so

past-more : (front rest : List Stamped) → past_in (front ++ rest) ≡ past_in rest ++ past_in front
past-more front rest =
    let event : Stamped → Event = λ noted. noted.event in
    ap reverse (map-append event front rest) ∙ reverse-append (map event front) (map event rest)

shown-later : (tick : ℕ) (more past : List Event) → is_shown tick past ≡ true → is_shown tick (more ++ past) ≡ true
shown-later tick [] past shown = shown
shown-later tick (e ∷ more) past shown = shown-more tick e (more ++ past) (shown-later tick more past shown)

-- no tick that was shown is greater than the newest
is_the_tick : (tick : ℕ) (e : Event) → is_tick_to tick e ≡ true → (is_tick e ≡ true) × (tick_to (Some e) ≡ tick)
is_the_tick tick (Tick t) so = (refl, eqb-true t.now tick so)
is_the_tick tick _ so = absurd (cc so)

newest : (tick : ℕ) (e : Event) (past : List Event) → is_shown tick (e ∷ past) ≡ true → (is_tick_to tick e ≡ true) ⊎ (is_shown tick past ≡ true)
unfolding is_shown
newest tick e past shown =
    elim (cases_Bool (is_tick_to tick e)) [
      | inl here ↦ inl here
      | inr other ↦ inr (sym (ap (λ b. (tick == 0) || (b || list_any (is_tick_to tick) past)) other) ∙ shown)
    ]

now-of : (e : Event) (past : List Event) → is_tick e ≡ true → now (e ∷ past) ≡ tick_to (Some e)
unfolding now
now-of e past so = ap tick_to (latest_yes is_tick e past so)

only : (a : Bool) → (a || false) ≡ true → a ≡ true
only true so = refl
only false so = so

first_only : (tick : ℕ) → is_shown tick [] ≡ true → tick ≡ 0
unfolding is_shown
first_only tick shown = eqb-true tick 0 (only (tick == 0) shown)

shown-least : (setup : Setup) (tick : ℕ) (past : List Event) → AtEach (HomePart setup) past → is_shown tick past ≡ true → tick ≤ now past
shown-least setup tick [] met shown = let zero = first_only tick shown in omega (arith, zero)
shown-least setup tick (e ∷ past) met shown =
    let onward = now_grows setup (e ∷ []) past met in
    elim (newest tick e past shown) [
      | inl here ↦ let is = (is_the_tick tick e here).1 in let newest_is = now-of e past (is_the_tick tick e here).0 in omega (arith, is, newest_is)
      | inr before ↦ let less = shown-least setup tick past met.1 before in omega (arith, onward, less)
    ]

pub visited : (p p' : Page Made) (more : List Stamped) (How : ClockState → ClockState → Type 0) → (v : ClockVisits p p' more How) → noted_in p'.seen ≡ v.new.entries
visited p p' more How v = ap noted_in v.saw ∙ bare_made v.new.entries

pub read_shown : (p p' : Page Made) (tick : ℕ) → ReadAs p p' tick → HasShown tick p'
read_shown p p' tick v =
    let now_is : tick ≡ now (past_in (noted_in p'.seen)) = v.how.1 ∙ ap (λ (c : ClockState). now (past_in c.entries)) (sym v.how.0) ∙ ap (λ (l : List Stamped). now (past_in l)) (sym (visited p p' [] _ v)) in
    subst (λ t. is_shown t (past_in (noted_in p'.seen)) ≡ true) (sym now_is) (shown_now (past_in (noted_in p'.seen)))

module _ (p p' : Page Made) (seen : Stamp) (by : CallerId) (op n : ℕ) (moment : Moment) (v : TickedAs p p' seen by op n (Ok moment)) where
  abbrev x : Stamped
  x = record { stamp = moment.stamp; event = tick_by by op moment.now }

  past_is : past_in (noted_in p'.seen) ≡ x.event ∷ past_in v.old.entries
  past_is = ap past_in (visited p p' (x ∷ []) _ v ∙ v.grew) ∙ past-push v.old.entries x

  pub ticked_now : now (past_in (noted_in p'.seen)) ≡ moment.now
  ticked_now = ap now past_is ∙ now-tick (record { by = by; op = op; now = moment.now }) (past_in v.old.entries)

  pub ticked_shown : HasShown moment.now p'
  ticked_shown = subst (λ t. is_shown t (past_in (noted_in p'.seen)) ≡ true) ticked_now (shown_now (past_in (noted_in p'.seen)))

  pub ticked_behind : (now' : List Made) → StartsWith now' p'.seen → StandsBehind (noted_in now') x (λ past. moment.now ≡ now past + n)
  ticked_behind now' starts =
      let bare : Made → Stamped = λ entry. entry.noted in
      record {
        before = v.old.entries;
        after = noted_in starts.0;
        stands = ap noted_in starts.1 ∙ map-append bare p'.seen starts.0 ∙ ap (λ (l : List Stamped). l ++ noted_in starts.0) (visited p p' (x ∷ []) _ v ∙ v.grew) ∙ append_assoc v.old.entries (x ∷ []) (noted_in starts.0);
        shows = v.how.1.sum;
      }

pub clock_stands : (p : Page Made) (last stamp : Stamp) (now' : List Made) (P : List Event → Type 0) → ReachesClock p last → last.0 < stamp.0 → StartsWith now' p.seen → P (past_in (noted_in p.seen)) → SawFront (noted_in now') stamp P
clock_stands p last stamp now' P reach later starts shows =
    let bare : Made → Stamped = λ entry. entry.noted in
    record {
      front = noted_in p.seen;
      stands = (noted_in starts.0, ap noted_in starts.1 ∙ map-append bare p.seen starts.0);
      before = All-weaker (λ (x : Stamped). x.stamp.0 ≤ last.0) (λ (x : Stamped). x.stamp.0 < stamp.0) (λ x least. omega (arith, least, later)) (noted_in p.seen) reach.each;
      shows = shows;
    }

pub seen_grows : (p p' : Page Made) (more : List Stamped) (How : ClockState → ClockState → Type 0) → ClockVisits p p' more How → StartsWith p'.seen p.seen
seen_grows p p' more How v =
    let front = v.knew.1 in
    (front.0 ++ made_in more, v.saw ∙ ap made_in v.grew ∙ map-append made_of v.old.entries more ∙ ap (λ (l : List Made). l ++ made_in more) front.1 ∙ append_assoc p.seen front.0 (made_in more))

pub ticked_grows : (p p' : Page Made) (seen : Stamp) (by : CallerId) (op n : ℕ) (r : Result Moment TickRefused) → TickedAs p p' seen by op n r → StartsWith p'.seen p.seen
ticked_grows p p' seen by op n (Ok moment) v = seen_grows p p' _ _ v
ticked_grows p p' seen by op n (Err why) v = seen_grows p p' _ _ v

pub shown_after : (now' seen : List Made) (tick : ℕ) → StartsWith now' seen → is_shown tick (past_in (noted_in seen)) ≡ true → is_shown tick (past_in (noted_in now')) ≡ true
shown_after now' seen tick starts shown =
    let bare : Made → Stamped = λ entry. entry.noted in
    let all : noted_in now' ≡ noted_in seen ++ noted_in starts.0 = ap noted_in starts.1 ∙ map-append bare seen starts.0 in
    subst (λ (past : List Event). is_shown tick past ≡ true) (sym (ap past_in all ∙ past-more (noted_in seen) (noted_in starts.0))) (shown-later tick (past_in (noted_in starts.0)) (past_in (noted_in seen)) shown)

pub read_least : (setup : Setup) (p p' : Page Made) (tick shown : ℕ) → ReadAs p p' tick → HasShown shown p → shown ≤ tick
read_least setup p p' tick shown v has =
    let later = shown_after p'.seen p.seen shown (seen_grows p p' [] _ v) has in
    let at_new : is_shown shown (past_in v.new.entries) ≡ true = subst (λ (l : List Stamped). is_shown shown (past_in l) ≡ true) (visited p p' [] _ v) later in
    let less = shown-least setup shown (past_in v.new.entries) (v.reads.met setup) at_new in
    let is = v.how.1 ∙ ap (λ (c : ClockState). now (past_in c.entries)) (sym v.how.0) in
    omega (arith, less, is)

-- what the clock shows never falls
pub never_falls : (setup : Setup) (p p' : Page Made) (more : List Stamped) (How : ClockState → ClockState → Type 0) → ClockVisits p p' more How → now (past_in (noted_in p.seen)) ≤ now (past_in (noted_in p'.seen))
never_falls setup p p' more How v =
    let bare : Made → Stamped = λ entry. entry.noted in
    let starts = seen_grows p p' more How v in
    let all : past_in (noted_in p'.seen) ≡ past_in (noted_in starts.0) ++ past_in (noted_in p.seen) = ap past_in (ap noted_in starts.1 ∙ map-append bare p.seen starts.0) ∙ past-more (noted_in p.seen) (noted_in starts.0) in
    let met : AtEach (HomePart setup) (past_in (noted_in p'.seen)) = subst (λ (l : List Stamped). AtEach (HomePart setup) (past_in l)) (sym {A = List Stamped} (visited p p' more How v)) (v.reads.met setup) in
    subst (λ (past : List Event). now (past_in (noted_in p.seen)) ≤ now past) (sym all) (now_grows setup (past_in (noted_in starts.0)) (past_in (noted_in p.seen)) (subst (AtEach (HomePart setup)) all met))
