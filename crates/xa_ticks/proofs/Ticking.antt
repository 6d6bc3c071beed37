-- A clock reads as its events do also once it is moved on, and what it shows doesn't fall.
use Rattle.std.proofs.Common.{◌≡◌, ℕ, ◌+◌, ◌<◌, ◌≤◌, ◌^◌, ◌==◌, ◌||◌, Bool, true, false, List, [], ◌∷◌, ◌++◌, map, reverse, Option, Some, inl, inr, refl, sym, ◌∙◌, ap, subst, arith, eq-eqb}
use Rattle.std.specs.List.{list_any}
use Rattle.std.proofs.lemmas.Bool.{cases_Bool, or_left, or_right}
use Rattle.std.proofs.lemmas.List.{map-append, reverse-append}
use Rattle.std.proofs.lemmas.List.Elements.{All-nil, All-push}
use Rattle.xa_types.specs.declared.ids.CallerId.{CallerId}
use Rattle.xa_types.specs.declared.setup.Setup.{Setup}
use Rattle.xa_types.specs.declared.stamp.Stamp.{Stamp}
use Rattle.xa_events.specs.declared.event.Event.{Event}
use Rattle.xa_events.specs.declared.event.Event.TheVariants.{Tick}
use Rattle.xa_events.specs.declared.event.Ticked.{Ticked}
use Rattle.xa_events.specs.Words.{AtEach, latest}
use Rattle.xa_events.specs.Clock.{is_tick, is_tick_to, is_shown, tick_to, now}
use Rattle.xa_events.specs.Cases.{HomePart}
use Rattle.xa_events.proofs.WordsLemmas.{latest_yes, latest_no}
use Rattle.xa_stamp.specs.declared.home.Stamped.{Stamped}
use Rattle.xa_stamp.specs.Home.{last_stamp, with_event}
use Rattle.xa_stamp.proofs.Stamps.{Rises-push}
use Rattle.xa_worker.specs.Crew.{no_stamp}
use Rattle.xa_worker.specs.Seen.{past_in}
use Rattle.xa_ticks.specs.Clock.{ClockState, ReadsAsNoted, now_of, tick_by}

pub past-push : (entries : List Stamped) (x : Stamped) → past_in (entries ++ x ∷ []) ≡ x.event ∷ past_in entries
past-push entries x =
    let event : Stamped → Event = λ noted. noted.event in
    ap reverse (map-append event entries (x ∷ [])) ∙ reverse-append (map event entries) (x.event ∷ [])

pub now-tick : (t : Ticked) (past : List Event) → now (Tick t ∷ past) ≡ t.now
unfolding now
now-tick t past = refl

-- the clock with a tick more
pub reads-ticked : (clock : ClockState) (stamp : Stamp) (by : CallerId) (op n tick : ℕ) → ReadsAsNoted clock → last_stamp no_stamp clock.entries < stamp.0 → stamp.0 ≤ 2 ^ 63 → tick ≡ now_of clock + n → n ≤ 4294967295 → tick ≤ 2 ^ 62
    → ReadsAsNoted (record { entries = with_event stamp (tick_by by op tick) clock.entries })
reads-ticked clock stamp by op n tick reads later bound sum most last =
    let x : Stamped = record { stamp = stamp; event = tick_by by op tick } in
    let past = past-push clock.entries x in
    record {
      ticks = All-push (λ (y : Stamped). is_tick y.event ≡ true) clock.entries x reads.ticks refl;
      met = λ setup. subst (AtEach (HomePart setup)) (sym past) (record { onward = omega (arith, sum); step = omega (arith, sum, most); bound = last }, reads.met setup);
      rises = Rises-push no_stamp clock.entries x reads.rises later bound;
      bound = subst (λ k. k ≤ 2 ^ 62) (sym (ap now past ∙ now-tick (record { by = by; op = op; now = tick }) (past_in clock.entries))) last;
    }

-- before any tick
pub reads-nothing : ReadsAsNoted (record { entries = [] })
unfolding now
reads-nothing = record { ticks = All-nil (λ (y : Stamped). is_tick y.event ≡ true); met = λ setup. tt; rises = omega arith; bound = omega arith }

pub now-nothing : now [] ≡ 0
unfolding now
now-nothing = refl

shows_itself : (e : Event) → is_tick e ≡ true → is_tick_to (tick_to (Some e)) e ≡ true
shows_itself (Tick t) so = eq-eqb t.now t.now refl
shows_itself _ so = absurd (cc so)

or-more : (a b c : Bool) → (a || b) ≡ true → (a || (c || b)) ≡ true
or-more true b c so = refl
or-more false b c so = or_right c b so

-- the newest tick is shown
pub shown_now : (past : List Event) → is_shown (now past) past ≡ true
unfolding is_shown now
shown_now [] = refl
shown_now (e ∷ past) =
    let P : Option Event → Type 0 = λ o. ((tick_to o == 0) || list_any (is_tick_to (tick_to o)) (e ∷ past)) ≡ true in
    elim (cases_Bool (is_tick e)) [
      | inl so ↦ subst P (sym (latest_yes is_tick e past so)) (or_right (tick_to (Some e) == 0) (list_any (is_tick_to (tick_to (Some e))) (e ∷ past)) (or_left (is_tick_to (tick_to (Some e)) e) (list_any (is_tick_to (tick_to (Some e))) past) (shows_itself e so)))
      | inr other ↦ subst P (sym (latest_no is_tick e past other)) (or-more (tick_to (latest is_tick past) == 0) (list_any (is_tick_to (tick_to (latest is_tick past))) past) (is_tick_to (tick_to (latest is_tick past)) e) (shown_now past))
    ]

moves_on : (setup : Setup) (e : Event) (past : List Event) → is_tick e ≡ true → HomePart setup e past → now past ≤ tick_to (Some e)
moves_on setup (Tick t) past so met = met.onward
moves_on setup _ past so met = absurd (cc so)

-- what the clock shows doesn't fall
pub now_grows : (setup : Setup) (more past : List Event) → AtEach (HomePart setup) (more ++ past) → now past ≤ now (more ++ past)
unfolding now
now_grows setup [] past met = omega arith
now_grows setup (e ∷ more) past met =
    let before = now_grows setup more past met.1 in
    elim (cases_Bool (is_tick e)) [
      | inl so ↦ let here = moves_on setup e (more ++ past) so met.0 in let newest = ap tick_to (latest_yes is_tick e (more ++ past) so) in omega (arith, before, here, newest)
      | inr other ↦ let same = ap tick_to (latest_no is_tick e (more ++ past) other) in omega (arith, before, same)
    ]
