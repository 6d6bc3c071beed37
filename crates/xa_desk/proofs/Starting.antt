-- A start, or a failed one, that its server's worker noted.
use Rattle.std.proofs.Common.{◌-◌, ◌≡◌, ◌<◌, ◌≤◌, ℕ, max, true, List, Result, Ok, Err, Option, Some, None, inl, inr, sym, ◌∙◌, ap, subst, arith}
use Rattle.std.specs.Prelude.{IfOk, IfErr}
use Rattle.std.specs.List.{All}
use Rattle.std.proofs.lemmas.List.{map-append}
use Rattle.std.proofs.lemmas.List.Elements.{All-weaker}
use Rattle.xa_server.specs.xa_types.declared.stamp.Stamp.{Stamp}
use Rattle.xa_server.specs.xa_events.declared.event.Event.TheVariants.{Start, StartFailed}
use Rattle.xa_server.specs.xa_events.Caller.{tick_floor}
use Rattle.xa_server.specs.xa_events.Clock.{is_shown, now}
use Rattle.xa_server.specs.xa_events.Homes.Home.{CallerHome, ClockHome}
use Rattle.xa_server.specs.xa_events.State.{caller_of}
use Rattle.xa_server.specs.xa_stamp.declared.home.Stamped.{Stamped}
use Rattle.xa_server.specs.xa_lock.declared.makers.Made.{Made}
use Rattle.xa_server.specs.xa_lock.declared.pass.LockPass.{LockPass}
use Rattle.xa_server.specs.xa_lock.Makers.{noted_in}
use Rattle.xa_server.specs.xa_worker.Seen.{SawFront, past_in}
use Rattle.xa_server.specs.xa_worker.declared.work.Halt.{Halt}
use Rattle.xa_server.specs.xa_worker.Work.{WorkState, theirs}
use Rattle.xa_server.specs.declared.slot.ServerSlot.{ServerSlot}
use Rattle.xa_server.specs.Changes.{next_life}
use Rattle.xa_server.specs.Noting.{HaltsWith}
use Rattle.xa_server.specs.Served.{StarterShows, Tries, Halts}
use Rattle.xa_server.specs.xa_pipe.Standing.{LifeState}
use Rattle.xa_ticks.proofs.Ticking.{shown_now}
use Rattle.xa_desk.specs.declared.domain.Domain.{Domain}
use Rattle.xa_desk.specs.declared.desk.Desk.{Desk}
use Rattle.xa_desk.specs.Whole.{Whole, entries_of}
use Rattle.xa_desk.specs.Desks.{IsDesk, IsClockPass, IsThere, GoesOn, Leads, clock_page, page_in, shown_to}
use Rattle.xa_desk.proofs.Timely.{if_some_if}
use Rattle.xa_desk.specs.Serving.{IsServing}
use Rattle.xa_desk.proofs.Stopping.{event_leads}
use Rattle.xa_desk.proofs.Ending.{reworked, halted_leads}

-- what the clock showed the worker's pass last stands there in front of what the worker notes next
reached_in : (d : Domain) (w : WorkState) (clock : Option (LockPass Made)) → IsThere (IsClockPass d w) clock → All (λ (noted : Stamped). noted.stamp.0 ≤ w.stamp.0) (noted_in (page_in clock).seen)
reached_in d w (Some pass) is = is.reached
reached_in d w None is = absurd is

shown_at : (d : Domain) (whole : Whole) (desk : Desk) (stamp : Stamp) (tick : ℕ) → IsDesk d desk → GoesOn d whole desk → desk.caller.work.stamp.0 < stamp.0 → tick ≡ shown_to desk → SawFront (entries_of whole ClockHome) stamp (λ past. is_shown tick past ≡ true)
shown_at d whole desk stamp tick is on later shows = subst (λ t. SawFront (entries_of whole ClockHome) stamp (λ past. is_shown t past ≡ true)) (sym shows)
    (record {
      front = noted_in (clock_page desk).seen;
      stands = (noted_in on.clock.0, ap noted_in on.clock.1 ∙ map-append (λ (m : Made). m.noted) (clock_page desk).seen on.clock.0);
      before = All-weaker (λ (noted : Stamped). noted.stamp.0 ≤ desk.caller.work.stamp.0) (λ (noted : Stamped). noted.stamp.0 < stamp.0) (λ noted low. omega (arith, low, later)) (noted_in (clock_page desk).seen) (reached_in d desk.caller.work desk.clock is.clock);
      shows = shown_now (past_in (noted_in (clock_page desk).seen));
    })

-- no tick that the worker read or made is greater
floor_in : (d : Domain) (w : WorkState) (clock : Option (LockPass Made)) → IsThere (IsClockPass d w) clock → tick_floor w.clients w.id.0 (theirs w) ≤ now (past_in (noted_in (page_in clock).seen))
floor_in d w (Some pass) is = is.floor
floor_in d w None is = absurd is

pub floor_shown : {d : Domain} {desk : Desk} {tick : ℕ} → IsDesk d desk → tick ≡ shown_to desk → tick_floor desk.caller.work.clients desk.caller.work.id.0 (theirs desk.caller.work) ≤ tick
floor_shown {d} {desk} is shown = let low = floor_in d desk.caller.work desk.clock is.clock in omega (arith, low, shown)

pub start_leads : (d : Domain) (queue : ℕ) (desk : Desk) (slot slot' : ServerSlot) (name : List ℕ) (tick : ℕ) (shows' shows : StarterShows) (new : WorkState) (r : Result (Option LifeState) Halt) → IsDesk d desk → IsServing d queue slot desk → tick ≡ shown_to desk
    → IfOk r (λ life. Tries name tick life slot' slot new desk.caller.work) → IfErr r (Halts name (next_life slot) shows' shows new desk.caller.work) → Leads d desk (reworked desk new)
start_leads d queue desk slot slot' name tick shows' shows new (Ok (Some life)) is serving at tries halts =
    let noted = tries.starts.noted in
    let next = noted.next in
    event_leads d desk tries.starts.stamp (Start (record { server = slot.server; generation = next_life slot; tick = tick })) (max desk.caller.work.room 3 - 1) new next noted.made is
    (ap CallerHome (ap (λ n. caller_of n slot.server.0) (sym is.clients) ∙ serving.stands.tables.worker.number)) tt tt (if_some_if _ (Some tick) (λ (t : ℕ). t ≤ shown_to desk) (omega (arith, at))) (λ whole on. record { saw = shown_at d whole desk tries.starts.stamp tick is on (omega (arith, next)) at; told = tt; clears = tt })
start_leads d queue desk slot slot' name tick shows' shows new (Ok None) is serving at tries halts =
    let noted = tries.noted in
    let next = noted.next in
    event_leads d desk tries.stamp (StartFailed (record { server = slot.server; generation = next_life slot; tick = tick })) (max desk.caller.work.room 1 - 1) new next noted.made is
    (ap CallerHome (ap (λ n. caller_of n slot.server.0) (sym is.clients) ∙ serving.stands.tables.worker.number)) tt tt (if_some_if _ (Some tick) (λ (t : ℕ). t ≤ shown_to desk) (omega (arith, at))) (λ whole on. record { saw = shown_at d whole desk tries.stamp tick is on (omega (arith, next)) at; told = tt; clears = tt })
start_leads d queue desk slot slot' name tick shows' shows new (Err halt) is serving at tries (inl unasked) = halted_leads d desk 3 new halt is (subst (HaltsWith 3 new desk.caller.work) (sym unasked.starved) unasked.noted)
start_leads d queue desk slot slot' name tick shows' shows new (Err halt) is serving at tries (inr (inl begun)) = halted_leads d desk 3 new halt is begun.halts
start_leads d queue desk slot slot' name tick shows' shows new (Err halt) is serving at tries (inr (inr failed)) = halted_leads d desk 1 new halt is failed.halts
