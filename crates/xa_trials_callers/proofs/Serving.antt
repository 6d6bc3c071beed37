-- What the calls of a server's slot close.
use Rattle.std.proofs.Common.{◌≡◌, ◌≤◌, List, [], ◌∷◌, ◌++◌, Option, refl, sym, ◌∙◌, ap, arith}
use Rattle.xa_types.specs.declared.stamp.Stamp.{Stamp}
use Rattle.xa_types.specs.declared.reply.Answer.{Answer}
use Rattle.xa_events.specs.declared.event.Doing.{Doing}
use Rattle.xa_events.specs.declared.event.Doing.TheVariants.{Idle, Busy}
use Rattle.xa_events.specs.declared.event.Outcome.{Outcome}
use Rattle.xa_events.specs.declared.event.StopCause.{StopCause}
use Rattle.xa_events.specs.Answers.{reply_of}
use Rattle.xa_events.specs.Request.Settlement.{EndedBy}
use Rattle.xa_stamp.specs.declared.home.Stamped.{Stamped}
use Rattle.xa_stamp.specs.Home.{last_stamp}
use Rattle.xa_stamp.proofs.Stamps.{last_stamp-push}
use Rattle.xa_worker.specs.Crew.{no_stamp}
use Rattle.xa_queue.specs.declared.entry.Entry.{Entry}
use Rattle.xa_caller.specs.Caller.{CallerState}
use Rattle.xa_caller.specs.Drafts.{Cargo}
use Rattle.xa_worker.specs.Work.{WorkState}
use Rattle.xa_server.specs.declared.closing.Closing.{Closing}
use Rattle.xa_server.specs.declared.slot.ServerSlot.{ServerSlot}
use Rattle.xa_server.specs.Changes.{Closes, Finishes, DiesBusy, DiesIdle, DiesFrom}
use Rattle.xa_server.specs.Doings.{life_in, outcome_of, IsBusy, IsIdle}
use Rattle.xa_trials_callers.specs.Forwards.{IsClosed, ticket_in}

pub busy_dies : (d : Doing) (cause : StopCause) (closing : Closing) (slot' slot : ServerSlot) (new old : WorkState) → IsBusy d → DiesFrom d cause closing slot' slot new old → DiesBusy cause closing slot' slot new old
busy_dies (Busy life request) cause closing slot' slot new old busy dies = dies
busy_dies _ cause closing slot' slot new old busy dies = absurd busy

pub idle_dies : (d : Doing) (cause : StopCause) (closing : Closing) (slot' slot : ServerSlot) (new old : WorkState) → IsIdle d → DiesFrom d cause closing slot' slot new old → DiesIdle cause closing slot' slot new old
idle_dies (Idle life) cause closing slot' slot new old idle dies = dies
idle_dies _ cause closing slot' slot new old idle dies = absurd idle

pub idle_in : (d : Doing) → IsIdle d → d ≡ Idle (life_in d)
idle_in (Idle life) idle = refl
idle_in _ idle = absurd idle

-- the last stamp is that of the event that came last
newest : (old : List Stamped) (x : Stamped) (new : List Stamped) → new ≡ old ++ x ∷ [] → last_stamp no_stamp new ≡ x.stamp.0
newest old x new is = ap (last_stamp no_stamp) is ∙ last_stamp-push no_stamp old x

closed_by : (answer : Answer) (stamp : Stamp) (hand : Option (Entry Cargo)) (closing : Closing) (c : CallerState) → Closes answer stamp hand closing → stamp.0 ≤ last_stamp no_stamp c.work.own → IsClosed hand closing c
closed_by answer stamp hand closing c closes later =
    let at = ap (λ (k : Closing). k.stamp.0) closes.is in
    record { ticket = ap (λ (k : Closing). k.ticket) closes.is ∙ sym (ap ticket_in closes.in_hand); later = omega (arith, at, later) }

pub finish_closed : (outcome : Outcome) (closing : Closing) (slot' slot : ServerSlot) (c' : CallerState) (old : WorkState) → Finishes outcome closing slot' slot c'.work old → IsClosed slot.hand closing c'
finish_closed outcome closing slot' slot c' old f =
    let now = newest old.own (record { stamp = f.stamp; event = _ }) c'.work.own (ap (λ (w : WorkState). w.own) f.ends.noted.made) in
    closed_by (reply_of (EndedBy outcome)) f.stamp slot.hand closing c' f.closes (omega (arith, now))

pub death_closed : (cause : StopCause) (closing : Closing) (slot' slot : ServerSlot) (c' : CallerState) (old : WorkState) → DiesBusy cause closing slot' slot c'.work old → IsClosed slot.hand closing c'
death_closed cause closing slot' slot c' old d =
    let between = ap (λ (w : WorkState). w.stamp.0) d.ends.noted.made in
    let next = d.stops.noted.next in
    let now = newest d.between.own (record { stamp = d.stop; event = _ }) c'.work.own (ap (λ (w : WorkState). w.own) d.stops.noted.made) in
    closed_by (reply_of (EndedBy (outcome_of cause))) d.stamp slot.hand closing c' d.closes (omega (arith, between, next, now))

pub death_later : (cause : StopCause) (closing : Closing) (slot' slot : ServerSlot) (new old : WorkState) → DiesIdle cause closing slot' slot new old → closing.stamp.0 ≤ last_stamp no_stamp new.own
death_later cause closing slot' slot new old d =
    let at = ap (λ (s : Stamp). s.0) d.stamped in
    let now = newest old.own (record { stamp = d.stop; event = _ }) new.own (ap (λ (w : WorkState). w.own) d.stops.noted.made) in
    omega (arith, at, now)
