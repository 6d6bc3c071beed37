-- An event of a server that its worker noted at its own home.
use Rattle.std.proofs.Common.{◌≡◌, ◌≤◌, ℕ, [], Result, Ok, Err, sym, ◌∙◌, ap, subst, append-nil, arith, ◌-◌, ◌+◌, ◌++◌, ◌∷◌}
use Rattle.xa_server.specs.xa_cell.Known.{known}
use Rattle.std.specs.Prelude.{OnErr, IfOk, IfSome}
use Rattle.xa_server.specs.xa_events.Caller.{tick_in}
use Rattle.xa_server.specs.xa_types.declared.stamp.Stamp.{Stamp}
use Rattle.xa_server.specs.xa_types.Setup.{queue_of}
use Rattle.xa_server.specs.xa_events.declared.event.Event.{Event}
use Rattle.xa_server.specs.xa_types.declared.stamp.Worn.{Worn}
use Rattle.xa_server.specs.xa_events.declared.event.Event.TheVariants.{Stop}
use Rattle.xa_server.specs.xa_events.declared.event.StopCause.{StopCause}
use Rattle.xa_server.specs.xa_events.declared.event.StopCause.TheVariants.{Shutdown}
use Rattle.xa_server.specs.xa_events.Cases.{IsShut}
use Rattle.xa_server.specs.xa_events.Homes.{home_of}
use Rattle.xa_server.specs.xa_events.Homes.Home.{CallerHome, QueueHome}
use Rattle.xa_server.specs.xa_events.State.{caller_of}
use Rattle.xa_server.specs.xa_stamp.declared.home.Stamped.{Stamped}
use Rattle.xa_server.specs.xa_worker.Seen.{SawQueue}
use Rattle.xa_server.specs.xa_worker.Work.{WorkState}
use Rattle.xa_server.specs.declared.slot.ServerSlot.{ServerSlot}
use Rattle.xa_server.specs.Changes.{Stops}
use Rattle.xa_server.specs.Doings.{life_in}
use Rattle.xa_desk.specs.Made.{IsMade}
use Rattle.xa_desk.specs.declared.domain.Domain.{Domain}
use Rattle.xa_desk.specs.declared.desk.Desk.{Desk}
use Rattle.xa_desk.specs.Whole.{Whole, entries_of}
use Rattle.xa_desk.specs.Found.{SawAtQueue}
use Rattle.xa_desk.specs.Serving.{IsServing}
use Rattle.xa_desk.specs.Desks.{GoesOn, HasGrounds, IsDesk, Leads, queue_page, shown_to}
use Rattle.xa_server.specs.Fillings.{WasTaken}
use Rattle.xa_desk.proofs.Leading.{starts_same, grew_one, next_leads}
use Rattle.xa_desk.proofs.Seating.{takes_same}

-- nothing changed
pub same_leads : (d : Domain) (desk : Desk) → IsDesk d desk → Leads d desk desk
same_leads d desk is = record { desk = is; own = ([], sym (append-nil desk.caller.work.own)); pages = λ queue. starts_same (queue_page desk queue).seen; before = λ whole on. on; stamp = omega arith }

-- the event was noted, the caller is else as it was, and in the end the worker shows it
pub event_leads : (d : Domain) (desk : Desk) (stamp : Stamp) (e : Event) (room : ℕ) (new : WorkState) → stamp.0 ≡ desk.caller.work.stamp.0 + 1 → new ≡ record desk.caller.work { stamp = stamp; own = desk.caller.work.own ++ record { stamp = stamp; event = e } ∷ []; room = room } → IsDesk d desk
    → home_of d.setup d.clients e ≡ CallerHome desk.caller.work.id.0 → IsMade e → WasTaken (known desk.caller.seat) stamp e → IfSome (tick_in desk.caller.work.clients desk.caller.work.id.0 e) (λ tick. tick ≤ shown_to desk)
    → ((whole : Whole) → GoesOn d whole desk → HasGrounds d whole desk.caller.work.id.0 desk.caller.work.own stamp e) → Leads d desk (record desk { caller = record desk.caller { work = new } })
event_leads d desk stamp e room new next made is home kind took timely grounds =
    let x : Stamped = record { stamp = stamp; event = e } in
    next_leads d desk (record desk.caller { work = new }) x (grew_one desk.caller.work new room x made (omega (arith, next)) kind) (ap (λ (w : WorkState). w.stamp) made) home is.seat (takes_same (known desk.caller.seat)) took is.least timely is next grounds

-- ---- Stop

pub stop_leads : (d : Domain) (queue : ℕ) (desk : Desk) (slot slot' : ServerSlot) (cause : StopCause) (stamp : Stamp) (new : WorkState) → IsDesk d desk → caller_of desk.caller.work.clients slot.server.0 ≡ desk.caller.work.id.0
    → queue_of d.setup slot.server.0 ≡ queue → (cause ≡ Shutdown → SawAtQueue d queue desk (IsShut d.setup queue)) → Stops cause stamp slot' slot new desk.caller.work → Leads d desk (record desk { caller = record desk.caller { work = new } })
stop_leads d queue desk slot slot' cause stamp new is number its shut stops =
    let next = stops.noted.next in
    event_leads d desk stamp (Stop (record { server = slot.server; generation = life_in slot.doing; cause = cause })) (desk.caller.work.room - 1) new next stops.noted.made is (ap CallerHome (ap (λ n. caller_of n slot.server.0) (sym is.clients) ∙ number)) tt tt tt (λ whole on. record {
      saw = λ shutdown. subst (λ q. SawQueue d.setup q (entries_of whole (QueueHome q)) stamp (IsShut d.setup q)) (sym its) (shut shutdown whole on stamp (omega (arith, next)));
      told = tt;
      clears = tt;
    })

pub stopped_leads : (d : Domain) (queue : ℕ) (desk : Desk) (slot slot' : ServerSlot) (cause : StopCause) (new : WorkState) (r : Result Stamp Worn) → IsDesk d desk → IsServing d queue slot desk
    → (cause ≡ Shutdown → SawAtQueue d queue desk (IsShut d.setup queue)) → IfOk r (λ stamp. Stops cause stamp slot' slot new desk.caller.work) → OnErr r ((slot' ≡ slot) × (new ≡ desk.caller.work))
    → Leads d desk (record desk { caller = record desk.caller { work = new } })
stopped_leads d queue desk slot slot' cause new (Ok stamp) is serving shut ok kept = stop_leads d queue desk slot slot' cause stamp new is serving.stands.tables.worker.number serving.its shut ok
stopped_leads d queue desk slot slot' cause new (Err worn) is serving shut ok kept = subst (λ (w : WorkState). Leads d desk (record desk { caller = record desk.caller { work = w } })) (sym kept.1) (same_leads d desk is)
