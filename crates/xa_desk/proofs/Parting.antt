-- What a worker that leaves has noted and shown.
use Rattle.std.proofs.Common.{◌≡◌, ◌≤◌, ℕ, ◌+◌, ◌-◌, ◌==◌, ◌&&◌, Bool, true, false, List, [], ◌∷◌, ◌++◌, Option, Some, None, inl, inr, refl, sym, ◌∙◌, ap, subst, arith}
use Rattle.std.specs.Prelude.{IfSome}
use Rattle.xa_server.specs.xa_types.declared.ids.CallerId.{CallerId}
use Rattle.xa_server.specs.xa_types.declared.stamp.Stamp.{Stamp}
use Rattle.xa_server.specs.xa_events.declared.event.Event.{Event}
use Rattle.xa_server.specs.xa_events.declared.event.Event.TheVariants.{Cancel, Leave}
use Rattle.xa_server.specs.xa_events.Caller.{is_call_of, tick_in}
use Rattle.xa_server.specs.xa_events.Homes.{home_of}
use Rattle.xa_server.specs.xa_events.Homes.Home.{CallerHome}
use Rattle.xa_server.specs.xa_cell.declared.tokens.Seat.{Seat}
use Rattle.xa_server.specs.xa_cell.Known.{known, IsSeatOf}
use Rattle.xa_server.specs.xa_worker.declared.work.Halt.{Halt}
use Rattle.xa_server.specs.xa_worker.Work.{WorkState, noted, noted_here}
use Rattle.xa_server.specs.xa_caller.declared.cargo.Filling.{Filling}
use Rattle.xa_server.specs.xa_caller.declared.phase.Open.{Open}
use Rattle.xa_server.specs.xa_caller.Changes.{GivesUp, LeavesAs, FillsNoMore}
use Rattle.xa_server.specs.Fillings.{WasTaken}
use Rattle.xa_desk.specs.declared.domain.Domain.{Domain}
use Rattle.xa_desk.specs.declared.desk.Desk.{Desk}
use Rattle.xa_desk.specs.Whole.{Whole}
use Rattle.xa_desk.specs.Made.{IsMade}
use Rattle.xa_desk.specs.Desks.{GoesOn, HasGrounds, IsDesk, Leads, shown_to}
use Rattle.xa_desk.specs.Parting.{FitsStill}
use Rattle.xa_desk.proofs.Fitting.{aside_fits}
use Rattle.xa_desk.proofs.Leading.{grew_one, grew_none, calm_leads, leads_trans}
use Rattle.xa_desk.proofs.Telling.{reseated}
use Rattle.xa_desk.proofs.Stopping.{same_leads, event_leads}

-- with this work, where the rest stays
abbrev pub with_work : Desk → WorkState → Desk
with_work desk w = record desk { caller = record desk.caller { work = w } }

abbrev Goes : Domain → Desk → Desk → Type 0
Goes d old new = Leads d old new × FitsStill d old new

goes_trans : (d : Domain) (old mid new : Desk) → Goes d old mid → Goes d mid new → Goes d old new
goes_trans d old mid new first then = (leads_trans d old mid new first.0 then.0, λ ops fits. then.1 ops (first.1 ops fits))

-- with an event that is of no call
parts_goes : (d : Domain) (desk : Desk) (stamp : Stamp) (e : Event) (room : ℕ) (new : WorkState) → IsDesk d desk → stamp.0 ≡ desk.caller.work.stamp.0 + 1 → new ≡ record desk.caller.work { stamp = stamp; own = desk.caller.work.own ++ record { stamp = stamp; event = e } ∷ []; room = room }
    → home_of d.setup d.clients e ≡ CallerHome desk.caller.work.id.0 → IsMade e → WasTaken (known desk.caller.seat) stamp e → IfSome (tick_in desk.caller.work.clients desk.caller.work.id.0 e) (λ tick. tick ≤ shown_to desk)
    → ((whole : Whole) → GoesOn d whole desk → HasGrounds d whole desk.caller.work.id.0 desk.caller.work.own stamp e) → is_call_of desk.caller.work.id.0 e ≡ false → Goes d desk (with_work desk new)
parts_goes d desk stamp e room new is next made home kind took timely grounds none =
    let leads : Leads d desk (with_work desk new) = event_leads d desk stamp e room new next made is home kind took timely grounds in
    (leads, aside_fits d desk (with_work desk new) (record { stamp = stamp; event = e }) leads (grew_one desk.caller.work new room (record { stamp = stamp; event = e }) made (omega (arith, next)) kind) none (λ over. over))

-- or without
stays_goes : (d : Domain) (desk : Desk) (new : WorkState) → IsDesk d desk → new ≡ desk.caller.work → Goes d desk (with_work desk new)
stays_goes d desk new is same = subst (λ (w : WorkState). Goes d desk (with_work desk w)) (sym same) (same_leads d desk is, λ ops fits. fits)

leave_goes : (d : Domain) (desk : Desk) (stamp : Stamp) (new : WorkState) → IsDesk d desk → stamp.0 ≡ desk.caller.work.stamp.0 + 1 → new ≡ noted (record { stamp = stamp; event = Leave desk.caller.work.id }) desk.caller.work → Goes d desk (with_work desk new)
leave_goes d desk stamp new is next made = parts_goes d desk stamp (Leave desk.caller.work.id) desk.caller.work.room new is next made refl tt tt tt (λ whole on. record { saw = tt; told = tt; clears = tt }) refl

-- what is out is given up, by no call
gives_up_goes : (d : Domain) (desk : Desk) (given : List Open) (new : WorkState) → IsDesk d desk → GivesUp given new desk.caller.work → Goes d desk (with_work desk new)
gives_up_goes d desk [] new is same = stays_goes d desk new is same
gives_up_goes d desk (o ∷ os) new is (stamp, next, rest) =
    let e : Event = Cancel (record { by = desk.caller.work.id; op = 0; request = o.request }) in
    let one : WorkState = noted_here (record { stamp = stamp; event = e }) desk.caller.work in
    let first = parts_goes d desk stamp e (desk.caller.work.room - 1) one is next refl refl tt tt tt (λ whole on. record { saw = tt; told = tt; clears = tt }) (of_none (desk.caller.work.id.0 == desk.caller.work.id.0)) in
    goes_trans d desk (with_work desk one) (with_work desk new) first (gives_up_goes d (with_work desk one) os new first.0.desk rest)
  where
    of_none : (b : Bool) → (b && false) ≡ false
    of_none true = refl
    of_none false = refl

left_goes : (d : Domain) (desk : Desk) (halt : Option Halt) (new : WorkState) → IsDesk d desk → LeavesAs desk.caller.out halt new desk.caller.work → Goes d desk (with_work desk new)
left_goes d desk None new is (inl (client, (left, gives, left_with))) =
    let first = gives_up_goes d desk desk.caller.out left is gives in
    let same = id_same desk.caller.out left desk.caller.work gives in
    goes_trans d desk (with_work desk left) (with_work desk new) first
    (leave_goes d (with_work desk left) left_with.0 new first.0.desk left_with.1 (left_with.2 ∙ ap (λ (id : CallerId). noted (record { stamp = left_with.0; event = Leave id }) left) (sym same)))
  where
    id_same : (given : List Open) (new old : WorkState) → GivesUp given new old → new.id ≡ old.id
    id_same [] new old same = ap (λ (w : WorkState). w.id) same
    id_same (o ∷ os) new old (stamp, next, rest) = id_same os new _ rest
left_goes d desk None new is (inr (server, same)) = stays_goes d desk new is same
left_goes d desk (Some halt) new is (client, (given, rest, all, gives, halts)) = gives_up_goes d desk given new is gives

pub given_up_leads : (d : Domain) (desk : Desk) (seat : Seat Filling) → IsDesk d desk → IsSeatOf d.cells seat → FillsNoMore (known desk.caller.seat) (known seat) → Leads d desk (reseated desk seat)
given_up_leads d desk seat is its more =
    calm_leads d desk (record desk.caller { seat = seat }) (record { grew = grew_none desk.caller.work desk.caller.work desk.caller.work.room desk.caller.work.stamp refl (omega arith); seat = its; takes = record { taken = more.taken; filled = more.filled }; least = refl }) is refl

-- it leaves, and gives up its places
pub parted_goes : (d : Domain) (desk : Desk) (halt : Option Halt) (new : WorkState) (seat : Seat Filling) → IsDesk d desk → LeavesAs desk.caller.out halt new desk.caller.work → IsSeatOf d.cells seat → FillsNoMore (known desk.caller.seat) (known seat)
    → Leads d desk (reseated (with_work desk new) seat) × FitsStill d desk (reseated (with_work desk new) seat)
parted_goes d desk halt new seat is leaves its more =
    let mid : Desk = with_work desk new in
    let goes = left_goes d desk halt new is leaves in
    let seated = given_up_leads d mid seat goes.0.desk its more in
    goes_trans d desk mid (reseated mid seat) goes (seated, λ ops fits. record { each = λ whole on. fits.each whole (seated.before whole on); over = fits.over })
