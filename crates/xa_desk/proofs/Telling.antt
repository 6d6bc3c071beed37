-- What a closing that is given leaves.
use Rattle.std.proofs.Common.{◌≡◌, List, [], ◌∷◌, Option, Some, None, refl, sym, subst, arith}
use Rattle.xa_server.specs.xa_events.Homes.Home.{CallerHome}
use Rattle.xa_server.specs.xa_events.Homes.{home_of}
use Rattle.std.proofs.lemmas.List.Elements.{Contains-push, Contains-append_right, All-nil}
use Rattle.xa_server.specs.xa_types.declared.reply.Answer.{Answer}
use Rattle.xa_server.specs.xa_types.declared.stamp.Stamp.{Stamp}
use Rattle.xa_server.specs.xa_stamp.declared.home.Stamped.{Stamped}
use Rattle.xa_server.specs.xa_stamp.Home.{last_stamp}
use Rattle.xa_server.specs.xa_worker.Crew.{no_stamp}
use Rattle.xa_server.specs.xa_cell.declared.tokens.Ticket.{Ticket}
use Rattle.xa_server.specs.xa_cell.declared.tokens.Seat.{Seat}
use Rattle.xa_server.specs.xa_cell.declared.view.View.{View}
use Rattle.xa_server.specs.xa_cell.Known.{known, IsSeatOf}
use Rattle.xa_server.specs.xa_caller.declared.cargo.Filling.{Filling}
use Rattle.xa_server.specs.declared.closing.Closing.{Closing}
use Rattle.xa_server.specs.declared.closing.Given.{Given}
use Rattle.xa_server.specs.Told.{GivenTo, GivenAs, HasStamp}
use Rattle.xa_server.proofs.Telling.{given_ended}
use Rattle.xa_server.specs.Growing.{Grows}
use Rattle.xa_server.specs.Fillings.{WasTaken}
use Rattle.xa_server.proofs.Calls.{fill_grows}
use Rattle.xa_desk.specs.declared.domain.Domain.{Domain}
use Rattle.xa_desk.specs.declared.desk.Desk.{Desk}
use Rattle.xa_desk.specs.Desks.{IsDesk, Leads, shown_to}
use Rattle.xa_desk.proofs.Timely.{IsTimely}
use Rattle.xa_desk.specs.Serving.{IsToTell}
use Rattle.xa_desk.proofs.Leading.{grew_none, own_moves, none_leads}

abbrev pub reseated : Desk → Seat Filling → Desk
reseated desk seat = record desk { caller = record desk.caller { seat = seat } }

given_grows : (ticket : Option (Ticket Filling)) (answer : Option Answer) (stamp : Stamp) (v w : View Filling) (became : Given) → GivenTo ticket answer stamp v w became → Grows v w
given_grows None answer stamp v w became is = subst (Grows v) (sym is.1) (record { taken = λ k f here. here; filled = λ k f here. here })
given_grows (Some ticket) answer stamp v w became spent = fill_grows ticket spent.filling v w spent.outcome spent.filled

-- the last event has the last stamp
last_has : (x : Stamped) (rest : List Stamped) → HasStamp (x ∷ rest) (record { 0 = last_stamp x.stamp rest })
last_has x [] = (x, Contains-push [] x, refl)
last_has x (y ∷ rest) = let later = last_has y rest in (later.0, Contains-append_right (x ∷ []) (y ∷ rest) later.0 later.1, later.2)

pub latest_has : (own : List Stamped) → (own ≡ [] → ⊥) → HasStamp own (record { 0 = last_stamp no_stamp own })
latest_has [] some = absurd (some refl)
latest_has (x ∷ rest) some = last_has x rest

pub give_leads : (d : Domain) (desk : Desk) (closing : Closing) (became : Given) (seat : Seat Filling) → IsDesk d desk → IsToTell d desk closing → IsSeatOf d.cells seat
    → GivenAs closing (record { 0 = last_stamp no_stamp desk.caller.work.own }) (known desk.caller.seat) (known seat) became → Leads d desk (reseated desk seat)
give_leads d desk closing became seat is told its given =
    let own : List Stamped = desk.caller.work.own in
    let stamp : Stamp = record { 0 = last_stamp no_stamp own } in
    let grows = given_grows closing.ticket closing.answer stamp (known desk.caller.seat) (known seat) became given in
    none_leads is
    (own_moves is (grew_none desk.caller.work desk.caller.work desk.caller.work.room desk.caller.work.stamp refl (omega arith)) (All-nil (λ (y : Stamped). home_of d.setup d.clients y.event ≡ CallerHome desk.caller.work.id.0)) its grows.taken
    (given_ended own closing stamp (known desk.caller.seat) (known seat) became given told.reached (λ answered. latest_has own (told.noted answered)) told.backed is.filled) (All-nil (λ (y : Stamped). WasTaken (known seat) y.stamp y.event)) is.least (All-nil (IsTimely desk.caller.work.clients desk.caller.work.id.0 (shown_to desk)))) (λ whole on back. is.known_stamp whole back)
