-- The end of a request that a server has in hand, and what its caller is told.
use Rattle.std.proofs.Common.{◌-◌, ◌≡◌, ◌≤◌, ℕ, ℤ, max, Bool, true, false, List, [], ◌∷◌, ◌++◌, Result, Ok, Err, Option, Some, None, if◌then◌else◌, refl, sym, ◌∙◌, ap, subst, arith}
use Rattle.std.specs.Prelude.{IfOk, IfErr, IfSome}
use Rattle.xa_server.specs.xa_types.declared.call.Rval.{Rval}
use Rattle.xa_server.specs.xa_types.declared.call.Rval.TheVariants.{Success, Fail, Exit}
use Rattle.xa_server.specs.xa_types.declared.data.Data.{Data}
use Rattle.xa_server.specs.xa_types.declared.reply.Answer.{Answer}
use Rattle.xa_server.specs.xa_types.declared.stamp.Stamp.{Stamp}
use Rattle.xa_server.specs.xa_events.declared.event.Event.TheVariants.{End}
use Rattle.xa_server.specs.xa_events.declared.event.Outcome.{Outcome}
use Rattle.xa_server.specs.xa_events.declared.event.Outcome.TheVariants.{BadReturn}
use Rattle.xa_server.specs.xa_events.Answers.{reply_of}
use Rattle.xa_server.specs.xa_events.Board.{published}
use Rattle.xa_server.specs.xa_events.Caller.{version_of}
use Rattle.xa_server.specs.xa_events.Conversation.{connections}
use Rattle.xa_server.specs.xa_events.Finishing.{returned, return_by}
use Rattle.xa_server.specs.xa_events.Homes.Home.{CallerHome}
use Rattle.xa_server.specs.xa_events.Request.Settlement.{EndedBy}
use Rattle.xa_server.specs.xa_events.State.{caller_of}
use Rattle.xa_server.specs.xa_stamp.declared.home.Stamped.{Stamped}
use Rattle.xa_server.specs.xa_queue.declared.entry.Entry.{Entry}
use Rattle.xa_server.specs.xa_cell.declared.view.Opening.{Opening}
use Rattle.xa_server.specs.xa_cell.Known.{IsTicketOf, IsSeatOf, known}
use Rattle.xa_server.specs.xa_worker.Seen.{past_in}
use Rattle.xa_server.specs.xa_held.Joins.{changes_at}
use Rattle.xa_server.specs.xa_held.Kept.{IsRight}
use Rattle.xa_server.specs.xa_worker.declared.work.Halt.{Halt}
use Rattle.xa_server.specs.xa_worker.declared.work.Halt.TheVariants.{NoMemory, Worn}
use Rattle.xa_server.specs.xa_worker.Work.{WorkState, theirs}
use Rattle.xa_server.specs.xa_caller.Caller.{CallerState}
use Rattle.xa_server.specs.xa_caller.Drafts.{Cargo}
use Rattle.xa_server.specs.xa_caller.Serving.{raised}
use Rattle.xa_server.specs.declared.closing.Closing.{Closing}
use Rattle.xa_server.specs.declared.slot.ServerSlot.{ServerSlot}
use Rattle.xa_server.specs.Changes.{Ends, Closes, Finishes}
use Rattle.xa_server.specs.Doings.{life_in}
use Rattle.xa_server.specs.Noting.{HaltsWith, with_room}
use Rattle.xa_server.specs.Told.{NamesIts}
use Rattle.xa_server.proofs.Telling.{finish_backed}
use Rattle.xa_desk.specs.declared.domain.Domain.{Domain}
use Rattle.xa_desk.specs.declared.desk.Desk.{Desk}
use Rattle.xa_desk.specs.Desks.{IsDesk, Leads, board_page}
use Rattle.xa_desk.specs.Found.{SawOnBoard}
use Rattle.xa_desk.specs.Serving.{IsServing, IsToTell}
use Rattle.xa_desk.proofs.Leading.{grew_one, grew_none, next_leads, calm_leads}
use Rattle.xa_desk.proofs.Seating.{TakesOn, takes_same}
use Rattle.xa_desk.proofs.Stopping.{same_leads}

abbrev pub reworked : Desk → WorkState → Desk
reworked desk w = record desk { caller = record desk.caller { work = w } }

-- ---- the request in hand, by what is known of its entry

pub same_opening : (o p : Opening) → o ∷ [] ≡ p ∷ [] → o ≡ p
same_opening o p same = cc same

pub names_its : (d : Domain) (hand : Option (Entry Cargo)) → IfSome hand (IsRight d.cells) → NamesIts hand
names_its d None is = tt
names_its d (Some entry) is = λ o named_so. ap (λ (p : Opening). p.request) (same_opening o is.opening (sym named_so ∙ is.names)) ∙ is.request

its_ticket : (d : Domain) (hand : Option (Entry Cargo)) (entry : Entry Cargo) → hand ≡ Some entry → IfSome hand (IsRight d.cells) → IsTicketOf d.cells entry.cargo.ticket
its_ticket d hand entry is right = (subst (λ h. IfSome h (IsRight d.cells)) is right).table

pub closes_ticket : (d : Domain) (answer : Answer) (stamp : Stamp) (hand : Option (Entry Cargo)) (closing : Closing) → Closes answer stamp hand closing → IfSome hand (IsRight d.cells) → IfSome closing.ticket (IsTicketOf d.cells)
closes_ticket d answer stamp hand closing closes right = subst (λ (c : Closing). IfSome c.ticket (IsTicketOf d.cells)) (sym closes.is) (its_ticket d hand closes.entry closes.in_hand right)

-- a list with one more at its end isn't empty
pub not_empty : (own : List Stamped) (x : Stamped) (new : List Stamped) → new ≡ own ++ x ∷ [] → new ≡ [] → ⊥
not_empty [] x new is none = cc (is, none)
not_empty (y ∷ own) x new is none = cc (is, none)

-- ---- an End

-- the version of the board that it names, if it names one, was seen
abbrev pub WasSeen : Domain → Desk → Outcome → Type 0
WasSeen d desk outcome = (version : ℕ) → version_of outcome ≡ Some version → (version ≤ published (past_in (changes_at (board_page desk).seen))) × SawOnBoard d desk (λ past. version ≤ published past)

raised_low : (named : Option ℕ) (least seen : ℕ) → least ≤ seen → ((version : ℕ) → named ≡ Some version → version ≤ seen) → raised named least ≤ seen
raised_low None least seen low is = low
raised_low (Some version) least seen low is = let here = is version refl in omega (arith, low, here)

pub end_leads : (d : Domain) (queue : ℕ) (desk : Desk) (slot slot' : ServerSlot) (outcome : Outcome) (stamp : Stamp) (room : ℕ) (new : CallerState) → IsDesk d desk → IsServing d queue slot desk → WasSeen d desk outcome
    → Ends outcome stamp slot' slot new.work (record desk.caller.work { room = room }) → new ≡ record desk.caller { work = new.work; least = raised (version_of outcome) desk.caller.least } → Leads d desk (record desk { caller = new })
end_leads d queue desk slot slot' outcome stamp room new is serving seen ends rest =
    let x : Stamped = record { stamp = stamp; event = End (record { request = ends.entry.request; server = slot.server; generation = life_in slot.doing; outcome = outcome }) } in
    let version : ℕ = published (past_in (changes_at (board_page desk).seen)) in
    let number = serving.stands.tables.worker.number in
    let next = ends.noted.next in
    let made = ends.noted.made in
    next_leads d desk new x (grew_one desk.caller.work new.work (room - 1) x made (omega (arith, next)) tt) (ap (λ (w : WorkState). w.stamp) made) (ap CallerHome (ap (λ n. caller_of n slot.server.0) (sym is.clients) ∙ number))
    (subst (λ (c : CallerState). IsSeatOf d.cells c.seat) (sym rest) is.seat) (subst (λ (c : CallerState). TakesOn (known desk.caller.seat) (known c.seat)) (sym rest) (takes_same (known desk.caller.seat))) tt
    (subst (λ (c : CallerState). c.least ≤ version) (sym rest) (raised_low (version_of outcome) desk.caller.least version is.least (λ v some. (seen v some).0))) tt is next
    (λ whole on. record { saw = λ v some. (seen v some).1 whole on stamp (omega (arith, next)); told = tt; clears = tt })

-- it names none
abbrev pub IsPlain : Outcome → Type 0
IsPlain outcome = version_of outcome ≡ None

pub plain_leads : (d : Domain) (queue : ℕ) (desk : Desk) (slot slot' : ServerSlot) (outcome : Outcome) (stamp : Stamp) (room : ℕ) (new : WorkState) → IsDesk d desk → IsServing d queue slot desk → IsPlain outcome
    → Ends outcome stamp slot' slot new (record desk.caller.work { room = room }) → Leads d desk (reworked desk new)
plain_leads d queue desk slot slot' outcome stamp room new is serving plain ends =
    end_leads d queue desk slot slot' outcome stamp room (record desk.caller { work = new }) is serving (λ version some. absurd (cc (plain, some))) ends (ap (λ (named : Option ℕ). record desk.caller { work = new; least = raised named desk.caller.least }) (sym plain))

plain_return : (value : Rval) (code : ℤ) (payload : Data) (sound : Bool) → IsPlain (if sound then returned value code payload else BadReturn)
plain_return value code payload false = refl
plain_return Success code payload true = refl
plain_return Fail code payload true = refl
plain_return Exit code payload true = refl

-- and what its caller is told
pub ended_told : (d : Domain) (desk : Desk) (slot slot' : ServerSlot) (outcome : Outcome) (closing : Closing) (new : CallerState) → IfSome slot.hand (IsRight d.cells) → Finishes outcome closing slot' slot new.work desk.caller.work → IsToTell d (record desk { caller = new }) closing
ended_told d desk slot slot' outcome closing new right f =
    let backed = finish_backed outcome closing slot' slot new.work desk.caller.work f (names_its d slot.hand right) in
    record {
      backed = backed.0;
      ticket = closes_ticket d (reply_of (EndedBy outcome)) f.stamp slot.hand closing f.closes right;
      reached = backed.1;
      noted = λ answered. not_empty desk.caller.work.own _ new.work.own (ap (λ (w : WorkState). w.own) f.ends.noted.made);
    }

-- ---- a return

pub halted_leads : (d : Domain) (desk : Desk) (n : ℕ) (new : WorkState) (halt : Halt) → IsDesk d desk → HaltsWith n new desk.caller.work halt → Leads d desk (reworked desk new)
halted_leads d desk n new NoMemory is same = subst (λ (w : WorkState). Leads d desk (reworked desk w)) (sym same) (same_leads d desk is)
halted_leads d desk n new (Worn last) is worn =
    subst (λ (w : WorkState). Leads d desk (reworked desk w)) (sym worn.0)
    (calm_leads d desk (record desk.caller { work = with_room n desk.caller.work }) (record { grew = grew_none desk.caller.work (with_room n desk.caller.work) (max desk.caller.work.room n) desk.caller.work.stamp refl (omega arith); seat = is.seat; takes = takes_same (known desk.caller.seat); least = refl }) is refl)

module _ (d : Domain) (queue : ℕ) (desk : Desk) (slot slot' : ServerSlot) (value : Rval) (code : ℤ) (payload : Data) (new : WorkState) (is : IsDesk d desk) (serving : IsServing d queue slot desk) where
  abbrev outcome : Outcome
  outcome = return_by desk.caller.work.setup (connections desk.caller.work.id.0 (theirs desk.caller.work)) value code payload

  pub finish_leads : (r : Result Closing Halt) → IfOk r (λ closing. Finishes outcome closing slot' slot new desk.caller.work) → IfErr r (HaltsWith 3 new desk.caller.work) → Leads d desk (reworked desk new)
  finish_leads (Ok closing) f halted = plain_leads d queue desk slot f.ended outcome f.stamp (max desk.caller.work.room 3) new is serving (plain_return value code payload _) f.ends
  finish_leads (Err halt) f halted = halted_leads d desk 3 new halt is halted

  pub finish_told : (r : Result Closing Halt) → IfOk r (λ closing. Finishes outcome closing slot' slot new desk.caller.work) → IfOk r (IsToTell d (reworked desk new))
  finish_told (Ok closing) f = ended_told d desk slot slot' outcome closing (record desk.caller { work = new }) serving.hand f
  finish_told (Err halt) f = tt
