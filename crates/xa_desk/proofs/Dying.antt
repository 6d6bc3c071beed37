-- The end of a life, and of the request that its server has in hand.
use Rattle.std.proofs.Common.{◌≡◌, ◌⊎◌, ℕ, Bool, true, false, [], Result, Ok, Err, Option, None, inl, inr, refl, sym, ◌∙◌, ap, subst}
use Rattle.std.specs.Prelude.{IfOk, IfErr, IfSome, cond}
use Rattle.std.specs.List.{All}
use Rattle.xa_server.specs.xa_types.declared.stamp.Worn.{Worn}
use Rattle.xa_server.specs.xa_types.Setup.{queue_of}
use Rattle.xa_server.specs.xa_events.declared.event.Doing.{Doing}
use Rattle.xa_server.specs.xa_events.declared.event.Doing.TheVariants.{Busy}
use Rattle.xa_server.specs.xa_events.declared.event.Outcome.TheVariants as outcomes
use Rattle.xa_server.specs.xa_events.declared.event.StopCause.{StopCause}
use Rattle.xa_server.specs.xa_events.declared.event.StopCause.TheVariants.{Shutdown}
use Rattle.xa_server.specs.xa_events.Answers.{reply_of}
use Rattle.xa_server.specs.xa_events.Cases.{is_starved}
use Rattle.xa_server.specs.xa_events.Request.Settlement.{EndedBy}
use Rattle.xa_server.specs.xa_events.State.{caller_of}
use Rattle.xa_server.specs.xa_held.Kept.{IsRight}
use Rattle.xa_server.specs.xa_held.Notes.{IsOther}
use Rattle.xa_server.specs.xa_cell.Known.{IsTicketOf}
use Rattle.xa_server.specs.xa_queue.declared.entry.Entry.{Entry}
use Rattle.xa_server.specs.xa_worker.Work.{WorkState}
use Rattle.xa_server.specs.xa_caller.Caller.{CallerState}
use Rattle.xa_server.specs.xa_caller.Drafts.{Cargo}
use Rattle.xa_server.specs.declared.closing.Closing.{Closing}
use Rattle.xa_server.specs.declared.slot.ServerSlot.{ServerSlot}
use Rattle.xa_server.specs.Changes.{Dies, DiesFrom, DiesWorn}
use Rattle.xa_server.specs.Doings.{is_death, outcome_of}
use Rattle.xa_server.specs.Slot.{Stands}
use Rattle.xa_server.proofs.Telling.{death_backed}
use Rattle.xa_desk.specs.declared.domain.Domain.{Domain}
use Rattle.xa_desk.specs.declared.desk.Desk.{Desk}
use Rattle.xa_desk.specs.Desks.{IsDesk, Leads, queue_page}
use Rattle.xa_desk.specs.Serving.{IsServing, IsToTell}
use Rattle.xa_desk.proofs.Leading.{leads_trans}
use Rattle.xa_desk.proofs.Stopping.{stop_leads, same_leads}
use Rattle.xa_desk.proofs.Ending.{IsPlain, reworked, plain_leads, names_its, closes_ticket, not_empty}

-- a death is no shutdown, and ends a request by itself
not_shutdown : (cause : StopCause) → is_death cause ≡ true → cause ≡ Shutdown → ⊥
not_shutdown cause death is = cc (sym (subst (λ c. is_death c ≡ true) is death))

plain_death : (cause : StopCause) → IsPlain (outcome_of cause)
plain_death cause = by (is_starved cause)
  where
    by : (b : Bool) → IsPlain (cond b outcomes.Starved outcomes.Died)
    by true = refl
    by false = refl

-- what a server's worker has goes on with its slot, where no pass changed
pub serving_on : (d : Domain) (queue : ℕ) (desk : Desk) (slot slot' : ServerSlot) (new : CallerState) → IsServing d queue slot desk → Stands slot' new.work → new.phase ≡ desk.caller.phase → slot'.server ≡ slot.server → slot'.gone ≡ slot.gone → IfSome slot'.hand (IsRight d.cells) → IsServing d queue slot' (record desk { caller = new })
serving_on d queue desk slot slot' new serving stands phase server gone hand = record {
  stands = stands;
  idle = phase ∙ serving.idle;
  its = ap (λ s. queue_of d.setup s.0) server ∙ serving.its;
  some = serving.some;
  least = serving.least;
  left = λ left. subst (λ s. All (IsOther s) (queue_page desk queue).own) (sym server) (serving.left (sym gone ∙ left));
  hand = hand;
}

-- nothing is in hand, or what was
pub hand_on : (d : Domain) (hand hand' : Option (Entry Cargo)) → (hand' ≡ None) ⊎ (hand' ≡ hand) → IfSome hand (IsRight d.cells) → IfSome hand' (IsRight d.cells)
hand_on d hand hand' (inl none) right = subst (λ h. IfSome h (IsRight d.cells)) (sym none) tt
hand_on d hand hand' (inr same) right = subst (λ h. IfSome h (IsRight d.cells)) (sym same) right

module _ (d : Domain) (queue : ℕ) (desk : Desk) (slot : ServerSlot) (cause : StopCause) (is : IsDesk d desk) (serving : IsServing d queue slot desk) (death : is_death cause ≡ true) where
  dies_leads : (doing : Doing) (closing : Closing) (slot' : ServerSlot) (new : WorkState) → DiesFrom doing cause closing slot' slot new desk.caller.work → Leads d desk (reworked desk new)
  dies_leads (Busy generation request) closing slot' new dies =
      let made = dies.ends.noted.made in
      let number = serving.stands.tables.worker.number in
      let ended = plain_leads d queue desk slot dies.ended (outcome_of cause) dies.stamp desk.caller.work.room dies.between is serving (plain_death cause) dies.ends in
      let server = ap (λ (s : ServerSlot). s.server) dies.ends.left in
      leads_trans d desk (reworked desk dies.between) (reworked desk new) ended
      (stop_leads d queue (reworked desk dies.between) (record dies.ended { hand = None }) slot' cause dies.stop new ended.desk
      (ap (λ s. caller_of dies.between.clients s.0) server ∙ ap (λ (w : WorkState). caller_of w.clients slot.server.0) made ∙ number ∙ ap (λ (w : WorkState). w.id.0) (sym made))
      (ap (λ s. queue_of d.setup s.0) server ∙ serving.its) (λ shutdown. absurd (not_shutdown cause death shutdown)) dies.stops)
  dies_leads _ closing slot' new dies = stop_leads d queue desk slot slot' cause dies.stop new is serving.stands.tables.worker.number serving.its (λ shutdown. absurd (not_shutdown cause death shutdown)) dies.stops

  pub died_leads : (slot' : ServerSlot) (new : WorkState) (r : Result Closing Worn) → IfOk r (λ closing. Dies cause closing slot' slot new desk.caller.work) → IfErr r (λ worn. DiesWorn cause worn slot' slot new desk.caller.work) → Leads d desk (reworked desk new)
  died_leads slot' new (Ok closing) dies worn = dies_leads slot.doing closing slot' new dies
  died_leads slot' new (Err end) dies (at, inl same) = subst (λ (w : WorkState). Leads d desk (reworked desk w)) (sym same.1) (same_leads d desk is)
  died_leads slot' new (Err end) dies (at, inr ended) = plain_leads d queue desk slot slot' (outcome_of cause) ended.0 desk.caller.work.room new is serving (plain_death cause) ended.1

  dies_told : (doing : Doing) (closing : Closing) (slot' : ServerSlot) (new : WorkState) → DiesFrom doing cause closing slot' slot new desk.caller.work → IfSome closing.ticket (IsTicketOf d.cells) × (new.own ≡ [] → ⊥)
  dies_told (Busy generation request) closing slot' new dies =
      (closes_ticket d (reply_of (EndedBy (outcome_of cause))) dies.stamp slot.hand closing dies.closes serving.hand, not_empty dies.between.own _ new.own (ap (λ (w : WorkState). w.own) dies.stops.noted.made))
  dies_told _ closing slot' new dies = (subst (λ t. IfSome t (IsTicketOf d.cells)) (sym dies.nobody) tt, not_empty desk.caller.work.own _ new.own (ap (λ (w : WorkState). w.own) dies.stops.noted.made))

  pub died_told : (slot' : ServerSlot) (new : WorkState) (r : Result Closing Worn) → IfOk r (λ closing. Dies cause closing slot' slot new desk.caller.work) → IfOk r (IsToTell d (reworked desk new))
  died_told slot' new (Ok closing) dies =
      let backed = death_backed cause closing slot' slot new desk.caller.work dies (names_its d slot.hand serving.hand) in
      let told = dies_told slot.doing closing slot' new dies in
      record { backed = backed.0; ticket = told.0; reached = backed.1; noted = λ answered. told.1 }
  died_told slot' new (Err worn) dies = tt

  dies_serving : (doing : Doing) (closing : Closing) (slot' : ServerSlot) (new : WorkState) → DiesFrom doing cause closing slot' slot new desk.caller.work → (slot'.server ≡ slot.server) × (slot'.gone ≡ slot.gone) × ((slot'.hand ≡ None) ⊎ (slot'.hand ≡ slot.hand))
  dies_serving (Busy generation request) closing slot' new dies = (
    ap (λ (s : ServerSlot). s.server) dies.stops.left ∙ ap (λ (s : ServerSlot). s.server) dies.ends.left,
    ap (λ (s : ServerSlot). s.gone) dies.stops.left ∙ ap (λ (s : ServerSlot). s.gone) dies.ends.left,
    inl (ap (λ (s : ServerSlot). s.hand) dies.stops.left),
  )
  dies_serving _ closing slot' new dies = (ap (λ (s : ServerSlot). s.server) dies.stops.left, ap (λ (s : ServerSlot). s.gone) dies.stops.left, inr (ap (λ (s : ServerSlot). s.hand) dies.stops.left))

  on : (slot' : ServerSlot) (new : WorkState) → Stands slot' new → slot'.server ≡ slot.server → slot'.gone ≡ slot.gone → (slot'.hand ≡ None) ⊎ (slot'.hand ≡ slot.hand) → IsServing d queue slot' (reworked desk new)
  on slot' new stands server gone hand = serving_on d queue desk slot slot' (record desk.caller { work = new }) serving stands refl server gone (hand_on d slot.hand slot'.hand hand serving.hand)

  pub died_serving : (slot' : ServerSlot) (new : WorkState) (r : Result Closing Worn) → Stands slot' new → IfOk r (λ closing. Dies cause closing slot' slot new desk.caller.work) → IfErr r (λ worn. DiesWorn cause worn slot' slot new desk.caller.work) → IsServing d queue slot' (reworked desk new)
  died_serving slot' new (Ok closing) stands dies worn = let is' = dies_serving slot.doing closing slot' new dies in on slot' new stands is'.0 is'.1 is'.2
  died_serving slot' new (Err end) stands dies (at, inl same) = on slot' new stands (ap (λ (s : ServerSlot). s.server) same.0) (ap (λ (s : ServerSlot). s.gone) same.0) (inr (ap (λ (s : ServerSlot). s.hand) same.0))
  died_serving slot' new (Err end) stands dies (at, inr ended) = on slot' new stands (ap (λ (s : ServerSlot). s.server) ended.1.left) (ap (λ (s : ServerSlot). s.gone) ended.1.left) (inr (ap (λ (s : ServerSlot). s.hand) ended.1.left))
