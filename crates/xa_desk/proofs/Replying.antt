-- What a look at the answer of a request leaves.
use Rattle.std.proofs.Common.{◌≡◌, ◌≤◌, ◌<◌, ◌+◌, ◌==◌, ℕ, Bool, true, if◌then◌else◌, max, List, Option, Some, None, inl, inr, refl, sym, ◌∙◌, ap, subst, arith, ◌-◌, ◌∷◌, []}
use Rattle.std.specs.Prelude.{nat_lt, IfSome, IsSomeAnd}
use Rattle.std.specs.List.{Contains, find}
use Rattle.std.proofs.lemmas.Bool.{and_parts, ltb-true, cases_Bool}
use Rattle.std.proofs.lemmas.List.Elements.{All-contains, Contains-push}
use Rattle.xa_server.specs.xa_types.declared.call.Ask.{Ask}
use Rattle.xa_server.specs.xa_types.declared.call.Op.{Op}
use Rattle.xa_server.specs.xa_types.declared.call.Op.TheVariants.{Call}
use Rattle.xa_server.specs.xa_types.declared.data.Kind.{Kind}
use Rattle.xa_server.specs.xa_types.declared.ids.RequestId.{RequestId}
use Rattle.xa_server.specs.xa_types.declared.reply.Answer.{Answer as Reply}
use Rattle.xa_server.specs.xa_types.declared.stamp.Stamp.{Stamp}
use Rattle.xa_server.specs.xa_events.declared.event.Event.{Event}
use Rattle.xa_server.specs.xa_events.declared.event.Event.TheVariants.{Answer}
use Rattle.xa_server.specs.xa_events.Caller.{op_of, call_in, is_call_of, is_numbered_by, number_in, newest_call, last_op, accepted_in, just_accepted}
use Rattle.xa_server.specs.xa_events.Answers.{reply_of, answer_to, IsAnswerTo}
use Rattle.xa_server.specs.xa_events.Homes.{Home}
use Rattle.xa_server.specs.xa_events.Request.{Settlement, settlement_in}
use Rattle.xa_server.specs.xa_stamp.declared.home.Stamped.{Stamped}
use Rattle.xa_server.specs.xa_worker.Seen.{SawEntry}
use Rattle.xa_server.specs.xa_cell.declared.view.Fill.{Fill}
use Rattle.xa_server.specs.xa_cell.declared.view.View.{View}
use Rattle.xa_server.specs.xa_cell.Calls.{TookAs}
use Rattle.xa_server.specs.xa_cell.Changes.{looked}
use Rattle.xa_server.specs.xa_cell.Growing.{Keeps, TakesMore}
use Rattle.xa_server.specs.xa_cell.Known.{known, IsSeatOf}
use Rattle.xa_server.specs.xa_cell.Views.{at, fill}
use Rattle.xa_server.proofs.xa_cell.Growing.{looked_keeps, more_behind}
use Rattle.xa_server.specs.xa_worker.Work.{seeing, WorkState}
use Rattle.xa_server.specs.xa_caller.declared.cargo.Filling.{Filling}
use Rattle.xa_server.specs.xa_caller.declared.outcomes.Step.{Step}
use Rattle.xa_server.specs.xa_caller.declared.outcomes.Step.TheVariants as steps
use Rattle.xa_server.specs.xa_caller.Caller.{CallerState}
use Rattle.xa_server.specs.xa_caller.Changes.{Answers, StepsAs}
use Rattle.xa_server.specs.xa_caller.declared.phase.Open.{Open}
use Rattle.xa_server.specs.xa_caller.declared.phase.Phase.{Phase}
use Rattle.xa_server.specs.xa_caller.declared.phase.Phase.TheVariants.{Sent}
use Rattle.xa_server.specs.xa_caller.Phases.{just_in, JustIs}
use Rattle.xa_server.specs.Fillings.{WasTaken, EndsAt, HasEnd}
use Rattle.xa_server.proofs.Calls.{asked_looked, took_is_more}
use Rattle.xa_server.proofs.Growth.{only_at, takes_grows}
use Rattle.xa_server.proofs.Joining.{shown}
use Rattle.xa_desk.specs.declared.domain.Domain.{Domain}
use Rattle.xa_desk.specs.declared.desk.Desk.{Desk}
use Rattle.xa_desk.specs.Whole.{Whole, entries_of, IsKnown}
use Rattle.xa_desk.specs.Desks.{GoesOn, IsDesk, Leads, FitsCalls}
use Rattle.xa_desk.specs.Steps.{FitsOp}
use Rattle.xa_server.proofs.xa_caller.Reading.{is_numbered}
use Rattle.xa_desk.proofs.Fitting.{its_events, IsRead, no_more_fits, one_more_fits}
use Rattle.xa_desk.proofs.Leading.{grew_one, grew_none, Grew, own_leads, quiet_leads}
use Rattle.xa_desk.proofs.Seating.{TakesOn, keeps_on}
use Rattle.xa_desk.proofs.Visiting.{larger_known}

pub takes_on : (k : ℕ) (a : Filling) (v w : View Filling) → TakesMore k a v w → TakesOn v w
takes_on k a v w more = record { taken = (takes_grows k a v w more).taken; filled = only_at (λ j. (at j w).filled ≡ (at j v).filled) k more.filled (λ j apart. (more.others j apart).filled) }

-- the reply tells what befell the request, by the caller's own kind
told_by : (expect : Option Kind) (answer reply : Reply) (how : Option Settlement) → answer ≡ answer_to expect reply → IsSomeAnd how (λ settlement. reply ≡ reply_of settlement) → IsSomeAnd how (λ settlement. answer ≡ answer_to expect (reply_of settlement))
told_by expect answer reply None is tells = tells
told_by expect answer reply (Some settlement) is tells = is ∙ ap (answer_to expect) tells

-- the call behind which an answer is still to come has a number
numbered_above : (caller : ℕ) (call : Option (ℕ × ℕ)) → is_numbered_by caller call ≡ true → 0 < number_in call
numbered_above caller None is = absurd (cc is)
numbered_above caller (Some (by, op)) is = ltb-true 0 op (and_parts (by == caller) (nat_lt 0 op) is).1

some_op : (caller : ℕ) (past : List Event) (request : RequestId) → just_accepted caller past ≡ Some request → 0 < last_op caller past
unfolding newest_call
some_op caller [] request is = absurd (cc is)
some_op caller (e ∷ past) request is = elim (cases_Bool (is_call_of caller e)) [
  | inl its ↦ subst (λ (n : Option Event). 0 < op_of n) (sym (ap (λ (b : Bool). if b then Some e else find (is_call_of caller) past) its)) (numbered_above caller (call_in e) its)
  | inr other ↦
      let rest = ap (λ (b : Bool). if b then Some e else find (is_call_of caller) past) other in
      subst (λ (n : Option Event). 0 < op_of n) (sym rest) (some_op caller past request (sym (ap accepted_in rest) ∙ is))
]

module _ (d : Domain) (desk : Desk) (new : CallerState) (is : IsDesk d desk) (its : IsSeatOf d.cells new.seat) where
  abbrev Next : Desk
  Next = record desk { caller = new }

  -- an answer was taken from the cell
  module _ (cell : ℕ) (filling : Filling) (more : TakesMore cell filling (known desk.caller.seat) (known new.seat)) where
    pub takes : TakesOn (known desk.caller.seat) (known new.seat)
    takes = takes_on cell filling (known desk.caller.seat) (known new.seat) more

    -- its request had ended by then
    ended : (reply : Reply) → filling.answer ≡ Some reply → (whole : Whole) → GoesOn d whole Next → EndsAt (entries_of whole) more.opening.request filling.stamp reply
    ended reply says whole on =
        subst (λ (o : Option Reply). IfSome o (EndsAt (entries_of whole) more.opening.request filling.stamp)) says
        (All-contains (HasEnd (entries_of whole)) (at cell (known new.seat)).taken (fill more.opening filling) (on.ended cell)
        (subst (λ (l : List (Fill Filling)). Contains l (fill more.opening filling)) (sym {A = List (Fill Filling)} more.taken) (Contains-push (at cell (known desk.caller.seat)).taken (fill more.opening filling))))

    pub stamp_known : (reply : Reply) → filling.answer ≡ Some reply → (whole : Whole) → GoesOn d whole Next → IsKnown whole filling.stamp
    stamp_known reply says whole on = let end = ended reply says whole on in inr (inl (end.where_, end.has))

  -- and told, by the call with that number
  module _ (op : ℕ) (expect : Option Kind) (stamp : Stamp) (sent : Open) (filling : Filling) (reply : Reply) (asked : (at sent.place.cell (known desk.caller.seat)).asked ≡ sent.request ∷ []) (says : filling.answer ≡ Some reply)
      (more : TakesMore sent.place.cell filling (known desk.caller.seat) (known new.seat)) (next : stamp.0 ≡ max desk.caller.work.stamp.0 filling.stamp.0 + 1) (now : new.work.stamp ≡ stamp) (least : new.least ≡ desk.caller.least) where
    abbrev One : Stamped
    One = record { stamp = stamp; event = Answer (record { by = desk.caller.work.id; op = op; request = sent.request; answer = answer_to expect reply }) }

    told_so : (P : Event → Type 0) → ((end : Stamped) → IsSomeAnd (settlement_in sent.request end.event) (λ settlement. reply ≡ reply_of settlement) → P end.event) → (whole : Whole) → GoesOn d whole Next → (home : Home) × SawEntry (entries_of whole home) stamp P
    told_so P holds whole on =
        let same : more.opening.request ≡ sent.request = cc (sym more.asked ∙ asked) in
        let end = ended sent.place.cell filling more reply says whole on in
        let by = end.settles.by in
        (end.home, record { entry = end.entry; stands = end.stands; before = omega (arith, by, next); shows = holds end.entry (subst (λ (r : RequestId). IsSomeAnd (settlement_in r end.entry.event) (λ settlement. reply ≡ reply_of settlement)) same end.settles.tells) })

    was_taken : WasTaken (known new.seat) stamp One.event
    was_taken =
        let cell = sent.place.cell in
        let here : Fill Filling = fill more.opening filling in
        record {
          cell = cell;
          fill = here;
          expect = expect;
          taken = subst (λ (l : List (Fill Filling)). Contains l here) (sym {A = List (Fill Filling)} more.taken) (Contains-push (at cell (known desk.caller.seat)).taken here);
          request = cc (sym more.asked ∙ asked);
          reply = reply;
          says = says;
          before = omega (arith, next);
          told = refl;
        }

    module _ (grew : Grew desk.caller.work new.work (One ∷ [])) where
      pub told_leads : Leads d desk Next
      told_leads =
          let booted = is.booted in
          let low = is.least in
          own_leads d desk new One grew now refl its (takes sent.place.cell filling more) was_taken (omega (arith, low, least)) tt is (λ whole on back.
          record {
            grounds = record {
              saw = tt;
              told = told_so (λ e. IsSomeAnd (settlement_in sent.request e) (IsAnswerTo (answer_to expect reply))) (λ end tells. shown (settlement_in sent.request end.event) (answer_to expect reply) expect reply refl tells) whole on;
              clears = tt;
            };
            behind = omega (arith, next, booted);
            met = λ board. absurd (cc board);
            before = record { 0 = max desk.caller.work.stamp.0 filling.stamp.0 };
            next = next;
            known_before = larger_known whole desk.caller.work.stamp filling.stamp (is.known_stamp whole back) (stamp_known sent.place.cell filling more reply says whole on);
          })

      -- it tells what befell the request, by the kind that the call expects
      pub told_of : (its_expect : Option Kind) → expect ≡ its_expect → (whole : Whole) → GoesOn d whole Next → (home : Home) × SawEntry (entries_of whole home) stamp (λ e. IsSomeAnd (settlement_in sent.request e) (λ settlement. answer_to expect reply ≡ answer_to its_expect (reply_of settlement)))
      told_of its_expect same whole on =
          told_so (λ e. IsSomeAnd (settlement_in sent.request e) (λ settlement. answer_to expect reply ≡ answer_to its_expect (reply_of settlement)))
          (λ end tells. told_by its_expect (answer_to expect reply) reply (settlement_in sent.request end.event) (ap (λ e. answer_to e reply) same) tells) whole on

  -- or nothing was noted
  pub silent_leads : (seen : Stamp) (room : ℕ) → new.work ≡ record desk.caller.work { stamp = seen; room = room } → new.least ≡ desk.caller.least → TakesOn (known desk.caller.seat) (known new.seat) → desk.caller.work.stamp.0 ≤ seen.0
      → ((whole : Whole) → GoesOn d whole Next → GoesOn d whole desk → IsKnown whole seen) → Leads d desk Next
  silent_leads seen room work least takes later is_known =
      quiet_leads d desk new (record { grew = grew_none desk.caller.work new.work room seen work later; seat = its; takes = takes; least = least }) is (λ whole on back. subst (IsKnown whole) (sym (ap (λ (w : WorkState). w.stamp) work)) (is_known whole on back))

  pub silent_fits : (seen : Stamp) (room : ℕ) → Leads d desk Next → new.work ≡ record desk.caller.work { stamp = seen; room = room } → desk.caller.work.stamp.0 ≤ seen.0 → (just_in new.phase ≡ None → just_in desk.caller.phase ≡ None) → (ops : List Op) → FitsCalls d ops desk → FitsCalls d ops Next
  silent_fits seen room leads work later still = no_more_fits d desk Next leads (grew_none desk.caller.work new.work room seen work later) still

-- ---- the answer of a tpcall

module _ (d : Domain) (desk : Desk) (new : CallerState) (is : IsDesk d desk) (its : IsSeatOf d.cells new.seat) (reads : IsRead d desk) where
  abbrev After : Desk
  After = record desk { caller = new }

  abbrev Goes : Option Kind → Type 0
  Goes expect = Leads d desk After × ((ask : Ask) → expect ≡ ask.expect → FitsOp d desk.caller.op (Call ask) desk After)

  -- its call has a number
  above : (sent : Open) → desk.caller.phase ≡ Sent sent → 0 < desk.caller.op
  above sent was =
      let some = some_op desk.caller.work.id.0 (its_events d desk) sent.request (subst (λ (p : Phase). JustIs desk.caller.out p (just_accepted desk.caller.work.id.0 (its_events d desk))) was reads.just) in
      let called = reads.called in
      omega (arith, some, called)

  answered : (expect : Option Kind) (stamp : Stamp) → Answers expect stamp new desk.caller → Goes expect
  answered expect stamp answers =
      let v : View Filling = known desk.caller.seat in
      let cell = answers.sent.place.cell in
      let more : TakesMore cell answers.filling v (known new.seat) = more_behind cell answers.filling v (looked cell 0 v) (known new.seat) (asked_looked cell 0 v) (looked_keeps cell 0 v) (took_is_more cell answers.filling (looked cell 0 v) (known new.seat) answers.took) in
      let made = answers.noted.made in
      let next = answers.noted.next in
      let x : Stamped = record { stamp = stamp; event = Answer (record { by = desk.caller.work.id; op = desk.caller.op; request = answers.sent.request; answer = answer_to expect answers.reply }) } in
      let now = ap (λ (c : CallerState). c.work.stamp) made in
      let least = ap (λ (c : CallerState). c.least) made in
      let grew : Grew desk.caller.work new.work (x ∷ []) = grew_one desk.caller.work new.work (desk.caller.work.room - 1) x (ap (λ (c : CallerState). c.work) made) (omega (arith, next)) tt in
      let leads = told_leads d desk new is its desk.caller.op expect stamp answers.sent answers.filling answers.reply answers.asked answers.says more next now least grew in (
        leads,
        λ ask same. one_more_fits d desk After x leads grew desk.caller.op (Call ask) refl (is_numbered desk.caller.work.id.0 desk.caller.work.id.0 desk.caller.op refl (above answers.sent answers.was))
            (λ ops fits turn. let called = reads.called in absurd (omega (arith, turn, called))) (λ over ops numbers. refl) (λ whole on.
            let told = told_of d desk new is its desk.caller.op expect stamp answers.sent answers.filling answers.reply answers.asked answers.says more next now least grew ask.expect same whole on in
            record { same = sym reads.called; request = subst (λ (p : Phase). JustIs desk.caller.out p (just_accepted desk.caller.work.id.0 (its_events d desk))) answers.was reads.just; home = told.0; told = told.1 }),
      )

  silent : (expect : Option Kind) (seen : Stamp) (room : ℕ) → new.work ≡ record desk.caller.work { stamp = seen; room = room } → new.least ≡ desk.caller.least → TakesOn (known desk.caller.seat) (known new.seat) → desk.caller.work.stamp.0 ≤ seen.0
      → (just_in new.phase ≡ None → just_in desk.caller.phase ≡ None) → ((whole : Whole) → GoesOn d whole After → GoesOn d whole desk → IsKnown whole seen) → Goes expect
  silent expect seen room work least takes later still is_known =
      let leads = silent_leads d desk new is its seen room work least takes later is_known in
      (leads, λ ask same ops numbers. silent_fits d desk new is its seen room leads work later still ops)

  -- the answer was taken, and lost
  lost : (sent : Open) (filling : Filling) → TookAs sent.place.cell filling (looked sent.place.cell 0 (known desk.caller.seat)) (known new.seat) → TakesMore sent.place.cell filling (known desk.caller.seat) (known new.seat)
  lost sent filling took =
      let v : View Filling = known desk.caller.seat in
      let cell = sent.place.cell in
      more_behind cell filling v (looked cell 0 v) (known new.seat) (asked_looked cell 0 v) (looked_keeps cell 0 v) (took_is_more cell filling (looked cell 0 v) (known new.seat) took)

  pub step_goes : (expect : Option Kind) (step : Step) → StepsAs expect step new desk.caller → Goes expect
  step_goes expect (steps.Told stamp) answers = answered expect stamp answers
  step_goes expect steps.Wait waits =
      let made = waits.3 in
      let kept = keeps_on (known desk.caller.seat) (known new.seat) (subst (Keeps (known desk.caller.seat)) (sym waits.2) (looked_keeps waits.0.place.cell 1 (known desk.caller.seat))) in
      silent expect desk.caller.work.stamp desk.caller.work.room (ap (λ (c : CallerState). c.work) made) (ap (λ (c : CallerState). c.least) made) kept (omega arith) (λ none. sym (ap (λ (c : CallerState). just_in c.phase) made) ∙ none) (λ whole on back. is.known_stamp whole back)
  step_goes expect (steps.Halt halt) loses =
      let made = loses.made in
      let stamp = loses.filling.stamp in
      let cell = loses.sent.place.cell in
      let more = lost loses.sent loses.filling loses.took in
      silent expect (seeing stamp desk.caller.work).stamp desk.caller.work.room (ap (λ (c : CallerState). c.work) made) (ap (λ (c : CallerState). c.least) made) (takes d desk new is its cell loses.filling more) (omega arith) (λ none. absurd (cc (sym (ap (λ (c : CallerState). just_in c.phase) made) ∙ none)))
      (λ whole on back. larger_known whole desk.caller.work.stamp stamp (is.known_stamp whole back) (stamp_known d desk new is its cell loses.filling more loses.reply loses.says whole on))
  step_goes expect steps.Halted abandons =
      let made = abandons.made in
      silent expect desk.caller.work.stamp desk.caller.work.room (ap (λ (c : CallerState). c.work) made) (ap (λ (c : CallerState). c.least) made) (takes d desk new is its abandons.sent.place.cell abandons.filling (lost abandons.sent abandons.filling abandons.took)) (omega arith)
      (λ none. absurd (cc (sym (ap (λ (c : CallerState). just_in c.phase) made) ∙ none))) (λ whole on back. is.known_stamp whole back)
