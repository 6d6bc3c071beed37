-- What the looks for answers of requests that are out leave, and the end of a descriptor.
use Rattle.std.proofs.Common.{◌≡◌, ◌≤◌, ◌<◌, ◌+◌, ◌-◌, ℕ, zero, suc, Bool, true, false, List, [], ◌∷◌, map, Option, None, Result, Ok, Err, inl, inr, refl, sym, ◌∙◌, ap, subst, arith}
use Rattle.std.specs.Prelude.{slice_set}
use Rattle.xa_server.specs.xa_types.declared.call.CallFlags.{CallFlags}
use Rattle.xa_server.specs.xa_types.declared.call.Op.{Op}
use Rattle.xa_server.specs.xa_types.declared.call.Op.TheVariants.{Get, GetAny, Cancel as CancelOp}
use Rattle.xa_server.specs.xa_types.declared.data.Kind.{Kind}
use Rattle.xa_server.specs.xa_types.declared.fault.Fault.TheVariants.{BadDesc}
use Rattle.xa_server.specs.xa_types.declared.ids.RequestId.{RequestId}
use Rattle.xa_server.specs.xa_types.declared.stamp.Stamp.{Stamp}
use Rattle.xa_server.specs.xa_events.declared.event.Event.{Event}
use Rattle.xa_server.specs.xa_events.declared.event.Event.TheVariants.{Answer, Cancel, NotYet}
use Rattle.xa_server.specs.xa_events.declared.event.Evidence.TheVariants.{Descriptor}
use Rattle.xa_server.specs.xa_events.declared.event.Replied.{Replied}
use Rattle.xa_server.specs.xa_events.Answers.{answer_to}
use Rattle.xa_server.specs.xa_events.Board.{published}
use Rattle.xa_server.specs.xa_events.Caller.{open_descriptors}
use Rattle.xa_server.specs.xa_events.Cases.{is_numbered as is_among}
use Rattle.xa_server.specs.xa_stamp.declared.home.Stamped.{Stamped}
use Rattle.xa_server.specs.xa_worker.Calls.{FitsOwn, ToldOf}
use Rattle.xa_server.specs.xa_worker.Seen.{past_in}
use Rattle.xa_server.specs.xa_worker.Work.{seeing}
use Rattle.xa_server.specs.xa_worker.declared.work.Halt.{Halt}
use Rattle.xa_server.specs.xa_cell.declared.owner.Cancelled.{Cancelled}
use Rattle.xa_server.specs.xa_cell.declared.owner.Cancelled.TheVariants.{Under, Came}
use Rattle.xa_server.specs.xa_cell.declared.tokens.Seat.{Seat}
use Rattle.xa_server.specs.xa_cell.declared.view.Part.{Part}
use Rattle.xa_server.specs.xa_cell.declared.view.View.{View}
use Rattle.xa_server.specs.xa_cell.Calls.{TookAs, CancelledAs}
use Rattle.xa_server.specs.xa_cell.Changes.{looked}
use Rattle.xa_server.specs.xa_cell.Growing.{Keeps, TakesMore}
use Rattle.xa_server.specs.xa_cell.Known.{known, IsSeatOf}
use Rattle.xa_server.specs.xa_cell.Views.{at, nth}
use Rattle.xa_server.proofs.xa_cell.Growing.{keeps_refl, keeps_trans, looked_keeps, more_behind}
use Rattle.xa_server.specs.xa_held.Joins.{changes_at}
use Rattle.xa_server.specs.xa_caller.declared.cargo.Filling.{Filling}
use Rattle.xa_server.specs.xa_caller.declared.outcomes.Step.{Step}
use Rattle.xa_server.specs.xa_caller.declared.outcomes.Step.TheVariants as steps
use Rattle.xa_server.specs.xa_caller.declared.phase.Open.{Open}
use Rattle.xa_server.specs.xa_caller.declared.phase.Phase.{Phase}
use Rattle.xa_server.specs.xa_caller.declared.phase.Phase.TheVariants.{Idle}
use Rattle.xa_server.specs.xa_caller.Caller.{CallerState}
use Rattle.xa_server.specs.xa_caller.Changes.{refused, Refuses, CancelsAs}
use Rattle.xa_server.specs.xa_caller.Getting.{after_pending, BadDescriptor, Finds, Pends, RepliesAs, AnyAs}
use Rattle.xa_server.specs.xa_caller.Phases.{just_in, Describes, request_of}
use Rattle.xa_server.proofs.Calls.{asked_looked, took_is_more, cancel_is_more}
use Rattle.xa_server.proofs.xa_caller.Reading.{is_numbered}
use Rattle.xa_desk.specs.declared.domain.Domain.{Domain}
use Rattle.xa_desk.specs.declared.desk.Desk.{Desk}
use Rattle.xa_desk.specs.Whole.{Whole, entries_of, IsKnown}
use Rattle.xa_desk.specs.Desks.{GoesOn, IsDesk, Leads, board_page}
use Rattle.xa_desk.specs.Steps.{FitsOp}
use Rattle.xa_desk.proofs.Fitting.{its_events, IsRead, call_over, one_more_fits}
use Rattle.xa_desk.proofs.Leading.{grew_one, Grew, next_leads}
use Rattle.xa_desk.proofs.Refusing.{same_as, refuse_leads, refused_on}
use Rattle.xa_desk.proofs.Replying.{takes_on, takes, stamp_known, told_leads, told_of, silent_leads, silent_fits}
use Rattle.xa_desk.proofs.Seating.{TakesOn, keeps_on, takes_same}
use Rattle.xa_desk.proofs.Stopping.{same_leads}
use Rattle.xa_desk.proofs.Visiting.{larger_known}

-- ---- looks that found no answer

-- they keep all that was taken and filled
pending_keeps : (os : List Open) (v : View Filling) → Keeps v (after_pending os v)
pending_keeps [] v = keeps_refl v
pending_keeps (o ∷ os) v = keeps_trans _ _ _ (looked_keeps o.place.cell 1 v) (pending_keeps os (looked o.place.cell 1 v))

-- and for what each cell was opened
asked_through : (ps : List (Part Filling)) (k j : ℕ) (p : Part Filling) → p.asked ≡ (nth ps k).asked → (nth (slice_set ps k p) j).asked ≡ (nth ps j).asked
asked_through [] k j p same = refl
asked_through (x ∷ ps) zero zero p same = same
asked_through (x ∷ ps) zero (suc j) p same = refl
asked_through (x ∷ ps) (suc k) zero p same = refl
asked_through (x ∷ ps) (suc k) (suc j) p same = asked_through ps k j p same

pending_asked : (os : List Open) (v : View Filling) (j : ℕ) → (at j (after_pending os v)).asked ≡ (at j v).asked
pending_asked [] v j = refl
pending_asked (o ∷ os) v j = pending_asked os (looked o.place.cell 1 v) j ∙ asked_through v.parts o.place.cell j (record (at o.place.cell v) { settled = 0 }) refl

module _ (d : Domain) (desk : Desk) (op : ℕ) (is : IsDesk d desk) (reads : IsRead d desk) (turn : op ≡ desk.caller.op + 1) (idle : desk.caller.phase ≡ Idle) (new : CallerState) (its : IsSeatOf d.cells new.seat) where
  abbrev Next : Desk
  Next = record desk { caller = new }

  abbrev v : View Filling
  v = known desk.caller.seat

  none : just_in desk.caller.phase ≡ None
  none = ap just_in idle

  above : 0 < op
  above = omega (arith, turn)

  open_are : open_descriptors desk.caller.work.id.0 (its_events d desk) ≡ map request_of desk.caller.out
  open_are = subst (λ (p : Phase). Describes desk.caller.out p (open_descriptors desk.caller.work.id.0 (its_events d desk))) idle reads.descriptors

  abbrev Goes : Op → Type 0
  Goes call = Leads d desk Next × FitsOp d op call desk Next

  unchanged : (call : Op) → new ≡ desk.caller → Goes call
  unchanged call same = subst (λ (c : CallerState). Leads d desk (record desk { caller = c }) × FitsOp d op call desk (record desk { caller = c })) (sym same) (same_leads d desk is, λ ops numbers fits. fits)

  -- nothing was noted
  silent : (call : Op) (seen : Stamp) (room : ℕ) → new.work ≡ record desk.caller.work { stamp = seen; room = room } → new.least ≡ desk.caller.least → TakesOn v (known new.seat) → desk.caller.work.stamp.0 ≤ seen.0 → ((whole : Whole) → GoesOn d whole Next → GoesOn d whole desk → IsKnown whole seen) → Goes call
  silent call seen room work least more later is_known =
      let leads = silent_leads d desk new is its seen room work least more later is_known in
      (leads, λ ops numbers. silent_fits d desk new is its seen room leads work later (λ over. none) ops)

  -- its call is refused, since there is no such descriptor
  refuses_goes : (descriptor : ℕ) (call : Op) (stamp : Stamp) → Refuses op BadDesc (Descriptor descriptor) stamp new desk.caller → ((whole : Whole) → FitsOwn d.setup d.clients (entries_of whole) stamp call (refused op BadDesc (Descriptor descriptor) desk.caller) (its_events d desk)) → Goes call
  refuses_goes descriptor call stamp refuses fits =
      let same = same_as d desk is in (
        refuse_leads d desk desk.caller new op BadDesc (Descriptor descriptor) stamp is same refuses tt tt tt (λ whole on. tt) (λ whole on. tt),
        refused_on d desk desk.caller new op BadDesc (Descriptor descriptor) stamp is same refuses tt tt tt (λ whole on. tt) (λ whole on. tt) call above none (λ whole on. fits whole),
      )

  bad_goes : (descriptor : ℕ) (call : Op) (step : Step) → BadDescriptor op descriptor step new desk.caller → ((stamp : Stamp) (whole : Whole) → FitsOwn d.setup d.clients (entries_of whole) stamp call (refused op BadDesc (Descriptor descriptor) desk.caller) (its_events d desk)) → Goes call
  bad_goes descriptor call (steps.Told stamp) refuses fits = refuses_goes descriptor call stamp refuses (fits stamp)
  bad_goes descriptor call (steps.Halt halt) kept fits = unchanged call kept.1
  bad_goes descriptor call steps.Wait never fits = absurd never
  bad_goes descriptor call steps.Halted never fits = absurd never

  -- ---- none has come

  module _ (looks : List Open) where
    abbrev yet : Event
    yet = NotYet (record { by = desk.caller.work.id; op = op; requests = map request_of looks })

    looks_take : (seat : Seat Filling) → known seat ≡ after_pending looks v → new.seat ≡ seat → TakesOn v (known new.seat)
    looks_take seat view same = keeps_on v (known new.seat) (subst (Keeps v) (sym (ap (λ (s : Seat Filling). known s) same ∙ view)) (pending_keeps looks v))

    pends_goes : (no_block : Bool) (call : Op) (step : Step) → Pends op no_block looks step new desk.caller → (no_block ≡ true → (stamp : Stamp) (whole : Whole) → FitsOwn d.setup d.clients (entries_of whole) stamp call yet (its_events d desk)) → Goes call
    pends_goes true call (steps.Told stamp) pends fits =
        let made = pends.pends.made in
        let next = pends.pends.next in
        let x : Stamped = record { stamp = stamp; event = yet } in
        let grew : Grew desk.caller.work new.work (x ∷ []) = grew_one desk.caller.work new.work desk.caller.work.room x (ap (λ (c : CallerState). c.work) made) (omega (arith, next)) tt in
        let least = subst (λ (n : ℕ). n ≤ published (past_in (changes_at (board_page desk).seen))) (sym (ap (λ (c : CallerState). c.least) made)) is.least in
        let leads = next_leads d desk new x grew (ap (λ (c : CallerState). c.work.stamp) made) refl its (looks_take pends.seat pends.view (ap (λ (c : CallerState). c.seat) made)) tt least tt is next (λ whole on. record { saw = tt; told = tt; clears = tt }) in
        (leads, one_more_fits d desk Next x leads grew op call refl (is_numbered desk.caller.work.id.0 desk.caller.work.id.0 op refl above) (λ ops its_fits turns. call_over d desk ops its_fits none) (λ over ops numbers. refl) (λ whole on. fits refl stamp whole))
    pends_goes true call (steps.Halt halt) pends fits = kept call pends.seat pends.view pends.pends.1
      where
        kept : (call : Op) (seat : Seat Filling) → known seat ≡ after_pending looks v → new ≡ record desk.caller { seat = seat } → Goes call
        kept call seat view made =
            silent call desk.caller.work.stamp desk.caller.work.room (ap (λ (c : CallerState). c.work) made) (ap (λ (c : CallerState). c.least) made) (looks_take seat view (ap (λ (c : CallerState). c.seat) made)) (omega arith) (λ whole on back. is.known_stamp whole back)
    pends_goes true call steps.Wait pends fits = absurd pends.pends
    pends_goes true call steps.Halted pends fits = absurd pends.pends
    pends_goes false call steps.Wait pends fits =
        let made = pends.pends in
        silent call desk.caller.work.stamp desk.caller.work.room (ap (λ (c : CallerState). c.work) made) (ap (λ (c : CallerState). c.least) made) (looks_take pends.seat pends.view (ap (λ (c : CallerState). c.seat) made)) (omega arith) (λ whole on back. is.known_stamp whole back)
    pends_goes false call (steps.Told stamp) pends fits = absurd pends.pends
    pends_goes false call (steps.Halt halt) pends fits = absurd pends.pends
    pends_goes false call steps.Halted pends fits = absurd pends.pends

  -- ---- one has come

  -- it was taken, behind looks at those before
  found_more : (before : List Open) (sent : Open) (seat : Seat Filling) (filling : Filling) → known seat ≡ looked sent.place.cell 0 (after_pending before v) → TookAs sent.place.cell filling (known seat) (known new.seat) → TakesMore sent.place.cell filling v (known new.seat)
  found_more before sent seat filling view took =
      let cell = sent.place.cell in
      more_behind cell filling v (known seat) (known new.seat) (ap (λ (w : View Filling). (at cell w).asked) view ∙ asked_looked cell 0 (after_pending before v) ∙ pending_asked before v cell)
      (subst (Keeps v) (sym view) (keeps_trans _ _ _ (pending_keeps before v) (looked_keeps cell 0 (after_pending before v)))) (took_is_more cell filling (known seat) (known new.seat) took)

  finds_goes : (before front : List Open) (sent : Open) (back : List Open) (expect : Option Kind) (call : Op) (step : Step) → Finds op expect before front sent back step new desk.caller
      → ((b : Replied) → b.request ≡ sent.request → (stamp : Stamp) (whole : Whole) → ToldOf d.setup d.clients (entries_of whole) stamp expect b → FitsOwn d.setup d.clients (entries_of whole) stamp call (Answer b) (its_events d desk)) → Goes call
  finds_goes before front sent back expect call (steps.Told stamp) finds fits =
      let got = finds.fetches in
      let cell = sent.place.cell in
      let more = found_more before sent finds.seat got.filling finds.view got.took in
      let asked : (at cell v).asked ≡ sent.request ∷ [] = sym (ap (λ (w : View Filling). (at cell w).asked) finds.view ∙ asked_looked cell 0 (after_pending before v) ∙ pending_asked before v cell) ∙ got.asked in
      let made = got.noted.made in
      let next = got.noted.next in
      let b : Replied = record { by = desk.caller.work.id; op = op; request = sent.request; answer = answer_to expect got.reply } in
      let x : Stamped = record { stamp = stamp; event = Answer b } in
      let now = ap (λ (c : CallerState). c.work.stamp) made in
      let least = ap (λ (c : CallerState). c.least) made in
      let grew : Grew desk.caller.work new.work (x ∷ []) = grew_one desk.caller.work new.work (desk.caller.work.room - 1) x (ap (λ (c : CallerState). c.work) made) (omega (arith, next)) tt in
      let leads = told_leads d desk new is its op expect stamp sent got.filling got.reply asked got.says more next now least grew in (
        leads,
        one_more_fits d desk Next x leads grew op call refl (is_numbered desk.caller.work.id.0 desk.caller.work.id.0 op refl above) (λ ops its_fits turns. call_over d desk ops its_fits none) (λ over ops numbers. refl) (λ whole on.
            let told = told_of d desk new is its op expect stamp sent got.filling got.reply asked got.says more next now least grew expect refl whole on in
            fits b refl stamp whole (record { home = told.0; told = told.1 })),
      )
  finds_goes before front sent back expect call (steps.Halt halt) finds fits =
      let lost = finds.fetches in
      let made = lost.made in
      let stamp = lost.filling.stamp in
      let more = found_more before sent finds.seat lost.filling finds.view lost.took in
      silent call (seeing stamp desk.caller.work).stamp desk.caller.work.room (ap (λ (c : CallerState). c.work) made) (ap (λ (c : CallerState). c.least) made) (takes d desk new is its sent.place.cell lost.filling more) (omega arith)
      (λ whole on back. larger_known whole desk.caller.work.stamp stamp (is.known_stamp whole back) (stamp_known d desk new is its sent.place.cell lost.filling more lost.reply lost.says whole on))
  finds_goes before front sent back expect call steps.Halted finds fits =
      let left = finds.fetches in
      let made = left.made in
      silent call desk.caller.work.stamp desk.caller.work.room (ap (λ (c : CallerState). c.work) made) (ap (λ (c : CallerState). c.least) made) (takes d desk new is its sent.place.cell left.filling (found_more before sent finds.seat left.filling finds.view left.took)) (omega arith) (λ whole on back. is.known_stamp whole back)
  finds_goes before front sent back expect call steps.Wait finds fits = absurd finds.fetches

  -- ---- the three calls

  no_descriptor : (descriptor : ℕ) → is_among descriptor (map request_of desk.caller.out) ≡ false → is_among descriptor (open_descriptors desk.caller.work.id.0 (its_events d desk)) ≡ false
  no_descriptor descriptor = subst (λ (l : List RequestId). is_among descriptor l ≡ false) (sym {A = List RequestId} open_are)

  pub get_goes : (descriptor : ℕ) (flags : CallFlags) (expect : Option Kind) (step : Step) → RepliesAs op descriptor expect flags.no_block step new desk.caller → Goes (Get descriptor flags expect)
  get_goes descriptor flags expect step (inl (not_open, bad)) = bad_goes descriptor (Get descriptor flags expect) step bad (λ stamp whole. (refl, no_descriptor descriptor not_open))
  get_goes descriptor flags expect step (inr (front, sent, back, was, number, inl finds)) =
      finds_goes [] front sent back expect (Get descriptor flags expect) step finds (λ b same stamp whole told. (ap (λ (r : RequestId). r.number) same ∙ number, told))
  get_goes descriptor flags expect step (inr (front, sent, back, was, number, inr pends)) =
      pends_goes (sent ∷ []) flags.no_block (Get descriptor flags expect) step pends (λ yes stamp whole. (yes, ap (λ (n : ℕ). n ∷ []) number))

  pub any_goes : (flags : CallFlags) (expect : Option Kind) (step : Step) → AnyAs op expect flags.no_block step new desk.caller → Goes (GetAny flags expect)
  any_goes flags expect step (inl (none_out, bad)) = bad_goes 0 (GetAny flags expect) step bad (λ stamp whole. (refl, open_are ∙ ap (map request_of) none_out))
  any_goes flags expect step (inr (inl (front, sent, back, finds))) = finds_goes front front sent back expect (GetAny flags expect) step finds (λ b same stamp whole told. told)
  any_goes flags expect step (inr (inr (some, pends))) = pends_goes desk.caller.out flags.no_block (GetAny flags expect) step pends (λ yes stamp whole. (yes, sym {A = List RequestId} open_are))

  cancelled_takes : (cell : ℕ) (answer : Cancelled Filling) → CancelledAs cell v (known new.seat) answer → TakesOn v (known new.seat)
  cancelled_takes cell Under cancelled = keeps_on v (known new.seat) (cancel_is_more cell v (known new.seat) Under cancelled)
  cancelled_takes cell (Came filling) cancelled = takes_on cell filling v (known new.seat) (cancel_is_more cell v (known new.seat) (Came filling) cancelled)

  -- ---- what the seat took

  found_takes : (before front : List Open) (sent : Open) (back : List Open) (expect : Option Kind) (step : Step) → Finds op expect before front sent back step new desk.caller → TakesOn v (known new.seat)
  found_takes before front sent back expect (steps.Told stamp) finds = takes_on sent.place.cell finds.fetches.filling v (known new.seat) (found_more before sent finds.seat finds.fetches.filling finds.view finds.fetches.took)
  found_takes before front sent back expect (steps.Halt halt) finds = takes_on sent.place.cell finds.fetches.filling v (known new.seat) (found_more before sent finds.seat finds.fetches.filling finds.view finds.fetches.took)
  found_takes before front sent back expect steps.Halted finds = takes_on sent.place.cell finds.fetches.filling v (known new.seat) (found_more before sent finds.seat finds.fetches.filling finds.view finds.fetches.took)
  found_takes before front sent back expect steps.Wait finds = absurd finds.fetches

  pending_takes : (no_block : Bool) (looks : List Open) (step : Step) → Pends op no_block looks step new desk.caller → TakesOn v (known new.seat)
  pending_takes true looks (steps.Told stamp) pends = looks_take looks pends.seat pends.view (ap (λ (c : CallerState). c.seat) pends.pends.made)
  pending_takes true looks (steps.Halt halt) pends = looks_take looks pends.seat pends.view (ap (λ (c : CallerState). c.seat) pends.pends.1)
  pending_takes true looks steps.Wait pends = absurd pends.pends
  pending_takes true looks steps.Halted pends = absurd pends.pends
  pending_takes false looks steps.Wait pends = looks_take looks pends.seat pends.view (ap (λ (c : CallerState). c.seat) pends.pends)
  pending_takes false looks (steps.Told stamp) pends = absurd pends.pends
  pending_takes false looks (steps.Halt halt) pends = absurd pends.pends
  pending_takes false looks steps.Halted pends = absurd pends.pends

  same_takes : new.seat ≡ desk.caller.seat → TakesOn v (known new.seat)
  same_takes same = subst (λ (s : Seat Filling). TakesOn v (known s)) (sym same) (takes_same v)

  bad_takes : (descriptor : ℕ) (step : Step) → BadDescriptor op descriptor step new desk.caller → TakesOn v (known new.seat)
  bad_takes descriptor (steps.Told stamp) refuses = same_takes (ap (λ (c : CallerState). c.seat) refuses.made)
  bad_takes descriptor (steps.Halt halt) kept = same_takes (ap (λ (c : CallerState). c.seat) kept.1)
  bad_takes descriptor steps.Wait never = absurd never
  bad_takes descriptor steps.Halted never = absurd never

  pub get_takes : (descriptor : ℕ) (expect : Option Kind) (no_block : Bool) (step : Step) → RepliesAs op descriptor expect no_block step new desk.caller → TakesOn v (known new.seat)
  get_takes descriptor expect no_block step (inl (not_open, bad)) = bad_takes descriptor step bad
  get_takes descriptor expect no_block step (inr (front, sent, back, was, number, inl finds)) = found_takes [] front sent back expect step finds
  get_takes descriptor expect no_block step (inr (front, sent, back, was, number, inr pends)) = pending_takes no_block (sent ∷ []) step pends

  pub any_takes : (expect : Option Kind) (no_block : Bool) (step : Step) → AnyAs op expect no_block step new desk.caller → TakesOn v (known new.seat)
  any_takes expect no_block step (inl (none_out, bad)) = bad_takes 0 step bad
  any_takes expect no_block step (inr (inl (front, sent, back, finds))) = found_takes front front sent back expect step finds
  any_takes expect no_block step (inr (inr (some, pends))) = pending_takes no_block desk.caller.out step pends

  pub cancel_takes : (descriptor : ℕ) (r : Result Stamp Halt) → CancelsAs op descriptor r new desk.caller → TakesOn v (known new.seat)
  cancel_takes descriptor (Ok stamp) (inl (not_open, refuses)) = same_takes (ap (λ (c : CallerState). c.seat) refuses.made)
  cancel_takes descriptor (Ok stamp) (inr (front, sent, back, number, cancels)) = cancelled_takes sent.place.cell cancels.cancelled.0 cancels.cancelled.1
  cancel_takes descriptor (Err halt) kept = same_takes (ap (λ (c : CallerState). c.seat) kept.1)

  pub cancel_goes : (descriptor : ℕ) (r : Result Stamp Halt) → CancelsAs op descriptor r new desk.caller → Goes (CancelOp descriptor)
  cancel_goes descriptor (Ok stamp) (inl (not_open, refuses)) = refuses_goes descriptor (CancelOp descriptor) stamp refuses (λ whole. (refl, no_descriptor descriptor not_open))
  cancel_goes descriptor (Ok stamp) (inr (front, sent, back, number, cancels)) =
      let made = cancels.noted.made in
      let next = cancels.noted.next in
      let x : Stamped = record { stamp = stamp; event = Cancel (record { by = desk.caller.work.id; op = op; request = sent.request }) } in
      let grew : Grew desk.caller.work new.work (x ∷ []) = grew_one desk.caller.work new.work (desk.caller.work.room - 1) x (ap (λ (c : CallerState). c.work) made) (omega (arith, next)) tt in
      let least = subst (λ (n : ℕ). n ≤ published (past_in (changes_at (board_page desk).seen))) (sym (ap (λ (c : CallerState). c.least) made)) is.least in
      let leads = next_leads d desk new x grew (ap (λ (c : CallerState). c.work.stamp) made) refl its (cancelled_takes sent.place.cell cancels.cancelled.0 cancels.cancelled.1) tt least tt is next (λ whole on. record { saw = tt; told = tt; clears = tt }) in
      (leads, one_more_fits d desk Next x leads grew op (CancelOp descriptor) refl (is_numbered desk.caller.work.id.0 desk.caller.work.id.0 op refl above) (λ ops its_fits turns. call_over d desk ops its_fits none) (λ over ops numbers. refl) (λ whole on. number))
  cancel_goes descriptor (Err halt) kept = unchanged (CancelOp descriptor) kept.1
