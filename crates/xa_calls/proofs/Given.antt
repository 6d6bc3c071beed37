-- What a tpgetrply or a tpcancel leaves, and what its caller is told; and the caller of a tpacall.
use Rattle.std.proofs.Common.{◌≡◌, ◌≤◌, ◌<◌, ◌+◌, ◌-◌, ◌==◌, ℕ, Bool, true, false, if◌then◌else◌, List, [], ◌∷◌, ◌++◌, map, Option, None, Result, Ok, Err, inl, inr, refl, sym, ◌∙◌, ap, subst, arith, eq-eqb, ne_eqb}
use Rattle.std.specs.Prelude.{IfSome}
use Rattle.std.proofs.lemmas.Bool.{cases_Bool}
use Rattle.xa_desk.specs.xa_types.declared.call.Mode.{Mode}
use Rattle.xa_desk.specs.xa_types.declared.call.Op.{Op}
use Rattle.xa_desk.specs.xa_types.declared.data.Kind.{Kind}
use Rattle.xa_desk.specs.xa_types.declared.fault.Fault.TheVariants.{BadDesc}
use Rattle.xa_desk.specs.xa_types.declared.ids.RequestId.{RequestId}
use Rattle.xa_desk.specs.xa_types.declared.reply.Reply.TheVariants as replies
use Rattle.xa_desk.specs.xa_types.declared.setup.Setup.{Setup}
use Rattle.xa_desk.specs.xa_types.declared.stamp.Stamp.{Stamp}
use Rattle.xa_desk.specs.xa_events.declared.event.Event.{Event}
use Rattle.xa_desk.specs.xa_events.declared.event.Event.TheVariants.{Accept, Answer, Cancel, NotYet, Refuse}
use Rattle.xa_desk.specs.xa_events.declared.event.Evidence.TheVariants.{Descriptor}
use Rattle.xa_desk.specs.xa_events.Answers.{answer_to}
use Rattle.xa_desk.specs.xa_events.Caller.{is_client, last_op}
use Rattle.xa_desk.specs.xa_events.Homes.{worker_of, home_of, same_home}
use Rattle.xa_desk.specs.xa_events.Homes.Home.{CallerHome}
use Rattle.xa_desk.specs.xa_events.Said.{is_op, reply_at, reply_shown_by, descriptor_given}
use Rattle.xa_desk.specs.xa_stamp.declared.home.Stamped.{Stamped}
use Rattle.xa_desk.specs.xa_worker.Crew.{stands_at}
use Rattle.xa_desk.specs.xa_worker.Work.{WorkState, HaltsAt, seeing, theirs}
use Rattle.xa_desk.specs.xa_worker.declared.work.Halt.{Halt}
use Rattle.xa_desk.specs.xa_worker.declared.work.Halt.TheVariants.{NoMemory, Worn}
use Rattle.xa_desk.specs.xa_cell.declared.tokens.Seat.{Seat}
use Rattle.xa_desk.specs.xa_caller.declared.cargo.Filling.{Filling}
use Rattle.xa_desk.specs.xa_caller.declared.outcomes.Step.{Step}
use Rattle.xa_desk.specs.xa_caller.declared.outcomes.Step.TheVariants as steps
use Rattle.xa_desk.specs.xa_caller.declared.phase.Open.{Open}
use Rattle.xa_desk.specs.xa_caller.declared.phase.Phase.{Phase}
use Rattle.xa_desk.specs.xa_caller.declared.phase.Phase.TheVariants.{Idle, Lost}
use Rattle.xa_desk.specs.xa_caller.Caller.{CallerState, MayCall, IsSound}
use Rattle.xa_desk.specs.xa_caller.Changes.{refused, Refuses, CancelsAs}
use Rattle.xa_desk.specs.xa_caller.Getting.{BadDescriptor, Finds, Pends, RepliesAs, AnyAs}
use Rattle.xa_desk.specs.xa_caller.Phases.{IsPrepared, request_of}
use Rattle.xa_desk.proofs.xa_caller.Ordering.{none_within}
use Rattle.xa_desk.specs.declared.domain.Domain.{Domain}
use Rattle.xa_desk.specs.declared.desk.Desk.{Desk}
use Rattle.xa_desk.specs.declared.stopped.Stopped.{Stopped}
use Rattle.xa_desk.specs.declared.stopped.Stopped.TheVariants as ends
use Rattle.xa_desk.specs.Desks.{Leads}
use Rattle.xa_desk.specs.Halting.{IsHaltAt}
use Rattle.xa_desk.specs.Looks.{LookShowed}
use Rattle.xa_desk.specs.Steps.{FitsOp}
use Rattle.xa_calls.specs.declared.telling.Told.{Told}
use Rattle.xa_calls.specs.declared.telling.Told.TheVariants as tells
use Rattle.xa_desk.proofs.Fetching.{get_takes, any_takes, cancel_takes}
use Rattle.xa_desk.proofs.Fitting.{is_read}
use Rattle.xa_calls.specs.Going.{IsReady, IsOut, IsSame, FillsNone, PerformsBy, GotAs, told_by}
use Rattle.xa_calls.specs.Resting.{NotedOn, SawFull, version_named, full_named}
use Rattle.xa_calls.specs.Telling.{IsQuiet, NotesOne, Accepts, AcceptsAs, Gives, GotNotes, StoppedIn, given_of, Says, IsForClients, IsTold}
use Rattle.xa_calls.proofs.Going.{performs_by}
use Rattle.xa_calls.proofs.Noting.{IsOf, its_op, its_worker, its_still, newest_told, theirs_one, told_one, quiet_one, quiet_stopped, may_on, may_still}
use Rattle.xa_calls.proofs.Resting.{noted_none, noted_one}
use Rattle.xa_calls.proofs.Seating.{seat_fills}

-- ---- what is told

gives_by : (caller n : ℕ) (e : Event) (past all : List Event) → is_op caller n e ≡ true → Gives e past → all ≡ e ∷ past → Says (given_of e) n caller all
gives_by caller n (Refuse r) past all is gives whole = ap (λ es. reply_at es caller n) whole ∙ newest_told caller n (Refuse r) past is ∙ gives
gives_by caller n (NotYet u) past all is gives whole = ap (λ es. reply_at es caller n) whole ∙ newest_told caller n (NotYet u) past is
gives_by caller n (Cancel x) past all is gives whole = ap (λ es. reply_at es caller n) whole ∙ newest_told caller n (Cancel x) past is
gives_by caller n (Answer a) past all is gives whole =
    (a, past, whole, ap (λ es. reply_at es caller n) whole ∙ newest_told caller n (Answer a) past is ∙ ap (λ (d : ℕ). replies.Answered d a.answer) gives.0, gives.1)
gives_by caller n e past all is gives whole = absurd gives

gives_here : (setup : Setup) (clients caller n : ℕ) (x : Stamped) (past : List Event) → is_op caller n x.event ≡ true → Gives x.event past → stands_at setup clients (CallerHome caller) x ≡ true
gives_here setup clients caller n x past is gives = ap (λ home. same_home home (CallerHome caller)) (home_by x.event gives ∙ ap CallerHome (its_worker clients caller n x.event is)) ∙ eq-eqb caller caller refl
  where
    home_by : (e : Event) → Gives e past → home_of setup clients e ≡ CallerHome (worker_of clients e)
    home_by (Refuse r) gives = refl
    home_by (NotYet u) gives = refl
    home_by (Cancel c) gives = refl
    home_by (Answer a) gives = refl
    home_by e gives = absurd gives

-- what the newest event at the worker's own home tells
abbrev pub GivesNewest : Told → Desk → Type 0
GivesNewest told desk = (older : List Stamped) (x : Stamped) → desk.caller.work.own ≡ older ++ x ∷ [] → stands_at desk.caller.work.setup desk.caller.work.clients (CallerHome desk.caller.work.id.0) x ≡ true → told ≡ given_of x.event

given_to_all : (e : Event) → IsForClients (given_of e) → ⊥
given_to_all (Refuse r) is = is
given_to_all (NotYet u) is = is
given_to_all (Answer a) is = is
given_to_all e is = is

pub told_given : (told : Told) (n : ℕ) (old new : Desk) → IsSame old new → GivesNewest told new → NotesOne n Gives old new → IsTold told n old new
told_given told n old new same newest one =
    let on : IsOf old new = (same.id, same.clients) in
    let its = its_still n Gives old new on one in
    let caller : ℕ = new.caller.work.id.0 in
    let past = theirs old.caller.work in
    let tells : told ≡ given_of one.noted.event = newest old.caller.work.own one.noted one.own (gives_here new.caller.work.setup new.caller.work.clients caller n one.noted past its one.shows) in
    told_one told n Gives old new same one (λ server is. given_to_all one.noted.event (subst IsForClients tells is))
    (subst (λ (t : Told). Says t n caller (theirs new.caller.work)) (sym tells) (gives_by caller n one.noted.event past (theirs new.caller.work) its one.shows (theirs_one n Gives old new on one)))

-- a client's tpacall was accepted
pub told_sent : (n descriptor : ℕ) (old new : Desk) → IsSame old new → is_client old.caller.work.clients old.caller.work.id.0 ≡ true → NotesOne n (AcceptsAs descriptor) old new → IsTold (tells.Descriptor descriptor) n old new
told_sent n descriptor old new same client one =
    let on : IsOf old new = (same.id, same.clients) in
    let past = theirs old.caller.work in
    let caller : ℕ = new.caller.work.id.0 in
    told_one (tells.Descriptor descriptor) n (AcceptsAs descriptor) old new same one (λ server. absurd (cc (sym server ∙ client)))
    (ap (λ es. reply_at es caller n) (theirs_one n (AcceptsAs descriptor) old new on one) ∙ newest_told caller n one.noted.event past (its_still n (AcceptsAs descriptor) old new on one) ∙ shown one.noted.event one.shows)
  where
    shown : (e : Event) → AcceptsAs descriptor e (theirs old.caller.work) → reply_shown_by e (theirs old.caller.work) ≡ replies.Descriptor descriptor
    shown (Accept a) (number, mode) = ap (λ (m : Mode). replies.Descriptor (descriptor_given m a.request.number)) mode ∙ ap (λ (k : ℕ). replies.Descriptor k) number
    shown e is = absurd is

-- ---- what is left

-- a halt of the caller is one of its desk
halts_at : (stamp : Stamp) (halt : Halt) (desk : Desk) → stamp ≡ desk.caller.work.stamp → HaltsAt stamp halt → IsHaltAt desk halt
halts_at stamp NoMemory desk same halts = tt
halts_at stamp (Worn last) desk same halts = (halts.1, sym (ap (λ (s : Stamp). s.0) same) ∙ halts.0)

is_out : (desk : Desk) → desk.caller.phase ≡ Idle → IsOut desk
is_out desk idle = subst (λ (p : Phase). IsPrepared p → ⊥) (sym idle) (λ never. never)

is_out_lost : (desk : Desk) (request : RequestId) → desk.caller.phase ≡ Lost request → IsOut desk
is_out_lost desk request lost = subst (λ (p : Phase). IsPrepared p → ⊥) (sym lost) (λ never. never)

-- whether a tpcancel is over
abbrev pub cancelled_by : Result Stamp Halt → Result Bool Stopped
cancelled_by (Ok stamp) = Ok true
cancelled_by (Err halt) = Err (ends.Here halt)

module _ (d : Domain) (op : ℕ) (old new : Desk) (leads : Leads d old new) (turn : op ≡ old.caller.op + 1) (idle : old.caller.phase ≡ Idle) (sound : IsSound old.caller) where
  -- the desk goes on by such a call
  pub record Got (result : Result Bool Stopped) : Type 0 where
    pub same : IsSame old new
    pub fills : FillsNone old new
    pub noted : NotedOn (LookShowed old new) (SawFull d old new) old.caller.work.own new.caller.work.own
    pub got : GotAs d old.caller.op op result new
    pub notes : GotNotes op result old new

  above : 0 < op
  above = omega (arith, turn)

  its : is_op old.caller.work.id.0 op (Cancel (record { by = old.caller.work.id; op = op; request = record { caller = old.caller.work.id; number = 0 } })) ≡ true
  its = its_op old.caller.work.id.0 old.caller.work.id.0 op refl above

  -- nothing was noted, and the call isn't over
  silent : (stamp : Stamp) (room : ℕ) (result : Result Bool Stopped) → new.caller.work ≡ record old.caller.work { stamp = stamp; room = room } → (is_client old.caller.work.clients old.caller.work.id.0 ≡ false → 2 ≤ old.caller.work.room → 2 ≤ room) → FillsNone old new
      → GotAs d old.caller.op op result new → GotNotes op result old new → Got result
  silent stamp room result work kept fills got notes = record {
    same = record { id = ap (λ (w : WorkState). w.id) work; clients = ap (λ (w : WorkState). w.clients) work; room = λ server had. subst (λ (w : WorkState). 2 ≤ w.room) (sym work) (kept server had) };
    fills = fills;
    noted = noted_none (LookShowed old new) (SawFull d old new) old.caller.work.own new.caller.work.own (ap (λ (w : WorkState). w.own) work);
    got = got;
    notes = notes;
  }

  -- one event was noted, which rests on nothing that was seen, and the call is over
  over : (stamp : Stamp) (e : Event) (room : ℕ) → new.caller.work ≡ record old.caller.work { stamp = stamp; own = old.caller.work.own ++ record { stamp = stamp; event = e } ∷ []; room = room } → (is_client old.caller.work.clients old.caller.work.id.0 ≡ false → 2 ≤ old.caller.work.room → 2 ≤ room)
      → FillsNone old new → new.caller.phase ≡ Idle → new.caller.op ≡ op → is_op old.caller.work.id.0 op e ≡ true → IfSome (version_named e) (LookShowed old new) × IfSome (full_named e) (SawFull d old new) → Gives e (theirs old.caller.work) → Got (Ok true)
  over stamp e room work kept fills phase made its_event rests gives = record {
    same = record { id = ap (λ (w : WorkState). w.id) work; clients = ap (λ (w : WorkState). w.clients) work; room = λ server had. subst (λ (w : WorkState). 2 ≤ w.room) (sym work) (kept server had) };
    fills = fills;
    noted = noted_one (LookShowed old new) (SawFull d old new) old.caller.work.own new.caller.work.own (record { stamp = stamp; event = e }) (ap (λ (w : WorkState). w.own) work) rests;
    got = record { is = leads.desk; idle = phase; made = made };
    notes = record { noted = record { stamp = stamp; event = e }; own = ap (λ (w : WorkState). w.own) work; its = its_event; shows = gives };
  }

  -- nothing changed but looks, and the run halts
  halted : (halt : Halt) (seat : Seat Filling) → new.caller ≡ record old.caller { seat = seat } → HaltsAt old.caller.work.stamp halt → FillsNone old new → Got (Err (ends.Here halt))
  halted halt seat made halts fills =
      let phase = ap (λ (c : CallerState). c.phase) made ∙ idle in
      let own = ap (λ (c : CallerState). c.work.own) made in
      silent old.caller.work.stamp old.caller.work.room (Err (ends.Here halt)) (ap (λ (c : CallerState). c.work) made) (λ server had. had) fills
      (is_out new phase, halts_at old.caller.work.stamp halt new (sym (ap (λ (c : CallerState). c.work.stamp) made)) halts) (quiet_stopped op (ends.Here halt) old new (own, phase))

  refused_so : (descriptor : ℕ) (stamp : Stamp) → Refuses op BadDesc (Descriptor descriptor) stamp new.caller old.caller → Got (Ok true)
  refused_so descriptor stamp refuses =
      let made = refuses.made in
      over stamp (refused op BadDesc (Descriptor descriptor) old.caller) old.caller.work.room (ap (λ (c : CallerState). c.work) made) (λ server had. had) (seat_fills old new (ap (λ (c : CallerState). c.seat) made)) (ap (λ (c : CallerState). c.phase) made ∙ idle) (ap (λ (c : CallerState). c.op) made) its (tt, tt) refl

  bad : (descriptor : ℕ) (step : Step) → BadDescriptor op descriptor step new.caller old.caller → Got (told_by step)
  bad descriptor (steps.Told stamp) refuses = refused_so descriptor stamp refuses
  bad descriptor (steps.Halt halt) kept = halted halt old.caller.seat kept.1 kept.0 (seat_fills old new (ap (λ (c : CallerState). c.seat) kept.1))
  bad descriptor steps.Wait never = absurd never
  bad descriptor steps.Halted never = absurd never

  pending : (no_block : Bool) (looks : List Open) (step : Step) → Pends op no_block looks step new.caller old.caller → FillsNone old new → Got (told_by step)
  pending true looks (steps.Told stamp) pends fills =
      let made = pends.pends.made in
      over stamp (NotYet (record { by = old.caller.work.id; op = op; requests = map request_of looks })) old.caller.work.room (ap (λ (c : CallerState). c.work) made) (λ server had. had) fills (ap (λ (c : CallerState). c.phase) made ∙ idle) (ap (λ (c : CallerState). c.op) made) its (tt, tt) tt
  pending true looks (steps.Halt halt) pends fills = halted halt pends.seat pends.pends.1 pends.pends.0 fills
  pending true looks steps.Wait pends fills = absurd pends.pends
  pending true looks steps.Halted pends fills = absurd pends.pends
  pending false looks steps.Wait pends fills =
      let made = pends.pends in
      silent old.caller.work.stamp old.caller.work.room (Ok false) (ap (λ (c : CallerState). c.work) made) (λ server had. had) fills (record { is = leads.desk; idle = ap (λ (c : CallerState). c.phase) made ∙ idle; made = ap (λ (c : CallerState). c.op) made }) (ap (λ (c : CallerState). c.work.own) made)
  pending false looks (steps.Told stamp) pends fills = absurd pends.pends
  pending false looks (steps.Halt halt) pends fills = absurd pends.pends
  pending false looks steps.Halted pends fills = absurd pends.pends

  -- an answer of no tpcall tells the request's number
  tells_number : (number : ℕ) → (if last_op old.caller.work.id.0 (theirs old.caller.work) == op then 0 else number) ≡ number
  tells_number number = let called = sound.reads.called in rw (ne_eqb (last_op old.caller.work.id.0 (theirs old.caller.work)) op (λ same. omega (arith, same, called, turn))) refl

  found : (expect : Option Kind) (before front : List Open) (sent : Open) (back : List Open) (step : Step) → old.caller.out ≡ front ++ sent ∷ back → Finds op expect before front sent back step new.caller old.caller → FillsNone old new → Got (told_by step)
  found expect before front sent back (steps.Told stamp) was finds fills =
      let made = finds.fetches.noted.made in
      let reply = finds.fetches.reply in
      over stamp (Answer (record { by = old.caller.work.id; op = op; request = sent.request; answer = answer_to expect reply })) (old.caller.work.room - 1) (ap (λ (c : CallerState). c.work) made)
      (λ server had. absurd (none_within old.caller.out front back sent was (sound.served server))) fills (ap (λ (c : CallerState). c.phase) made ∙ idle) (ap (λ (c : CallerState). c.op) made) its (tt, tt) (tells_number sent.request.number, finds.fetches.sound)
  found expect before front sent back (steps.Halt halt) was finds fills =
      let lost = finds.fetches in
      let made = lost.made in
      let own = ap (λ (c : CallerState). c.work.own) made in
      subst (λ (h : Halt). Got (Err (ends.Here h))) (sym lost.last)
      (silent (seeing lost.filling.stamp old.caller.work).stamp old.caller.work.room (Err (ends.Here (Worn (seeing lost.filling.stamp old.caller.work).stamp))) (ap (λ (c : CallerState). c.work) made) (λ server had. had) fills
      (is_out_lost new sent.request (ap (λ (c : CallerState). c.phase) made), (lost.worn, ap (λ (c : CallerState). c.work.stamp.0) made ∙ lost.worn)) (inl own))
  found expect before front sent back steps.Halted was finds fills =
      let left = finds.fetches in
      let made = left.made in
      silent old.caller.work.stamp old.caller.work.room (Err ends.Elsewhere) (ap (λ (c : CallerState). c.work) made) (λ server had. had) fills (is_out_lost new sent.request (ap (λ (c : CallerState). c.phase) made), tt) (inl (ap (λ (c : CallerState). c.work.own) made))
  found expect before front sent back steps.Wait was finds fills = absurd finds.fetches

  pub got_one : (descriptor : ℕ) (expect : Option Kind) (no_block : Bool) (step : Step) → RepliesAs op descriptor expect no_block step new.caller old.caller → FillsNone old new → Got (told_by step)
  got_one descriptor expect no_block step (inl (not_open, refuses)) fills = bad descriptor step refuses
  got_one descriptor expect no_block step (inr (front, sent, back, was, number, inl finds)) fills = found expect [] front sent back step was finds fills
  got_one descriptor expect no_block step (inr (front, sent, back, was, number, inr pends)) fills = pending no_block (sent ∷ []) step pends fills

  pub got_any : (expect : Option Kind) (no_block : Bool) (step : Step) → AnyAs op expect no_block step new.caller old.caller → FillsNone old new → Got (told_by step)
  got_any expect no_block step (inl (none, refuses)) fills = bad 0 step refuses
  got_any expect no_block step (inr (inl (front, sent, back, finds))) fills = found expect front front sent back step finds.was finds fills
  got_any expect no_block step (inr (inr (some, pends))) fills = pending no_block old.caller.out step pends fills

  pub got_cancel : (descriptor : ℕ) (r : Result Stamp Halt) → CancelsAs op descriptor r new.caller old.caller → FillsNone old new → Got (cancelled_by r)
  got_cancel descriptor (Ok stamp) (inl (not_open, refuses)) fills = refused_so descriptor stamp refuses
  got_cancel descriptor (Ok stamp) (inr (front, sent, back, number, cancels)) fills =
      let made = cancels.noted.made in
      over stamp (Cancel (record { by = old.caller.work.id; op = op; request = sent.request })) (old.caller.work.room - 1) (ap (λ (c : CallerState). c.work) made)
      (λ server had. absurd (none_within old.caller.out front back sent cancels.was (sound.served server))) fills (ap (λ (c : CallerState). c.phase) made ∙ idle) (ap (λ (c : CallerState). c.op) made) its (tt, tt) tt
  got_cancel descriptor (Err halt) kept fills = halted halt old.caller.seat kept.1 kept.0 fills

-- the worker went on by that call, and may go on to call
pub got_performs : (d : Domain) (op : ℕ) (call : Op) (old new : Desk) (leads : Leads d old new) (turn : op ≡ old.caller.op + 1) (idle : old.caller.phase ≡ Idle) (sound : IsSound old.caller) (result : Result Bool Stopped) → new ≡ record old { caller = new.caller } → FitsOp d op call old new
    → Got d op old new leads turn idle sound result → PerformsBy d op call old new
got_performs d op call old new leads turn idle sound result rest fits got = performs_by d op call old new leads fits got.same got.fills (ap (λ (desk : Desk). desk.board) rest) got.noted

pub got_may : (d : Domain) (op : ℕ) (old new : Desk) (leads : Leads d old new) (turn : op ≡ old.caller.op + 1) (idle : old.caller.phase ≡ Idle) (sound : IsSound old.caller) (result : Result Bool Stopped) → Got d op old new leads turn idle sound result → MayCall old.caller → MayCall new.caller
got_may d op old new leads turn idle sound (Ok true) got = may_on op Gives old new got.same got.notes
got_may d op old new leads turn idle sound (Ok false) got = may_still old new got.same got.notes
got_may d op old new leads turn idle sound (Err stopped) got = by_why stopped got.notes
  where
    by_why : (why : Stopped) → StoppedIn op why old new → MayCall old.caller → MayCall new.caller
    by_why (ends.Here NoMemory) notes = may_still old new got.same notes.0
    by_why (ends.Here (Worn stamp)) (inl quiet) = may_still old new got.same quiet
    by_why (ends.Here (Worn stamp)) (inr one) = may_on op Accepts old new got.same one
    by_why ends.Elsewhere (inl quiet) = may_still old new got.same quiet
    by_why ends.Elsewhere (inr one) = may_on op Accepts old new got.same one

-- a look for the answer of a descriptor, or of any
pub some_got : (d : Domain) (old new : Desk) (op : ℕ) (ready : IsReady d old.caller.op old) (turn : op ≡ old.caller.op + 1) (sound : IsSound old.caller) (leads : Leads d old new) (descriptor : ℕ) (expect : Option Kind) (no_block : Bool) (step : Step)
    → RepliesAs op descriptor expect no_block step new.caller old.caller → Got d op old new leads turn ready.idle sound (told_by step)
some_got d old new op ready turn sound leads descriptor expect no_block step replies =
    got_one d op old new leads turn ready.idle sound descriptor expect no_block step replies (get_takes d old op ready.is (is_read d old ready.is sound) turn ready.idle new.caller leads.desk.seat descriptor expect no_block step replies).filled

pub any_got : (d : Domain) (old new : Desk) (op : ℕ) (ready : IsReady d old.caller.op old) (turn : op ≡ old.caller.op + 1) (sound : IsSound old.caller) (leads : Leads d old new) (expect : Option Kind) (no_block : Bool) (step : Step)
    → AnyAs op expect no_block step new.caller old.caller → Got d op old new leads turn ready.idle sound (told_by step)
any_got d old new op ready turn sound leads expect no_block step any =
    got_any d op old new leads turn ready.idle sound expect no_block step any (any_takes d old op ready.is (is_read d old ready.is sound) turn ready.idle new.caller leads.desk.seat expect no_block step any).filled

pub cancel_got : (d : Domain) (old new : Desk) (op : ℕ) (ready : IsReady d old.caller.op old) (turn : op ≡ old.caller.op + 1) (sound : IsSound old.caller) (leads : Leads d old new) (descriptor : ℕ) (r : Result Stamp Halt)
    → CancelsAs op descriptor r new.caller old.caller → Got d op old new leads turn ready.idle sound (cancelled_by r)
cancel_got d old new op ready turn sound leads descriptor r cancels =
    got_cancel d op old new leads turn ready.idle sound descriptor r cancels (cancel_takes d old op ready.is (is_read d old ready.is sound) turn ready.idle new.caller leads.desk.seat descriptor r cancels).filled

-- nothing was noted before
pub within_quiet : (op : ℕ) (stopped : Stopped) (old mid new : Desk) → IsSame old mid → IsQuiet old mid → StoppedIn op stopped mid new → StoppedIn op stopped old new
within_quiet op (ends.Here NoMemory) old mid new same quiet notes = (notes.0 ∙ quiet, notes.1)
within_quiet op (ends.Here (Worn stamp)) old mid new same quiet (inl still) = inl (still ∙ quiet)
within_quiet op (ends.Here (Worn stamp)) old mid new same quiet (inr one) = inr (quiet_one op Accepts old mid new same quiet one)
within_quiet op ends.Elsewhere old mid new same quiet (inl still) = inl (still ∙ quiet)
within_quiet op ends.Elsewhere old mid new same quiet (inr one) = inr (quiet_one op Accepts old mid new same quiet one)
