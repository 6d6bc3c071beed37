-- What a worker noted fits its calls, also with one event of a call more.
use Rattle.std.proofs.Common.{◌≡◌, ℕ, ◌+◌, Bool, true, false, if◌then◌else◌, inl, inr, List, [], ◌∷◌, ◌++◌, Option, Some, None, refl, sym, ◌∙◌, ap, subst, append-nil}
use Rattle.xa_desk.proofs.Stopping.{same_leads}
use Rattle.std.specs.Prelude.{IsSomeAnd}
use Rattle.std.specs.List.{filter}
use Rattle.std.proofs.lemmas.Bool.{false≢true, cases_Bool}
use Rattle.xa_server.specs.xa_types.declared.call.Ask.{Ask}
use Rattle.xa_server.specs.xa_types.declared.call.Op.{Op}
use Rattle.xa_server.specs.xa_types.declared.ids.CallerId.{CallerId}
use Rattle.xa_server.specs.xa_types.Setup.{numbered}
use Rattle.xa_server.specs.xa_events.declared.event.Event.{Event}
use Rattle.xa_server.specs.xa_events.Caller.{is_call_of, op_in, newest_call, last_op}
use Rattle.xa_server.specs.xa_events.Calls.{awaits_answer}
use Rattle.xa_server.specs.xa_events.Local.{worker_events}
use Rattle.xa_server.specs.xa_events.Views.{caller_view}
use Rattle.xa_server.specs.xa_types.declared.setup.Setup.{Setup}
use Rattle.xa_server.specs.xa_stamp.declared.home.Stamped.{Stamped}
use Rattle.xa_server.specs.xa_worker.Calls.{FitsOwn, FitsTurn}
use Rattle.xa_server.specs.xa_worker.Seen.{past_in}
use Rattle.xa_server.specs.xa_worker.Going.{FitEach}
use Rattle.xa_server.proofs.xa_worker.Noting.{each-more}
use Rattle.xa_server.proofs.xa_worker.Calls.{call_of_worker}
use Rattle.xa_ticks.proofs.Ticking.{past-push}
use Rattle.xa_server.specs.xa_caller.Caller.{IsSound, Reads, CallerState}
use Rattle.xa_server.specs.xa_caller.declared.phase.Phase.{Phase}
use Rattle.xa_server.specs.xa_caller.declared.phase.Phase.TheVariants.{Idle, Prepared, Sent, Lost}
use Rattle.xa_server.specs.xa_caller.Phases.{just_in}
use Rattle.xa_desk.specs.declared.domain.Domain.{Domain}
use Rattle.xa_desk.specs.declared.desk.Desk.{Desk}
use Rattle.xa_desk.specs.Whole.{Whole, entries_of}
use Rattle.xa_desk.specs.Desks.{GoesOn, IsDesk, Leads, IsOver, FitsCalls}
use Rattle.xa_desk.specs.Steps.{FitsOn, FitsOp}
use Rattle.xa_desk.proofs.Leading.{Grew, IsQuiet, calm_leads}

-- between its calls the last is over, and where it is, that is said
over_by : (phase : Phase) (ops : List Op) (newest : Option Event) → just_in phase ≡ None → IsOver phase ops newest → awaits_answer ops newest ≡ false
over_by Idle ops newest none over = over
over_by (Prepared draft) ops newest none over = over
over_by (Sent sent) ops newest none over = absurd (cc none)
over_by (Lost request) ops newest none over = absurd (cc none)

over_in : (phase : Phase) (ops : List Op) (newest : Option Event) → (just_in phase ≡ None → awaits_answer ops newest ≡ false) → IsOver phase ops newest
over_in Idle ops newest over = over refl
over_in (Prepared draft) ops newest over = over refl
over_in (Sent sent) ops newest over = tt
over_in (Lost request) ops newest over = tt

-- an event of a call is the newest, behind all that its worker noted
newest_head : (clients id : ℕ) (e : Event) (past : List Event) → is_call_of id e ≡ true → newest_call id (worker_events clients id (e ∷ past)) ≡ Some e
unfolding newest_call
newest_head clients id e past called = rw (call_of_worker clients id e called, called) refl

newest_more : (clients id : ℕ) (own : List Stamped) (x : Stamped) → is_call_of id x.event ≡ true → newest_call id (worker_events clients id (past_in (own ++ x ∷ []))) ≡ Some x.event
newest_more clients id own x called = ap (λ (past : List Event). newest_call id (worker_events clients id past)) (past-push own x) ∙ newest_head clients id x.event (past_in own) called

-- and one of no call changes nothing there
newest_kept : (caller : ℕ) (one : Event) (rest : List Event) → is_call_of caller one ≡ false → newest_call caller (one ∷ rest) ≡ newest_call caller rest
unfolding newest_call
newest_kept caller one rest apart = rw apart refl

kept_rest : (p : Event → Bool) (id : ℕ) (e : Event) (past : List Event) → is_call_of id e ≡ false → newest_call id (filter p (e ∷ past)) ≡ newest_call id (filter p past)
kept_rest p id e past none = elim (cases_Bool (p e)) [
  | inl its ↦ ap (λ (b : Bool). newest_call id (if b then e ∷ filter p past else filter p past)) its ∙ newest_kept id e (filter p past) none
  | inr other ↦ ap (λ (b : Bool). newest_call id (if b then e ∷ filter p past else filter p past)) other
]

newest_rest : (clients id : ℕ) (e : Event) (past : List Event) → is_call_of id e ≡ false → newest_call id (worker_events clients id (e ∷ past)) ≡ newest_call id (worker_events clients id past)
newest_rest clients id e past none = kept_rest _ id e past none

newest_aside : (clients id : ℕ) (own : List Stamped) (x : Stamped) → is_call_of id x.event ≡ false → newest_call id (worker_events clients id (past_in (own ++ x ∷ []))) ≡ newest_call id (worker_events clients id (past_in own))
newest_aside clients id own x none = ap (λ (past : List Event). newest_call id (worker_events clients id past)) (past-push own x) ∙ newest_rest clients id x.event (past_in own) none

module _ (d : Domain) where
  -- the worker's own events, the newest first
  abbrev pub its_events : Desk → List Event
  its_events desk = worker_events d.clients desk.caller.work.id.0 (past_in desk.caller.work.own)

  -- its tables are what is read off these
  abbrev pub IsRead : Desk → Type 0
  IsRead desk = Reads d.setup (caller_view d.clients desk.caller.work.id.0 (its_events desk)) desk.caller.op desk.caller.sent desk.caller.least desk.caller.priority desk.caller.out desk.caller.phase

  pub is_read : (desk : Desk) → IsDesk d desk → IsSound desk.caller → IsRead desk
  is_read desk is sound =
      let c = desk.caller in
      let id : ℕ = c.work.id.0 in
      subst (λ (n : ℕ). Reads d.setup (caller_view n id (worker_events n id (past_in c.work.own))) c.op c.sent c.least c.priority c.out c.phase) is.clients
      (subst (λ (s : Setup). Reads s (caller_view c.work.clients id (worker_events c.work.clients id (past_in c.work.own))) c.op c.sent c.least c.priority c.out c.phase) is.setup sound.reads)

  -- where no answer of a call is to come, the call before is over
  pub call_over : (desk : Desk) (ops : List Op) → FitsCalls d ops desk → just_in desk.caller.phase ≡ None → awaits_answer ops (newest_call desk.caller.work.id.0 (its_events desk)) ≡ false
  call_over desk ops fits none = over_by desk.caller.phase ops (newest_call desk.caller.work.id.0 (its_events desk)) none fits.over

  -- it fits the same calls, as long as no answer that was to come is now to come no more
  pub no_more_fits : (old new : Desk) → Leads d old new → Grew old.caller.work new.caller.work [] → (just_in new.caller.phase ≡ None → just_in old.caller.phase ≡ None) → (ops : List Op) → FitsCalls d ops old → FitsCalls d ops new
  no_more_fits old new leads grew still ops fits =
      let own : new.caller.work.own ≡ old.caller.work.own = grew.own ∙ append-nil old.caller.work.own in
      record {
        each = λ whole on.
            subst (λ (l : List Stamped). FitEach d.setup d.clients (entries_of whole) new.caller.work.id.0 ops l) (sym {A = List Stamped} own)
            (subst (λ (id : CallerId). FitEach d.setup d.clients (entries_of whole) id.0 ops old.caller.work.own) (sym grew.id) (fits.each whole (leads.before whole on)));
        over = over_in new.caller.phase ops (newest_call new.caller.work.id.0 (its_events new)) (λ none.
            subst (λ (l : List Stamped). awaits_answer ops (newest_call new.caller.work.id.0 (worker_events d.clients new.caller.work.id.0 (past_in l))) ≡ false) (sym {A = List Stamped} own)
            (subst (λ (id : CallerId). awaits_answer ops (newest_call id.0 (worker_events d.clients id.0 (past_in old.caller.work.own))) ≡ false) (sym grew.id) (call_over old ops fits (still none))));
      }

  pub one_more_fits : (old new : Desk) (x : Stamped) → Leads d old new → Grew old.caller.work new.caller.work (x ∷ []) → (op : ℕ) (call : Op) → op_in x.event ≡ op → is_call_of old.caller.work.id.0 x.event ≡ true
      → ((ops : List Op) → FitsCalls d ops old → op ≡ last_op old.caller.work.id.0 (its_events old) + 1 → awaits_answer ops (newest_call old.caller.work.id.0 (its_events old)) ≡ false)
      → (just_in new.caller.phase ≡ None → (ops : List Op) → numbered op ops ≡ Some call → awaits_answer ops (Some x.event) ≡ false)
      → ((whole : Whole) → GoesOn d whole new → FitsOwn d.setup d.clients (entries_of whole) x.stamp call x.event (its_events old)) → FitsOp d op call old new
  one_more_fits old new x leads grew op call op_is its turn ends fits_one ops is fits =
      let id : ℕ = old.caller.work.id.0 in
      record {
        each = λ whole on.
            let before : GoesOn d whole old = leads.before whole on in
            subst (λ (l : List Stamped). FitEach d.setup d.clients (entries_of whole) new.caller.work.id.0 ops l) (sym {A = List Stamped} grew.own)
            (subst (λ (i : CallerId). FitEach d.setup d.clients (entries_of whole) i.0 ops (old.caller.work.own ++ x ∷ [])) (sym grew.id)
            (each-more (λ (y : Stamped) (past : List Event). is_call_of id y.event ≡ true → FitsTurn d.setup d.clients (entries_of whole) y.stamp id ops y.event (worker_events d.clients id past)) old.caller.work.own x (fits.each whole before)
            (λ called. record {
              fits = subst (λ (o : Option Op). IsSomeAnd o (λ (one : Op). FitsOwn d.setup d.clients (entries_of whole) x.stamp one x.event (its_events old))) (sym (ap (λ (n : ℕ). numbered n ops) op_is ∙ is)) (fits_one whole on);
              turn = λ next. turn ops fits (sym op_is ∙ next);
            })));
        over = over_in new.caller.phase ops (newest_call new.caller.work.id.0 (its_events new)) (λ none.
            subst (λ (l : List Stamped). awaits_answer ops (newest_call new.caller.work.id.0 (worker_events d.clients new.caller.work.id.0 (past_in l))) ≡ false) (sym {A = List Stamped} grew.own)
            (subst (λ (i : CallerId). awaits_answer ops (newest_call i.0 (worker_events d.clients i.0 (past_in (old.caller.work.own ++ x ∷ [])))) ≡ false) (sym grew.id)
            (subst (λ (newest : Option Event). awaits_answer ops newest ≡ false) (sym (newest_more d.clients id old.caller.work.own x its)) (ends none ops is))));
      }

  -- with an event of no call it fits the same calls
  pub aside_fits : (old new : Desk) (x : Stamped) → Leads d old new → Grew old.caller.work new.caller.work (x ∷ []) → is_call_of old.caller.work.id.0 x.event ≡ false → (just_in new.caller.phase ≡ None → just_in old.caller.phase ≡ None) → (ops : List Op) → FitsCalls d ops old → FitsCalls d ops new
  aside_fits old new x leads grew none still ops fits =
      let id : ℕ = old.caller.work.id.0 in
      record {
        each = λ whole on.
            subst (λ (l : List Stamped). FitEach d.setup d.clients (entries_of whole) new.caller.work.id.0 ops l) (sym {A = List Stamped} grew.own)
            (subst (λ (i : CallerId). FitEach d.setup d.clients (entries_of whole) i.0 ops (old.caller.work.own ++ x ∷ [])) (sym grew.id)
            (each-more (λ (y : Stamped) (past : List Event). is_call_of id y.event ≡ true → FitsTurn d.setup d.clients (entries_of whole) y.stamp id ops y.event (worker_events d.clients id past)) old.caller.work.own x (fits.each whole (leads.before whole on))
            (λ called. absurd (false≢true (sym none ∙ called)))));
        over = over_in new.caller.phase ops (newest_call new.caller.work.id.0 (its_events new)) (λ idle.
            subst (λ (l : List Stamped). awaits_answer ops (newest_call new.caller.work.id.0 (worker_events d.clients new.caller.work.id.0 (past_in l))) ≡ false) (sym {A = List Stamped} grew.own)
            (subst (λ (i : CallerId). awaits_answer ops (newest_call i.0 (worker_events d.clients i.0 (past_in (old.caller.work.own ++ x ∷ [])))) ≡ false) (sym grew.id)
            (subst (λ (newest : Option Event). awaits_answer ops newest ≡ false) (sym (newest_aside d.clients id old.caller.work.own x none)) (call_over old ops fits (still idle)))));
      }

  -- it goes on, and what it noted fits that call
  abbrev pub GoesFor : ℕ → Ask → Desk → Desk → Type 0
  GoesFor op ask old new = Leads d old new × FitsOn d op ask old new

  pub kept_goes : (desk : Desk) (op : ℕ) (ask : Ask) (new : CallerState) → IsDesk d desk → new ≡ desk.caller → GoesFor op ask desk (record desk { caller = new })
  kept_goes desk op ask new is kept = subst (λ (c : CallerState). GoesFor op ask desk (record desk { caller = c })) (sym kept) (same_leads d desk is, λ apart wants ops its fits. fits)

  pub quiet_goes : (desk : Desk) (new : CallerState) → IsQuiet d desk new → IsDesk d desk → new.work.stamp ≡ desk.caller.work.stamp → (just_in new.phase ≡ None → just_in desk.caller.phase ≡ None) → (op : ℕ) (ask : Ask) → GoesFor op ask desk (record desk { caller = new })
  quiet_goes desk new quiet is same still op ask =
      let leads = calm_leads d desk new quiet is same in
      (leads, λ apart wants ops its. no_more_fits desk (record desk { caller = new }) leads quiet.grew still ops)
