-- How a client's worker makes its calls, and leaves.
use Rattle.std.proofs.Common.{◌≡◌, ℕ, suc, ◌+◌, ◌<◌, ◌==◌, ◌&&◌, Bool, true, false, if◌then◌else◌, List, [], ◌∷◌, length, Option, Some, None, Result, Ok, Err, OnOk, inl, inr, refl, sym, ◌∙◌, ap, subst, arith}
use Rattle.std.specs.Prelude.{get_or, IfErr, IfSome}
use Rattle.std.specs.List.{find, Contains}
use Rattle.std.proofs.lemmas.List.Elements.{Contains-push}
use Rattle.std.proofs.lemmas.Option.{slice_get_read}
use Rattle.xa_desk.specs.xa_types.declared.call.Op.{Op}
use Rattle.xa_desk.specs.xa_types.declared.ids.CallerId.{CallerId}
use Rattle.xa_desk.specs.xa_types.declared.ids.RequestId.{RequestId}
use Rattle.xa_desk.specs.xa_types.declared.stamp.Stamp.{Stamp}
use Rattle.xa_desk.specs.xa_types.Setup.{numbered}
use Rattle.xa_desk.specs.xa_events.declared.event.Event.{Event}
use Rattle.xa_desk.specs.xa_events.declared.event.Event.TheVariants.{Cancel, Leave}
use Rattle.xa_desk.specs.xa_events.Caller.{is_call_of, newest_call, op_of, last_op}
use Rattle.xa_desk.specs.xa_events.Local.{worker_events}
use Rattle.xa_desk.specs.xa_worker.Seen.{past_in}
use Rattle.xa_desk.specs.xa_stamp.declared.home.Stamped.{Stamped}
use Rattle.xa_desk.specs.xa_worker.declared.work.Halt.{Halt}
use Rattle.xa_desk.specs.xa_worker.declared.work.Halt.TheVariants.{NoMemory, Worn}
use Rattle.xa_desk.specs.xa_worker.Work.{WorkState, theirs, noted, noted_here, HaltsAt}
use Rattle.xa_desk.specs.xa_worker.Going.{FitEach}
use Rattle.xa_desk.proofs.xa_worker.Noting.{theirs-more}
use Rattle.xa_desk.specs.xa_caller.Caller.{IsSound}
use Rattle.xa_desk.specs.xa_caller.declared.phase.Open.{Open}
use Rattle.xa_desk.specs.xa_caller.declared.phase.Phase.{Phase}
use Rattle.xa_desk.specs.xa_caller.declared.phase.Phase.TheVariants.{Idle}
use Rattle.xa_desk.specs.xa_caller.Changes.{GivesUp, LeavesAs}
use Rattle.xa_desk.specs.declared.domain.Domain.{Domain}
use Rattle.xa_desk.specs.declared.desk.Desk.{Desk}
use Rattle.xa_desk.specs.declared.stopped.Stopped.{Stopped}
use Rattle.xa_desk.specs.declared.stopped.Stopped.TheVariants.{Here, Elsewhere}
use Rattle.xa_desk.specs.Whole.{entries_of}
use Rattle.xa_desk.specs.Desks.{Leads, IsOver}
use Rattle.xa_desk.specs.Halting.{IsHaltAt, IsStopAt}
use Rattle.xa_desk.specs.Parting.{FitsStill}
use Rattle.xa_desk.proofs.Leading.{leads_trans}
use Rattle.xa_client_worker.specs.declared.working.Ended.{Ended}
use Rattle.xa_calls.specs.Going.{IsReady as IsReadyAt, IsSame, PerformsBy}
use Rattle.xa_calls.proofs.Going.{same_trans}
use Rattle.xa_calls.proofs.Resting.{same_by}
use Rattle.xa_client_worker.specs.Going.{IsReady}
use Rattle.xa_client_worker.specs.Ending.{FitsBy, GoesThrough, HasMade, HasEnded, HasStopped, here_by}

-- ---- its calls

module _ (d : Domain) (ops : List Op) where
  pub through_one : (a b c : Desk) (k : ℕ) (op : Op) → k < length ops → op ≡ get_or ops k op → GoesThrough d ops a b → PerformsBy d (k + 1) op b c → GoesThrough d ops a c
  through_one a b c k op low at ab bc =
      let on : k + 1 ≡ suc k = omega arith in
      record {
        leads = leads_trans d a b c ab.leads bc.leads;
        fits = λ fits. bc.fits ops (ap (λ (n : ℕ). numbered n ops) on ∙ slice_get_read ops (length ops) k op refl low at) (ab.fits fits);
        same = same_trans a b c ab.same bc.same;
      }

-- a client's desk is ready for the call behind the one that was made
pub ready_behind : (d : Domain) (op n : ℕ) (a b : Desk) → IsReady d op a → IsSame a b → IsReadyAt d n b → IsReady d n b
ready_behind d op n a b before same ready = record { is = ready.is; client = rw same.clients (rw same.id before.client); idle = ready.idle; made = ready.made }

-- ---- it leaves

-- that it leaves is of no call, and no call gives up what is out
called_before : (w : WorkState) (stamp : Stamp) → newest_call w.id.0 (theirs (noted (record { stamp = stamp; event = Leave w.id }) w)) ≡ newest_call w.id.0 (theirs w)
unfolding newest_call
called_before w stamp = ap (find (is_call_of w.id.0)) (theirs-more w (record { stamp = stamp; event = Leave w.id }) refl)

of_none : (b : Bool) → (b && false) ≡ false
of_none true = refl
of_none false = refl

cancelled_before : (w : WorkState) (stamp : Stamp) (request : RequestId) → newest_call w.id.0 (theirs (noted_here (record { stamp = stamp; event = Cancel (record { by = w.id; op = 0; request = request }) }) w)) ≡ newest_call w.id.0 (theirs w)
unfolding newest_call
cancelled_before w stamp request =
    let e : Event = Cancel (record { by = w.id; op = 0; request = request }) in
    ap (find (is_call_of w.id.0)) (theirs-more w (record { stamp = stamp; event = e }) refl) ∙ ap (λ (b : Bool). if b then Some e else find (is_call_of w.id.0) (theirs w)) (of_none (w.id.0 == w.id.0))

-- what is out was given up
gives_same : (given : List Open) (new old : WorkState) → GivesUp given new old → (new.id ≡ old.id) × (new.clients ≡ old.clients)
gives_same [] new old same = (ap (λ (w : WorkState). w.id) same, ap (λ (w : WorkState). w.clients) same)
gives_same (o ∷ os) new old (stamp, next, rest) = gives_same os new _ rest

gives_newest : (given : List Open) (new old : WorkState) → GivesUp given new old → newest_call old.id.0 (theirs new) ≡ newest_call old.id.0 (theirs old)
gives_newest [] new old same = ap (λ (w : WorkState). newest_call old.id.0 (theirs w)) same
gives_newest (o ∷ os) new old (stamp, next, rest) = gives_newest os new _ rest ∙ cancelled_before old stamp o.request

module _ (d : Domain) (desk : Desk) where
  pub leaves_same : (ended : Desk) (halt : Option Halt) → LeavesAs desk.caller.out halt ended.caller.work desk.caller.work → IsSame desk ended
  leaves_same ended None (inl (client, (left, gives, last))) =
      let same = gives_same desk.caller.out left desk.caller.work gives in
      record { id = ap (λ (w : WorkState). w.id) last.2 ∙ same.0; clients = ap (λ (w : WorkState). w.clients) last.2 ∙ same.1; room = λ server. absurd (cc (sym server ∙ client)) }
  leaves_same ended None (inr (server, same)) = same_by desk ended _ same refl refl refl
  leaves_same ended (Some halt) (client, (given, rest, all, gives, halts)) =
      let same = gives_same given ended.caller.work desk.caller.work gives in
      record { id = same.0; clients = same.1; room = λ server. absurd (cc (sym server ∙ client)) }

  -- where it came to no halt it has made its calls
  pub leaves_made : (ended : Desk) (halt : Option Halt) → IsReady d desk.caller.op desk → IsSound desk.caller → here_by halt ≡ None → ended.caller.phase ≡ Idle → LeavesAs desk.caller.out halt ended.caller.work desk.caller.work → HasMade desk.caller.op ended
  leaves_made ended None ready sound none idle (inl (client, (left, gives, last))) =
      let w = desk.caller.work in
      let same = gives_same desk.caller.out left w gives in
      let x : Stamped = record { stamp = last.0; event = Leave w.id } in
      let newest : newest_call left.id.0 (theirs (noted (record { stamp = last.0; event = Leave left.id }) left)) ≡ newest_call w.id.0 (theirs w) = called_before left last.0 ∙ ap (λ (id : CallerId). newest_call id.0 (theirs left)) same.0 ∙ gives_newest desk.caller.out left w gives in
      let made : ended.caller.work ≡ noted (record { stamp = last.0; event = Leave left.id }) left = last.2 ∙ ap (λ (id : CallerId). noted (record { stamp = last.0; event = Leave id }) left) (sym same.0) in
      record {
        last = subst (λ (v : WorkState). last_op v.id.0 (theirs v) ≡ desk.caller.op) (sym made) (ap op_of newest ∙ sound.reads.called);
        idle = idle;
        left = subst (λ (v : WorkState). Contains v.own (record { stamp = v.stamp; event = Leave v.id })) (sym made) (Contains-push left.own (record { stamp = last.0; event = Leave left.id }));
      }
  leaves_made ended None ready sound none idle (inr (server, same)) = absurd (cc (sym ready.client ∙ server))
  leaves_made ended (Some halt) ready sound none idle leaves = absurd (cc none)

  -- where its caller came to a halt as it left, that is why
  pub leaves_halted : (ended : Desk) (halt : Option Halt) → LeavesAs desk.caller.out halt ended.caller.work desk.caller.work → IfSome (here_by halt) (IsStopAt ended)
  leaves_halted ended None leaves = tt
  leaves_halted ended (Some halt) (client, (given, rest, all, gives, halts)) = halted_at halt halts
    where
      halted_at : (why : Halt) → HaltsAt ended.caller.work.stamp why → IsHaltAt ended why
      halted_at NoMemory so = tt
      halted_at (Worn stamp) so = (so.1, so.0)

  pub stopped_still : (ended : Desk) (stopped : Stopped) → ended.caller.work ≡ desk.caller.work → IsStopAt desk stopped → IsStopAt ended stopped
  stopped_still ended (Here NoMemory) same stop = tt
  stopped_still ended (Here (Worn stamp)) same stop = (stop.0, ap (λ (w : WorkState). w.stamp.0) same ∙ stop.1)
  stopped_still ended Elsewhere same stop = tt

  pub given_up_fits : (ended : Desk) → Leads d desk ended → ended.caller.work ≡ desk.caller.work → ended.caller.phase ≡ desk.caller.phase → FitsStill d desk ended
  given_up_fits ended leads work phase ops fits = record {
    each = λ whole on. subst (λ (w : WorkState). FitEach d.setup d.clients (entries_of whole) w.id.0 ops w.own) (sym work) (fits.each whole (leads.before whole on));
    over = subst (λ (p : Phase). IsOver p ops (newest_call ended.caller.work.id.0 (worker_events d.clients ended.caller.work.id.0 (past_in ended.caller.work.own)))) (sym phase)
        (subst (λ (w : WorkState). IsOver desk.caller.phase ops (newest_call w.id.0 (worker_events d.clients w.id.0 (past_in w.own)))) (sym work) fits.over);
  }

  pub ready_itself : {U : Type 0} (made : Result U Stopped) (n : ℕ) → OnOk made (IsReady d n desk) → OnOk made (IsReady d desk.caller.op desk)
  ready_itself (Ok done) n ready = subst (λ (k : ℕ). IsReady d k desk) (sym ready.made) ready
  ready_itself (Err stopped) n ready = tt

  -- behind these calls
  pub ended_through : {U : Type 0} (first : Desk) (ops : List Op) (n : ℕ) (made : Result U Stopped) (result : Ended) → GoesThrough d ops first desk → OnOk made (IsReady d n desk) → IfErr made (λ stopped. HasStopped stopped desk result)
      → HasEnded d (FitsStill d) desk.caller.op desk result → HasEnded d (FitsBy d ops) n first result
  ended_through first ops n made result goes ready stopped ended = record {
    ended = ended.ended;
    left = ended.left;
    leads = leads_trans d first desk ended.ended goes.leads ended.leads;
    fits = λ fits. ended.fits ops (goes.fits fits);
    same = same_trans first desk ended.ended goes.same ended.same;
    all = λ none. all made ready stopped none;
    halts = ended.halts;
  }
    where
      all : {U : Type 0} (made : Result U Stopped) → OnOk made (IsReady d n desk) → IfErr made (λ stopped. HasStopped stopped desk result) → result.stopped ≡ None → HasMade n ended.ended
      all (Ok done) ready stopped none = subst (λ (k : ℕ). HasMade k ended.ended) ready.made (ended.all none)
      all (Err why) ready stopped none = absurd (cc (sym none ∙ stopped.why))
