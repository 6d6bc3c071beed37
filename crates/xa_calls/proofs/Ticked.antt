-- A tick.
use Rattle.std.proofs.Common.{◌≡◌, ℕ, ◌<◌, true, false, List, Option, Some, None, Result, Ok, Err, ◌==◌, if◌then◌else◌, inl, inr, refl, sym, ◌∙◌, ap, subst}
use Rattle.std.specs.Prelude.{IfSome}
use Rattle.std.proofs.lemmas.Bool.{cases_Bool}
use Rattle.xa_desk.specs.xa_types.declared.call.Op.TheVariants.{Tick as TickOp}
use Rattle.xa_desk.specs.xa_types.declared.fault.Fault.{Fault}
use Rattle.xa_desk.specs.xa_types.declared.fault.Fault.TheVariants.{Proto, Limit}
use Rattle.xa_desk.specs.xa_types.declared.ids.CallerId.{CallerId}
use Rattle.xa_desk.specs.xa_types.declared.stamp.Stamp.{Stamp}
use Rattle.xa_desk.specs.xa_types.declared.reply.Reply.TheVariants as replies
use Rattle.xa_desk.specs.xa_events.declared.event.Evidence.{Evidence}
use Rattle.xa_desk.specs.xa_events.declared.event.Evidence.TheVariants.{Role, Clock}
use Rattle.xa_desk.specs.xa_events.Caller.{version_in, is_client}
use Rattle.xa_desk.specs.xa_events.Said.{refusal_reply}
use Rattle.xa_desk.specs.xa_worker.Work.{theirs}
use Rattle.xa_desk.specs.xa_caller.Caller.{CallerState, MayCall}
use Rattle.xa_desk.specs.xa_caller.Changes.{Refuses, refused, tick_of, ticked_by}
use Rattle.xa_desk.specs.declared.domain.Domain.{Domain}
use Rattle.xa_desk.specs.declared.desk.Desk.{Desk}
use Rattle.xa_desk.specs.Advertising.{HasSeen}
use Rattle.xa_desk.specs.Looks.{LookShowed}
use Rattle.xa_desk.specs.Steps.{FitsOp}
use Rattle.xa_desk.specs.Ticking.{IsTickRefusal, MovesAtClock, RefusesTick, TicksAs}
use Rattle.xa_calls.specs.Resting.{SawFull, full_shown}
use Rattle.xa_calls.specs.Going.{IsSame, PerformsBy}
use Rattle.xa_calls.specs.Telling.{NotesOne, Ticks, RefusesWith, IsTold, told_by_clock}
use Rattle.xa_calls.proofs.Changed.{Left, refused_left, refused_one}
use Rattle.xa_calls.proofs.Noting.{its_op, told_ticked, told_stopped, may_on}
use Rattle.xa_calls.proofs.Resting.{noted_one, same_by, board_same}
use Rattle.xa_calls.proofs.Seating.{seat_fills}

module _ (d : Domain) (op : ℕ) (old new : Desk) where
  -- ---- the clock was moved on

  module _ (stamp : Stamp) (tick : ℕ) (made : new.caller ≡ ticked_by stamp op tick old.caller) where
    ticked_left : Left d op old new
    ticked_left = record {
      same = same_by old new _ (ap (λ (c : CallerState). c.work) made) refl refl refl;
      fills = seat_fills old new (ap (λ (c : CallerState). c.seat) made);
      noted = noted_one (LookShowed old new) (SawFull d old new) old.caller.work.own new.caller.work.own (record { stamp = stamp; event = tick_of old.caller.work.id op tick }) (ap (λ (c : CallerState). c.work.own) made) (tt, tt);
      idle = ap (λ (c : CallerState). c.phase) made;
    }

    ticked_one : 0 < op → NotesOne op (Ticks tick) old new
    ticked_one above = record {
      noted = record { stamp = stamp; event = tick_of old.caller.work.id op tick };
      own = ap (λ (c : CallerState). c.work.own) made;
      its = its_op old.caller.work.id.0 old.caller.work.id.0 op refl above;
      shows = refl;
    }

  -- ---- it was refused

  no_names : (mid : CallerState) (fault : Fault) (evidence : Evidence) → IsTickRefusal mid fault evidence → IfSome (version_in evidence) (LookShowed old new) × IfSome (full_shown evidence) (SawFull d old new) × (refusal_reply fault evidence ≡ replies.Fault fault)
  no_names mid Proto Role is = (tt, tt, refl)
  no_names mid Limit (Clock tick) is = (tt, tt, refl)
  no_names mid _ _ is = absurd is

  -- a server's refusal names no tick
  module _ (mid : CallerState) (seen : HasSeen mid old.caller) (fault : Fault) (evidence : Evidence) (stamp : Stamp) (told : RefusesTick op fault evidence stamp new.caller mid) where
    stopped_left : Left d op old new
    stopped_left = let names = no_names mid fault evidence told.1 in refused_left d op old new mid seen fault evidence stamp told.0 (names.0, names.1)

    stopped_one : 0 < op → (one : NotesOne op (RefusesWith fault) old new) × (one.noted.event ≡ refused op fault evidence mid)
    stopped_one above = let names = no_names mid fault evidence told.1 in refused_one d op old new mid seen fault evidence stamp told.0 (names.0, names.1) (RefusesWith fault) names.2 above

  -- ---- either

  pub tick_left : (told : Result ℕ Fault) → TicksAs op told new.caller old.caller → Left d op old new
  tick_left (Ok tick) (client, stamp, made) = ticked_left stamp tick made
  tick_left (Err fault) (mid, seen, evidence, stamp, told) = stopped_left mid seen fault evidence stamp told

  pub tick_told : (told : Result ℕ Fault) → 0 < op → TicksAs op told new.caller old.caller → IsSame old new → IsTold (told_by_clock told) op old new
  tick_told (Ok tick) above (client, stamp, made) same = told_ticked op tick old new same client (ticked_one stamp tick made above)
  tick_told (Err fault) above (mid, seen, evidence, stamp, told) same = let one = stopped_one mid seen fault evidence stamp told above in told_stopped op fault old new same one.0

  pub tick_active : (told : Result ℕ Fault) → 0 < op → TicksAs op told new.caller old.caller → IsSame old new → MayCall old.caller → MayCall new.caller
  tick_active (Ok tick) above (client, stamp, made) same = may_on op (Ticks tick) old new same (ticked_one stamp tick made above)
  tick_active (Err fault) above (mid, seen, evidence, stamp, told) same = may_on op (RefusesWith fault) old new same (stopped_one mid seen fault evidence stamp told above).0

  -- the worker went on by it
  pub tick_goes : (n : ℕ) → MovesAtClock d old new → FitsOp d op (TickOp n) old new → Left d op old new → PerformsBy d op (TickOp n) old new
  tick_goes n moves fits left = record { leads = moves.leads; fits = fits; same = left.same; fills = left.fills; board = board_same old new moves.board; looked = left.noted }
