-- A call by which the board would change.
use Rattle.std.proofs.Common.{◌≡◌, ℕ, ◌<◌, true, List, [], ◌∷◌, ◌++◌, Option, Some, None, inl, inr, refl, sym, ◌∙◌, ap, subst}
use Rattle.std.specs.Prelude.{IfSome}
use Rattle.xa_desk.specs.xa_types.declared.call.Op.{Op}
use Rattle.xa_desk.specs.xa_types.declared.fault.Fault.{Fault}
use Rattle.xa_desk.specs.xa_types.declared.fault.Fault.TheVariants.{Proto, Inval, Match, Limit, NoEnt}
use Rattle.xa_desk.specs.xa_types.declared.ids.CallerId.{CallerId}
use Rattle.xa_desk.specs.xa_types.declared.stamp.Stamp.{Stamp}
use Rattle.xa_desk.specs.xa_types.declared.reply.Reply.TheVariants as replies
use Rattle.xa_desk.specs.xa_events.declared.event.Event.{Event}
use Rattle.xa_desk.specs.xa_events.declared.event.Event.TheVariants.{Advertise, Withdraw}
use Rattle.xa_desk.specs.xa_events.declared.event.Evidence.{Evidence}
use Rattle.xa_desk.specs.xa_events.declared.event.Evidence.TheVariants.{Role, Argument, Routine, Rows, NoRow}
use Rattle.xa_desk.specs.xa_events.Caller.{version_in}
use Rattle.xa_desk.specs.xa_events.Said.{is_op, refusal_reply}
use Rattle.xa_desk.specs.xa_stamp.declared.home.Stamped.{Stamped}
use Rattle.xa_desk.specs.xa_worker.Work.{theirs}
use Rattle.xa_desk.specs.xa_caller.Caller.{CallerState, MayCall}
use Rattle.xa_desk.specs.xa_caller.Changes.{IsChangeBy, Refuses, changed_by, refused}
use Rattle.xa_desk.specs.declared.domain.Domain.{Domain}
use Rattle.xa_desk.specs.declared.desk.Desk.{Desk}
use Rattle.xa_desk.specs.Advertising.{HasSeen, IsChangeRefusal, ChangesAs, MovesAtBoard}
use Rattle.xa_desk.specs.Looks.{LookShowed}
use Rattle.xa_desk.specs.Steps.{FitsOp}
use Rattle.xa_calls.specs.Resting.{NotedOn, RestsOn, SawFull, full_shown}
use Rattle.xa_calls.specs.Going.{IsSame, FillsNone, PerformsBy}
use Rattle.xa_calls.specs.Telling.{IsQuiet, NotesOne, Closes, Changes, IsTold, told_by_error, told_of}
use Rattle.xa_calls.specs.declared.telling.Told.TheVariants as tells
use Rattle.xa_calls.proofs.Noting.{its_op, told_closed, told_changed, may_on}
use Rattle.xa_calls.proofs.Resting.{noted_one, noted_none, refused_noted, same_by}
use Rattle.xa_calls.proofs.Seating.{seat_fills}

module _ (d : Domain) (op : ℕ) (old new : Desk) where
  abbrev Noted : Type 0
  Noted = NotedOn (LookShowed old new) (SawFull d old new) old.caller.work.own new.caller.work.own

  -- what the caller is behind such a call
  pub record Left : Type 0 where
    pub same : IsSame old new
    pub fills : FillsNone old new
    pub noted : Noted
    pub idle : new.caller.phase ≡ old.caller.phase

  -- ---- it saw a stamp, or none

  pub seen_left : HasSeen new.caller old.caller → Left
  seen_left (inl still) = record {
    same = same_by old new _ (ap (λ (c : CallerState). c.work) still) refl refl refl;
    fills = seat_fills old new (ap (λ (c : CallerState). c.seat) still);
    noted = noted_none (LookShowed old new) (SawFull d old new) old.caller.work.own new.caller.work.own (ap (λ (c : CallerState). c.work.own) still);
    idle = ap (λ (c : CallerState). c.phase) still;
  }
  seen_left (inr (seen, made)) = record {
    same = same_by old new _ (ap (λ (c : CallerState). c.work) made) refl refl refl;
    fills = seat_fills old new (ap (λ (c : CallerState). c.seat) made);
    noted = noted_none (LookShowed old new) (SawFull d old new) old.caller.work.own new.caller.work.own (ap (λ (c : CallerState). c.work.own) made);
    idle = ap (λ (c : CallerState). c.phase) made;
  }

  pub seen_quiet : HasSeen new.caller old.caller → IsQuiet old new
  seen_quiet (inl still) = ap (λ (c : CallerState). c.work.own) still
  seen_quiet (inr (seen, made)) = ap (λ (c : CallerState). c.work.own) made

  -- ---- it changed the board

  module _ (stamp : Stamp) (version : ℕ) (event : Event) (by : IsChangeBy old.caller op version event) (made : new.caller ≡ changed_by stamp op version event old.caller) where
    rests_none : (e : Event) → IsChangeBy old.caller op version e → RestsOn (LookShowed old new) (SawFull d old new) e
    rests_none (Advertise a) by = (tt, tt)
    rests_none (Withdraw w) by = (tt, tt)
    rests_none e by = absurd by

    changed_left : Left
    changed_left = record {
      same = same_by old new _ (ap (λ (c : CallerState). c.work) made) refl refl refl;
      fills = seat_fills old new (ap (λ (c : CallerState). c.seat) made);
      noted = noted_one (LookShowed old new) (SawFull d old new) old.caller.work.own new.caller.work.own (record { stamp = stamp; event = event }) (ap (λ (c : CallerState). c.work.own) made) (rests_none event by);
      idle = ap (λ (c : CallerState). c.phase) made;
    }

    changed_op : (e : Event) → 0 < op → IsChangeBy old.caller op version e → is_op old.caller.work.id.0 op e ≡ true
    changed_op (Advertise a) above (by, number, queue, its) = subst (λ n. is_op old.caller.work.id.0 op (Advertise (record a { op = n })) ≡ true) (sym number) (its_op a.by.0 old.caller.work.id.0 op (ap (λ (i : CallerId). i.0) by) above)
    changed_op (Withdraw w) above (by, number, queue, its) = subst (λ n. is_op old.caller.work.id.0 op (Withdraw (record w { op = n })) ≡ true) (sym number) (its_op w.by.0 old.caller.work.id.0 op (ap (λ (i : CallerId). i.0) by) above)
    changed_op e above by = absurd by

    changes : (e : Event) → IsChangeBy old.caller op version e → Changes e (theirs old.caller.work)
    changes (Advertise a) by = tt
    changes (Withdraw w) by = tt
    changes e by = absurd by

    abbrev changed_one : 0 < op → NotesOne op Changes old new
    changed_one above = record { noted = record { stamp = stamp; event = event }; own = ap (λ (c : CallerState). c.work.own) made; its = changed_op event above by; shows = changes event by }

  -- ---- it was refused

  -- such a refusal names no version and no queue, and is told as its error
  no_names : (fault : Fault) (evidence : Evidence) → IsChangeRefusal fault evidence → IfSome (version_in evidence) (LookShowed old new) × IfSome (full_shown evidence) (SawFull d old new) × (refusal_reply fault evidence ≡ replies.Fault fault)
  no_names Proto Role is = (tt, tt, refl)
  no_names Inval Argument is = (tt, tt, refl)
  no_names Match (Routine found) is = (tt, tt, refl)
  no_names Limit (Rows n) is = (tt, tt, refl)
  no_names NoEnt NoRow is = (tt, tt, refl)
  no_names _ _ is = absurd is

  module _ (mid : CallerState) (seen : HasSeen mid old.caller) (fault : Fault) (evidence : Evidence) (stamp : Stamp) (refuses : Refuses op fault evidence stamp new.caller mid) (names : IfSome (version_in evidence) (LookShowed old new) × IfSome (full_shown evidence) (SawFull d old new)) where
    -- but for what it saw, the caller was as before
    pub record Before : Type 0 where
      pub id : mid.work.id ≡ old.caller.work.id
      pub clients : mid.work.clients ≡ old.caller.work.clients
      pub room : mid.work.room ≡ old.caller.work.room
      pub own : mid.work.own ≡ old.caller.work.own
      pub seat : mid.seat ≡ old.caller.seat
      pub phase : mid.phase ≡ old.caller.phase

    before_by : HasSeen mid old.caller → Before
    before_by (inl still) = record { id = ap (λ (c : CallerState). c.work.id) still; clients = ap (λ (c : CallerState). c.work.clients) still; room = ap (λ (c : CallerState). c.work.room) still; own = ap (λ (c : CallerState). c.work.own) still; seat = ap (λ (c : CallerState). c.seat) still; phase = ap (λ (c : CallerState). c.phase) still }
    before_by (inr (seen, made)) = record { id = ap (λ (c : CallerState). c.work.id) made; clients = ap (λ (c : CallerState). c.work.clients) made; room = ap (λ (c : CallerState). c.work.room) made; own = ap (λ (c : CallerState). c.work.own) made; seat = ap (λ (c : CallerState). c.seat) made; phase = ap (λ (c : CallerState). c.phase) made }

    before : Before
    before = before_by seen

    pub refused_left : Left
    refused_left = record {
      same = same_by old new _ (ap (λ (c : CallerState). c.work) refuses.made) before.id before.clients before.room;
      fills = seat_fills old new (ap (λ (c : CallerState). c.seat) refuses.made ∙ before.seat);
      noted = subst (λ (xs : List Stamped). NotedOn (LookShowed old new) (SawFull d old new) xs new.caller.work.own) before.own
          (refused_noted (LookShowed old new) (SawFull d old new) op fault evidence stamp mid new.caller names.0 names.1 refuses);
      idle = ap (λ (c : CallerState). c.phase) refuses.made ∙ before.phase;
    }

    pub refused_one : (P : Event → List Event → Type 0) → P (refused op fault evidence mid) (theirs old.caller.work) → 0 < op → (one : NotesOne op P old new) × (one.noted.event ≡ refused op fault evidence mid)
    refused_one P holds above = (
      record {
        noted = record { stamp = stamp; event = refused op fault evidence mid };
        own = ap (λ (c : CallerState). c.work.own) refuses.made ∙ ap (λ (xs : List Stamped). xs ++ record { stamp = stamp; event = refused op fault evidence mid } ∷ []) before.own;
        its = its_op mid.work.id.0 old.caller.work.id.0 op (ap (λ (i : CallerId). i.0) before.id) above;
        shows = holds;
      },
      refl,
    )

  -- ---- either

  pub change_left : (told : Option Fault) → ChangesAs op told new.caller old.caller → Left
  change_left None (stamp, version, event, by, made) = changed_left stamp version event by made
  change_left (Some fault) (mid, seen, evidence, stamp, told) = let names = no_names fault evidence told.1 in refused_left mid seen fault evidence stamp told.0 (names.0, names.1)

  refusal_one : (mid : CallerState) → HasSeen mid old.caller → (fault : Fault) (evidence : Evidence) (stamp : Stamp) → Refuses op fault evidence stamp new.caller mid → IsChangeRefusal fault evidence → 0 < op → (one : NotesOne op Closes old new) × (told_of one.noted.event ≡ tells.Fault fault)
  refusal_one mid seen fault evidence stamp refuses is above = let names = no_names fault evidence is in let one = refused_one mid seen fault evidence stamp refuses (names.0, names.1) Closes names.2 above in (one.0, ap told_of one.1)

  pub change_told : (told : Option Fault) → 0 < op → ChangesAs op told new.caller old.caller → IsSame old new → IsTold (told_by_error told) op old new
  change_told None above (stamp, version, event, by, made) same = told_changed op old new same (changed_one stamp version event by made above)
  change_told (Some fault) above (mid, seen, evidence, stamp, told) same = let one = refusal_one mid seen fault evidence stamp told.0 told.1 above in told_closed (told_by_error (Some fault)) op old new same one.0 (sym one.1)

  pub change_active : (told : Option Fault) → 0 < op → ChangesAs op told new.caller old.caller → IsSame old new → MayCall old.caller → MayCall new.caller
  change_active None above (stamp, version, event, by, made) same = may_on op Changes old new same (changed_one stamp version event by made above)
  change_active (Some fault) above (mid, seen, evidence, stamp, told) same = may_on op Closes old new same (refusal_one mid seen fault evidence stamp told.0 told.1 above).0

  -- the worker went on by it
  pub change_goes : (change : Op) → MovesAtBoard d old new → FitsOp d op change old new → Left → PerformsBy d op change old new
  change_goes change moves fits left = record { leads = moves.leads; fits = fits; same = left.same; fills = left.fills; board = moves.board; looked = left.noted }
