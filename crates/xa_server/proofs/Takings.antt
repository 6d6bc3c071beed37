-- The filling that a caller's seat took for the answer that it is told.
use Rattle.std.proofs.Common.{◌≡◌, ℕ, zero, suc, List, [], ◌∷◌, ◌++◌, Option, refl, sym, ◌∙◌, ap, subst, arith}
use Rattle.std.specs.Prelude.{slice_set}
use Rattle.std.specs.List.{Contains}
use Rattle.std.proofs.lemmas.List.Elements.{Contains-push, All-same, All-push}
use Rattle.xa_caller.specs.xa_types.declared.data.Kind.{Kind}
use Rattle.xa_caller.specs.xa_types.declared.reply.Answer.{Answer as Reply}
use Rattle.xa_caller.specs.xa_types.declared.ids.RequestId.{RequestId}
use Rattle.xa_caller.specs.xa_types.declared.stamp.Stamp.{Stamp}
use Rattle.xa_caller.specs.xa_events.declared.event.Event.TheVariants.{Answer}
use Rattle.xa_caller.specs.xa_events.declared.event.Replied.{Replied}
use Rattle.xa_caller.specs.xa_events.Answers.{answer_to}
use Rattle.xa_caller.specs.xa_stamp.declared.home.Stamped.{Stamped}
use Rattle.xa_caller.specs.xa_cell.declared.view.Fill.{Fill}
use Rattle.xa_caller.specs.xa_cell.declared.view.Part.{Part}
use Rattle.xa_caller.specs.xa_cell.declared.view.View.{View}
use Rattle.xa_caller.specs.xa_cell.Views.{nth, at, opening, fill}
use Rattle.xa_caller.specs.xa_cell.Changes.{looked, took}
use Rattle.xa_caller.specs.xa_cell.Known.{known}
use Rattle.xa_caller.specs.declared.cargo.Filling.{Filling}
use Rattle.xa_caller.specs.Caller.{CallerState}
use Rattle.xa_caller.specs.Changes.{Answers}
use Rattle.xa_caller.proofs.xa_cell.Growing.{looked_keeps}
use Rattle.xa_server.specs.Growing.{Grows}
use Rattle.xa_server.specs.Fillings.{TookFor, WasTaken, AnswersTaken}
use Rattle.xa_server.proofs.Calls.{took_is_more}
use Rattle.xa_server.proofs.Ends.{all_taken}
use Rattle.xa_server.proofs.Growth.{keeps_grows, takes_grows, both_grow}

-- a part that is put where a place is open is there
nth-set : (ps : List (Part Filling)) (k : ℕ) (p : Part Filling) (q : RequestId) → (nth ps k).asked ≡ q ∷ [] → nth (slice_set ps k p) k ≡ p
nth-set [] k p q asked = cc asked
nth-set (x ∷ ps) zero p q asked = refl
nth-set (x ∷ ps) (suc k) p q asked = nth-set ps k p q asked

-- the answer that the caller is told
abbrev told_by : Option Kind → CallerState → RequestId → Reply → Replied
told_by expect c request reply = record { by = c.work.id; op = c.op; request = request; answer = answer_to expect reply }

pub took_one : (expect : Option Kind) (stamp : Stamp) (new old : CallerState) (answers : Answers expect stamp new old) → TookFor (known new.seat) stamp (told_by expect old answers.sent.request answers.reply)
took_one expect stamp new old answers =
    let k : ℕ = answers.sent.place.cell in
    let v : View Filling = known old.seat in
    let p : Part Filling = at k v in
    let seen : View Filling = looked k 0 v in
    let q : RequestId = answers.took.0 in
    let same : at k seen ≡ record p { settled = 1 } = nth-set v.parts k (record p { settled = 1 }) answers.sent.request answers.asked in
    let asked : q ∷ [] ≡ answers.sent.request ∷ [] = sym answers.took.1 ∙ ap (λ (x : Part Filling). x.asked) same ∙ answers.asked in
    let one : Fill Filling = fill (opening (at k seen).count q) answers.filling in
    let after : Part Filling = record (at k seen) { asked = []; settled = 1; taken = (at k seen).taken ++ one ∷ [] } in
    let there : at k (took k q answers.filling seen) ≡ after = nth-set seen.parts k after q answers.took.1 in
    let next = answers.noted.next in
    record {
      cell = k;
      fill = one;
      expect = expect;
      taken = subst (λ (w : View Filling). Contains (at k w).taken one) (sym answers.took.2) (subst (λ (y : Part Filling). Contains y.taken one) (sym there) (Contains-push (at k seen).taken one));
      request = cc asked;
      reply = answers.reply;
      says = answers.says;
      before = omega (arith, next);
      told = refl;
    }

pub has_taken : (expect : Option Kind) (stamp : Stamp) (new old : CallerState) → Answers expect stamp new old → (a : Replied) × Contains new.work.own (record { stamp = stamp; event = Answer a }) × TookFor (known new.seat) stamp a
has_taken expect stamp new old answers =
    let a : Replied = told_by expect old answers.sent.request answers.reply in
    let x : Stamped = record { stamp = stamp; event = Answer a } in
    let own : new.work.own ≡ old.work.own ++ x ∷ [] = ap (λ (s : CallerState). s.work.own) answers.noted.made in
    (a, subst (λ (l : List Stamped). Contains l x) (sym own) (Contains-push old.work.own x), took_one expect stamp new old answers)

-- the answers before it too
pub all_answers : (expect : Option Kind) (stamp : Stamp) (new old : CallerState) → Answers expect stamp new old → AnswersTaken (known old.seat) old.work.own → AnswersTaken (known new.seat) new.work.own
all_answers expect stamp new old answers before =
    let k : ℕ = answers.sent.place.cell in
    let v : View Filling = known old.seat in
    let w : View Filling = known new.seat in
    let seen : View Filling = looked k 0 v in
    let grows : Grows v w = both_grow v seen w (keeps_grows v seen (looked_keeps k 0 v)) (takes_grows k answers.filling seen w (took_is_more k answers.filling seen w answers.took)) in
    let a : Replied = record { by = old.work.id; op = old.op; request = answers.sent.request; answer = answer_to expect answers.reply } in
    let x : Stamped = record { stamp = stamp; event = Answer a } in
    let own : new.work.own ≡ old.work.own ++ x ∷ [] = ap (λ (s : CallerState). s.work.own) answers.noted.made in
    All-same (λ (y : Stamped). WasTaken w y.stamp y.event) new.work.own (old.work.own ++ x ∷ []) own
    (All-push (λ (y : Stamped). WasTaken w y.stamp y.event) old.work.own x (all_taken old.work.own v w grows before) (took_one expect stamp new old answers))
