-- How a client's lines go on at the next event.
use Rattle.std.proofs.Common.{◌≡◌, ℕ, zero, suc, ◌+◌, ◌<◌, ◌≤◌, ◌==◌, true, false, List, [], ◌∷◌, ◌++◌, length, take, drop, reverse, get_or, Option, Some, None, inl, inr, refl, sym, ◌∙◌, ap, subst, arith, nat_lt, eq-eqb, append_assoc}
use Rattle.std.proofs.lemmas.Bool.{ne_eqb, cases_Bool, ltb-true}
use Rattle.std.proofs.lemmas.List.{append-nil, take_more, length-append, length-take-le, take-append-drop, reverse-append}
use Rattle.std.proofs.Math.Seq.{take-append_seam, take-length}
use Rattle.xa_events.specs.declared.event.Event.{Event}
use Rattle.xa_events.specs.Caller.{call_in, number_in, is_numbered_by, is_call_of, op_in, last_op, newest_call}
use Rattle.xa_events.specs.Said.{reply_at, reply_shown_by}
use Rattle.xa_events.specs.Words.{AtEach}
use Rattle.xa_text.specs.Line.{line_text}
use Rattle.xa_text.specs.Telling.{IsTold}
use Rattle.xa_text.specs.InTurn.{IsInTurn, CallsInTurn}
use Rattle.xa_text.specs.Transcript.{lines_up_to}
use Rattle.xa_text.proofs.InTurn.{both}

-- ---- the replies

pub reply_here : (client : ℕ) (e : Event) (past : List Event) → is_call_of client e ≡ true → reply_at (e ∷ past) client (op_in e) ≡ reply_shown_by e past
unfolding reply_at
reply_here client e past is = rw (is, eq-eqb (op_in e) (op_in e) refl) refl

pub reply_there : (client op : ℕ) (e : Event) (past : List Event) → (op_in e ≡ op → ⊥) → reply_at (e ∷ past) client op ≡ reply_at past client op
unfolding reply_at
reply_there client op e past other = elim (cases_Bool (is_call_of client e)) [
  | inl is ↦ rw (is, ne_eqb (op_in e) op other) refl
  | inr not ↦ rw not refl
]

pub reply_of_others : (client op : ℕ) (e : Event) (past : List Event) → is_call_of client e ≡ false → reply_at (e ∷ past) client op ≡ reply_at past client op
unfolding reply_at
reply_of_others client op e past not = rw not refl

-- the lines of the first calls stay as they are where their replies do
pub lines_kept : (name : List ℕ) (client : ℕ) (before after : List Event) (n : ℕ) → ((k : ℕ) → k ≤ n → reply_at after client k ≡ reply_at before client k) → lines_up_to name client after n ≡ lines_up_to name client before n
lines_kept name client before after zero kept = refl
lines_kept name client before after (suc n) kept =
    ap (λ lines. lines ++ line_text name (suc n) (reply_at after client (suc n))) (lines_kept name client before after n (λ k low. kept k (omega (arith, low))))
    ∙ ap (λ reply. lines_up_to name client before n ++ line_text name (suc n) reply) (kept (suc n) (omega arith))

-- ---- the next event

-- it isn't of a call of the client
pub passed_over : (front name : List ℕ) (client : ℕ) (past : List Event) (op start : ℕ) (text : List ℕ) (e : Event) → is_call_of client e ≡ false
    → IsTold front name client past op start text → IsTold front name client (e ∷ past) op start text
unfolding newest_call
passed_over front name client past op start text e not old =
    let kept = λ (n : ℕ). lines_kept name client past (e ∷ past) n (λ k low. reply_of_others client k e past not) in
    record {
      last = rw not old.last;
      whole = old.whole ∙ ap (λ lines. front ++ lines) (sym (kept op));
      before = λ k is. old.before k is ∙ ap (λ lines. front ++ lines) (sym (kept k));
      within = old.within;
    }

pub last_is : (client : ℕ) (past : List Event) (e : Event) → is_call_of client e ≡ true → last_op client (e ∷ past) ≡ op_in e
unfolding newest_call
last_is client past e is = rw is refl

-- it is of the client's call with that number, and the lines of the calls before stand behind the front
told_at : (front name : List ℕ) (client : ℕ) (past : List Event) (text : List ℕ) (e : Event) (m now begin : ℕ) (new : List ℕ) → is_call_of client e ≡ true → now ≡ op_in e → now ≡ suc m
    → begin ≤ length text → take begin text ≡ front ++ lines_up_to name client past m → new ≡ take begin text ++ line_text name now (reply_shown_by e past)
    → IsTold front name client (e ∷ past) now begin new
told_at front name client past text e m now begin new is of one fits base made =
    let kept = lines_kept name client past (e ∷ past) m (λ k low. reply_there client k e past (λ same. absurd (omega (arith, low, same, of, one)))) in
    let shown : reply_at (e ∷ past) client now ≡ reply_shown_by e past = subst (λ k. reply_at (e ∷ past) client k ≡ reply_shown_by e past) (sym of) (reply_here client e past is) in
    let line = line_text name now (reply_shown_by e past) in
    let size : length (take begin text) ≡ begin = length-take-le begin text fits in
    let lines : lines_up_to name client (e ∷ past) now ≡ lines_up_to name client past m ++ line =
    subst (λ k. lines_up_to name client (e ∷ past) k ≡ lines_up_to name client past m ++ line_text name k (reply_shown_by e past)) (sym one)
    (ap (λ ls. ls ++ line_text name (suc m) (reply_at (e ∷ past) client (suc m))) kept
    ∙ ap (λ reply. lines_up_to name client past m ++ line_text name (suc m) reply) (subst (λ k. reply_at (e ∷ past) client k ≡ reply_shown_by e past) one shown)) in
    let seam : take begin new ≡ take begin text = rw made (subst (λ k. take k (take begin text ++ line) ≡ take begin text) size (take-append_seam (take begin text) line)) in
    record {
      last = of ∙ sym (last_is client past e is);
      whole = made ∙ (ap (λ ls. ls ++ line) base ∙ (append_assoc front (lines_up_to name client past m) line ∙ ap (λ ls. front ++ ls) (sym lines)));
      before = λ k eq. let same : m ≡ k = omega (arith, one, eq) in
          seam ∙ (base ∙ ap (λ ls. front ++ ls) (sym (subst (λ j. lines_up_to name client (e ∷ past) j ≡ lines_up_to name client past m) same kept)));
      within = rw made (omega (arith, size, length-append (take begin text) line));
    }

-- a call's number isn't 0
numbered : (client : ℕ) (call : Option (ℕ × ℕ)) → is_numbered_by client call ≡ true → 0 < number_in call
numbered client None is = absurd (cc is)
numbered client (Some (by, op)) is = let above = (both (by == client) (nat_lt 0 op) is).1 in omega (arith, ltb-true 0 op above)

pub numbered_from_1 : (client : ℕ) (e : Event) → is_call_of client e ≡ true → 0 < op_in e
numbered_from_1 client e is = numbered client (call_in e) is

pub told_next : (front name : List ℕ) (client : ℕ) (past : List Event) (op start : ℕ) (text : List ℕ) (e : Event) (now begin : ℕ) (new : List ℕ)
    → IsTold front name client past op start text → IsInTurn client e past → is_call_of client e ≡ true → now ≡ op_in e
    → (now ≡ op → begin ≡ start) → ((now ≡ op → ⊥) → begin ≡ length text) → new ≡ take begin text ++ line_text name now (reply_shown_by e past)
    → IsTold front name client (e ∷ past) now begin new
told_next front name client past op start text e zero begin new old turn is of same next made = absurd (omega (arith, of, numbered_from_1 client e is))
told_next front name client past op start text e (suc m) begin new old turn is of same next made = elim (turn is) [
  | inl again ↦
      let one : suc m ≡ op = of ∙ (again ∙ sym old.last) in
      let at : begin ≡ start = same one in
      told_at front name client past text e m (suc m) begin new is of refl (omega (arith, at, old.within)) (rw at (old.before m (sym one))) made
  | inr more ↦
      let one : suc m ≡ op + 1 = omega (arith, of, more, old.last) in
      let at : begin ≡ length text = next (λ eq. absurd (omega (arith, eq, one))) in
      let m_is : op ≡ m = omega (arith, one) in
      told_at front name client past text e m (suc m) begin new is of refl (omega (arith, at)) (rw (at, take-length text) (subst (λ k. text ≡ front ++ lines_up_to name client past k) m_is old.whole)) made
]

-- ---- the events one after another

behind : {X : Type 0} (P : X → List X → Type 0) (xs ys : List X) → AtEach P (xs ++ ys) → AtEach P ys
behind P [] ys all = all
behind P (x ∷ xs) ys all = behind P xs ys all.1

-- the events passed, with the next one in front
pub one_more : (history : List Event) (i : ℕ) (e : Event) → e ≡ get_or history i e → i < length history → reverse (take (i + 1) history) ≡ e ∷ reverse (take i history)
one_more history i e is low = rw (take_more history i e low, reverse-append (take i history) (get_or history i e ∷ []), ← is) refl

-- the next event is in turn behind those passed
pub turn_at : (client : ℕ) (history : List Event) (i : ℕ) (e : Event) → e ≡ get_or history i e → i < length history → CallsInTurn client (reverse history) → IsInTurn client e (reverse (take i history))
turn_at client history i e is low all =
    let parts : reverse history ≡ reverse (drop (i + 1) history) ++ reverse (take (i + 1) history) = ap reverse (sym (take-append-drop (i + 1) history)) ∙ reverse-append (take (i + 1) history) (drop (i + 1) history) in
    let passed = behind (IsInTurn client) (reverse (drop (i + 1) history)) (reverse (take (i + 1) history)) (subst (λ past. CallsInTurn client past) parts all) in
    let first = subst (λ past. CallsInTurn client past) (one_more history i e is low) passed in
    first.0

pub nothing_told : (front name : List ℕ) (client : ℕ) → IsTold front name client [] 0 (length front) front
unfolding newest_call
nothing_told front name client = record { last = refl; whole = sym (append-nil front); before = λ k is. absurd (omega (arith, is)); within = omega arith }

pub turn_more : (client : ℕ) (history : List Event) (i : ℕ) (e : Event) → e ≡ get_or history i e → i < length history → CallsInTurn client (reverse (take i history)) → IsInTurn client e (reverse (take i history))
    → CallsInTurn client (reverse (take (i + 1) history))
turn_more client history i e is low before turn = subst (λ past. CallsInTurn client past) (sym (one_more history i e is low)) (turn, before)

pub last_more : (client : ℕ) (history : List Event) (i : ℕ) (e : Event) (now : ℕ) → e ≡ get_or history i e → i < length history → now ≡ last_op client (e ∷ reverse (take i history))
    → now ≡ last_op client (reverse (take (i + 1) history))
last_more client history i e now is low behind_e = subst (λ past. now ≡ last_op client past) (sym (one_more history i e is low)) behind_e

pub none_yet : (client : ℕ) → last_op client [] ≡ 0
unfolding newest_call
none_yet client = refl

pub last_kept : (client : ℕ) (past : List Event) (e : Event) → is_call_of client e ≡ false → last_op client (e ∷ past) ≡ last_op client past
unfolding newest_call
last_kept client past e not = rw not refl
