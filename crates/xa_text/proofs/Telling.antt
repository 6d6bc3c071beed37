-- The lines of all clients, at the next event.
use Rattle.std.proofs.Common.{◌≡◌, ℕ, suc, ◌+◌, ◌<◌, ◌==◌, false, List, [], ◌∷◌, ◌++◌, length, drop, get_or, set, inl, inr, sym, ◌∙◌, ap, subst, arith, append_assoc, drop-cons, length-append}
use Rattle.std.proofs.lemmas.Bool.{cases_eq, ne_eqb}
use Rattle.std.proofs.lemmas.List.{get_or-set_other, get_or-set_same, get_or_default, length-set}
use Rattle.std.proofs.lemmas.List.Elements.{All-get_or}
use Rattle.std.proofs.Math.Seq.{get_or-append_seam}
use Rattle.std.specs.List.{All}
use Rattle.xa_events.specs.declared.event.Event.{Event}
use Rattle.xa_events.specs.Caller.{is_call_of, last_op}
use Rattle.xa_text.specs.declared.transcribing.Told.{Told}
use Rattle.xa_text.specs.Telling.{IsTold, IsFresh, AreTold}
use Rattle.xa_text.specs.Transcript.{lines_up_to, transcript_from}
use Rattle.xa_text.proofs.Passing.{nothing_told, passed_over}

-- before the first event
pub none_told : (names : List (List ℕ)) (told : List Told) → length told ≡ length names → All IsFresh told → AreTold names [] told
none_told names told len fresh = record {
  len = len;
  each = λ k low name own named is.
      let its : IsFresh own = subst IsFresh (sym is) (All-get_or IsFresh told k own (omega (arith, low, len)) fresh) in
      rw (its.0, its.1, its.2) (nothing_told [] name (k + 1));
}

-- the event is of no call of these clients
pub all_passed : (names : List (List ℕ)) (told : List Told) (e : Event) (past : List Event) → ((k : ℕ) → k < length names → is_call_of (k + 1) e ≡ false) → AreTold names past told → AreTold names (e ∷ past) told
all_passed names told e past not old = record {
  len = old.len;
  each = λ k low name own named is. passed_over [] name (k + 1) past own.place.op own.place.start own.text.items e (not k low) (old.each k low name own named is);
}

-- it is of a call of one of them, whose lines went on
pub one_told : (names : List (List ℕ)) (told : List Told) (by place : ℕ) (e : Event) (past : List Event) (name : List ℕ) (new : Told) → by ≡ place + 1 → place < length told
    → ((client : ℕ) → is_call_of client e ≡ (by == client)) → name ≡ get_or names place name → AreTold names past told
    → IsTold [] name by (e ∷ past) new.place.op new.place.start new.text.items → AreTold names (e ∷ past) (set told place new)
one_told names told by place e past name new next inside of named old its = record {
  len = length-set told place new ∙ old.len;
  each = λ k low other own other_is is. elim (cases_eq k place) [
    | inl same ↦
        let low' : k < length told = omega (arith, low, old.len) in
        let mine : own ≡ new = is ∙ (ap (λ j. get_or (set told j new) k own) (sym same) ∙ get_or-set_same told k new own low') in
        let names_same : other ≡ name = other_is ∙ (get_or_default names k other name low ∙ (ap (λ j. get_or names j name) same ∙ sym named)) in
        rw (mine, names_same, same, ← next) its
    | inr apart ↦
        let was : own ≡ get_or told k own = is ∙ get_or-set_other told place k new own apart in
        let not : is_call_of (k + 1) e ≡ false = of (k + 1) ∙ ne_eqb by (k + 1) (λ eq. apart (omega (arith, next, eq))) in
        passed_over [] other (k + 1) past own.place.op own.place.start own.text.items e not (old.each k low other own other_is was)
  ];
}

-- ---- the lines of one client behind those of another

-- those that are done, with the next one, leave the others
next_lines : (names : List (List ℕ)) (past : List Event) (place : ℕ) (name front more all : List ℕ) → place < length names → name ≡ get_or names place name
    → more ≡ front ++ lines_up_to name (place + 1) past (last_op (place + 1) past)
    → front ++ transcript_from (place + 1) (drop place names) past ≡ all → more ++ transcript_from (place + 1 + 1) (drop (place + 1) names) past ≡ all
next_lines names past place name front more all inside is pushed before =
    let client = place + 1 in
    let own = lines_up_to name client past (last_op client past) in
    let later = transcript_from (client + 1) (drop client names) past in
    let at : suc place ≡ client = omega arith in
    let here : drop place names ≡ name ∷ drop client names = subst (λ k. drop place names ≡ name ∷ drop k names) at (drop-cons names place name inside ∙ ap (λ n. n ∷ drop (suc place) names) (sym is)) in
    ap (λ lines. lines ++ later) pushed ∙ (append_assoc front own later ∙ (ap (λ left. front ++ transcript_from client left past) (sym here) ∙ before))

pub one_joined : (names : List (List ℕ)) (past : List Event) (told done rest : List Told) (own : Told) (front more all : List ℕ) → AreTold names past told → done ++ own ∷ rest ≡ told → more ≡ front ++ own.text.items
    → front ++ transcript_from (length done + 1) (drop (length done) names) past ≡ all
    → more ++ transcript_from (length (done ++ own ∷ []) + 1) (drop (length (done ++ own ∷ [])) names) past ≡ all
one_joined names past told done rest own front more all are split pushed before =
    let n = length done in
    let size : length told ≡ length (done ++ own ∷ rest) = ap length (sym split) in
    let inside : n < length names = omega (arith, size, length-append done (own ∷ rest), are.len) in
    let name = get_or names n [] in
    let named : name ≡ get_or names n name = get_or_default names n [] name inside in
    let here : own ≡ get_or told n own = sym (ap (λ l. get_or l n own) (sym split) ∙ get_or-append_seam done own rest own) in
    let its = are.each n inside name own named here in
    let text : own.text.items ≡ lines_up_to name (n + 1) past (last_op (n + 1) past) = its.whole ∙ ap (λ op. lines_up_to name (n + 1) past op) its.last in
    let further : n + 1 ≡ length (done ++ own ∷ []) = sym (length-append done (own ∷ [])) in
    subst (λ k. more ++ transcript_from (k + 1) (drop k names) past ≡ all) further
    (next_lines names past n name front more all inside named (pushed ∙ ap (λ l. front ++ l) text) before)
