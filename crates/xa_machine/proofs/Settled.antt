-- Every request is settled where as many were settled as accepted.
use Rattle.std.proofs.Common.{◌≡◌, ℕ, suc, ◌+◌, ◌<◌, ◌≤◌, Bool, true, false, cond, List, [], ◌∷◌, length, reverse, Option, Some, None, inl, inr, refl, sym, ◌∙◌, ap, subst, arith, add-one}
use Rattle.std.specs.List.{filter_map}
use Rattle.std.proofs.lemmas.Bool.{cases_Bool, or_left, or_right}
use Rattle.std.proofs.lemmas.List.{reverse-append}
use Rattle.xa_types.specs.declared.setup.Setup.{Setup}
use Rattle.xa_types.specs.declared.ids.RequestId.{RequestId}
use Rattle.xa_events.specs.declared.event.Event.{Event}
use Rattle.xa_events.specs.declared.event.Event.TheVariants.{Accept, End, Sweep}
use Rattle.xa_events.specs.State.{opening}
use Rattle.xa_events.specs.Words.{count, same_request}
use Rattle.xa_events.specs.Run.{Run}
use Rattle.xa_events.specs.Request.{is_accept_of, is_forward_of, is_settled_by}
use Rattle.xa_events.specs.Laws.{LawOfEnds, moves_on}
use Rattle.xa_events.proofs.WordsLemmas.{same_request_is, same_request_of, count_yes, count_no, count_grows}
use Rattle.xa_machine.specs.Kept.{after, Reached}
use Rattle.xa_machine.specs.Runs.{accepts, settles, AllSettled}
use Rattle.xa_machine.proofs.Running.{run_push}

-- ---- how often a request stands in a list

abbrev pub times : RequestId → List RequestId → ℕ
times r all = count (λ x. same_request x r) all

-- the list without one of its requests
record Without (r : RequestId) (all : List RequestId) : Type 0 where
  pub rest : List RequestId
  pub less : length all ≡ length rest + 1
  pub same : (q : RequestId) → times q all ≡ cond (same_request r q) (times q rest + 1) (times q rest)

-- the first of it is taken out
here : (r x : RequestId) (all : List RequestId) → same_request x r ≡ true → Without r (x ∷ all)
here r x all h = record {
  rest = all;
  less = sym (add-one _);
  same = λ q. ap (λ (y : RequestId). cond (same_request y q) (times q all + 1) (times q all)) (same_request_is x r h);
}

swap : (a b : Bool) (n m k : ℕ) → m ≡ cond b (n + 1) n → k ≡ cond a (n + 1) n → cond a (m + 1) m ≡ cond b (k + 1) k
swap true true n m k one two = rw (one, two) refl
swap true false n m k one two = rw (one, two) refl
swap false true n m k one two = rw (one, two) refl
swap false false n m k one two = rw (one, two) refl

further : (r x : RequestId) (all : List RequestId) → Without r all → Without r (x ∷ all)
further r x all w = record {
  rest = x ∷ w.rest;
  less = let less = w.less in omega (arith, less);
  same = λ q. swap (same_request x q) (same_request r q) (times q w.rest) (times q all) (times q (x ∷ w.rest)) (w.same q) refl;
}

taken_out : (r : RequestId) (all : List RequestId) → 0 < times r all → Without r all
taken_out r [] h = absurd (omega (arith, h))
taken_out r (x ∷ all) h = elim (cases_Bool (same_request x r)) [
  | inl stands ↦ here r x all stands
  | inr other ↦ further r x all (taken_out r all (subst (λ n. 0 < n) (count_no (λ y. same_request y r) x all other) h))
]

fewer : (b : Bool) (n m k : ℕ) → k ≡ cond b (m + 1) m → cond b (n + 1) n ≤ k → n ≤ m
fewer true n m k e h = omega (arith, e, h)
fewer false n m k e h = omega (arith, e, h)

stands_first : (s : RequestId) (some : List RequestId) → 0 < times s (s ∷ some)
stands_first s some = let one = count_yes (λ x. same_request x s) s some (same_request_of s s refl) in omega (arith, one)

pub no_longer : (some all : List RequestId) → ((q : RequestId) → times q some ≤ times q all) → length some ≤ length all
no_longer [] all h = omega arith
no_longer (s ∷ some) all h =
    let first : 0 < times s (s ∷ some) = stands_first s some in
    let within : times s (s ∷ some) ≤ times s all = h s in
    let w : Without s all = taken_out s all (omega arith) in
    let rest = no_longer some w.rest (λ q. fewer (same_request s q) (times q some) (times q w.rest) (times q all) (w.same q) (h q)) in
    let less = w.less in
    omega (arith, rest, less)

both : (b : Bool) (n m k : ℕ) → k ≡ cond b (m + 1) m → n ≡ m → cond b (n + 1) n ≡ k
both true n m k e h = omega (arith, e, h)
both false n m k e h = omega (arith, e, h)

-- of two lists of one length, of which one has no request more often than the other, both have each as often
pub as_often : (some all : List RequestId) → ((q : RequestId) → times q some ≤ times q all) → length all ≡ length some → (q : RequestId) → times q some ≡ times q all
as_often [] [] h e q = refl
as_often [] (a ∷ all) h e q = absurd (omega (arith, e))
as_often (s ∷ some) all h e q =
    let first : 0 < times s (s ∷ some) = stands_first s some in
    let within : times s (s ∷ some) ≤ times s all = h s in
    let w : Without s all = taken_out s all (omega arith) in
    let less = w.less in
    let long : length w.rest ≡ length some = omega (arith, less, e) in
    both (same_request s q) (times q some) (times q w.rest) (times q all) (w.same q)
    (as_often some w.rest (λ p. fewer (same_request s p) (times p some) (times p w.rest) (times p all) (w.same p) (h p)) long q)

-- ---- the requests that events accepted, and those that they settled

abbrev accepted_by : Event → Option RequestId
accepted_by (Accept a) = Some a.request
accepted_by _ = None

abbrev settled_by : Event → Option RequestId
settled_by (End e) = Some e.request
settled_by (Sweep x) = Some x.request
settled_by _ = None

one_more_time : (b : Bool) (n m : ℕ) → n ≡ m → cond b (n + 1) n ≡ cond b (m + 1) m
one_more_time b n m h = ap (λ k. cond b (k + 1) k) h

times_accepted : (r : RequestId) (past : List Event) → count (is_accept_of r) past ≡ times r (filter_map accepted_by past)
times_accepted r [] = refl
times_accepted r (Accept a ∷ past) = one_more_time (same_request a.request r) _ _ (times_accepted r past)
times_accepted r (_ ∷ past) = times_accepted r past

times_settled : (r : RequestId) (past : List Event) → count (is_settled_by r) past ≡ times r (filter_map settled_by past)
times_settled r [] = refl
times_settled r (End e ∷ past) = one_more_time (same_request e.request r) _ _ (times_settled r past)
times_settled r (Sweep x ∷ past) = one_more_time (same_request x.request r) _ _ (times_settled r past)
times_settled r (_ ∷ past) = times_settled r past

many_accepted : (past : List Event) → length (filter_map accepted_by past) ≡ count accepts past
many_accepted [] = refl
many_accepted (Accept a ∷ past) = ap (λ n. suc n) (many_accepted past) ∙ sym (add-one _)
many_accepted (_ ∷ past) = many_accepted past

many_settled : (past : List Event) → length (filter_map settled_by past) ≡ count settles past
many_settled [] = refl
many_settled (End e ∷ past) = ap (λ n. suc n) (many_settled past) ∙ sym (add-one _)
many_settled (Sweep x ∷ past) = ap (λ n. suc n) (many_settled past) ∙ sym (add-one _)
many_settled (_ ∷ past) = many_settled past

-- ---- no request is settled more often than it was accepted

accepted_first : (past : List Event) → LawOfEnds past → (r : RequestId) → count (is_settled_by r) past ≤ count (is_accept_of r) past
accepted_first [] law r = omega arith
accepted_first (e ∷ past) law r = elim (cases_Bool (is_settled_by r e)) [
  | inl settles_it ↦
      let moves : moves_on r e ≡ true = or_right _ _ (or_right _ _ settles_it) in
      let known = law.0.known r moves in
      let unsettled = law.0.unsettled r moves in
      let grows = count_grows (is_accept_of r) e past in
      let more = count_yes (is_settled_by r) e past settles_it in
      omega (arith, known, unsettled, grows, more)
  | inr other ↦
      let before = accepted_first past law.1 r in
      let grows = count_grows (is_accept_of r) e past in
      let same = count_no (is_settled_by r) e past other in
      omega (arith, before, grows, same)
]

pub settled_when : (past : List Event) → LawOfEnds past → count settles past ≡ count accepts past → AllSettled past
settled_when past law same r =
    times_settled r past
    ∙ (as_often (filter_map settled_by past) (filter_map accepted_by past) (λ q. subst (λ n. n ≤ times q (filter_map accepted_by past)) (times_settled q past)
    (subst (λ n. count (is_settled_by q) past ≤ n) (times_accepted q past) (accepted_first past law q)))
    (many_accepted past ∙ (sym same ∙ sym (many_settled past))) r
    ∙ sym (times_accepted r past))

at_most : (n m : ℕ) → n ≡ m → n ≤ m
at_most n m h = omega (arith, h)

pub settled_then : (past : List Event) → AllSettled past → count settles past ≡ count accepts past
settled_then past all =
    let same = λ (q : RequestId). sym (times_settled q past) ∙ (all q ∙ times_accepted q past) in
    let up = no_longer (filter_map settled_by past) (filter_map accepted_by past) (λ q. at_most _ _ (same q)) in
    let down = no_longer (filter_map accepted_by past) (filter_map settled_by past) (λ q. at_most _ _ (sym (same q))) in
    let some = many_settled past in
    let rest = many_accepted past in
    omega (arith, up, down, some, rest)

-- ---- no request is forwarded before it was accepted

forwarded_after : (r : RequestId) (past : List Event) → LawOfEnds past → count (is_accept_of r) past ≡ 0 → count (is_forward_of r) past ≡ 0
forwarded_after r [] law none = refl
forwarded_after r (e ∷ past) law none = elim (cases_Bool (is_forward_of r e)) [
  | inl forwards ↦
      let known = law.0.known r (or_right _ _ (or_left _ _ forwards)) in
      let grows = count_grows (is_accept_of r) e past in
      absurd (omega (arith, known, grows, none))
  | inr other ↦
      let grows = count_grows (is_accept_of r) e past in
      count_no (is_forward_of r) e past other ∙ forwarded_after r past law.1 (omega (arith, grows, none))
]

accepts_alone : (r : RequestId) (e : Event) → is_accept_of r e ≡ true → is_forward_of r e ≡ false
accepts_alone r (Accept a) h = refl
accepts_alone r _ h = absurd (cc h)

pub none_before : (r : RequestId) (e : Event) (past : List Event) → LawOfEnds (e ∷ past) → is_accept_of r e ≡ true → count (is_forward_of r) (e ∷ past) ≡ 0
none_before r e past law accepts_it = count_no (is_forward_of r) e past (accepts_alone r e accepts_it) ∙ forwarded_after r past law.1 (law.0.new r accepts_it)

-- ---- what was reached is a run

pub reached_run : (setup : Setup) (clients : ℕ) (past : List Event) → Reached setup clients past → Run (opening setup clients) (reverse past) (after setup clients past)
reached_run setup clients [] reached = refl
reached_run setup clients (e ∷ past) reached =
    subst (λ (es : List Event). Run (opening setup clients) es (after setup clients (e ∷ past))) (sym (reverse-append (e ∷ []) past))
    (run_push (reverse past) (opening setup clients) (after setup clients past) e (reached_run setup clients past reached.1) reached.0)
