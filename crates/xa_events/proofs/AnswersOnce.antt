-- The descriptor of a request becomes invalid once, and an answer is to what befell the request.
use Rattle.std.proofs.Common.{◌≡◌, ℕ, ◌≤◌, ◌==◌, ◌||◌, ◌∙◌, subst, eqb-true, if◌then◌else◌, Bool, true, false, List, [], ◌∷◌, Option, Some, None, inl, inr, refl, sym, ap, arith, eq-eqb}
use Rattle.std.specs.Prelude.{IsSomeAnd, slice_get}
use Rattle.std.specs.List.{list_all, filter_map, cons_option}
use Rattle.std.proofs.lemmas.Bool.{cases_Bool, and_parts}
use Rattle.std.proofs.lemmas.Option.{cond_some}
use Rattle.xa_types.specs.declared.ids.RequestId.{RequestId}
use Rattle.xa_events.specs.declared.event.Event.{Event}
use Rattle.xa_events.specs.declared.event.Event.TheVariants.{Accept, Sweep, End, Answer, Cancel, Lapse}
use Rattle.xa_events.specs.Words.{count, has, same_request, Was}
use Rattle.xa_events.specs.State.{State}
use Rattle.xa_events.specs.Caller.{opens_descriptor, closed_in, closes_descriptor, open_descriptors}
use Rattle.xa_events.specs.Request.{is_accept_of, is_settled_by, Settlement, settlement_in, WasSettled}
use Rattle.xa_events.specs.Request.Settlement.{EndedBy, SweptAway}
use Rattle.xa_events.specs.Answers.{IsAnswerTo}
use Rattle.xa_events.specs.Cases.{Case, is_own_open}
use Rattle.xa_events.specs.Laws.{IsOfOne, EndsOnce, IsSettled}
use Rattle.xa_events.proofs.WordsLemmas.{if_some, same_request_is, same_request_of, count_yes, count_grows, one_from, kept_before}
use Rattle.xa_events.proofs.Stages.{Agree, at_most_once, stage, ends_law}

-- a descriptor that is open is of a request that was accepted, and was not made invalid
pub record Unanswered (past : List Event) : Type 0 where
  pub all : (r : RequestId) → count (is_accept_of r) past ≡ 0 → has r (filter_map closed_in past) ≡ false
  pub is_open : (r : RequestId) → has r (open_descriptors r.caller.0 past) ≡ true → (1 ≤ count (is_accept_of r) past) × (has r (filter_map closed_in past) ≡ false)

-- what opens a descriptor accepts its request, and closes none
opened : (caller : ℕ) (e : Event) (r : RequestId) → opens_descriptor caller e ≡ Some r → (is_accept_of r e ≡ true) × (closed_in e ≡ None)
opened caller (Accept a) r h = (same_request_of a.request r (cond_some _ a.request r h).1, refl)
opened caller _ r h = cc h

-- what makes the descriptor of a request invalid finds it open, and closes it
closed : (s : State) (e : Event) (r : RequestId) → Case s e → closed_in e ≡ Some r → (has r (open_descriptors r.caller.0 s.past) ≡ true) × (closes_descriptor r.caller.0 e ≡ Some r)
closed s (Answer a) r case h =
    let by : a.by.0 ≡ a.request.caller.0 = ap (λ c. c.0) (sym case.worker.caller) in
    let same : a.request ≡ r = cc h in
    rw (← same) (rw by at case.worker.is_open, ap (λ b. if b then Some a.request else None) (eq-eqb a.by.0 a.request.caller.0 by))
closed s (Cancel c) r case h =
    let by : c.by.0 ≡ c.request.caller.0 = ap (λ x. x.0) (sym case.worker.caller) in
    let same : c.request ≡ r = cc h in
    rw (← same) (rw by at case.worker.is_open, ap (λ b. if b then Some c.request else None) (eq-eqb c.by.0 c.request.caller.0 by))
closed s (Lapse l) r case h =
    let its = and_parts (r.caller.0 == l.by.0) (has r (open_descriptors l.by.0 s.past)) (of_first l.requests case.worker.looks.each (if_some l.of_call (slice_get l.requests 0) r h).1) in
    let by = eqb-true r.caller.0 l.by.0 its.0 in
    (subst (λ c. has r (open_descriptors c s.past) ≡ true) (sym by) its.1, ap (λ b. if b then closed_in (Lapse l) else None) (eq-eqb l.by.0 r.caller.0 (sym by)) ∙ h)
  where
    of_first : (rs : List RequestId) → list_all (is_own_open l.by.0 s.past) rs ≡ true → slice_get rs 0 ≡ Some r → is_own_open l.by.0 s.past r ≡ true
    of_first [] each there = absurd (cc there)
    of_first (x ∷ rs) each there =
        let same : x ≡ r = cc there in
        subst (λ (q : RequestId). is_own_open l.by.0 s.past q ≡ true) same (and_parts (is_own_open l.by.0 s.past x) (list_all (is_own_open l.by.0 s.past) rs) each).0
closed s _ r case h = cc h

-- one more that isn't this
still_without : (r : RequestId) (o : Option RequestId) (rs : List RequestId) → (o ≡ Some r → ⊥) → has r rs ≡ false → has r (cons_option o rs) ≡ false
still_without r None rs other h = h
still_without r (Some x) rs other h =
    elim (cases_Bool (same_request r x)) [
      | inl y ↦ absurd (other (ap Some (sym (same_request_is r x y))))
      | inr n ↦ ap (λ b. b || has r rs) n ∙ h
    ]

pub unanswered_more : (s : State) (e : Event) → Case s e → Agree s → Unanswered s.past → Unanswered (e ∷ s.past)
unfolding open_descriptors
unanswered_more s e case agree u = let grows = λ (r : RequestId). count_grows (is_accept_of r) e s.past in record {
  all = λ r none. still_without r (closed_in e) (filter_map closed_in s.past)
      (λ c. let old = u.is_open r (closed s e r case c).0 in omega (arith, none, grows r, old.0)) (u.all r (omega (arith, none, grows r)));
  is_open = λ r h. elim (kept_before (opens_descriptor r.caller.0 e) (closes_descriptor r.caller.0 e) (open_descriptors r.caller.0 s.past) r h) [
    | inl v ↦
        let a = opened r.caller.0 e r v in
        (omega (arith, count_yes (is_accept_of r) e s.past a.0), still_without r (closed_in e) (filter_map closed_in s.past) (λ c. let none = a.1 in cc (none, c)) (u.all r ((ends_law s e case agree).new r a.0)))
    | inr k ↦
        let old = u.is_open r k.0 in
        (omega (arith, grows r, old.0), still_without r (closed_in e) (filter_map closed_in s.past) (λ c. k.1 (closed s e r case c).1) old.1)
  ];
}

-- ---- how a request was settled

given : (b : Bool) (settlement : Settlement) (P : Settlement → Type 0) → IsSomeAnd (if b then Some settlement else None) P → b ≡ true
given true settlement P h = refl
given false settlement P h = absurd h

settles : (r : RequestId) (P : Settlement → Type 0) (e : Event) → IsSomeAnd (settlement_in r e) P → is_settled_by r e ≡ true
settles r P (End x) h = given (same_request x.request r) (EndedBy x.outcome) P h
settles r P (Sweep x) h = given (same_request x.request r) SweptAway P h
settles r P _ h = absurd h

unsettled : (r : RequestId) (e : Event) → is_settled_by r e ≡ false → settlement_in r e ≡ None
unsettled r (End x) n = ap (λ b. if b then Some (EndedBy x.outcome) else None) n
unsettled r (Sweep x) n = ap (λ b. if b then Some SweptAway else None) n
unsettled r _ n = refl

was_settled : (r : RequestId) (P : Settlement → Type 0) (past : List Event) → WasSettled r P past → Was (λ e before. (is_settled_by r e ≡ true) × IsSomeAnd (settlement_in r e) P) past
was_settled r P [] h = absurd h
was_settled r P (e ∷ past) (inl here) = inl (settles r P e here, here)
was_settled r P (e ∷ past) (inr there) = inr (was_settled r P past there)

-- ---- the law

of_one : (s : State) (e : Event) → Case s e → IsOfOne e
of_one s (Lapse l) case = λ h. elim case.worker.call [ inl other ↦ let none = other.0 in cc (h, none) | inr own ↦ own.2 ]
of_one s _ case = tt

ends_once : (s : State) (e : Event) → Case s e → Agree s → Unanswered s.past → EndsOnce e s.past
ends_once s e case agree u =
    let found = λ (r : RequestId) (h : closed_in e ≡ Some r). u.is_open r (closed s e r case h).0 in
    let once = λ (r : RequestId). (at_most_once r s.past (stage r s.past) (agree.counts r)).0 in
    record { single = of_one s e case; known = λ r h. let there = found r h in omega (arith, there.0, once r); once = λ r h. (found r h).1 }

is_settled : (s : State) (e : Event) → Case s e → Agree s → IsSettled e s.past
is_settled s (Answer a) case agree =
    let most = (at_most_once a.request s.past (stage a.request s.past) (agree.counts a.request)).1 in
    let one = one_from (settlement_in a.request) (is_settled_by a.request) (IsAnswerTo a.answer) (unsettled a.request) s.past most (was_settled a.request (IsAnswerTo a.answer) s.past case.before.named) in
    record { own = case.worker.caller; settlement = one.0; one = one.1; reply = one.2 }
is_settled s _ case agree = tt

pub answer_law : (s : State) (e : Event) → Case s e → Agree s → Unanswered s.past → EndsOnce e s.past × IsSettled e s.past
answer_law s e case agree u = (ends_once s e case agree u, is_settled s e case agree)
