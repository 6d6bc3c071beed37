-- What is answered is determined: one verdict, one first fault, or one line.
use Rattle.std.proofs.Common.{◌≡◌, inl, inr, ℕ, ◌+◌, ◌^◌, ◌<◌, ◌≤◌, List, [], ◌∷◌, ◌++◌, length, take, drop, get_or, Some, Result, Ok, Err, refl, sym, ap, subst, ◌∙◌, arith}
use Rattle.std.specs.List.{flat_map, slice_get}
use Rattle.std.proofs.lemmas.Bool.{cases_lt}
use Rattle.std.proofs.lemmas.List.{take-append-drop, take-take, take_all, drop_more, get_or-take, length-take-le}
use Rattle.std.proofs.lemmas.Option.{slice_get_cases}
use Rattle.xa_types.specs.declared.setup.Setup.{Setup}
use Rattle.xa_events.specs.declared.event.Event.{Event}
use Rattle.xa_events.specs.State.{State, opening, noted}
use Rattle.xa_events.specs.Words.{AtEach}
use Rattle.xa_events.specs.Cases.{Case}
use Rattle.xa_events.specs.Order.{TakesNext}
use Rattle.xa_events.specs.Run.{Run, IsFinal}
use Rattle.xa_config.specs.Document.{IsConfiguration, IsFirstFault}
use Rattle.xa_config.specs.Faults.{Fault, fault}
use Rattle.xa_config.proofs.OneReading.{one_setup, no_fault, one_fault}
use Rattle.xa_audit.specs.Verdict.{Leads, IsRefused, IsVerdict}
use Rattle.xa_audit.specs.Audit.{IsVerdictBy, IsAudited, HasFault, IsBad, Answers}
use Rattle.xa_audit.specs.declared.judging.Verdict.{Verdict}
use Rattle.xa_audit.specs.declared.judging.Verdict.TheVariants as verdicts
use Rattle.xa_audit.specs.declared.auditing.AuditRefused.{AuditRefused}
use Rattle.xa_audit.specs.declared.auditing.AuditRefused.TheVariants as refusals
use Rattle.xa_audit.specs.Record.{line, record_lines}
use Rattle.xa_audit.proofs.Records.{one_config, one_record}

-- ---- a run has one end, and passes each of its places

run_end : (es : List Event) (old new other : State) → Run old es new → Run old es other → new ≡ other
run_end [] old new other p q = p ∙ sym q
run_end (e ∷ es) old new other p q = run_end es (noted old e) new other p.1 q.1

run_through : (front : List Event) (e : Event) (back : List Event) (old mid new : State) → Run old front mid → Run old (front ++ e ∷ back) new → Case mid e × Run (noted mid e) back new
run_through [] e back old mid new p q = subst (λ (s : State). Case s e × Run (noted s e) back new) (sym p) q
run_through (x ∷ front) e back old mid new p q = run_through front e back (noted old x) mid new p.1 q.1

-- what holds at each moment held before
held_before : (P : Event → List Event → Type 0) (es : List Event) (old new : State) → Run old es new → AtEach P new.past → AtEach P old.past
held_before P [] old new run h = subst (λ (s : State). AtEach P s.past) run h
held_before P (e ∷ es) old new run h = (held_before P es (noted old e) new run.1 h).1

-- the events before a place, the one there, and the others
cut_at : (es : List Event) (p q : ℕ) (e : Event) → p < q → q ≤ length es → get_or es p e ≡ e → take q es ≡ take p es ++ e ∷ drop (p + 1) (take q es)
cut_at es p q e less within is =
    let size = length-take-le q es within in
    let inside : p < length (take q es) = omega (arith, size, less) in
    let low : p ≤ q = omega (arith, less) in
    sym (take-append-drop p (take q es))
    ∙ ap (λ (xs : List Event). xs ++ drop p (take q es)) (take-take p q es low)
    ∙ ap (λ (xs : List Event). take p es ++ xs) (drop_more (take q es) p e inside ∙ ap (λ (x : Event). x ∷ drop (p + 1) (take q es)) (get_or-take q es p e less ∙ is))

-- no more events lead anywhere than those before a place that is refused
never_past : (setup : Setup) (clients : ℕ) (es : List Event) (p q : ℕ) (other : State) → IsRefused setup clients es p → Leads setup clients (take q es) other → p < q → q ≤ length es → ⊥
never_past setup clients es p q other refused leads less within = elim (slice_get_cases es p).1 [
  | inl found ↦ at_place found
  | inr past ↦ (let far = past.0 in absurd (omega (arith, far, less, within)))
] where
  at_place : (x : Event) × (p < length es) × (slice_get es p ≡ Some x) × (get_or es p x ≡ x) → ⊥
  at_place found =
      let e = found.0 in
      let run = subst (λ (xs : List Event). Run (opening setup clients) xs other) (cut_at es p q e less within found.3) leads.runs in
      let through = run_through (take p es) e (drop (p + 1) (take q es)) (opening setup clients) refused.mid other refused.before.runs run in
      let order = held_before (TakesNext setup) (drop (p + 1) (take q es)) (noted refused.mid e) other through.1 leads.in_order in
      refused.refused e found.2 through.0 order.0

never_whole : (setup : Setup) (clients : ℕ) (es : List Event) (p : ℕ) (new : State) → IsRefused setup clients es p → Leads setup clients es new → ⊥
never_whole setup clients es p new refused leads =
    never_past setup clients es p (length es) new refused (subst (λ (xs : List Event). Leads setup clients xs new) (sym (take_all (length es) es (omega arith))) leads) refused.within (omega arith)

one_place : (setup : Setup) (clients : ℕ) (es : List Event) (p q : ℕ) → IsRefused setup clients es p → IsRefused setup clients es q → p ≡ q
one_place setup clients es p q a b = elim (cases_lt p q) [
  | inl less ↦ absurd (never_past setup clients es p q b.mid a b.before less (let within = b.within in omega (arith, within)))
  | inr not_less ↦ elim (cases_lt q p) [
    | inl less ↦ absurd (never_past setup clients es q p a.mid b a.before less (let within = a.within in omega (arith, within)))
    | inr neither ↦ omega (arith, not_less, neither)
  ]
]

one_verdict : (setup : Setup) (clients : ℕ) (es : List Event) (one other : Verdict) → IsVerdict setup clients es one → IsVerdict setup clients es other → one ≡ other
one_verdict setup clients es (verdicts.Run m) (verdicts.Run n) a b = ap verdicts.Run (a.0 ∙ sym b.0)
one_verdict setup clients es (verdicts.Run m) (verdicts.At p) a b = absurd (never_whole setup clients es p a.1.0 b a.1.1)
one_verdict setup clients es (verdicts.Run m) (verdicts.Unfinished n) a b = absurd (b.1.2 (subst IsFinal (run_end es (opening setup clients) a.1.0 b.1.0 a.1.1.runs b.1.1.runs) a.1.2))
one_verdict setup clients es (verdicts.At p) (verdicts.Run n) a b = absurd (never_whole setup clients es p b.1.0 a b.1.1)
one_verdict setup clients es (verdicts.At p) (verdicts.At q) a b = ap verdicts.At (one_place setup clients es p q a b)
one_verdict setup clients es (verdicts.At p) (verdicts.Unfinished n) a b = absurd (never_whole setup clients es p b.1.0 a b.1.1)
one_verdict setup clients es (verdicts.Unfinished m) (verdicts.Run n) a b = absurd (a.1.2 (subst IsFinal (run_end es (opening setup clients) b.1.0 a.1.0 b.1.1.runs a.1.1.runs) b.1.2))
one_verdict setup clients es (verdicts.Unfinished m) (verdicts.At p) a b = absurd (never_whole setup clients es p a.1.0 b a.1.1)
one_verdict setup clients es (verdicts.Unfinished m) (verdicts.Unfinished n) a b = ap verdicts.Unfinished (a.0 ∙ sym b.0)

-- ---- the whole octets

abbrev Answer : Type 0
Answer = Result Verdict AuditRefused

by_one_setup : (config : List ℕ) (names : List (List ℕ)) (history : List Event) (one other : Verdict) → IsVerdictBy config names history one → IsVerdictBy config names history other → one ≡ other
by_one_setup config names history one other a b =
    one_verdict a.setup (length names) history one other a.judged
    (subst (λ (setup : Setup). IsVerdict setup (length names) history other) (sym (one_setup config a.setup b.setup a.says b.says)) b.judged)

audited_once : (octets : List ℕ) (one other : Verdict) → length octets < 2 ^ 64 → IsAudited octets one → IsAudited octets other → one ≡ other
audited_once octets one other small a b =
    let same = one_record octets b.config a.config b.names a.names b.history a.history small b.spelled a.spelled in
    by_one_setup a.config a.names a.history one other a.judged
    (subst (λ (es : List Event). IsVerdictBy a.config a.names es other) same.2
    (subst (λ (ns : List (List ℕ)). IsVerdictBy a.config ns b.history other) same.1
    (subst (λ (os : List ℕ). IsVerdictBy os b.names b.history other) same.0 b.judged)))

no_faulty_record : (octets : List ℕ) (verdict : Verdict) (number : ℕ) (key : List ℕ) → length octets < 2 ^ 64 → IsAudited octets verdict → HasFault octets number key → ⊥
no_faulty_record octets verdict number key small a b =
    let same = one_config octets a.config (flat_map line (record_lines a.names a.history)) b.config b.rest small a.spelled.spelled b.stands in
    no_fault b.config (fault key number) a.judged.setup b.told (subst (λ (os : List ℕ). IsConfiguration os a.judged.setup) same.0 a.judged.says)

one_first_fault : (octets : List ℕ) (number other : ℕ) (key behind : List ℕ) → length octets < 2 ^ 64 → HasFault octets number key → HasFault octets other behind → refusals.Config number key ≡ refusals.Config other behind
one_first_fault octets number other key behind small a b =
    let same = one_config octets a.config a.rest b.config b.rest small a.stands b.stands in
    let one = one_fault b.config (fault key number) (fault behind other) (subst (λ (os : List ℕ). IsFirstFault os (fault key number)) same.0 a.told) b.told in
    let numbers : number ≡ other = ap (λ (f : Fault). f.number) one in
    let keys : key ≡ behind = ap (λ (f : Fault). f.key) one in
    cc

one_line : (octets : List ℕ) (at other : ℕ) → IsBad octets at → IsBad octets other → at ≡ other
one_line octets at other a b = elim (cases_lt at other) [
  | inl less ↦ absurd (a.here (b.before at a.counted less))
  | inr not_less ↦ elim (cases_lt other at) [
    | inl less ↦ absurd (b.here (a.before other b.counted less))
    | inr neither ↦ omega (arith, not_less, neither)
  ]
]

-- what is answered but for want of memory is determined by the octets
pub one_answer : (octets : List ℕ) (one other : Answer) → length octets < 2 ^ 64 → Answers octets one → Answers octets other → (one ≡ Err refusals.NoMemory → ⊥) → (other ≡ Err refusals.NoMemory → ⊥) → one ≡ other
one_answer octets (Ok v) (Ok w) small a b p q = ap Ok (audited_once octets v w small a b)
one_answer octets (Ok v) (Err (refusals.Config number key)) small a b p q = absurd (no_faulty_record octets v number key small a b)
one_answer octets (Ok v) (Err (refusals.BadRecord at)) small a b p q = absurd (b.no_record a.config a.names a.history a.spelled)
one_answer octets (Err (refusals.Config number key)) (Ok w) small a b p q = absurd (no_faulty_record octets w number key small b a)
one_answer octets (Err (refusals.BadRecord at)) (Ok w) small a b p q = absurd (a.no_record b.config b.names b.history b.spelled)
one_answer octets (Err (refusals.Config number key)) (Err (refusals.Config other behind)) small a b p q = ap Err (one_first_fault octets number other key behind small a b)
one_answer octets (Err (refusals.Config number key)) (Err (refusals.BadRecord at)) small a b p q = absurd (b.faultless number key a)
one_answer octets (Err (refusals.BadRecord at)) (Err (refusals.Config number key)) small a b p q = absurd (a.faultless number key b)
one_answer octets (Err (refusals.BadRecord at)) (Err (refusals.BadRecord other)) small a b p q = ap (λ (n : ℕ). Err (refusals.BadRecord n)) (one_line octets at other a b)
one_answer octets (Err refusals.NoMemory) other small a b p q = absurd (p refl)
one_answer octets (Ok v) (Err refusals.NoMemory) small a b p q = absurd (q refl)
one_answer octets (Err (refusals.Config number key)) (Err refusals.NoMemory) small a b p q = absurd (q refl)
one_answer octets (Err (refusals.BadRecord at)) (Err refusals.NoMemory) small a b p q = absurd (q refl)
