-- What `audit` answers of the octets that the shelf tells.
use Rattle.std.proofs.Common.{◌≡◌, ◌∙◌, ◌≤◌, ◌<◌, ◌^◌, ℕ, List, length, Option, Some, Result, Ok, Err, inl, inr, refl, ap, sym, subst, arith}
use Rattle.xa_domain.specs.xa_link.Links.{SinkShows}
use Rattle.xa_domain.specs.xa_link.Told.{Rose}
use Rattle.xa_domain.specs.xa_link.Reads.{Holds, HoldsMore}
use Rattle.xa_audit.specs.Audit.{IsAudited, IsLawfulRun, Answers}
use Rattle.xa_audit.specs.declared.judging.Verdict.{Verdict}
use Rattle.xa_audit.specs.declared.judging.Verdict.TheVariants as verdicts
use Rattle.xa_audit.specs.declared.auditing.AuditRefused.{AuditRefused}
use Rattle.xa_audit.specs.declared.auditing.AuditRefused.TheVariants as refusals
use Rattle.xa_audit.proofs.Determined.{one_answer}
use Rattle.xa_program.specs.declared.status.Status.{Status}
use Rattle.xa_program.specs.declared.status.Status.TheVariants.{Done, ConfigRead, ConfigFault, TooLong, WriteFault, NoMemory, BadRecord, NotARun}
use Rattle.xa_program.specs.declared.status.Input.TheVariants as inputs
use Rattle.xa_program.specs.Configuration.{ShelfTells}
use Rattle.xa_program.specs.Audit.{AuditEnds, IsJudged, IsNoRun, status_by, longest_record}

abbrev Answer : Type 0
Answer = Result Verdict AuditRefused

-- the file holds no other octets than those that it tells
same : (told : Option (Option (List ℕ))) (octets held : List ℕ) → told ≡ Some (Some octets) → Holds told held → held ≡ octets
same told octets held is holds =
    let both : Some octets ≡ Some held = subst (λ (t : Option (Option (List ℕ))). Holds t held) is holds in
    sym (cc both)

-- octets that were answered so
as_answered : (octets held : List ℕ) (answer : Answer) (status : Status) → held ≡ octets → length held ≤ longest_record → Answers held answer → (answer ≡ Err refusals.NoMemory → ⊥)
    → status ≡ status_by answer → IsJudged octets status
as_answered octets held answer status is short may memory stands =
    let few : length octets ≤ longest_record = subst (λ (o : List ℕ). length o ≤ longest_record) is short in
    let its = subst (λ (o : List ℕ). Answers o answer) is may in
    record {
      long = λ over. absurd (omega (arith, few, over));
      short = λ low other also never. inl (stands ∙ ap status_by (one_answer octets answer other (omega (arith, few)) its also memory never));
    }

audited : (octets : List ℕ) (many : ℕ) → IsLawfulRun octets many → IsAudited octets (verdicts.Run many)
audited octets many run = record {
  config = run.config;
  names = run.names;
  history = run.history;
  spelled = run.spelled;
  judged = record { setup = run.setup; says = run.says; judged = (run.counted, (run.new, record { runs = run.runs; in_order = run.in_order }, run.over)) };
}

no_run : (verdict : Verdict) → IsNoRun verdict → NotARun ≡ status_by (Ok verdict)
no_run (verdicts.Run many) none = absurd none
no_run (verdicts.At place) none = refl
no_run (verdicts.Unfinished many) none = refl

over_long : (told : Option (Option (List ℕ))) (octets : List ℕ) → told ≡ Some (Some octets) → HoldsMore told longest_record → longest_record < length octets
over_long told octets is more =
    let held = subst (λ (t : Option (Option (List ℕ))). HoldsMore t longest_record) is more in
    let one : octets ≡ held.0 = let both = held.1 in cc both in
    rw one held.2

pub judged : (shelf : ShelfTells) (name octets : List ℕ) (out out_after : SinkShows) (status : Status) → shelf.file name ≡ Some (Some octets)
    → (Rose shelf.faults shelf.faults_after → ⊥) → (Rose out.faults out_after.faults → ⊥) → AuditEnds shelf name out out_after status → IsJudged octets status
judged shelf name octets out out_after ConfigRead is files writes ends = absurd (files ends.0)
judged shelf name octets out out_after (TooLong inputs.Record) is files writes ends =
    let over = over_long (shelf.file name) octets is ends.0 in
    record { long = λ more. inl refl; short = λ low answer may never. absurd (omega (arith, over, low)) }
judged shelf name octets out out_after (ConfigFault number key) is files writes ends =
    let none = ends.0 in
    as_answered octets none.0 (Err (refusals.Config number key)) (ConfigFault number key) (same (shelf.file name) octets none.0 is none.1) none.2 none.3 (λ e. absurd (cc e)) refl
judged shelf name octets out out_after (BadRecord line) is files writes ends =
    let none = ends.0 in
    as_answered octets none.0 (Err (refusals.BadRecord line)) (BadRecord line) (same (shelf.file name) octets none.0 is none.1) none.2 none.3 (λ e. absurd (cc e)) refl
judged shelf name octets out out_after NotARun is files writes ends =
    let its = ends.2 in
    as_answered octets its.0 (Ok ends.0) NotARun (same (shelf.file name) octets its.0 is its.1) its.2 its.3 (λ e. absurd (cc e)) (no_run ends.0 ends.1)
judged shelf name octets out out_after Done is files writes ends =
    let its = ends.1 in
    as_answered octets its.0 (Ok (verdicts.Run ends.0)) Done (same (shelf.file name) octets its.0 is its.1) its.2 (audited its.0 ends.0 its.3) (λ e. absurd (cc e)) refl
judged shelf name octets out out_after WriteFault is files writes ends = absurd (writes ends.2.writes)
judged shelf name octets out out_after NoMemory is files writes ends = record { long = λ more. inr refl; short = λ low answer may never. inr refl }
judged shelf name octets out out_after status is files writes ends = absurd ends
