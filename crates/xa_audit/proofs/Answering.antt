-- What is answered of a record that was written, and of one whose events are a run.
use Rattle.std.proofs.Common.{ℕ, ◌^◌, ◌<◌, List, length, Result, Ok, Err, sym, subst}
use Rattle.std.specs.Prelude.{IfOk, IfErr}
use Rattle.std.specs.List.{flat_map}
use Rattle.xa_types.specs.declared.setup.Setup.{Setup}
use Rattle.xa_events.specs.declared.event.Event.{Event}
use Rattle.xa_events.specs.State.{State, opening}
use Rattle.xa_events.specs.Run.{Run}
use Rattle.xa_machine.specs.Runs.{IsLawful}
use Rattle.xa_config.specs.Document.{IsFirstFault}
use Rattle.xa_config.specs.Faults.{fault}
use Rattle.xa_audit.specs.Record.{line, record_lines}
use Rattle.xa_audit.specs.Audit.{IsVerdictBy, IsAudited, IsBad, Refuses, IsOfWritten, LawfulWhereRun, IsSameRefusal}
use Rattle.xa_audit.specs.Reading.{StopsAtLine, Tells}
use Rattle.xa_audit.specs.declared.reading.RecordRefused.{RecordRefused}
use Rattle.xa_audit.specs.declared.reading.RecordRefused.TheVariants as records
use Rattle.xa_audit.specs.declared.judging.Verdict.{Verdict}
use Rattle.xa_audit.specs.declared.judging.Verdict.TheVariants as verdicts
use Rattle.xa_audit.specs.declared.auditing.AuditRefused.{AuditRefused}
use Rattle.xa_audit.specs.declared.auditing.AuditRefused.TheVariants as refusals
use Rattle.xa_audit.proofs.Records.{one_config, one_record}

abbrev Answer : Type 0
Answer = Result Verdict AuditRefused

-- of the record of these parts the answer is theirs
pub of_written : (octets : List ℕ) (result : Answer) → length octets < 2 ^ 64 → IfOk result (IsAudited octets) → IfErr result (Refuses octets) → IsOfWritten octets result
of_written octets (Ok verdict) small ok refused config names history is =
    let same = one_record octets ok.config config ok.names names ok.history history small ok.spelled is in
    subst (λ (es : List Event). IsVerdictBy config names es verdict) same.2
    (subst (λ (ns : List (List ℕ)). IsVerdictBy config ns ok.history verdict) same.1
    (subst (λ (os : List ℕ). IsVerdictBy os ok.names ok.history verdict) same.0 ok.judged))
of_written octets (Err (refusals.Config number key)) small ok refused config names history is =
    let same = one_config octets refused.config refused.rest config (flat_map line (record_lines names history)) small refused.stands is.spelled in
    subst (λ (os : List ℕ). IsFirstFault os (fault key number)) same.0 refused.told
of_written octets (Err (refusals.BadRecord at)) small ok refused config names history is = refused.no_record config names history is
of_written octets (Err refusals.NoMemory) small ok refused config names history is = tt

-- all laws hold of each run
abbrev pub AreLawful : Type 0
AreLawful = (setup : Setup) (clients : ℕ) (events : List Event) (new : State) → Run (opening setup clients) events new → IsLawful clients new.past

pub lawful_where_run : AreLawful → (octets : List ℕ) (verdict : Verdict) → IsAudited octets verdict → LawfulWhereRun octets verdict
lawful_where_run laws octets (verdicts.Run many) is =
    let run = is.judged.judged in
    record {
      config = is.config;
      names = is.names;
      history = is.history;
      spelled = is.spelled;
      counted = run.0;
      setup = is.judged.setup;
      says = is.judged.says;
      new = run.1.0;
      runs = run.1.1.runs;
      in_order = run.1.1.in_order;
      over = run.1.2;
      lawful = laws is.judged.setup (length is.names) is.history run.1.0 run.1.1.runs;
    }
lawful_where_run laws octets (verdicts.At place) is = tt
lawful_where_run laws octets (verdicts.Unfinished many) is = tt

-- ---- one refusal for another

pub refused_so : (octets behind : List ℕ) (why : RecordRefused) (e : AuditRefused) → IsSameRefusal why e → ((at : ℕ) → StopsAtLine behind at → IsBad octets at) → Tells (StopsAtLine behind) why → Refuses octets e
refused_so octets behind (records.BadRecord at) e same bad stops = subst (λ (r : AuditRefused). Refuses octets r) (sym same) (bad at stops)
refused_so octets behind records.NoMemory e same bad stops = subst (λ (r : AuditRefused). Refuses octets r) (sym same) tt
