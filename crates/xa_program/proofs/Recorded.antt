-- The record of a run that came to its end is judged as a run.
use Rattle.std.proofs.Common.{◌≡◌, ℕ, ◌<◌, ◌^◌, List, length, reverse, Result, Ok, Err, inl, inr, refl, sym, subst}
use Rattle.std.specs.Prelude.{◌⊎◌}
use Rattle.std.proofs.lemmas.List.{length-map}
use Rattle.xa_domain.specs.xa_types.declared.setup.Setup.{Setup}
use Rattle.xa_domain.specs.xa_events.declared.event.Event.{Event}
use Rattle.xa_domain.specs.xa_events.Run.{Run, IsFinal}
use Rattle.xa_domain.specs.xa_events.State.{State, opening}
use Rattle.xa_domain.specs.xa_script.declared.script.Client.{Client}
use Rattle.xa_domain.specs.xa_history.Served.{IsHistory}
use Rattle.xa_config.specs.Document.{IsConfiguration}
use Rattle.xa_audit.specs.Record.{IsRecord}
use Rattle.xa_audit.specs.Audit.{IsAudited, Answers}
use Rattle.xa_audit.specs.declared.judging.Verdict.{Verdict}
use Rattle.xa_audit.specs.declared.judging.Verdict.TheVariants as verdicts
use Rattle.xa_audit.specs.declared.auditing.AuditRefused.{AuditRefused}
use Rattle.xa_audit.specs.declared.auditing.AuditRefused.TheVariants as refusals
use Rattle.xa_audit.proofs.Determined.{one_answer}
use Rattle.xa_program.specs.Headline.{names_of, IsRunRecord}

-- what is answered of octets that are a run's record is that, or memory ran out
answered : (octets : List ℕ) (many : ℕ) (answer : Result Verdict AuditRefused) → length octets < 2 ^ 64 → IsAudited octets (verdicts.Run many) → Answers octets answer
    → (answer ≡ Ok (verdicts.Run many)) ⊎ (answer ≡ Err refusals.NoMemory)
answered octets many (Ok verdict) small run may = inl (one_answer octets (Ok verdict) (Ok (verdicts.Run many)) small may run (λ is. absurd (cc is)) (λ is. absurd (cc is)))
answered octets many (Err refusals.NoMemory) small run may = inr refl
answered octets many (Err (refusals.Config number key)) small run may =
    inl (one_answer octets (Err (refusals.Config number key)) (Ok (verdicts.Run many)) small may run (λ is. absurd (cc is)) (λ is. absurd (cc is)))
answered octets many (Err (refusals.BadRecord at)) small run may =
    inl (one_answer octets (Err (refusals.BadRecord at)) (Ok (verdicts.Run many)) small may run (λ is. absurd (cc is)) (λ is. absurd (cc is)))

pub recorded : (setup : Setup) (clients : List Client) (config octets : List ℕ) (history : List Event) → IsConfiguration config setup → IsHistory setup clients history
    → IsRecord octets config (names_of clients) history → length octets < 2 ^ 64 → IsRunRecord config (names_of clients) history octets
recorded setup clients config octets history says whole is small =
    let all : length (names_of clients) ≡ length clients = length-map clients (λ (client : Client). client.name) in
    let At : ℕ → State = λ n. record { setup = setup; clients = n; past = reverse history } in
    let run = subst (λ (n : ℕ). Run (opening setup n) history (At n)) (sym all) whole.run in
    let over = subst (λ (n : ℕ). IsFinal (At n)) (sym all) whole.final in
    let judged : IsAudited octets (verdicts.Run (length history)) = record {
      config = config;
      names = names_of clients;
      history = history;
      spelled = is;
      judged = record { setup = setup; says = says; judged = (refl, (At (length (names_of clients)), record { runs = run; in_order = whole.ordered }, over)) };
    } in
    record { spelled = is; audited = judged; answered = λ answer may. answered octets (length history) answer small judged may }
