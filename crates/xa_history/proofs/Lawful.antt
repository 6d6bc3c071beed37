-- A run from the opening is lawful.
use Rattle.std.proofs.Common.{◌≡◌, ℕ, List, refl, subst, arith}
use Rattle.xa_client_worker.specs.xa_types.declared.setup.Setup.{Setup}
use Rattle.xa_client_worker.specs.xa_events.declared.event.Event.{Event}
use Rattle.xa_client_worker.specs.xa_events.Caller.{open_descriptors, versions}
use Rattle.xa_client_worker.specs.xa_events.Laws.{LawOfEnds, LawOfAnswers, LawOfVersions, LawOfServers}
use Rattle.xa_client_worker.specs.xa_events.Run.{Run}
use Rattle.xa_client_worker.specs.xa_events.Server.{doing}
use Rattle.xa_client_worker.specs.xa_events.State.{State, opening}
use Rattle.xa_client_worker.proofs.xa_events.AnswersOnce.{Unanswered, unanswered_more, answer_law}
use Rattle.xa_client_worker.proofs.xa_events.Servers.{servers_more}
use Rattle.xa_client_worker.proofs.xa_events.Stages.{along, Agree, agree_none, agree_more, ends_law}
use Rattle.xa_client_worker.proofs.xa_events.Versions.{ReadStands, stood_more, version_law}
use Rattle.xa_history.specs.Served.{IsLawful}

module _ (setup : Setup) (clients : ℕ) (events : List Event) (new : State) (run : Run (opening setup clients) events new) where
  ends : LawOfEnds new.past
  ends = (along (λ (s : State). Agree s × LawOfEnds s.past) (λ s e case h. (agree_more s e case h.0, (ends_law s e case h.0, h.1))) events (opening setup clients) new (agree_none setup clients, tt) run).1

  answers : LawOfAnswers new.past
  unfolding open_descriptors
  answers = (along (λ (s : State). Agree s × Unanswered s.past × LawOfAnswers s.past)
      (λ s e case h. (agree_more s e case h.0, unanswered_more s e case h.0 h.1, (answer_law s e case h.0 h.1, h.2)))
      events (opening setup clients) new (agree_none setup clients, record { all = λ r none. refl; is_open = λ r h. cc h }, tt) run).2

  reads : LawOfVersions clients new.past
  unfolding versions
  reads =
      let kept = along (λ (s : State). ReadStands s × LawOfVersions s.clients s.past × (s.clients ≡ clients)) (λ s e case h. (stood_more s e case h.0, (version_law s e case h.0, h.1), h.2))
      events (opening setup clients) new (λ caller. omega arith, tt, refl) run in
      subst (λ n. LawOfVersions n new.past) kept.2 kept.1

  off : LawOfServers new.past
  unfolding doing
  off = along (λ (s : State). LawOfServers s.past) servers_more events (opening setup clients) new (λ server h. refl) run

  pub lawful_run : IsLawful clients new.past
  lawful_run = record { ends_once = ends; answers_once = answers; reads_forward = reads; ended_servers_are_off = off }
