use Rattle.std.proofs.Common.{◌≡◌, refl, subst, arith}
use Rattle.xa_events.specs.State.{State, opening}
use Rattle.xa_events.specs.Caller.{versions}
use Rattle.xa_events.specs.Laws.{LawOfVersions}
use Rattle.xa_events.proofs.Stages.{along}
use Rattle.xa_events.proofs.Versions.{ReadStands, stood_more, version_law}
use Rattle.xa_events.proofs.laws.reads_forward.Goals as goal

pub returns : goal.returns
unfolding versions
returns c setup clients events new run =
    let kept = along (λ (s : State). ReadStands s × LawOfVersions s.clients s.past × (s.clients ≡ clients)) (λ s e case h. (stood_more s e case h.0, (version_law s e case h.0, h.1), h.2))
    events (opening setup clients) new (λ caller. omega arith, tt, refl) run in
    subst (λ n. LawOfVersions n new.past) kept.2 kept.1
