use Rattle.std.proofs.Common.{refl}
use Rattle.xa_events.specs.State.{State, opening}
use Rattle.xa_events.specs.Server.{doing}
use Rattle.xa_events.specs.Laws.{LawOfServers}
use Rattle.xa_events.proofs.Stages.{along}
use Rattle.xa_events.proofs.Servers.{servers_more}
use Rattle.xa_events.proofs.laws.ended_servers_are_off.Goals as goal

pub returns : goal.returns
unfolding doing
returns c setup clients events new run = along (λ (s : State). LawOfServers s.past) servers_more events (opening setup clients) new (λ server h. refl) run
