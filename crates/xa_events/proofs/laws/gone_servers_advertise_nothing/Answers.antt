use Rattle.std.proofs.Common.{refl}
use Rattle.xa_events.specs.State.{opening}
use Rattle.xa_events.specs.Server.{doing}
use Rattle.xa_events.proofs.Stages.{along}
use Rattle.xa_events.proofs.Localities.{GoneSoFar, gone_more}
use Rattle.xa_events.proofs.laws.gone_servers_advertise_nothing.Goals as goal

pub returns : goal.returns
unfolding doing
returns c setup clients events new run = (along (GoneSoFar clients) (gone_more clients) events (opening setup clients) new (record { clients_are = refl; off = λ server h. refl; quiet = tt }) run).quiet
