use Rattle.std.proofs.Common.{ap}
use Rattle.xa_pipe.specs.Pipe.{shown}
use Rattle.xa_pipe.proofs.pipe.Pipe.into_link.Goals as goal

pub returns : goal.returns
returns g c = ap shown c.self.view_is
