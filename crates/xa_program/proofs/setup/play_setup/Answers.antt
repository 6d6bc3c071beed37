use Rattle.xa_program.proofs.Failing.{none_made}
use Rattle.xa_program.proofs.setup.play_setup.Goals as goal

pub returns-in_err-queues : goal.returns-in_err-queues
returns-in_err-queues c = record {
  setup = none_made c.from_residual.result _ _ c.from_residual.ensures.1;
  configured = none_made c.from_residual.result _ _ c.from_residual.ensures.1;
}

pub returns-in_err-servers : goal.returns-in_err-servers
returns-in_err-servers c = record {
  setup = none_made c.from_residual-in_err-servers.result _ _ c.from_residual-in_err-servers.ensures.1;
  configured = none_made c.from_residual-in_err-servers.result _ _ c.from_residual-in_err-servers.ensures.1;
}

pub returns-in_err-vec : goal.returns-in_err-vec
returns-in_err-vec c = record {
  setup = none_made c.from_residual-in_err-vec.result _ _ c.from_residual-in_err-vec.ensures.1;
  configured = none_made c.from_residual-in_err-vec.result _ _ c.from_residual-in_err-vec.ensures.1;
}

pub returns-in_err-services : goal.returns-in_err-services
returns-in_err-services c = record {
  setup = none_made c.from_residual-in_err-services.result _ _ c.from_residual-in_err-services.ensures.1;
  configured = none_made c.from_residual-in_err-services.result _ _ c.from_residual-in_err-services.ensures.1;
}
