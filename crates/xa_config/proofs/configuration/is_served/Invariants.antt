use Rattle.std.proofs.Common.{◌≡◌, drop}
use Rattle.std.specs.List.{list_any}
use Rattle.std.specs.Str.{bytes_eq}
use Rattle.xa_types.specs.declared.setup.ServerSetup.{ServerSetup}
use Rattle.xa_config.proofs.configuration.is_served.Given as goal

abbrev pub invariant-loop-server : goal.invariant-loop-server
invariant-loop-server l = list_any (λ (server : ServerSetup). bytes_eq l.queue server.queue) (drop l.server-index l.servers) ≡ list_any (λ (server : ServerSetup). bytes_eq l.queue server.queue) l.servers
