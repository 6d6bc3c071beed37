use Rattle.std.proofs.Common.{◌≡◌, map, drop}
use Rattle.xa_types.specs.declared.setup.ServerSetup.{ServerSetup}
use Rattle.xa_config.specs.Tables.{unserved}
use Rattle.xa_config.proofs.configuration.check_served.Given as goal

abbrev pub invariant-loop-place : goal.invariant-loop-place
invariant-loop-place l =
    unserved (map (λ (server : ServerSetup). server.queue) l.servers) 0 l.queues
    ≡ unserved (map (λ (server : ServerSetup). server.queue) l.servers) l.place (drop l.place l.queues)
