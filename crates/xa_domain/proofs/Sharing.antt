-- What the workers share may be used by all of them at once, and the clients' side may go to another thread.
use denote.Ref.{NamedLft}
use denote.RattleType.{RattleType}
use denote.Struct.Struct.{Struct}
use denote.Struct.Declared as declared
use denote.Param.Send.{IsSend, IsSync, sendable, struct_send, struct_sync, recorded_send, recorded_sync}
use Rattle.std.proofs.Crossing.{crosses}
use Rattle.xa_history.proofs.xa_script.script.Client.TheSendSync as client
use Rattle.xa_boot.specs.contracts.desk.Monitor as Monitor
use Rattle.xa_domain.specs.contracts.crew.Shared as Shared
use Rattle.xa_domain.specs.contracts.crew.ClientSide as ClientSide
use Rattle.xa_domain.proofs.Sending.{client_worker_sends, closer_field, domain_syncs}

module _ (a : NamedLft) (R G : RattleType) (r : IsSync R) (s : IsSync G) where
  monitor_sync : IsSync (Monitor.the_field a R G).row
  monitor_sync = struct_sync (declared.shape (Monitor.the_type a R G)) (
    search (sendable, r) depth 40 fits 20000,
    (
      search (sendable, crosses) depth 40 fits 20000,
      (
        search (sendable, domain_syncs) depth 40 fits 20000,
        (search (sendable, s) depth 40 fits 20000, tt),
      ),
    ),
  )

  fields_sync : IsSync (Shared.the_field a R G).row
  fields_sync = struct_sync (declared.shape (Shared.the_type a R G)) (
    monitor_sync,
    (search (sendable, crosses, client.the_sync) depth 40 fits 20000, tt),
  )

  pub shared_syncs : IsSync (Shared.the_row a R G)
  shared_syncs = recorded_sync (Struct (declared.shape (Shared.the_type a R G))) (Shared.the_type a R G).D (Shared.the_type a R G).to (Shared.the_type a R G).to_one fields_sync

side_field : IsSend (ClientSide.the_field).row
side_field = struct_send (declared.shape ClientSide.the_type) (search (sendable, crosses, client_worker_sends) depth 40 fits 20000, (closer_field, tt))

pub side_sends : IsSend ClientSide.the_row
side_sends = recorded_send (Struct (declared.shape ClientSide.the_type)) (ClientSide.the_type).D (ClientSide.the_type).to (ClientSide.the_type).to_one side_field
