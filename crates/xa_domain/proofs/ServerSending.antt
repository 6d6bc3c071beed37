-- Which of a server's values may go to another thread.
use denote.RattleType.{RattleType}
use denote.Struct.Struct.{Struct}
use denote.Struct.Declared as declared
use denote.Enum.Declared as declared_enum
use denote.Param.Send.{IsSend, sendable, struct_send, enum_send, recorded_send}
use Rattle.std.proofs.Crossing.{crosses}
use Rattle.http_server.proofs.log.Log.TheSendSync as log
use Rattle.xa_boot.proofs.xa_types.name.Name.TheSendSync as name
use Rattle.xa_boot.proofs.xa_types.data.Data.TheSendSync as payload
use Rattle.xa_boot.specs.xa_caller.contracts.cargo.Filling as Filling
use Rattle.xa_boot.specs.xa_held.contracts.cargo.Cargo as Cargo
use Rattle.xa_boot.specs.xa_link.declared.link.Link as Link
use Rattle.xa_boot.specs.xa_link.declared.source.Source as Source
use Rattle.xa_boot.specs.xa_link.declared.sink.Sink as Sink
use Rattle.xa_boot.specs.xa_link.contracts.link.Closed as Closed
use Rattle.xa_boot.specs.xa_link.contracts.link.ProcessEnd as ProcessEnd
use Rattle.xa_boot.specs.xa_pipe.contracts.noted.Said as Said
use Rattle.xa_boot.specs.xa_pipe.contracts.noted.Asked as Asked
use Rattle.xa_boot.specs.xa_pipe.contracts.over.CutLife as CutLife
use Rattle.xa_boot.specs.xa_pipe.contracts.over.EndedLife as EndedLife
use Rattle.xa_boot.specs.xa_pipe.contracts.over.Pipes as Pipes
use Rattle.xa_boot.specs.xa_restart.contracts.lives.Lives as Lives
use Rattle.xa_boot.specs.xa_queue.contracts.entry.Entry as Entry
use Rattle.xa_boot.specs.xa_server.contracts.slot.ServerSlot as ServerSlot
use Rattle.xa_boot.specs.xa_server.contracts.served.Served as Served
use Rattle.xa_boot.specs.xa_server_worker.contracts.working.ServerWorker as ServerWorker
use Rattle.xa_domain.proofs.Sending.{cargo_sends, desk_field, stopped_sends}

end_sends : IsSend ProcessEnd.the_row
end_sends = search (sendable, crosses) depth 40 fits 20000

said_sends : IsSend Said.the_row
said_sends = search (sendable, crosses, log.the_send) depth 40 fits 20000

asked_sends : IsSend Asked.the_row
asked_sends = search (sendable, crosses, log.the_send, name.the_send, payload.the_send) depth 40 fits 20000

lives_sends : IsSend Lives.the_row
lives_sends = search (sendable, crosses, log.the_send) depth 40 fits 20000

entry_field : IsSend (Entry.the_field (Cargo.the_row Filling.the_row)).row
entry_field = search (sendable, cargo_sends) depth 40 fits 20000

slot_field : IsSend (ServerSlot.the_field).row
slot_field = search (sendable, crosses, lives_sends, entry_field) depth 40 fits 20000

module _ (L : RattleType) (link : Link.Ghosts L.Denot) (source : Source.Ghosts L.Denot) (sink : Sink.Ghosts L.Denot) (l : IsSend L) where
  closed_field : IsSend (Closed.the_field L).row
  closed_field = search (sendable, crosses, l, end_sends) depth 40 fits 20000

  pipes_field : IsSend (Pipes.the_field L).row
  pipes_field = enum_send (declared_enum.shape (Pipes.the_type L)) ((l, tt), ((closed_field, tt), ((closed_field, tt), tt)))

  ended_sends : IsSend (EndedLife.the_row L link source sink)
  ended_sends = search (sendable, crosses, pipes_field, said_sends, asked_sends, name.the_send) depth 40 fits 20000

  cut_sends : IsSend (CutLife.the_row L link source sink)
  cut_sends = search (sendable, crosses, closed_field, said_sends, asked_sends, name.the_send) depth 40 fits 20000

  module _ (T : RattleType) (t : IsSend T) where
    served_field : IsSend (Served.the_field L T link source sink).row
    served_field = struct_send (declared.shape (Served.the_type L T link source sink)) (slot_field, (search (sendable, t), (search (sendable, crosses, ended_sends) depth 40 fits 20000, tt)))

    worker_field : IsSend (ServerWorker.the_field L T link source sink).row
    worker_field = struct_send (declared.shape (ServerWorker.the_type L T link source sink)) (
      desk_field,
      (
        served_field,
        (
          name.the_send,
          (
            search sendable,
            (
              search sendable,
              (search (sendable, crosses, cut_sends) depth 40 fits 20000, (search (sendable, stopped_sends), tt)),
            ),
          ),
        ),
      ),
    )

    pub server_worker_sends : IsSend (ServerWorker.the_row L T link source sink)
    server_worker_sends = recorded_send (Struct (declared.shape (ServerWorker.the_type L T link source sink))) (ServerWorker.the_type L T link source sink).D (ServerWorker.the_type L T link source sink).to (ServerWorker.the_type L T link source sink).to_one worker_field
