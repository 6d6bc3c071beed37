-- Which of the workers' values may go to another thread.
use denote.Struct.Struct.{Struct}
use denote.Struct.Declared as declared
use denote.Enum.Enum.{Enum}
use denote.Enum.Declared as declared_enum
use denote.Param.Send.{IsSend, IsSync, sendable, struct_send, struct_sync, enum_send, recorded_send, recorded_sync}
use Rattle.std.proofs.Crossing.{crosses}
use Rattle.http_server.proofs.log.Log.TheSendSync as log
use Rattle.xa_boot.proofs.xa_types.stamp.Stamp.TheSendSync as stamp
use Rattle.xa_boot.proofs.xa_stamp.home.Home.TheSendSync as home
use Rattle.xa_boot.specs.xa_worker.contracts.own.Own as Own
use Rattle.xa_boot.specs.xa_worker.contracts.work.Work as Work
use Rattle.xa_boot.proofs.xa_worker.work.Halt.TheSendSync as halt
use Rattle.xa_boot.specs.xa_caller.contracts.cargo.Filling as Filling
use Rattle.xa_boot.proofs.xa_caller.cargo.Filling.TheSendSync as filling
use Rattle.xa_boot.proofs.xa_caller.descriptors.Descriptors.TheSendSync as descriptors
use Rattle.xa_boot.specs.xa_caller.contracts.phase.Phase as Phase
use Rattle.xa_boot.specs.xa_caller.contracts.caller.Caller as Caller
use Rattle.xa_boot.specs.xa_caller.contracts.caller.Left as Left
use Rattle.xa_boot.specs.xa_cell.contracts.tokens.Seat as Seat
use Rattle.atomic_table.proofs.shared.Seat.TheSendSync as table_seat
use Rattle.xa_boot.specs.xa_lock.contracts.pass.LockPass as LockPass
use Rattle.xa_boot.proofs.xa_lock.pass.LockPass.TheSendSync as pass
use Rattle.xa_boot.specs.xa_held.contracts.kept_board.BoardNote as BoardNote
use Rattle.xa_boot.specs.xa_held.contracts.kept_queue.QueueNote as QueueNote
use Rattle.xa_boot.specs.xa_lock.contracts.makers.Made as Made
use Rattle.xa_ticks.specs.contracts.clock.Clock as Clock
use Rattle.xa_ticks.proofs.clock.Clock.TheSendSync as clock
use Rattle.xa_boot.proofs.xa_board.reader.Reader.TheSendSync as reader
use Rattle.xa_boot.proofs.xa_types.setup.Setup.TheSendSync as setup
use Rattle.xa_boot.proofs.xa_buffer.shapes.Shapes.TheSendSync as shapes
use Rattle.xa_boot.proofs.xa_lock.guarded.Guarded.TheSendSync as guarded
use Rattle.xa_boot.proofs.xa_board.board.Board.TheSendSync as board
use Rattle.xa_boot.specs.xa_held.contracts.cargo.Cargo as Cargo
use Rattle.xa_boot.specs.xa_held.contracts.cargo.Invocation as Invocation
use Rattle.xa_boot.proofs.xa_cell.tokens.Ticket.TheSendSync as ticket
use Rattle.xa_boot.proofs.xa_queue.queue.Queue.TheSendSync as queue
use Rattle.xa_boot.proofs.xa_types.data.Data.TheSendSync as payload
use Rattle.xa_boot.proofs.xa_types.name.Name.TheSendSync as name
use Rattle.xa_boot.proofs.xa_desk.domain.Waits.TheSendSync as waits
use Rattle.xa_boot.proofs.xa_desk.halting.HaltWord.TheSendSync as halt_word
use Rattle.xa_boot.proofs.xa_cell.cells.Cells.TheSendSync as cells
use Rattle.xa_boot.specs.xa_held.contracts.kept_board.KeptBoard as KeptBoard
use Rattle.xa_boot.specs.xa_held.contracts.kept_queue.KeptQueue as KeptQueue
use Rattle.xa_boot.specs.xa_desk.contracts.domain.Domain as Domain
use Rattle.xa_boot.specs.xa_desk.contracts.desk.Desk as Desk
use Rattle.xa_boot.specs.xa_desk.contracts.departure.Done as Done
use Rattle.xa_boot.specs.xa_desk.contracts.stopped.Stopped as Stopped
use Rattle.xa_boot.specs.xa_client_worker.contracts.working.Ended as Ended
use Rattle.xa_boot.specs.xa_client_worker.contracts.working.ClientWorker as ClientWorker
use Rattle.xa_boot.specs.contracts.closer.Closer as Closer

own_sends : IsSend Own.the_row
own_sends = search (sendable, crosses, log.the_send, stamp.the_send) depth 40

work_sends : IsSend Work.the_row
work_sends = search (sendable, crosses, own_sends, home.the_send) depth 60 fits 20000

filling_sends : IsSend Filling.the_row
filling_sends = filling.the_send

seat_field : IsSend (Seat.the_field Filling.the_row).row
seat_field = search (sendable, crosses, table_seat.the_send, filling_sends) depth 40 fits 20000

board_pass_sends : IsSend (LockPass.the_row BoardNote.the_row)
board_pass_sends = pass.the_send BoardNote.the_row

queue_pass_sends : IsSend (LockPass.the_row (QueueNote.the_row Filling.the_row))
queue_pass_sends = pass.the_send (QueueNote.the_row Filling.the_row)

clock_pass_sends : IsSend (LockPass.the_row Made.the_row)
clock_pass_sends = pass.the_send Made.the_row

phase_field : IsSend (Phase.the_field).row
phase_field = search (sendable, crosses) depth 40 fits 20000

caller_sends : IsSend Caller.the_row
caller_sends = search (sendable, crosses, work_sends, seat_field, descriptors.the_send, phase_field) depth 30 fits 4000

left_field : IsSend (Left.the_field).row
left_field = struct_send (declared.shape Left.the_type) (work_sends, (seat_field, (search (sendable, crosses, halt.the_send) depth 40 fits 20000, tt)))

done_field : IsSend (Done.the_field).row
done_field = struct_send (declared.shape Done.the_type) (left_field, (reader.the_send, (search (sendable, crosses, board_pass_sends) depth 40 fits 20000, (search (sendable, crosses, queue_pass_sends) depth 40 fits 20000, (search (sendable, crosses, clock_pass_sends) depth 40 fits 20000, tt)))))

pub stopped_sends : IsSend Stopped.the_row
stopped_sends = search (sendable, crosses) depth 40 fits 20000

ended_field : IsSend (Ended.the_field).row
ended_field = struct_send (declared.shape Ended.the_type) (done_field, (search (sendable, crosses, stopped_sends) depth 40 fits 20000, tt))

pub desk_field : IsSend (Desk.the_field).row
desk_field = struct_send (declared.shape Desk.the_type) (caller_sends, (reader.the_send, (search (sendable, crosses, board_pass_sends) depth 40 fits 20000, (search (sendable, crosses, queue_pass_sends) depth 40 fits 20000, (search (sendable, crosses, clock_pass_sends) depth 40 fits 20000, tt)))))

client_worker_field : IsSend (ClientWorker.the_field).row
client_worker_field = enum_send (declared_enum.shape ClientWorker.the_type) ((desk_field, tt), (tt, ((ended_field, tt), tt)))

pub client_worker_sends : IsSend ClientWorker.the_row
client_worker_sends = recorded_send (Enum (declared_enum.shape ClientWorker.the_type)) (ClientWorker.the_type).D (ClientWorker.the_type).to (ClientWorker.the_type).to_one client_worker_field

kept_board_sends : IsSend KeptBoard.the_row
kept_board_sends = search (sendable, crosses, log.the_send, board.the_send) depth 40 fits 20000

invocation_field : IsSend (Invocation.the_field).row
invocation_field = search (sendable, crosses, name.the_send) depth 30 fits 4000

pub cargo_sends : IsSend (Cargo.the_row Filling.the_row)
cargo_sends = search (sendable, crosses, ticket.the_field_send, invocation_field) depth 30 fits 4000

kept_queue_sends : IsSend (KeptQueue.the_row Filling.the_row)
kept_queue_sends = search (sendable, crosses, queue.the_send, cargo_sends) depth 30 fits 4000

clock_sends : IsSend Clock.the_row
clock_sends = clock.the_send

pub domain_field : IsSync (Domain.the_field).row
domain_field = struct_sync (declared.shape Domain.the_type) (search (sendable, crosses, setup.the_field_sync) depth 40 fits 20000, (search (sendable, crosses, shapes.the_sync) depth 40 fits 20000, (search (sendable, crosses) depth 40 fits 20000, (search (sendable, crosses) depth 40 fits 20000, (search (sendable, crosses, cells.the_field_sync, filling_sends) depth 40 fits 20000, (search (sendable, crosses, guarded.the_field_sync, kept_board_sends) depth 40 fits 20000, (search (sendable, crosses, guarded.the_field_sync, kept_queue_sends) depth 40 fits 20000, (search (sendable, crosses, guarded.the_field_sync, clock_sends) depth 40 fits 20000, (search (sendable, crosses, waits.the_field_sync) depth 40 fits 20000, (search (sendable, crosses, halt_word.the_field_sync) depth 40 fits 20000, tt))))))))))

pub domain_syncs : IsSync Domain.the_row
domain_syncs = recorded_sync (Struct (declared.shape Domain.the_type)) (Domain.the_type).D (Domain.the_type).to (Domain.the_type).to_one domain_field

pub closer_field : IsSend (Closer.the_field).row
closer_field = struct_send (declared.shape Closer.the_type) (
  seat_field,
  (
    search (sendable, crosses, board_pass_sends) depth 40 fits 20000,
    (
      search (sendable, crosses, queue_pass_sends) depth 40 fits 20000,
      (
        search (sendable, crosses, clock_pass_sends) depth 40 fits 20000,
        (own_sends, (search (sendable, stamp.the_send) depth 40 fits 20000, (search (sendable, crosses, halt.the_send) depth 40 fits 20000, tt))),
      ),
    ),
  ),
)
