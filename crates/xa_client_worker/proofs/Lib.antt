pub mod Ending
-- what crates above cite of the lemmas of those below
pub use Rattle.xa_desk.proofs.xa_types
pub use Rattle.xa_desk.proofs.xa_events
pub use Rattle.xa_desk.proofs.xa_stamp
pub use Rattle.xa_desk.proofs.xa_lock
pub use Rattle.xa_desk.proofs.xa_worker
pub use Rattle.xa_desk.proofs.xa_caller
pub use Rattle.xa_desk.proofs.xa_cell
pub use Rattle.xa_desk.proofs.xa_queue
pub use Rattle.xa_desk.proofs.xa_server
pub use Rattle.xa_desk.proofs.xa_board
pub use Rattle.xa_desk.proofs.xa_held
pub use Rattle.xa_desk.proofs.xa_buffer
pub use Rattle.xa_desk.proofs.xa_pipe
pub use Rattle.xa_desk.proofs as xa_desk
