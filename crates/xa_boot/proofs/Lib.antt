mod Noting
mod Settings
mod Numbered
mod Opened
mod Pairs
mod Unused
mod Serving
mod Locks
mod Taking
mod Dealt
mod Noted
mod Seated
mod Hired
mod Manned
mod Begun
-- what crates above cite of the lemmas of those below
pub use Rattle.xa_client_worker.proofs.xa_types
pub use Rattle.xa_client_worker.proofs.xa_stamp
pub use Rattle.xa_client_worker.proofs.xa_lock
pub use Rattle.xa_client_worker.proofs.xa_worker
pub use Rattle.xa_client_worker.proofs.xa_caller
pub use Rattle.xa_client_worker.proofs.xa_cell
pub use Rattle.xa_client_worker.proofs.xa_queue
pub use Rattle.xa_client_worker.proofs.xa_board
pub use Rattle.xa_client_worker.proofs.xa_held
pub use Rattle.xa_client_worker.proofs.xa_buffer
pub use Rattle.xa_client_worker.proofs.xa_pipe
pub use Rattle.xa_client_worker.proofs as xa_client_worker
pub use Rattle.xa_client_worker.proofs.xa_desk
