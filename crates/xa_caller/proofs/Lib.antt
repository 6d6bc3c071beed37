pub mod Standing
pub mod Counting
pub mod Ordering
pub mod Reading
pub mod Next
pub mod Keeping
pub mod Fetching
pub mod Replying
pub mod Departing
pub mod Unsent
pub mod Sound
pub mod Spelled
pub mod Tickets
-- what crates above cite of the lemmas of those below
pub use Rattle.xa_types.proofs as xa_types
pub use Rattle.xa_events.proofs as xa_events
pub use Rattle.xa_stamp.proofs as xa_stamp
pub use Rattle.xa_lock.proofs as xa_lock
pub use Rattle.xa_worker.proofs as xa_worker
pub use Rattle.xa_cell.proofs as xa_cell
pub use Rattle.xa_queue.proofs as xa_queue
pub use Rattle.xa_held.proofs as xa_held
pub use Rattle.xa_buffer.proofs as xa_buffer
