pub mod Phases
pub mod Drafts
pub mod Descriptors
pub mod Caller
pub mod Changes
pub mod Getting
pub mod Kept
pub mod Serving
pub mod Sound
pub mod Unsent
-- what crates above cite of the definitions of those below
pub use Rattle.xa_types.specs as xa_types
pub use Rattle.xa_events.specs as xa_events
pub use Rattle.xa_stamp.specs as xa_stamp
pub use Rattle.xa_lock.specs as xa_lock
pub use Rattle.xa_worker.specs as xa_worker
pub use Rattle.xa_cell.specs as xa_cell
pub use Rattle.xa_queue.specs as xa_queue
pub use Rattle.xa_held.specs as xa_held
pub use Rattle.xa_frame.specs as xa_frame
