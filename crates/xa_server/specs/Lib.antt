pub mod Doings
pub mod Noting
pub mod Slot
pub mod Changes
pub mod Forwarding
pub mod Told
pub mod Served
pub mod Growing
pub mod Fillings
-- what crates above cite of the definitions of those below
pub use Rattle.xa_caller.specs.xa_types
pub use Rattle.xa_caller.specs.xa_events
pub use Rattle.xa_caller.specs.xa_stamp
pub use Rattle.xa_caller.specs.xa_lock
pub use Rattle.xa_caller.specs.xa_worker
pub use Rattle.xa_caller.specs as xa_caller
pub use Rattle.xa_caller.specs.xa_cell
pub use Rattle.xa_caller.specs.xa_queue
pub use Rattle.xa_restart.specs as xa_restart
pub use Rattle.xa_caller.specs.xa_held
pub use Rattle.xa_caller.specs.xa_frame
pub use Rattle.xa_link.specs as xa_link
pub use Rattle.xa_pipe.specs as xa_pipe
