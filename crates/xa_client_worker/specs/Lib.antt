pub mod Going
pub mod Ending
-- what crates above cite of the definitions of those below
pub use Rattle.xa_desk.specs.xa_types
pub use Rattle.xa_desk.specs.xa_events
pub use Rattle.xa_desk.specs.xa_stamp
pub use Rattle.xa_desk.specs.xa_lock
pub use Rattle.xa_desk.specs.xa_worker
pub use Rattle.xa_desk.specs.xa_caller
pub use Rattle.xa_desk.specs.xa_cell
pub use Rattle.xa_desk.specs.xa_queue
pub use Rattle.xa_desk.specs.xa_server
pub use Rattle.xa_desk.specs.xa_restart
pub use Rattle.xa_desk.specs.xa_board
pub use Rattle.xa_desk.specs.xa_ticks
pub use Rattle.xa_desk.specs.xa_held
pub use Rattle.xa_desk.specs.xa_frame
pub use Rattle.xa_desk.specs.xa_link
pub use Rattle.xa_desk.specs.xa_pipe
pub use Rattle.xa_desk.specs as xa_desk
pub use Rattle.xa_calls.specs as xa_calls
