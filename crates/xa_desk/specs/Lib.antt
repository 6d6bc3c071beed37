pub mod Whole
pub mod Made
pub mod Deserted
pub mod Desks
pub mod Visit
pub mod Halting
pub mod Found
pub mod Looks
pub mod Steps
pub mod Advertising
pub mod Ticking
pub mod Parting
pub mod Serving
pub mod Passing
-- what crates above cite of the definitions of those below
pub use Rattle.xa_server.specs.xa_types
pub use Rattle.xa_server.specs.xa_events
pub use Rattle.xa_server.specs.xa_stamp
pub use Rattle.xa_server.specs.xa_lock
pub use Rattle.xa_server.specs.xa_worker
pub use Rattle.xa_server.specs.xa_caller
pub use Rattle.xa_server.specs.xa_cell
pub use Rattle.xa_server.specs.xa_queue
pub use Rattle.xa_server.specs as xa_server
pub use Rattle.xa_server.specs.xa_restart
pub use Rattle.xa_board.specs as xa_board
pub use Rattle.xa_ticks.specs as xa_ticks
pub use Rattle.xa_server.specs.xa_held
pub use Rattle.xa_server.specs.xa_frame
pub use Rattle.xa_server.specs.xa_link
pub use Rattle.xa_server.specs.xa_pipe
