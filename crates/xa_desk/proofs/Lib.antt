pub mod Seating
pub mod Telling
pub mod Leading
pub mod Leaving
pub mod Stopping
pub mod Visiting
pub mod Entering
pub mod Boarding
pub mod BoardEntering
pub mod Looking
pub mod Ending
pub mod Falling
pub mod Dying
pub mod Starting
pub mod Cleared
pub mod Advertising
pub mod Refusals
pub mod OwnQueue
pub mod Parting
pub mod Fetching
pub mod Fitting
pub mod Refusing
pub mod Showing
pub mod Configured
pub mod Sending
pub mod Staying
pub mod Aiming
pub mod Preparing
pub mod Unsending
pub mod Replying
pub mod Prioritizing
pub mod Taking
pub mod Requests
pub mod Passes
-- what crates above cite of the lemmas of those below
pub use Rattle.xa_server.proofs.xa_types
pub use Rattle.xa_server.proofs.xa_events
pub use Rattle.xa_server.proofs.xa_stamp
pub use Rattle.xa_server.proofs.xa_lock
pub use Rattle.xa_server.proofs.xa_worker
pub use Rattle.xa_server.proofs.xa_caller
pub use Rattle.xa_server.proofs.xa_cell
pub use Rattle.xa_server.proofs.xa_queue
pub use Rattle.xa_server.proofs as xa_server
pub use Rattle.xa_board.proofs as xa_board
pub use Rattle.xa_server.proofs.xa_held
pub use Rattle.xa_server.proofs.xa_buffer
pub use Rattle.xa_server.proofs.xa_pipe
mod Timely
mod Clocks
