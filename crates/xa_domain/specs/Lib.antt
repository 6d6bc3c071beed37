pub mod Beside
pub mod Working
pub mod Closing
pub mod Leaving
pub mod Stops
pub mod Room
pub mod Joined
pub mod Gathered
pub mod Gathering
pub mod Closed
pub mod Handed
pub mod Locks
pub mod Serving
-- what crates above cite of the definitions of those below
pub use Rattle.xa_boot.specs.xa_types
pub use Rattle.xa_boot.specs.xa_events
pub use Rattle.xa_boot.specs.xa_stamp
pub use Rattle.xa_boot.specs.xa_worker
pub use Rattle.xa_boot.specs.xa_server
pub use Rattle.xa_boot.specs.xa_link
pub use Rattle.xa_history.specs.xa_script
pub use Rattle.xa_boot.specs.xa_pipe
pub use Rattle.xa_boot.specs.xa_client_worker
pub use Rattle.xa_boot.specs.xa_server_worker
pub use Rattle.xa_history.specs as xa_history
