pub mod Booting
pub mod Founding
pub mod Hiring
pub mod Locking
pub mod Opening
pub mod Staffing
pub mod Supplies
-- what crates above cite of the definitions of those below
pub use Rattle.xa_client_worker.specs.xa_types
pub use Rattle.xa_client_worker.specs.xa_events
pub use Rattle.xa_client_worker.specs.xa_stamp
pub use Rattle.xa_client_worker.specs.xa_lock
pub use Rattle.xa_client_worker.specs.xa_worker
pub use Rattle.xa_client_worker.specs.xa_caller
pub use Rattle.xa_client_worker.specs.xa_cell
pub use Rattle.xa_client_worker.specs.xa_queue
pub use Rattle.xa_client_worker.specs.xa_restart
pub use Rattle.xa_client_worker.specs.xa_server
pub use Rattle.xa_client_worker.specs.xa_board
pub use Rattle.xa_client_worker.specs.xa_ticks
pub use Rattle.xa_client_worker.specs.xa_held
pub use Rattle.xa_client_worker.specs.xa_link
pub use Rattle.xa_client_worker.specs.xa_pipe
pub use Rattle.xa_client_worker.specs.xa_desk
pub use Rattle.xa_client_worker.specs.xa_calls
pub use Rattle.xa_client_worker.specs as xa_client_worker
pub use Rattle.xa_server_worker.specs as xa_server_worker
