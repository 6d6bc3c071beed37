mod Leaving
mod Stepping
mod Numbered
mod Working
mod Sending
mod Sharing
mod ServerSending
mod Groups
pub mod Listed
pub mod Silent
pub mod Queues
pub mod GivenBack
pub mod Adding
pub mod GivenUp
pub mod Taking
pub mod Itself
pub mod Back
pub mod Ends
pub mod Nothing
pub mod Joining
-- what crates above cite of the lemmas of those below
pub use Rattle.xa_history.proofs.xa_script
pub use Rattle.xa_history.proofs as xa_history
