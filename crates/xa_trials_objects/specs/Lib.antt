pub mod Held
pub mod Queues
pub mod Passes
