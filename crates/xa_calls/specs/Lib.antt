pub mod Resting
pub mod Going
pub mod Sending
pub mod Telling
