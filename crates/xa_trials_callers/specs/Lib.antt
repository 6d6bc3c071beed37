pub mod Callers
pub mod Forwards
