pub mod Puts
pub mod Noted
pub mod Withdrawn
pub mod Room
pub mod Turns
pub mod Listed
