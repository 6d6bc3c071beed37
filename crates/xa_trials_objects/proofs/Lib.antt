mod AtBoard
pub mod Seats
mod Working
