pub mod InTurn
pub mod Pairs
pub mod Telling
pub mod Passing
