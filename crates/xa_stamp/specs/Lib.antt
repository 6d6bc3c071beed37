pub mod Home
pub mod Merge
