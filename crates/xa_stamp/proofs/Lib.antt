pub mod Stamps
pub mod Sorted
pub mod Places
