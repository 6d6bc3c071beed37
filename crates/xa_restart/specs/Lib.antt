pub mod Rule
pub mod Within
pub mod Kept
