pub mod Ticking
pub mod Passing
pub mod Showing
