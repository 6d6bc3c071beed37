pub mod Clock
pub mod Kept
pub mod Visits
