pub mod Line
pub mod Lanes
pub mod Queue
pub mod Changes
pub mod Reading
pub mod Kept
