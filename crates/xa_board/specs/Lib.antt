pub mod Board
pub mod Changes
pub mod Reader
pub mod Kept
pub mod Digests
