pub mod Resting
pub mod Seating
pub mod Going
pub mod Noting
pub mod Trying
pub mod Changed
pub mod Ticked
pub mod Given
