pub mod Cutting
pub mod Combining
pub mod Leaves
pub mod Hexes
pub mod Parts
pub mod Events
