pub mod Bits
pub mod Listing
