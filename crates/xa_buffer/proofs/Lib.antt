pub mod Fields
pub mod Laid
pub mod Numbers
pub mod Shaped
pub mod Sizes
pub mod Texts
pub mod Whole
