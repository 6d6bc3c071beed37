pub mod Pages
pub mod Known
pub mod Makers
pub mod Lending
pub mod Views
pub mod Rule
