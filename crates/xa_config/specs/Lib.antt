pub mod Faults
pub mod Kinds
pub mod Field
pub mod Keys
pub mod Tables
pub mod Meaning
pub mod Document
pub mod Readings
