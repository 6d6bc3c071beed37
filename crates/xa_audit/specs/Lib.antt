pub mod Audit
pub mod Reading
pub mod Record
pub mod Verdict
