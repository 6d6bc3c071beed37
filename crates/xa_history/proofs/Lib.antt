pub mod Listed
pub mod Left
pub mod Standing
pub mod Going
pub mod Crew
pub mod Homes
pub mod Stamps
pub mod Recorded
pub mod Merged
pub mod Configured
pub mod Gone
pub mod Deserting
pub mod History
pub mod Lawful
pub mod Behind
pub mod Numbered
pub mod Readings
pub mod Own
pub mod Callers
pub mod Shown
pub mod Sent
pub mod Entries
pub mod Requests
pub mod Asked
pub mod SoFar
pub mod Lives
-- what crates above cite of the lemmas of those below
pub use Rattle.xa_script.proofs as xa_script
