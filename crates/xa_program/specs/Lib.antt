pub mod Audit
pub mod Configuration
pub mod Headline
pub mod Input
pub mod PlaySetup
pub mod Progress
pub mod Server
pub mod Status
pub mod Words
pub mod Yard
-- what crates above cite of the definitions of those below
pub use Rattle.xa_domain.specs.xa_types
