pub mod Joined
pub mod Ended
pub mod Told
pub mod Served
-- what crates above cite of the definitions of those below
pub use Rattle.xa_script.specs as xa_script
