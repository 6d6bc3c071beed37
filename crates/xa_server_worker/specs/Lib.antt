pub mod Behind
pub mod Attending
pub mod Reasons
pub mod Lives
pub mod Working
pub mod Steps
pub mod Passing
pub mod Standing
