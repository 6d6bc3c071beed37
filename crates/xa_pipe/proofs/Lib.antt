mod NoFrame
pub mod Frames
pub mod Ceasing
pub mod Saying
pub mod Replying
pub mod Asking
pub mod Dues
pub mod Coming
pub mod Taking
pub mod Whole
pub mod Courses
pub mod Followed
