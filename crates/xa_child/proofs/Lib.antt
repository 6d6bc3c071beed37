pub mod Frames
pub mod ServingSteps
pub mod Turned
pub mod LocalSteps
pub mod Callings
