pub mod Leading
pub mod Lines
pub mod Records
pub mod Stops
pub mod Answering
pub mod Determined
