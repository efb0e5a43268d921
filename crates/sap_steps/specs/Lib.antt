pub mod State
pub mod Lines
pub mod Runs
pub mod Faults
pub mod Inner
pub mod Marks
pub mod Answers
pub mod code
