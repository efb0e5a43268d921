pub mod Near
pub mod Decided
pub mod Examples
pub mod Searched
pub mod Lines
pub mod Found
pub mod LineExamples
pub mod code
