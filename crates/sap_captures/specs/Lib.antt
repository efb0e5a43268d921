pub mod Patterns
pub mod Captures
pub mod Ascending
pub mod Examples
pub mod code
