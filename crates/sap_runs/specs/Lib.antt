pub mod Inner
pub mod Marks
pub mod Limits
pub mod Short
pub mod Examples
