pub mod Plan
pub mod Planned
pub mod Claims
pub mod Explained
pub mod View
pub mod code
