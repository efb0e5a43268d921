pub mod Atoms
pub mod Matched
pub mod View
pub mod code
