pub mod Forms
pub mod Derive
pub mod Substitution
pub mod Choices
pub mod Unused
pub mod Grounds
pub mod Clean
pub mod Steps
