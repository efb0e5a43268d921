pub mod Followed
pub mod Adversary
pub mod Control
pub mod Stores
pub mod Embedded
pub mod Messages
pub mod Back
