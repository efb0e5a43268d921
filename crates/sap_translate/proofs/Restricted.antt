pub mod Truth
pub mod Seen
pub mod Needed
pub mod Suffices
