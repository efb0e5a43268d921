pub mod Held
pub mod code
