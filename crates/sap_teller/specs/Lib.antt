pub mod Telling
pub mod code
