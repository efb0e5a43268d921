pub mod Lines
pub mod Some
pub mod Missed
