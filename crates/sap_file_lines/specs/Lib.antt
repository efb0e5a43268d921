pub mod FileLines
pub mod Places
pub mod LineExamples
pub mod code
