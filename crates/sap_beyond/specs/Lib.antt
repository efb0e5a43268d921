pub mod Numbered
pub mod Examples
pub mod code
