pub mod Tokens
pub mod Spans
pub mod Told
pub mod code
