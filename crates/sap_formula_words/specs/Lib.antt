pub mod PartWords
pub mod StatementWords
pub mod Examples
pub mod code
