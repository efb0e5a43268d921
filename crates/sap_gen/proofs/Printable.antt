-- The theories of a file that can be run and printed can be printed.
pub mod Names
pub mod Wider
pub mod Scopes
pub mod Rules
pub mod Places
pub mod Statements
pub mod Theories
pub mod OwnNames
pub mod Faultless
pub mod Checks
