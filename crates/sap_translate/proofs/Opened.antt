-- What the rules of places leave open.
pub mod NewVars
pub mod Outer
pub mod Plain
pub mod Rules
pub mod Embedded
pub mod Ready
