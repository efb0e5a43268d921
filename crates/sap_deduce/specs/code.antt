-- What the code of this crate speaks of: how what is stored is seen, and what is left to refuse. No theorem speaks of it.
pub mod Large
pub mod Lines
pub mod Views
