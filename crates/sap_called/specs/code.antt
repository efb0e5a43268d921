-- What the code of this crate speaks of: what it keeps of the names that were drawn. No theorem speaks of it.
pub mod Kept
