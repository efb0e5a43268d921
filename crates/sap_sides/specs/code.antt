-- What the code of this crate speaks of. No theorem speaks of it.
pub mod Slots
