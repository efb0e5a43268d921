-- What the code of this crate keeps and makes on its way, for its own contracts: no definition that a theorem speaks of.
pub mod Desk
pub mod Replayed
pub mod Taken
