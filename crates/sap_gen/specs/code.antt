-- What walks through places and right sides give, for this crate's own proofs: no definition that a theorem speaks of.
pub mod SettledPlaces
pub mod Walks
pub mod Takers
pub mod Shorter
