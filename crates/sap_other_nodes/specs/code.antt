-- How the code finds them: no definition that a theorem speaks of.
pub mod Seeks
pub mod Binders
pub mod LockWalks
pub mod FactSearches
