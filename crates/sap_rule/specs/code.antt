-- What the code of this crate tests on its way, for its own contracts: no definition that a theorem speaks of.
pub mod Checks
