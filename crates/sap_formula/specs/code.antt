-- What serves the code's own proofs: how formulas, restrictions and lemmas are told apart, for the models of this crate's
-- types, and mirrors of the check. No definition that a theorem speaks of.
pub mod Codes
pub mod Tests
pub mod Scoped
pub mod Remade
