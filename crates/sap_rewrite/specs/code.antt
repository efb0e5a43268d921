-- What the code does step by step: for its proofs alone. No theorem speaks of these, and no other crate names them.
pub mod Reduce
pub mod Fit
pub mod Walk
