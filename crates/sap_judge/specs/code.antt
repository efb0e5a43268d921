-- Mirrors of how traces and formulas are made ready, for the proofs of the judge.
pub mod Ready
pub mod Folded
pub mod Laid
pub mod Quantifying
pub mod Rows
pub mod Answer
pub mod Claiming
