-- Mirrors of how formulas are gone through, for the proofs.
pub mod Finding
