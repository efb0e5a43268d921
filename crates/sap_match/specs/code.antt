-- Mirrors of matching and of digests, for their proofs.
pub mod Reached
pub mod Digests
