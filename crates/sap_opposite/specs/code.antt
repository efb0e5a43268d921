-- What the code does, step by step: no public contract cites what stands below.
pub mod Kinds
