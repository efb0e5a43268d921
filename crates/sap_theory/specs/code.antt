-- What the code does, step by step: no public contract cites what stands below.
pub mod Named
pub mod Judged
pub mod RuleReading
pub mod ItemView
