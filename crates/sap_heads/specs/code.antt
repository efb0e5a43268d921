-- What the code of this crate speaks of: normal forms as terms, pairs and matches by numbers, and a rule that is used part by
-- part. No contract of a public call speaks of it.
pub mod Forms
pub mod Known
pub mod Matches
pub mod Pairs
pub mod Rules
