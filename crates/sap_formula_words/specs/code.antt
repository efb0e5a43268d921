-- How the code walks a formula beside its words, and what laws of lower crates say: no definition that a law speaks of.
pub mod Walk
pub mod NodeLaws
pub mod Faulty
