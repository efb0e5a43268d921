-- How the code walks a term beside its words: no definition that a law speaks of.
pub mod Walk
