-- How the code finds the last open lock of a term: no definition that a theorem speaks of.
pub mod Last
