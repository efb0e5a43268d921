-- How the code finds labels and flaws, with a list of open locks: no definition that a theorem speaks of.
pub mod Labels
pub mod Seen
