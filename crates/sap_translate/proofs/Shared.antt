-- Lemmas that every crate above may use: on lists, on facts and their names, on what rules show, and on who stands as a fact of
-- control.
pub mod Lookups
pub mod Totals
pub mod Takings
pub mod Facts
pub mod Names
pub mod Inputs
pub mod Owners
pub mod Standing
pub mod Marked
