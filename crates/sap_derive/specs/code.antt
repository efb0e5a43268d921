-- What the code of this crate speaks of: lists with places, and the closure of clauses over numbers; the clauses that a term
-- brings, and what is saturated. No theorem speaks of it.
pub mod Lines
pub mod Listed
pub mod Closed
pub mod Saturated
pub mod Clauses
pub mod Openers
pub mod Brought
pub mod Shapes
pub mod States
pub mod Needed
