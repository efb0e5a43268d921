-- Mirrors of the search, for its proofs.
pub mod Connectives
pub mod Chosen
pub mod PlanSize
pub mod Answers
