pub mod Plain
pub mod Goods
pub mod Tests
pub mod Decided
pub mod Members
pub mod Layers
pub mod Reading
pub mod FactsOf
pub mod Patterns
pub mod Leading
pub mod Filling
pub mod Entering
pub mod Atoms
pub mod SlimPlans
pub mod FoldLaws
pub mod Planning
pub mod Picking
pub mod Led
pub mod Explaining
pub mod Explained
pub mod OneReason
pub mod SlimClaims
pub mod SlotLaws
pub mod Marks
pub mod RowLaws
pub mod Verdicts
pub mod OneVerdict
mod JudgingByHand
mod ReasonsByHand
mod SmallFormulas
