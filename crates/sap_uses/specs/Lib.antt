pub mod Sizes
pub mod UseCauses
pub mod ScopeFlaws
pub mod FaultCauses
pub mod UseExamples
pub mod code
