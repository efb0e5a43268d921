pub mod Named
pub mod Variables
pub mod RuleSteps
pub mod StepExamples
pub mod WellMade
pub mod Messages
pub mod code
