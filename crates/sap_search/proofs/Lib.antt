pub mod SearchSteps
pub mod ExplainSteps
