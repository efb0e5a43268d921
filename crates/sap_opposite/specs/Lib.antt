pub mod Steps
pub mod StepExamples
pub mod code
