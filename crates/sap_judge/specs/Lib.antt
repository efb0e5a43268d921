pub mod Verdict
pub mod Guards
pub mod Reasons
pub mod Laws
pub mod JudgeExamples
pub mod ReasonExamples
pub mod code
