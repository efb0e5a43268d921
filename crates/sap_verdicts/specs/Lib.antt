pub mod Findings
pub mod Modes
pub mod OneFinding
pub mod Standing
pub mod VerdictText
pub mod VerdictExamples
pub mod View
pub mod code
