pub mod Told
pub mod Advice
pub mod BytesIn
pub mod ExpectedTold
pub mod Cures
pub mod OtherTold
pub mod Explained
pub mod ExplainedExamples
