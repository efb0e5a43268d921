pub mod OtherBinders
pub mod BinderExamples
pub mod OtherLocks
pub mod OtherFacts
pub mod OtherLockExamples
pub mod OtherFactExamples
pub mod code
