pub mod Ways
pub mod Annotation
pub mod OpenLocks
pub mod LockExamples
pub mod code
