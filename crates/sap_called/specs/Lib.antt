pub mod NameExamples
pub mod NameLaws
pub mod NamedTerms
pub mod Names
pub mod code
