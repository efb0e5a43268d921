pub mod HeadNodes
pub mod FlawNodes
pub mod FullScope
pub mod SpokenOf
pub mod NodeExamples
pub mod code
