-- What the code does, step by step: no public contract cites what stands below.
pub mod NamedUses
pub mod Walked
pub mod Beyond
pub mod PartWalk
pub mod BodyNodes
pub mod BodyFlaws
pub mod FlawNodes
pub mod OtherFlaws
