-- What the code does, step by step: no public contract cites what stands below.
pub mod Kinds
pub mod Taking
pub mod TermTaking
pub mod WordTaking
pub mod StepTaking
pub mod WholeTaking
pub mod ShortTaking
