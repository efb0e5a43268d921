-- What the code does, step by step: no public contract cites what stands below.
pub mod Gathered
pub mod Led
pub mod Others
pub mod Walk
pub mod FirstNotes
pub mod Ranked
pub mod Once
