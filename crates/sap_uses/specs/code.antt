-- What the code does, step by step: no public contract cites what stands below.
pub mod Noted
pub mod Walks
pub mod Met
pub mod Marks
pub mod Checked
