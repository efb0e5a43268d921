-- What the code does, step by step: no public contract cites what stands below.
pub mod Steps
pub mod WantedView
pub mod SeenWords
pub mod Attempts
pub mod Going
pub mod Ways
pub mod Stops
