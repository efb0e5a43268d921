-- What the code does, step by step: no public contract cites what stands below.
pub mod Standings
pub mod Steps
pub mod Heads
pub mod Taking
pub mod Names
pub mod Entering
pub mod Sizes
pub mod Ending
