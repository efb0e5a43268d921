-- How the code goes through patterns and places, and what it marks: no definition that a theorem speaks of.
pub mod Bindings
pub mod Heads
pub mod Flags
pub mod Flagged
pub mod Marks
pub mod Walked
