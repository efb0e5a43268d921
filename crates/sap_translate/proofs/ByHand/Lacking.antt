pub mod Pairs
pub mod Values
pub mod Locks
pub mod Channels
pub mod Inputs
