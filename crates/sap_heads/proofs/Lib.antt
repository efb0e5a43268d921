mod Kept
mod Known
mod Numbers
mod Binds
mod Formed
pub mod Chosen
mod Counted
mod Extended
mod Sided
mod FormedSides
mod Flat
mod Stays
pub mod Named
pub mod Matched
mod Patterns
mod Ruled
mod Uses
mod Rules
mod Pairs
pub mod MetValues
