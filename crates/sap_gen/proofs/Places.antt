-- The rules of a process meet the conditions of the law on rules alone.
pub mod Standing
pub mod Settling
pub mod Finding
pub mod Fitting
pub mod Shortening
