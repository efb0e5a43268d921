-- Mirrors of code.
pub mod Deeds
pub mod Machines
pub mod Shapes
