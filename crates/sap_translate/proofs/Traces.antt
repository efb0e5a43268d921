pub mod Visible
pub mod Store
pub mod LockTraces
pub mod Demands
pub mod Private
