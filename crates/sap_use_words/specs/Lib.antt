pub mod WrittenUses
pub mod ExpandedUses
pub mod Passing
pub mod Examples
pub mod code
