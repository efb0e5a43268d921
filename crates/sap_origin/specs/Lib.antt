pub mod Definitions
pub mod Meant
pub mod Reached
pub mod Origins
pub mod UsesAlong
pub mod Trails
pub mod Examples
pub mod code
