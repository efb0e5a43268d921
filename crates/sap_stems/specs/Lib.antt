pub mod WrittenNodes
pub mod Stems
pub mod StemsAt
pub mod StemOf
pub mod WrittenPlaces
pub mod Likeness
pub mod Examples
pub mod code
