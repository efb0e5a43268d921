pub mod NodeWords
pub mod FactWords
pub mod Past
pub mod Examples
pub mod code
