pub mod FactNames
