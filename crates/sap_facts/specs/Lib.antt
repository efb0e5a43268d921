pub mod Facts
pub mod Missing
pub mod Cited
pub mod code
