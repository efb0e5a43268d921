pub mod Arrays
pub mod RunValues
pub mod Written
pub mod code
