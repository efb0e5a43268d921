pub mod Rises
pub mod Appending
