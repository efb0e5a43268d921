pub mod Values
pub mod Bound
pub mod Taken
pub mod Used
pub mod code
