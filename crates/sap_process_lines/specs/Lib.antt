pub mod Pending
pub mod Tables
pub mod Kinds
pub mod Told
