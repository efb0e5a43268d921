pub mod Numbers
pub mod FactLists
pub mod Bags
