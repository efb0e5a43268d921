pub mod Lists
pub mod Signatures
pub mod Statements
pub mod ByHand
pub mod Printable
pub mod Sorting
pub mod OwnSorts
pub mod Faults
