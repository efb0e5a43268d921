mod ByHand
mod ChecksByHand
pub mod Plain
pub mod Goods
pub mod Law
pub mod Alike
pub mod Subterms
pub mod Slimmer
pub mod Hiding
mod EmptyTimes
pub mod PartTests
pub mod Firsts
pub mod Elsewhere
pub mod Guarding
pub mod Checks
pub mod Counting
pub mod OneFault
pub mod Remakes
