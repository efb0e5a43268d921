-- How the code tests nodes and looks for one: no definition that a theorem speaks of.
pub mod NodeTests
pub mod Searches
pub mod Trails
pub mod Rebound
pub mod Signs
pub mod Clashes
pub mod Full
pub mod Sites
