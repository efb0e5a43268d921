-- How the code tests places, walks processes and sorts them, and what its proofs say part by part: no definition that a theorem speaks of.
pub mod Binders
pub mod Tests
pub mod Places
pub mod Walks
pub mod Searches
pub mod Headed
pub mod GroundParts
