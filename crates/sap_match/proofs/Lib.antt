pub mod Slots
pub mod Agreements
pub mod ShownFacts
pub mod Digests
