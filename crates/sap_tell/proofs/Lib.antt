pub mod WrittenBytes
pub mod BytesByHand
pub mod LegalTold
pub mod AtPaths
pub mod OneText
pub mod LinesByHand
pub mod PlacesByHand
pub mod Joined
