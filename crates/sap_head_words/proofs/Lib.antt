pub mod Shaped
pub mod OneShape
pub mod WordEnds
pub mod SomeHeads
pub mod HeadStands
pub mod NoSigns
pub mod Walked
pub mod ByHand
