pub mod LastToken
pub mod Lines
pub mod Positions
pub mod PositionsByHand
