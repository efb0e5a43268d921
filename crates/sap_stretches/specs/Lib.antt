pub mod Stretches
pub mod StretchExamples
pub mod Positions
pub mod Lines
pub mod PositionExamples
