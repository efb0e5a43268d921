pub mod Standings
pub mod Choices
pub mod Pushed
pub mod Finds
pub mod Modes
pub mod OneFound
pub mod Silent
