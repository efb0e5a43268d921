pub mod Elements
pub mod Shown
pub mod Meaning
pub mod Quiets
pub mod Admissions
pub mod ByHand
pub mod Longer
pub mod Steps
pub mod Lasts
pub mod Passing
pub mod Nexts
pub mod Telling
pub mod OneMore
pub mod Singles
mod Closings
