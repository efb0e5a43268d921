pub mod SharedFacts
pub mod Messages
pub mod Fitting
pub mod Forms
pub mod Laws
pub mod code
