pub mod Lists
pub mod Carried
pub mod Lemmas
pub mod Printable
mod Weights
mod Taking
mod Following
mod Choices
mod Expanding
mod OneOutcome
mod Normals
mod After
mod Places
mod Kept
mod Traces
mod ShortByHand
mod ShownByHand
mod Theories
mod Printing
mod Walking
mod Noting
mod Telling
mod Growing
mod ShortOf
