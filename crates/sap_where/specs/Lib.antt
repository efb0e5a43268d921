pub mod Beginnings
pub mod TokenWords
pub mod Parameters
pub mod FileDeclarations
pub mod Where
pub mod OtherPlaces
pub mod PlaceExamples
pub mod code
