pub mod PlaceLists
pub mod StateFacts
pub mod PlaceExamples
pub mod code
