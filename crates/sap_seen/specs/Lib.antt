pub mod SeenPlaces
pub mod SeenNodes
pub mod SeenAt
pub mod Examples
