pub mod PlacesAlong
pub mod Roles
pub mod Forms
pub mod RoleExamples
pub mod Casts
pub mod code
