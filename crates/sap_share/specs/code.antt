-- What the code of this crate speaks of: what its table keeps, and what it finds. No theorem speaks of it.
pub mod Inside
pub mod Fed
pub mod Keys
pub mod Numbered
pub mod Forms
pub mod Sides
pub mod Found
pub mod Matching
