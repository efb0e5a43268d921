-- What the code of this crate speaks of: threads at places, and what the parts of a configuration have to do with each other.
-- No theorem speaks of it.
pub mod Sound
pub mod Threads
pub mod Parts
pub mod Cited
pub mod Given
pub mod Denied
pub mod HeadLines
pub mod Under
