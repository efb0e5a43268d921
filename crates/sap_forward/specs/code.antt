-- What the code of this crate speaks of: what the conversion keeps for each thread, what it writes, and what holds between two
-- lines. No theorem speaks of it.
pub mod Seats
pub mod Desk
pub mod Steps
pub mod Taken
pub mod Begun
