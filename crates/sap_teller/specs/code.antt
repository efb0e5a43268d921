-- What the code of this crate speaks of: what it keeps of a line before it is done, and what it finds that the line does.
-- No theorem speaks of it.
pub mod Outcomes
pub mod Framed
pub mod Doings
pub mod Heads
pub mod LawsBelow
pub mod Lines
pub mod Runs
pub mod Acting
