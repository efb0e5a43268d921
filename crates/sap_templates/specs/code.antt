-- How the walk cuts the rules of a process at a place, and how their parts are made: no definition that a theorem speaks of.
pub mod Inside
pub mod Made
pub mod Sites
