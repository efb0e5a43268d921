pub mod Others
pub mod Named
pub mod Leading
pub mod Located
pub mod Walking
pub mod Passed
