pub mod Sizes
pub mod Chains
