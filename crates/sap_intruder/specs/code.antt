-- What the code of this crate speaks of: a short run that is being filled. No theorem speaks of it.
pub mod Filled
