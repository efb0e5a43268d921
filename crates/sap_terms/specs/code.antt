-- What serves the code and its proofs alone: what the models and the keys of types need. No theorem speaks of these, and no
-- other crate names them.
pub mod SameLaws
pub mod Places
pub mod Hashed
pub mod Keys
pub mod Held
pub mod NameOrder
