-- What the code's own proofs speak of.
pub mod Below
