-- What the theories of a file keep of its lemmas.
pub mod LemmaLaws
pub mod Kept
pub mod Theories
pub mod Hiding
pub mod Closed
pub mod Secret
pub mod Unseen
pub mod NoRules
pub mod KeptByHand
