-- Laws of reading words from the left, of where spellings end, of turns of the readers of lists and items, of what items declare, and
-- of pieces of text: with `PlainLaws` of `sap_terms` the folders of proofs that other crates may name.
pub mod Limits
pub mod Tokens
pub mod OnRead
pub mod Ends
pub mod Turns
pub mod Items
pub mod Signatures
pub mod Pushed
