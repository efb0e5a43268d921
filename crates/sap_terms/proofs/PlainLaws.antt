-- Laws of lists, truth values, maps from names and plain terms that the library lacks: the one folder of proofs that other crates may name.
pub mod Choices
pub mod Items
pub mod Known
pub mod Lists
pub mod Maps
pub mod Names
pub mod Numbers
pub mod Tests
pub mod Trees
