-- How the code walks a head beside its words: no definition that a public contract cites.
pub mod Shapes
