pub use Rattle.sap_outside.specs.Outside
pub use Rattle.sap_outside.specs.Stream
pub use Rattle.sap_outside.specs.Pieces
pub mod Answer
pub mod Endings
pub mod code
