pub use Rattle.sap_outlines.specs.ChannelFacts
pub use Rattle.sap_outlines.specs.Templates
pub use Rattle.sap_outlines.specs.Places
pub mod code
