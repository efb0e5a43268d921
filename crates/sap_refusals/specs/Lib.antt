pub use Rattle.sap_restrict.specs.Restrictions
pub mod Refusals
pub mod TheoryRefusals
pub mod RunFaultTexts
pub mod ShortFaultTexts
pub mod code
