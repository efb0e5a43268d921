pub use Rattle.sap_formula.specs.Form
pub mod Inline
pub mod Laws
