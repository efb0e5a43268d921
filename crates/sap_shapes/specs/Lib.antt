pub use Rattle.sap_formula.specs.Form
pub mod ReservedFacts
pub mod Formulas
pub mod Shapes
