pub use Rattle.sap_formula.specs.Form
pub use Rattle.sap_grammar.specs.TermText
pub use Rattle.sap_grammar.specs.FactText
pub mod FormulaText
pub mod code
