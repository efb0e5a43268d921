pub use Rattle.sap_formula.specs.Form
pub use Rattle.sap_grammar.specs.Words
pub use Rattle.sap_grammar.specs.TermGrammar
pub use Rattle.sap_grammar.specs.FactGrammar
pub mod FormulaGrammar
pub mod FormulaReading
pub mod code
