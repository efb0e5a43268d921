pub mod Parts
pub use Rattle.sap_terms.specs.Tree
pub use Rattle.sap_terms.specs.View
pub use Rattle.sap_terms.specs.Same
pub use Rattle.sap_terms.specs.Equations
