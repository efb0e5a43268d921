-- Two truth values joined, and the test of equal trees. The laws are proved in specs/code, where the keys of maps need them.
pub use Rattle.sap_terms.specs.code.SameLaws.{and_true, and_left, and_right, same_name, same_tree-refl, same_tree-sound, same_trees-refl, same_trees-sound}
