-- The tests by which terms and lists of terms are keys decide equality.
use Rattle.std.proofs.Common.{◌≡◌, List, Bool, true, false, IsTrue, refl, ap, sym, ◌∙◌}
use Rattle.std.specs.Bool.{Decides}
use Rattle.std.specs.Cmp.{IsEquivalence, IsPartialEquivalence, decided, partial_equiv_from_equiv}
use Rattle.sap_terms.specs.Same.{same_tree, same_trees}
use Rattle.sap_terms.specs.code.SameLaws.{same_tree-refl, same_tree-sound, same_trees-refl, same_trees-sound}
use Rattle.sap_terms.specs.Tree.{Tree, trees_of, list_of, list_of-trees_of}
use Rattle.sap_terms.specs.View.{tree, term, term-tree}
use Rattle.sap_terms.specs.declared.term.Term.{Term}

-- the terms have one tree
abbrev pub term_eq : Term → Term → Bool
term_eq a b = same_tree (tree a) (tree b)

-- the lists have the same trees
abbrev pub terms_eq : List Tree → List Tree → Bool
terms_eq ts us = same_trees (trees_of ts) (trees_of us)

pub term_decides : (a b : Term) → Decides (term_eq a b) (a ≡ b)
term_decides a b = (
  λ h. sym (term-tree a) ∙ ap term (same_tree-sound (tree a) (tree b) h) ∙ term-tree b,
  λ e. rw e (same_tree-refl (tree b)),
)

pub term_equiv : IsEquivalence term_eq
term_equiv = decided term_eq term_decides

pub term_per : IsPartialEquivalence term_eq
term_per = partial_equiv_from_equiv term_equiv

pub terms_decides : (ts us : List Tree) → Decides (terms_eq ts us) (ts ≡ us)
terms_decides ts us = (
  λ h. sym (list_of-trees_of ts) ∙ ap list_of (same_trees-sound (trees_of ts) (trees_of us) h) ∙ list_of-trees_of us,
  λ e. rw e (same_trees-refl (trees_of us)),
)

pub terms_equiv : IsEquivalence terms_eq
terms_equiv = decided terms_eq terms_decides

pub terms_per : IsPartialEquivalence terms_eq
terms_per = partial_equiv_from_equiv terms_equiv

-- what an answer on equal lists says of the test
pub test_from_equal : (r : Bool) (ts us : List Tree) → (IsTrue r → ts ≡ us) × (ts ≡ us → IsTrue r) → r ≡ terms_eq ts us
test_from_equal true ts us h = sym ((terms_decides ts us).1 (h.0 refl))
test_from_equal false ts us h = at (terms_eq ts us) refl where
  at : (t : Bool) → terms_eq ts us ≡ t → false ≡ t
  at false e = refl
  at true e = h.1 ((terms_decides ts us).0 e)
