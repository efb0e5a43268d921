-- The last open lock of a term, by its index.
use Rattle.std.specs.Prelude.{ℕ, suc, Bool, true, false, ◌&&◌, List, [], ◌∷◌, Option, Some, None}
use Rattle.sap_terms.specs.Same.{same_tree}
use Rattle.sap_terms.specs.Tree.{Tree}
use Rattle.sap_terms.specs.View.{tree}
use Rattle.sap_held.specs.declared.held.Held.{Held}

-- it is open and has the term
abbrev pub is_open_of : Tree → Held → Bool
is_open_of t h = h.is_open && same_tree (tree h.term) t

-- the index of the last one that is open and has the term, where later ones say this
abbrev pub later_or : Option ℕ → Bool → Option ℕ
later_or (Some k) b = Some (suc k)
later_or None true = Some 0
later_or None false = None

abbrev pub last_open : Tree → List Held → Option ℕ
last_open t [] = None
last_open t (h ∷ hs) = later_or (last_open t hs) (is_open_of t h)
