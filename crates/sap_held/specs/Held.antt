-- The locks above a place: which are open, and which of them an unlock ends.
use Rattle.std.specs.Prelude.{◌≡◌, ◌<◌, length, ℕ, zero, suc, Bool, true, false, List, [], ◌∷◌, Option, Some, None, cond}
use Rattle.sap_terms.specs.Same.{same_tree}
use Rattle.sap_terms.specs.Tree.{Tree}
use Rattle.sap_terms.specs.View.{tree}
use Rattle.sap_held.specs.declared.held.Held.{Held}

-- open locks with their labels and terms, the lowest first
abbrev pub Open : Type 0
Open = List (ℕ × Tree)

-- the label of the first of the term
abbrev pub found : Tree → Open → Option ℕ
found t [] = None
found t (b ∷ o) = cond (same_tree b.1 t) (Some b.0) (found t o)

-- the others without the first of the term
abbrev pub dropped : Tree → Open → Open
dropped t [] = []
dropped t (b ∷ o) = cond (same_tree b.1 t) o (b ∷ dropped t o)

-- a label, or 0 where there is none
abbrev pub label_of : Option ℕ → ℕ
label_of None = 0
label_of (Some n) = n

-- with another flag at an index
abbrev pub with_open : List Held → ℕ → Bool → List Held
with_open [] k b = []
with_open (h ∷ hs) zero b = record h { is_open = b } ∷ hs
with_open (h ∷ hs) (suc k) b = h ∷ with_open hs k b

-- the label of the one at an index
abbrev pub label_at : List Held → ℕ → ℕ
label_at [] k = 0
label_at (h ∷ hs) zero = h.label
label_at (h ∷ hs) (suc k) = label_at hs k

-- those that are open, the lowest first, before these
abbrev pub opens_on : List Held → Open → Open
opens_on [] o = o
opens_on (h ∷ hs) o = opens_on hs (cond h.is_open ((h.label, tree h.term) ∷ o) o)

-- those that are open, the lowest first
abbrev pub opens : List Held → Open
opens hs = opens_on hs []

-- what the last open one of a term, or none, says of the open ones
abbrev pub IsLastOpen : Tree → List Held → Option ℕ → Type 0
IsLastOpen t hs None = (found t (opens hs) ≡ None) × (dropped t (opens hs) ≡ opens hs)
IsLastOpen t hs (Some k) =
    (k < length hs) × (found t (opens hs) ≡ Some (label_at hs k)) × (dropped t (opens hs) ≡ opens (with_open hs k false))
    × (with_open (with_open hs k false) k true ≡ hs)
