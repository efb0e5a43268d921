-- What is open once one more lock is held.
use Rattle.std.proofs.Common.{◌≡◌, ℕ, List, [], ◌∷◌, ◌++◌, true, cond, refl, ap}
use Rattle.sap_terms.specs.View.{tree}
use Rattle.sap_terms.specs.declared.term.Term.{Term}
use Rattle.sap_held.specs.Held.{Open, opens, opens_on}
use Rattle.sap_held.specs.declared.held.Held.{Held}

opens_more : (hs : List Held) (h : Held) (o : Open) → h.is_open ≡ true → opens_on (hs ++ h ∷ []) o ≡ (h.label, tree h.term) ∷ opens_on hs o
opens_more [] h o e = ap (λ c. cond c ((h.label, tree h.term) ∷ o) o) e
opens_more (x ∷ hs) h o e = opens_more hs h (cond x.is_open ((x.label, tree x.term) ∷ o) o) e

pub opens_held : (hs : List Held) (l : ℕ) (t : Term) → opens (hs ++ record { label = l; term = t; is_open = true } ∷ []) ≡ (l, tree t) ∷ opens hs
opens_held hs l t = opens_more hs (record { label = l; term = t; is_open = true }) [] refl
