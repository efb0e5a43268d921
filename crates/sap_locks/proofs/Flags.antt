-- Lists of locks with flags: what is open once one more lock is.
use Rattle.std.proofs.Common.{◌≡◌, ℕ, List, [], ◌∷◌, ◌++◌, true, cond, refl, ap}
use Rattle.sap_terms.specs.Tree.{Tree}
use Rattle.sap_terms.specs.View.{tree}
use Rattle.sap_terms.specs.declared.term.Term.{Term}
use Rattle.sap_held.specs.Held.{Open, opens_on, opens}
use Rattle.sap_held.specs.declared.held.Held.{Held}

-- one more lock
pub opens_push : (hs : List Held) (h : Held) (o : Open) → h.is_open ≡ true → opens_on (hs ++ h ∷ []) o ≡ (h.label, tree h.term) ∷ opens_on hs o
opens_push [] h o e = ap (λ c. cond c ((h.label, tree h.term) ∷ o) o) e
opens_push (x ∷ hs) h o e = opens_push hs h (cond x.is_open ((x.label, tree x.term) ∷ o) o) e

pub opens_pushed : (hs : List Held) (l : ℕ) (t : Term) → opens (hs ++ record { label = l; term = t; is_open = true } ∷ []) ≡ (l, tree t) ∷ opens hs
opens_pushed hs l t = opens_push hs (record { label = l; term = t; is_open = true }) [] refl
