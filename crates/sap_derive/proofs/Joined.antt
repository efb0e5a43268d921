-- Derivations side by side.
use Rattle.std.proofs.Common.{ℕ, List, [], ◌∷◌, ◌++◌}
use Rattle.std.specs.Prelude.{Contains}
use Rattle.std.proofs.lemmas.List.Elements.{All-weaker, Contains-append_left}
use Rattle.sap_terms.specs.Tree.{Tree}
use Rattle.sap_terms.specs.Signature.{Sig}
use Rattle.sap_terms.specs.Deduce.{IsDerived, a_public, a_name, given, applied, IsDerivation}

module _ (g : Sig) (names : List ℕ) (frame : List Tree) where
  -- what is derived from some terms is derived from more
  derived-more : (ts us : List Tree) (t : Tree) → ((u : Tree) → Contains ts u → Contains us u) → IsDerived g names frame ts t → IsDerived g names frame us t
  derived-more ts us t into (a_public n e) = a_public n e
  derived-more ts us t into (a_name k c e) = a_name k c e
  derived-more ts us t into (given c) = given c
  derived-more ts us t into (applied f vs p n c form) = applied f vs p n (All-weaker (Contains ts) (Contains us) into vs c) form

  pub derivation-append : (ts us : List Tree) → IsDerivation g names frame ts → IsDerivation g names frame us → IsDerivation g names frame (ts ++ us)
  derivation-append [] us d e = e
  derivation-append (t ∷ ts) us d e = (derived-more ts (ts ++ us) t (λ u c. Contains-append_left ts us u c) d.0, derivation-append ts us d.1 e)
