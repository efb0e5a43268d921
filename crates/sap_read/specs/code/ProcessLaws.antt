-- What the laws of processes as they are written say, as the proofs on files need it.
use Rattle.std.specs.Prelude.{◌≡◌, ◌⊎◌, List}
use Rattle.sap_terms.specs.Signature.{Sig}
use Rattle.sap_grammar.specs.Words.{Word}
use Rattle.sap_macro.specs.Written.{Written}
use Rattle.sap_draft.specs.ProcessGrammar.{IsProcess}

-- words spell one at most, under each signature one or none, and it is decided which
pub record ProcessLaws : Type 0 where
  pub one : (g : Sig) (p q : Written) (a : List Word) → IsProcess g p a → IsProcess g q a → p ≡ q
  pub too : (g h : Sig) (p : Written) (a : List Word) → IsProcess g p a → (q : Written) × IsProcess h q a
  pub some : (g : Sig) (a : List Word) → ((p : Written) × IsProcess g p a) ⊎ ((p : Written) → IsProcess g p a → ⊥)
