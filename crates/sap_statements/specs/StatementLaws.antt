-- What the laws of restrictions and lemmas say, as the proofs on files and theories need it: the law `statement_laws` has it.
use Rattle.std.specs.Prelude.{◌≡◌, ◌⊎◌, List}
use Rattle.sap_terms.specs.Signature.{Sig}
use Rattle.sap_grammar.specs.declared.limits.Limits.{Limits}
use Rattle.sap_grammar.specs.Words.{Word}
use Rattle.sap_statements.specs.declared.statement.Statement.{Statement}
use Rattle.sap_statements.specs.Statements.{IsStatement}

-- words spell one at most, under each signature one or none, and it is decided which
pub record StatementLaws : Type 0 where
  pub one : (g : Sig) (m : Limits) (s t : Statement) (a : List Word) → IsStatement g m s a → IsStatement g m t a → s ≡ t
  pub too : (g h : Sig) (m : Limits) (s : Statement) (a : List Word) → IsStatement g m s a → (t : Statement) × IsStatement h m t a
  pub some : (g : Sig) (m : Limits) (a : List Word) → ((s : Statement) × IsStatement g m s a) ⊎ ((s : Statement) → IsStatement g m s a → ⊥)
