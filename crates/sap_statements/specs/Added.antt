-- What is read and put last.
use Rattle.std.specs.Prelude.{◌≡◌, ℕ, Bool, true, false, List, [], ◌∷◌, ◌++◌}
use Rattle.sap_terms.specs.Signature.{Sig}
use Rattle.sap_text.specs.declared.token.Token.{Token}
use Rattle.sap_grammar.specs.declared.limits.Limits.{Limits}
use Rattle.sap_grammar.specs.Words.{words_of}
use Rattle.sap_statements.specs.Statements.{Statement, IsStatement}

-- the tokens are a restriction or a lemma, which stands last; or they are none, under any signature
abbrev pub IsStated : Sig → Limits → List ℕ → List Token → List Statement → List Statement → Bool → Type 0
IsStated g m bytes tokens before after true = (s : Statement) × IsStatement g m s (words_of bytes tokens) × (after ≡ before ++ s ∷ [])
IsStated g m bytes tokens before after false = (h : Sig) (s : Statement) → IsStatement h m s (words_of bytes tokens) → ⊥
