-- Where among words a term or a fact stands.
use Rattle.std.specs.Prelude.{◌≡◌, ◌≤◌, ℕ, false, codes, List, length, drop}
use Rattle.sap_terms.specs.declared.fact.Fact.{Fact}
use Rattle.sap_terms.specs.Tree.{Tree}
use Rattle.sap_terms.specs.Signature.{Sig}
use Rattle.sap_grammar.specs.declared.limits.Limits.{Limits}
use Rattle.sap_grammar.specs.Words.{Word, starts}
use Rattle.sap_grammar.specs.Sizes.{IsSmall, AreSmall}
use Rattle.sap_grammar.specs.TermGrammar.{IsTerm}
use Rattle.sap_grammar.specs.FactGrammar.{IsFact}

-- the words from number `at` up to the one before number e spell the value, which is small enough, and word e is no opening
-- parenthesis
pub record IsAt {A : Type 0} (Spells : A → List Word → List Word → Type 0) (Small : A → Type 0) (ws : List Word) (at : ℕ) (v : A) (e : ℕ) : Type 0 where
  pub inside : e ≤ length ws
  pub spelled : Spells v (drop at ws) (drop e ws)
  pub small : Small v
  pub ends : starts (codes "(") (drop e ws) ≡ false

-- a term within the limits
abbrev pub IsTermAt : Limits → Sig → List Word → ℕ → Tree → ℕ → Type 0
IsTermAt m g = IsAt (IsTerm g) (IsSmall m)

-- a fact whose terms are within the limits
abbrev pub IsFactAt : Limits → Sig → List Word → ℕ → Fact → ℕ → Type 0
IsFactAt m g = IsAt (IsFact g) (λ f. AreSmall m f.args)
