-- Theories that are spelled as they are printed.
use Rattle.std.specs.Prelude.{◌≡◌, ◌≤◌, ℕ, true, All}
use Rattle.sap_terms.specs.declared.limits.TheConstants.{MOST_ARITY}
use Rattle.sap_terms.specs.declared.signature.Symbol.{Symbol}
use Rattle.sap_terms.specs.Signature.{Sig, IsMap, HoldsSymbols, HoldsBuiltins, pairs_alone}
use Rattle.sap_formula.specs.Form.{RestrictionForm, LemmaForm}
use Rattle.sap_rule.specs.declared.rule.Rule.{Rule}
use Rattle.sap_rule.specs.declared.theory.Theory.{Theory}
use Rattle.sap_grammar.specs.Words.{is_lower}
use Rattle.sap_grammar.specs.ByteWords.{IsName}
use Rattle.sap_grammar.specs.Printable.{IsPrintableFact}
use Rattle.sap_statements.specs.Statements.{IsAttribute}
use Rattle.sap_statements.specs.Printable.{IsPrintableForm}
use Rattle.sap_theory.specs.SignatureText.{functions_of}

-- the rule's name is one, and its facts can be printed
pub record IsPrintableRule (most : ℕ) (g : Sig) (r : Rule) : Type 0 where
  pub name : IsName most r.name
  pub left : All (IsPrintableFact most g) r.left
  pub acts : All (IsPrintableFact most g) r.acts
  pub right : All (IsPrintableFact most g) r.right

-- so it is with the name and formula of a restriction
pub record IsPrintableRestriction (most : ℕ) (g : Sig) (r : RestrictionForm) : Type 0 where
  pub name : IsName most r.name
  pub formula : IsPrintableForm most g r.formula

-- and of a lemma, whose attributes are those of the grammar
pub record IsPrintableLemma (most : ℕ) (g : Sig) (l : LemmaForm) : Type 0 where
  pub name : IsName most l.name
  pub attributes : All IsAttribute l.attributes
  pub formula : IsPrintableForm most g l.formula

-- a symbol that can be declared
pub record IsPrintableSymbol (most : ℕ) (s : Symbol) : Type 0 where
  pub lower : is_lower s.name ≡ true
  pub few : s.arity ≤ MOST_ARITY
  pub name : IsName most s.name

-- the signature is a map that holds pairs and its builtins, and all that is printed of the theory can be; the longest word of the
-- grammar of theories has 13 bytes
pub record IsPrintable (most : ℕ) (t : Theory) : Type 0 where
  pub room : 13 ≤ most
  pub is_map : IsMap t.signature.symbols
  pub pairs : HoldsSymbols t.signature.symbols pairs_alone.symbols
  pub builtins : HoldsBuiltins t.signature
  pub name : IsName most t.name
  pub symbols : All (IsPrintableSymbol most) (functions_of t.signature)
  pub rules : All (IsPrintableRule most t.signature) t.rules
  pub restrictions : All (IsPrintableRestriction most t.signature) t.restrictions
  pub lemmas : All (IsPrintableLemma most t.signature) t.lemmas
