-- Theories whose symbols are held with their arities.
use Rattle.std.specs.Prelude.{All}
use Rattle.sap_terms.specs.Signature.{IsMap, HoldsBuiltins}
use Rattle.sap_formula.specs.Form.{RestrictionForm, LemmaForm}
use Rattle.sap_rule.specs.declared.theory.Theory.{Theory}
use Rattle.sap_rule.specs.WellMade.{IsRuleOver}
use Rattle.sap_statements.specs.Printable.{IsFormOver}

-- the signature is a map that holds its builtins, and holds the symbols of the rules, restrictions and lemmas with their arities
pub record IsTheoryOver (t : Theory) : Type 0 where
  pub is_map : IsMap t.signature.symbols
  pub builtins : HoldsBuiltins t.signature
  pub rules : All (IsRuleOver t.signature) t.rules
  pub restrictions : All (λ (r : RestrictionForm). IsFormOver t.signature r.formula) t.restrictions
  pub lemmas : All (λ (l : LemmaForm). IsFormOver t.signature l.formula) t.lemmas
