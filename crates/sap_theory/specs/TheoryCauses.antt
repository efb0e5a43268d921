-- Why a theory whose items are all in the grammar is refused, and what is accepted.
use Rattle.std.specs.Prelude.{◌≡◌, ℕ, false, List, [], ◌∷◌, Option, Some, None, if◌then◌else◌, map, All}
use Rattle.std.specs.List.{list_any}
use Rattle.std.specs.Option.{option_or}
use Rattle.std.specs.Str.{bytes_eq}
use Rattle.sap_terms.specs.declared.fact.Fact.{Fact}
use Rattle.sap_terms.specs.Signature.{Sig}
use Rattle.sap_formula.specs.declared.fault.FormulaFault.{FormulaFault}
use Rattle.sap_rule.specs.declared.rule.Rule.{Rule}
use Rattle.sap_rule.specs.WellMade.{IsRuleOver, IsWellShaped}
use Rattle.sap_statements.specs.declared.statement.Statement.{Statement}
use Rattle.sap_statements.specs.declared.checking.Unchecked.{Unchecked}
use Rattle.sap_statements.specs.declared.checking.Unchecked.TheVariants as unchecked
use Rattle.sap_statements.specs.Stated.{AreFaultless, IsFirstFaulty}
use Rattle.sap_statements.specs.Statements.{name_of}
use Rattle.sap_theory.specs.declared.fault.TheoryFault.{TheoryFault}
use Rattle.sap_theory.specs.declared.fault.TheoryFault.TheVariants.{Mem, DuplicateName, FunctionClash, BadFunction, BadRule, Formula}

-- the first name that stands again behind it
abbrev pub first_repeated : List (List ℕ) → Option (List ℕ)
first_repeated [] = None
first_repeated (x ∷ xs) = if list_any (λ y. bytes_eq y x) xs then Some x else first_repeated xs

-- the names of rules, in order
abbrev pub rule_names : List Rule → List (List ℕ)
rule_names rs = map (λ (r : Rule). r.name) rs

-- the names of restrictions and lemmas, in order
abbrev pub statement_names : List Statement → List (List ℕ)
statement_names ss = map name_of ss

-- the first name that two rules share; where there is none, the first that two restrictions or lemmas share
abbrev pub shared : List Rule → List Statement → Option (List ℕ)
shared rs ss = option_or (first_repeated (rule_names rs)) (first_repeated (statement_names ss))

-- a fact that is taken from where it stands
abbrev pub IsLinear : Fact → Type 0
IsLinear f = f.persistent ≡ false

-- each fact stands where it may, no fact that is shown is persistent, and no name of a variable stands with two sorts
pub record IsPlainRule (r : Rule) : Type 0 where
  pub shape : IsWellShaped r
  pub acts : All IsLinear r.acts

-- the first rule that isn't so is refused by its name
pub data IsFirstWrong (Is : Rule → Type 0) (fault : List ℕ → TheoryFault)
    : List Rule → TheoryFault → Type 0 where
  this_rule : {r : Rule} {rs : List Rule} → (Is r → ⊥)
      → IsFirstWrong Is fault (r ∷ rs) (fault r.name)
  later_rule : {r : Rule} {rs : List Rule} {e : TheoryFault} → Is r → IsFirstWrong Is fault rs e
      → IsFirstWrong Is fault (r ∷ rs) e

-- what rules, restrictions and lemmas are refused for, where their declarations make this signature and clash so; each cause where none
-- before it holds
pub data IsRefused (g : Sig) (clash : Option (List ℕ)) (rs : List Rule) (ss : List Statement)
    : TheoryFault → Type 0 where
  of_names : {x : List ℕ} → shared rs ss ≡ Some x → IsRefused g clash rs ss (DuplicateName x)
  of_clash : {x : List ℕ} → shared rs ss ≡ None → clash ≡ Some x
      → IsRefused g clash rs ss (FunctionClash x)
  of_symbols : {e : TheoryFault} → shared rs ss ≡ None → clash ≡ None
      → IsFirstWrong (IsRuleOver g) BadFunction rs e → IsRefused g clash rs ss e
  of_shapes : {e : TheoryFault} → shared rs ss ≡ None → clash ≡ None → All (IsRuleOver g) rs
      → IsFirstWrong IsPlainRule BadRule rs e
      → IsRefused g clash rs ss e
  of_formulas : {x : List ℕ} {f : FormulaFault} → shared rs ss ≡ None → clash ≡ None
      → All (IsRuleOver g) rs → All IsPlainRule rs
      → IsFirstFaulty g false ss x f → IsRefused g clash rs ss (Formula x f)

-- none of these causes holds; names of facts are free
pub record AreAccepted (g : Sig) (clash : Option (List ℕ)) (rs : List Rule)
    (ss : List Statement) : Type 0 where
  pub names : shared rs ss ≡ None
  pub no_clash : clash ≡ None
  pub over : All (IsRuleOver g) rs
  pub plain : All IsPlainRule rs
  pub faultless : AreFaultless g false ss

-- the fault of a theory with restrictions and lemmas that are refused
abbrev pub fault_of_statements : Unchecked → TheoryFault
fault_of_statements unchecked.Mem = Mem
fault_of_statements (unchecked.Formula x f) = Formula x f
