-- What is said of one rule, and of all items behind a header.
use Rattle.std.specs.Prelude.{◌≡◌, ◌⊎◌, ℕ, false, List, Option}
use Rattle.sap_terms.specs.Signature.{Sig}
use Rattle.sap_formula.specs.Form.{RestrictionForm, LemmaForm}
use Rattle.sap_rule.specs.declared.rule.Rule.{Rule}
use Rattle.sap_theory.specs.declared.fault.TheoryFault.{TheoryFault}
use Rattle.sap_theory.specs.declared.fault.TheoryFault.TheVariants.{Formula, Syntax}
use Rattle.sap_grammar.specs.Cut.{Placed}
use Rattle.sap_grammar.specs.Items.{Standing}
use Rattle.sap_theory.specs.TheoryGrammar.{TheoryItem, items_of, rules_in, statements_in}
use Rattle.sap_theory.specs.WrittenItems.{AreWrittenItems, IsFaultyTheory}
use Rattle.sap_formula.specs.declared.fault.FormulaFault.{FormulaFault}
use Rattle.sap_statements.specs.declared.statement.Statement.{Statement}
use Rattle.sap_statements.specs.Stated.{IsFirstFaulty, restrictions_of, lemmas_of}
use Rattle.sap_theory.specs.TheoryCauses.{IsRefused, AreAccepted}

-- the rule isn't so, and is refused by its name
pub record IsWrong (Is : Rule → Type 0) (fault : List ℕ → TheoryFault) (r : Rule) (e : TheoryFault) : Type 0 where
  pub wrong : Is r → ⊥
  pub is : e ≡ fault r.name

-- the first restriction or lemma whose formula has a fault is refused for this
pub record IsFirstUnchecked (g : Sig) (ss : List Statement) (e : TheoryFault) : Type 0 where
  pub name : List ℕ
  pub fault : FormulaFault
  pub is : e ≡ Formula name fault
  pub faulty : IsFirstFaulty g false ss name fault

-- these are items under the signature that are accepted, and these are their parts
pub record AreGood (g : Sig) (clash : Option (List ℕ)) (cut : List (List Placed)) (rules : List Rule) (rs : List RestrictionForm) (ls : List LemmaForm) : Type 0 where
  pub standing : List (Standing TheoryItem)
  pub items : AreWrittenItems g cut standing
  pub good : AreAccepted g clash (rules_in (items_of standing)) (statements_in (items_of standing))
  pub rules_are : rules ≡ rules_in (items_of standing)
  pub restrictions_are : rs ≡ restrictions_of (statements_in (items_of standing))
  pub lemmas_are : ls ≡ lemmas_of (statements_in (items_of standing))

-- these are items under the signature that are refused for this
pub record AreBad (g : Sig) (clash : Option (List ℕ)) (cut : List (List Placed)) (e : TheoryFault) : Type 0 where
  pub standing : List (Standing TheoryItem)
  pub items : AreWrittenItems g cut standing
  pub bad : IsRefused g clash (rules_in (items_of standing)) (statements_in (items_of standing)) e

-- the first that is no item begins on this line
pub record IsNoItem (last : ℕ) (cut : List (List Placed)) (e : TheoryFault) : Type 0 where
  pub line : ℕ
  pub is : e ≡ Syntax line
  pub faulty : IsFaultyTheory last cut line

-- the pieces are refused for this
abbrev pub IsRefusedCut : Sig → Option (List ℕ) → ℕ → List (List Placed) → TheoryFault → Type 0
IsRefusedCut g clash last cut e = IsNoItem last cut e ⊎ AreBad g clash cut e
