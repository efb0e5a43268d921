-- Formulas, restrictions and lemmas as plain values.
use Rattle.std.specs.Prelude.{ℕ, List}
use Rattle.sap_terms.specs.Tree.{Tree}
use Rattle.sap_terms.specs.declared.fact.Fact.{Fact}
use Rattle.sap_formula.specs.declared.binder.Binder.{Binder}
use Rattle.sap_formula.specs.declared.lemma.Mode.{Mode}

-- a formula; time variables are given by their names
pub data Form : Type 0 where
  truth : Form
  falsity : Form
  action : Fact → List ℕ → Form
  equal : Tree → Tree → Form
  same_time : List ℕ → List ℕ → Form
  earlier : List ℕ → List ℕ → Form
  negation : Form → Form
  both : Form → Form → Form
  either : Form → Form → Form
  implies : Form → Form → Form
  equivalent : Form → Form → Form
  every : List Binder → Form → Form
  exists : List Binder → Form → Form

-- a restriction
pub record RestrictionForm : Type 0 where
  pub name : List ℕ
  pub formula : Form

-- a lemma
pub record LemmaForm : Type 0 where
  pub name : List ℕ
  pub attributes : List (List ℕ)
  pub mode : Mode
  pub formula : Form
