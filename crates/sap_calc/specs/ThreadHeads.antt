-- What stands at the head of a running thread.
use Rattle.std.specs.Prelude.{ℕ, List, [], ◌∷◌, Contains}
use Rattle.sap_terms.specs.Tree.{Tree}
use Rattle.sap_terms.specs.Variables.{tree_vars}
use Rattle.sap_terms.specs.View.{tree}
use Rattle.sap_rewrite.specs.Match.{HaveOneSort}
use Rattle.sap_process.specs.Configuration.{Config, Runs}
use Rattle.sap_process.specs.Proc.{Proc}
use Rattle.sap_lines.specs.Places.{form_proc}
use Rattle.sap_lines.specs.declared.form.Form.{Form}
use Rattle.sap_lines.specs.declared.form.Form.TheVariants.{In, Recv}

-- the pattern of an input
abbrev pub taken_patterns : Form → List Tree
taken_patterns (In n) = tree n ∷ []
taken_patterns (Recv m n) = tree n ∷ []
taken_patterns _ = []

-- the thread doesn't run
abbrev pub IsNobody : Config → ℕ → Type 0
IsNobody c t = (p : Proc) → ¬ Runs c t p

-- the thread runs as this form, going on as some processes, and no name stands in an input's pattern with two sorts
pub record HasHead (c : Config) (t : ℕ) (f : Form) : Type 0 where
  pub first : Proc
  pub second : Proc
  pub runs : Runs c t (form_proc f first second)
  pub sorts : (n : Tree) → Contains (taken_patterns f) n → HaveOneSort (tree_vars n)
