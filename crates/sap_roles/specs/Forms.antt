-- Which written places have the form of which processes.
use Rattle.std.specs.Prelude.{ℕ}
use Rattle.sap_terms.specs.Tree.{Tree}
use Rattle.sap_terms.specs.declared.var.Var.{Var}
use Rattle.sap_process.specs.Action.{Action}
use Rattle.sap_process.specs.Proc as whole
use Rattle.sap_process.specs.Proc.{Proc}
use Rattle.sap_macro.specs.Located.{Located, nil_at, parallel_at, replicated_at, act_at, test_at, lookup_at}

-- each form has that of its kind, whatever stands in it; a use has none
pub data HasForm : Located → Proc → Type 0 where
  form_nil : {k : ℕ} → HasForm (nil_at k) whole.nil
  form_parallel : {k : ℕ} {p q : Located} {x y : Proc} → HasForm (parallel_at k p q) (whole.parallel x y)
  form_replicated : {k : ℕ} {p : Located} {x : Proc} → HasForm (replicated_at k p) (whole.replicated x)
  form_act : {k : ℕ} {a b : Action} {p : Located} {x : Proc} → HasForm (act_at k a p) (whole.act b x)
  form_test : {k : ℕ} {t u v w : Tree} {p q : Located} {x y : Proc}
      → HasForm (test_at k t u p q) (whole.test v w x y)
  form_lookup : {k : ℕ} {t v : Tree} {z w : Var} {p q : Located} {x y : Proc}
      → HasForm (lookup_at k t z p q) (whole.lookup v w x y)
