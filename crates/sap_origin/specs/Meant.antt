-- Which process what is written means behind definitions, whatever terms are put in for variables and whatever new names there are.
use Rattle.std.specs.Prelude.{◌≡◌, ℕ, List, [], ◌∷◌, Option, Some, None, if◌then◌else◌}
use Rattle.std.specs.Str.{bytes_eq}
use Rattle.sap_terms.specs.Choice.{Choice, instance}
use Rattle.sap_terms.specs.Tree.{Tree}
use Rattle.sap_terms.specs.declared.var.Var.{Var}
use Rattle.sap_process.specs.Action.{Action}
use Rattle.sap_process.specs.Instance.{action_instance}
use Rattle.sap_process.specs.Proc as whole
use Rattle.sap_process.specs.Proc.{Proc}
use Rattle.sap_macro.specs.Expansion.{binding}
use Rattle.sap_macro.specs.Located.{Located, nil_at, call_at, parallel_at, replicated_at, act_at, test_at, lookup_at}
use Rattle.sap_macro.specs.UpToNames.{named}
use Rattle.sap_origin.specs.Definitions.{LocatedDefinition}

-- the definition of the name
abbrev pub definition_of : List LocatedDefinition → List ℕ → Option LocatedDefinition
definition_of [] f = None
definition_of (d ∷ ds) f = if bytes_eq d.name f then Some d else definition_of ds f

-- Each form means one of its kind, whose terms are instances of its own; a use means what the body of its definition means.
pub data Means (ds : List LocatedDefinition) : Located → Proc → Type 0 where
  means_nil : {k : ℕ} → Means ds (nil_at k) whole.nil
  means_parallel : {k : ℕ} {p q : Located} {x y : Proc} → Means ds p x → Means ds q y
      → Means ds (parallel_at k p q) (whole.parallel x y)
  means_replicated : {k : ℕ} {p : Located} {x : Proc} → Means ds p x
      → Means ds (replicated_at k p) (whole.replicated x)
  means_act : {k : ℕ} {a b : Action} {p : Located} {x : Proc} (r : Choice) (names : List ℕ → List ℕ)
      → b ≡ binding names (action_instance r a) → Means ds p x
      → Means ds (act_at k a p) (whole.act b x)
  means_test : {k : ℕ} {t u v w : Tree} {p q : Located} {x y : Proc} (r : Choice)
      → v ≡ instance r t → w ≡ instance r u → Means ds p x → Means ds q y
      → Means ds (test_at k t u p q) (whole.test v w x y)
  means_lookup : {k : ℕ} {t v : Tree} {z w : Var} {p q : Located} {x y : Proc} (r : Choice)
      (names : List ℕ → List ℕ) → v ≡ instance r t → w ≡ named (names z.name) z.sort
      → Means ds p x → Means ds q y → Means ds (lookup_at k t z p q) (whole.lookup v w x y)
  means_use : {k : ℕ} {f : List ℕ} {ts : List Tree} {d : LocatedDefinition} {x : Proc}
      → definition_of ds f ≡ Some d → Means ds d.body x → Means ds (call_at k f ts) x
