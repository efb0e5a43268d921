-- What the rules of a ready process leave open, place by place.
use Rattle.std.proofs.Common.{◌≡◌, ◌<◌, ◌^◌, ℕ, List, ◌++◌, Some, map}
use Rattle.sap_terms.specs.Choice.{Choice}
use Rattle.sap_terms.specs.Signature.{Sig}
use Rattle.sap_terms.specs.Variables.{facts_vars}
use Rattle.sap_terms.specs.declared.binding.Binding.{Binding}
use Rattle.sap_terms.specs.declared.fact.Fact.{Fact}
use Rattle.sap_terms.specs.declared.var.Var.{Var}
use Rattle.sap_rewrite.specs.Match.{Agrees, bound_vars}
use Rattle.sap_locks.specs.Annotation.{IsAnnotation}
use Rattle.sap_process.specs.Action as action
use Rattle.sap_process.specs.Flaws.{IsWellFormed}
use Rattle.sap_process.specs.Places.{place}
use Rattle.sap_process.specs.Proc.{Proc, act, node_count}
use Rattle.sap_process.specs.Ready.{IsReady}
use Rattle.sap_rule.specs.Variables.{open_variables}
use Rattle.sap_translate.specs.Opened.{left_open, opened}
use Rattle.sap_templates.specs.Places.{root, scoped_place_at}
use Rattle.sap_templates.specs.Templates.{own_rules}
use Rattle.sap_translate.specs.relation.Answers.{widened}
use Rattle.sap_translate.specs.relation.Envs.{Env, filled, names}
use Rattle.sap_translate.proofs.Opened.Embedded.{open_agrees}
use Rattle.sap_translate.proofs.Opened.Plain.{plain_patterns}
use Rattle.sap_translate.proofs.Opened.Rules.{own_opened}
use Rattle.sap_translate.proofs.Restricted.Seen.{ready_sound}
use Rattle.sap_translate.proofs.Terms.Derive.{contains}

pub places_opened : (g : Sig) (p q : Proc) (path : List ℕ) (v : List Var) (b : Proc) → IsReady g p → node_count p < 2 ^ 64 → IsAnnotation p q → IsWellFormed g q → scoped_place_at (root q) path ≡ Some (place path v b) → map (open_variables g) (own_rules path v b) ≡ opened v b
places_opened g p q path v b ready small annotated fine stands =
    own_opened g path v b ((ready_sound g p q ready small annotated).0 path (place path v b) stands) (λ t m. plain_patterns g q fine path (place path v b) stands t (contains m))

pub embedded_choices : (g : Sig) (p q : Proc) (path : List ℕ) (env : Env) (l a r : List Fact) (b : Proc) (σ : Choice) (bs : List Binding) → IsReady g p → node_count p < 2 ^ 64 → IsAnnotation p q → scoped_place_at (root q) path ≡ Some (place path (names env) (act (action.embedded l a r) b)) → bound_vars bs ≡ left_open (names env) l a r → Agrees bs σ → Agrees bs (filled (widened env σ (facts_vars (l ++ (a ++ r)))))
embedded_choices g p q path env l a r b σ bs ready small annotated stands bound agrees =
    open_agrees env σ l a r bs (((ready_sound g p q ready small annotated).0 path (place path (names env) (act (action.embedded l a r) b)) stands).3) bound agrees
