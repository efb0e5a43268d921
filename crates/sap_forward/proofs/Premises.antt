-- The laws of lower crates that a conversion rests on.
use Rattle.std.specs.Prelude.{[], ◌≡◌, ◌^◌, ◌<◌, ◌++◌, ℕ, List, Some, map, Contains}
use Rattle.sap_terms.specs.Choice.{Choice, instance}
use Rattle.sap_terms.specs.Equations.{equations, app2, pair_name}
use Rattle.sap_terms.specs.Laws.{LeavesAreNormal}
use Rattle.sap_terms.specs.Modulo.{instance_facts}
use Rattle.sap_terms.specs.Normal.{IsNormalForm}
use Rattle.sap_terms.specs.Signature.{Sig, HoldsBuiltins}
use Rattle.sap_terms.specs.Tree.{Tree}
use Rattle.sap_terms.specs.Variables.{facts_vars, new_vars}
use Rattle.sap_terms.specs.declared.binding.Binding.{Binding}
use Rattle.sap_terms.specs.declared.fact.Fact.{Fact}
use Rattle.sap_terms.specs.declared.var.Var.{Var}
use Rattle.sap_rewrite.specs.Laws.{EqualityIsKept, EachHasForm, FormIsOne, FormsDecide}
use Rattle.sap_rewrite.specs.Match.{Agrees, bound_vars}
use Rattle.sap_rewrite.specs.Pattern.{MatchingIsModulo}
use Rattle.sap_process.specs.Action.{embedded}
use Rattle.sap_process.specs.Flaws.{IsWellFormed}
use Rattle.sap_process.specs.Places.{place}
use Rattle.sap_process.specs.Proc.{Proc, act, node_count}
use Rattle.sap_process.specs.Ready.{IsReady}
use Rattle.sap_process.specs.Sites.{var_names}
use Rattle.sap_locks.specs.Annotation.{IsAnnotation}
use Rattle.sap_restrict.specs.Laws.{QuietLaw}
use Rattle.sap_rule.specs.Named.{rule_named}
use Rattle.sap_rule.specs.Variables.{open_variables}
use Rattle.sap_rule.specs.declared.rule.Rule.{Rule}
use Rattle.sap_runs.specs.Limits.{HasFewNodes}
use Rattle.sap_lines.specs.Answers.{RunsMatchExactly}
use Rattle.sap_lines.specs.NamesPass.{NamesStandInRuns}
use Rattle.sap_lines.specs.Runs.{ProcessLinesAreRuns, SmallProcessRunsAreLegal}
use Rattle.sap_translate.specs.Opened.{left_open, opened}
use Rattle.sap_templates.specs.Places.{root, scoped_place_at}
use Rattle.sap_translate.specs.Scoped.{FactsWithin, IsFree, Within}
use Rattle.sap_translate.specs.Sound.{IsSound}
use Rattle.sap_templates.specs.Templates.{init_rule, own_rules, rules_of}
use Rattle.sap_translate.specs.relation.Answered.{WhereAtRest, Starts, ShowsTheSame, Ends, Splits, CopiesFirst, CopiesMore, MakesName, Outputs, OutputsOn, Inputs, InputsOn, Meets, Agrees as TestAgrees, Differs, Shows, Inserts, Deletes, Finds, Misses, Locks, Unlocks, Embeds, AdversaryMakes, Knows}
use Rattle.sap_translate.specs.relation.Answers.{term_under, widened}
use Rattle.sap_translate.specs.relation.Envs.{Env, GoodEnv, chosen, filled, join, names}
use Rattle.sap_translate.specs.relation.Followed.{WhereTogether, FollowsLearn, FollowsPublic, FollowsApply}
use Rattle.sap_forward.specs.Answered.{StartsLinked, LinesAreAnswered}

-- each is the contract of a law
pub record Laws : Type 0 where
  -- of the relation
  pub starts : (g : Sig) (p q : Proc) → IsReady g p → node_count p < 2 ^ 64 → IsAnnotation p q → Starts g q
  pub shows_the_same : WhereAtRest ShowsTheSame
  pub ends : WhereAtRest Ends
  pub splits : WhereAtRest Splits
  pub copies_first : WhereAtRest CopiesFirst
  pub copies_more : WhereAtRest CopiesMore
  pub makes_name : WhereAtRest MakesName
  pub outputs : WhereAtRest Outputs
  pub outputs_on : WhereAtRest OutputsOn
  pub inputs : WhereAtRest Inputs
  pub inputs_on : WhereAtRest InputsOn
  pub meets : WhereAtRest Meets
  pub agrees : WhereAtRest TestAgrees
  pub differs : WhereAtRest Differs
  pub shows : WhereAtRest Shows
  pub inserts : WhereAtRest Inserts
  pub deletes : WhereAtRest Deletes
  pub finds : WhereAtRest Finds
  pub misses : WhereAtRest Misses
  pub locks : WhereAtRest Locks
  pub unlocks : WhereAtRest Unlocks
  pub embeds : WhereAtRest Embeds
  pub adversary_makes : WhereAtRest AdversaryMakes
  pub knows : WhereAtRest Knows
  pub follows_learn : WhereTogether FollowsLearn
  pub follows_public : WhereTogether FollowsPublic
  pub follows_apply : WhereTogether FollowsApply
  -- of processes and their rules
  pub sound : (g : Sig) (p q : Proc) → IsReady g p → node_count p < 2 ^ 64 → IsAnnotation p q → IsSound g q
  pub ready : (g : Sig) (p q : Proc) → IsReady g p → IsAnnotation p q → IsReady g q
  pub named : (p : Proc) (r : Rule) → Contains (rules_of p) r → rule_named (rules_of p) r.name ≡ Some r
  pub places : (g : Sig) (p q : Proc) (path : List ℕ) (v : List Var) (b : Proc) → IsReady g p → node_count p < 2 ^ 64 → IsAnnotation p q → IsWellFormed g q
      → scoped_place_at (root q) path ≡ Some (place path v b) → map (open_variables g) (own_rules path v b) ≡ opened v b
  pub instances : (g : Sig) (env : Env) (l a r : List Fact) → GoodEnv g env
      → new_vars (var_names (facts_vars (instance_facts (chosen env) l))) (facts_vars (instance_facts (chosen env) a ++ instance_facts (chosen env) r)) ≡ left_open (names env) l a r
  pub choices : (g : Sig) (p q : Proc) (path : List ℕ) (env : Env) (l a r : List Fact) (b : Proc) (σ : Choice) (bs : List Binding) → IsReady g p → node_count p < 2 ^ 64 → IsAnnotation p q
      → scoped_place_at (root q) path ≡ Some (place path (names env) (act (embedded l a r) b)) → bound_vars bs ≡ left_open (names env) l a r → Agrees bs σ
      → Agrees bs (filled (widened env σ (facts_vars (l ++ (a ++ r)))))
  pub variables : (env : Env) (x : Var) → Contains (names env) x → filled env x ≡ env.choice x
  pub old : (env more : Env) (x : Var) → Contains (names env) x → (join env more).choice x ≡ env.choice x
  pub new : (env more : Env) (x : Var) → IsFree x (names env) → (join env more).choice x ≡ more.choice x
  pub terms : (env : Env) (m : Tree) → Within (names env) m → instance (filled env) m ≡ term_under env m
  pub longer : (env more : Env) (m : Tree) → Within (names env) m → instance (filled (join env more)) m ≡ term_under env m
  pub patterns : (g : Sig) (env : Env) (σ : Choice) (vs : List Var) (m : Tree) → GoodEnv g env → Within (names (widened env σ vs)) m → instance (filled (widened env σ vs)) m ≡ instance σ (term_under env m)
  pub facts : (g : Sig) (env : Env) (σ : Choice) (vs : List Var) (fs : List Fact) → GoodEnv g env → FactsWithin (names (widened env σ vs)) fs → instance_facts (filled (widened env σ vs)) fs ≡ instance_facts σ (instance_facts (chosen env) fs)
  -- of terms
  pub init : (g : Sig) → open_variables g init_rule ≡ []
  pub pairs : (g : Sig) (t u m n : Tree) → IsNormalForm (equations g) t m → IsNormalForm (equations g) u n → IsNormalForm (equations g) (app2 pair_name t u) (app2 pair_name m n)
  pub kept : EqualityIsKept
  pub each_form : EachHasForm
  pub one_form : FormIsOne
  pub decide : FormsDecide
  pub modulo : MatchingIsModulo
  pub leaves : LeavesAreNormal

-- those of written runs of processes, and what follows from the laws above for each line
pub record RunLaws : Type 0 where
  pub starts : (g : Sig) (p q : Proc) → IsReady g p → node_count p < 2 ^ 64 → IsAnnotation p q → StartsLinked g q
  pub lines : (g : Sig) (p q : Proc) → HoldsBuiltins g → IsReady g p → node_count p < 2 ^ 64 → IsAnnotation p q → LinesAreAnswered g q
  pub shows_the_same : WhereAtRest ShowsTheSame
  pub ready : (g : Sig) (p q : Proc) → IsReady g p → IsAnnotation p q → IsReady g q
  pub runs : ProcessLinesAreRuns HasFewNodes
  pub exactly : RunsMatchExactly
  pub excludes : SmallProcessRunsAreLegal
  pub quiet : QuietLaw
  pub stand : NamesStandInRuns
