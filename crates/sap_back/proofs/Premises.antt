-- The laws of lower crates that a conversion back rests on.
use Rattle.std.specs.Prelude.{◌≡◌, ◌^◌, ◌<◌, ◌++◌, ◌⊎◌, ℕ, List, Some, map, Contains}
use Rattle.sap_terms.specs.Choice.{Choice, instance}
use Rattle.sap_terms.specs.Laws.{LeavesAreNormal}
use Rattle.sap_terms.specs.Modulo.{instance_facts}
use Rattle.sap_terms.specs.Message.{IsMessageTrace}
use Rattle.sap_terms.specs.Signature.{Sig, HoldsBuiltins}
use Rattle.sap_terms.specs.Trace.{Trace}
use Rattle.sap_terms.specs.Tree.{Tree}
use Rattle.sap_terms.specs.Variables.{facts_vars, new_vars}
use Rattle.sap_terms.specs.declared.fact.Fact.{Fact}
use Rattle.sap_terms.specs.declared.var.Var.{Var}
use Rattle.sap_rewrite.specs.Laws.{EachHasForm, FormIsOne, FormsDecide}
use Rattle.sap_process.specs.Flaws.{IsWellFormed}
use Rattle.sap_process.specs.Places.{place}
use Rattle.sap_process.specs.Proc.{Proc, node_count}
use Rattle.sap_process.specs.Ready.{IsReady}
use Rattle.sap_process.specs.Sites.{var_names}
use Rattle.sap_locks.specs.Annotation.{IsAnnotation}
use Rattle.sap_restrict.specs.Laws.{PrefixLaw}
use Rattle.sap_rule.specs.RuleSteps.{IsFullTrace}
use Rattle.sap_rule.specs.Variables.{open_variables}
use Rattle.sap_rule.specs.declared.rule.Rule.{Rule}
use Rattle.sap_runs.specs.Limits.{HasFewNodes}
use Rattle.sap_steps.specs.Runs.{LinesAreSteps, LinesAreRuns}
use Rattle.sap_translate.specs.Opened.{left_open, opened}
use Rattle.sap_translate.specs.PlaceRules.{IsOfPlace}
use Rattle.sap_templates.specs.Places.{root, scoped_place_at}
use Rattle.sap_translate.specs.Scoped.{FactsWithin, Within}
use Rattle.sap_translate.specs.Sound.{IsSound}
use Rattle.sap_templates.specs.Templates.{init_rule, own_rules, rules_of}
use Rattle.sap_translate.specs.relation.Answers.{term_under, widened}
use Rattle.sap_translate.specs.relation.Envs.{Env, GoodEnv, chosen, filled, join, names}
use Rattle.sap_translate.specs.relation.Spelled.{IsProcessOver}
use Rattle.sap_translate.specs.relation.Followed.{WhereTogether, Begins, FollowsApply, FollowsDelete, FollowsElse, FollowsEvent, FollowsEvery, FollowsFound, FollowsFresh, FollowsGive, FollowsIn, FollowsInAdv, FollowsInMsg, FollowsInit, FollowsInsert, FollowsLearn, FollowsLock, FollowsMissing, FollowsNew, FollowsNil, FollowsOut, FollowsOutAck, FollowsOutAdv, FollowsOutMsg, FollowsOwn, FollowsParallel, FollowsPublic, FollowsRepCopy, FollowsRepStart, FollowsRule, FollowsThen, FollowsUnlock}

-- each is the contract of a law
pub record Laws : Type 0 where
  -- of the relation
  pub begins : (g : Sig) (p q : Proc) → IsReady g p → node_count p < 2 ^ 64 → IsAnnotation p q → Begins g q
  pub follows_init : WhereTogether FollowsInit
  pub follows_nil : WhereTogether FollowsNil
  pub follows_parallel : WhereTogether FollowsParallel
  pub follows_rep_start : WhereTogether FollowsRepStart
  pub follows_rep_copy : WhereTogether FollowsRepCopy
  pub follows_new : WhereTogether FollowsNew
  pub follows_out : WhereTogether FollowsOut
  pub follows_out_adv : WhereTogether FollowsOutAdv
  pub follows_out_msg : WhereTogether FollowsOutMsg
  pub follows_out_ack : WhereTogether FollowsOutAck
  pub follows_in : WhereTogether FollowsIn
  pub follows_in_adv : WhereTogether FollowsInAdv
  pub follows_in_msg : WhereTogether FollowsInMsg
  pub follows_then : WhereTogether FollowsThen
  pub follows_else : WhereTogether FollowsElse
  pub follows_event : WhereTogether FollowsEvent
  pub follows_insert : WhereTogether FollowsInsert
  pub follows_delete : WhereTogether FollowsDelete
  pub follows_found : WhereTogether FollowsFound
  pub follows_missing : WhereTogether FollowsMissing
  pub follows_lock : WhereTogether FollowsLock
  pub follows_unlock : WhereTogether FollowsUnlock
  pub follows_rule : WhereTogether FollowsRule
  pub follows_fresh : WhereTogether FollowsFresh
  pub follows_learn : WhereTogether FollowsLearn
  pub follows_own : WhereTogether FollowsOwn
  pub follows_public : WhereTogether FollowsPublic
  pub follows_apply : WhereTogether FollowsApply
  pub follows_give : WhereTogether FollowsGive
  pub follows_every : WhereTogether FollowsEvery
  -- of processes and their rules
  pub sound : (g : Sig) (p q : Proc) → IsReady g p → node_count p < 2 ^ 64 → IsAnnotation p q → IsSound g q
  pub ready : (g : Sig) (p q : Proc) → IsReady g p → IsAnnotation p q → IsReady g q
  pub origin : (p : Proc) (r : Rule) → Contains (rules_of p) r → (r ≡ init_rule) ⊎ IsOfPlace p r
  pub places : (g : Sig) (p q : Proc) (path : List ℕ) (v : List Var) (b : Proc) → IsReady g p → node_count p < 2 ^ 64 → IsAnnotation p q → IsWellFormed g q
      → scoped_place_at (root q) path ≡ Some (place path v b) → map (open_variables g) (own_rules path v b) ≡ opened v b
  pub instances : (g : Sig) (env : Env) (l a r : List Fact) → GoodEnv g env
      → new_vars (var_names (facts_vars (instance_facts (chosen env) l))) (facts_vars (instance_facts (chosen env) a ++ instance_facts (chosen env) r)) ≡ left_open (names env) l a r
  pub variables : (env : Env) (x : Var) → Contains (names env) x → filled env x ≡ env.choice x
  pub old : (env more : Env) (x : Var) → Contains (names env) x → (join env more).choice x ≡ env.choice x
  pub picks : (env : Env) (σ : Choice) (vs : List Var) (x : Var) → Contains (new_vars (var_names (names env)) vs) x → (widened env σ vs).choice x ≡ σ x
  pub terms : (env : Env) (m : Tree) → Within (names env) m → instance (filled env) m ≡ term_under env m
  pub facts : (g : Sig) (env : Env) (σ : Choice) (vs : List Var) (fs : List Fact) → GoodEnv g env → FactsWithin (names (widened env σ vs)) fs
      → instance_facts (filled (widened env σ vs)) fs ≡ instance_facts σ (instance_facts (chosen env) fs)
  pub over : (g : Sig) (p q : Proc) → IsReady g p → IsAnnotation p q → IsProcessOver g q
  pub messages : (g : Sig) (p : Proc) (full : Trace) → HoldsBuiltins g → IsProcessOver g p → IsFullTrace g (rules_of p) full → IsMessageTrace g full
  -- of lines and terms
  pub prefix : PrefixLaw
  pub steps : LinesAreSteps HasFewNodes
  pub runs : LinesAreRuns HasFewNodes
  pub each_form : EachHasForm
  pub one_form : FormIsOne
  pub decide : FormsDecide
  pub leaves : LeavesAreNormal
