-- What holds of both sides between two lines of a conversion.
use Rattle.std.specs.Prelude.{◌≡◌, ◌<◌, ℕ, true, false, List, [], ◌∷◌, Option, Some, slice_get, Contains}
use Rattle.sap_translate.specs.Members.{Member}
use Rattle.sap_terms.specs.Signature.{Sig}
use Rattle.sap_terms.specs.Trace.{Trace}
use Rattle.sap_terms.specs.Tree.{Tree}
use Rattle.sap_terms.specs.declared.var.Var.{Var}
use Rattle.sap_process.specs.Configuration.{Config}
use Rattle.sap_process.specs.Proc.{Proc}
use Rattle.sap_rule.specs.RuleSteps.{RuleState}
use Rattle.sap_lines.specs.Lines.{EvaluateWithin}
use Rattle.sap_translate.specs.relation.Agents.{Agent, env_of}
use Rattle.sap_translate.specs.relation.Answers.{AtRest}
use Rattle.sap_translate.specs.relation.Envs.{Env, names}
use Rattle.sap_rule_lines.specs.Least.{is_among}
use Rattle.sap_forward.specs.Tables.{RuleTables, AreRuleTables}

-- what is in scope stands for terms whose parts are within the limit
abbrev pub EnvWithin : Sig → (Tree → Type 0) → Env → Type 0
EnvWithin g W env = (x : Var) → Member x (names env) → EvaluateWithin g W (env.choice x ∷ [])

-- for whom Fr was made of a name: a process or the adversary, which a line draws, or a lock or tag, which none draws
pub data MadeFor (drawn : List ℕ) (next : ℕ) (c : Config) (n : ℕ) : Type 0 where
  a_process : Contains c.made n → is_among drawn n ≡ true → MadeFor drawn next c n
  the_adversary : Contains c.own n → is_among drawn n ≡ true → MadeFor drawn next c n
  a_lock_or_tag : is_among drawn n ≡ false → n < next → MadeFor drawn next c n

-- A configuration with its entries and its trace, and a state of rules with its full trace, between two lines: both sides rest,
-- the adversary knows the same on both, the tables are theirs, and all terms that they hold are within the limit.
pub record Linked (g : Sig) (W : Tree → Type 0) (start : Proc) (drawn : List ℕ) (tables : RuleTables) (agents : List (Option Agent)) (c : Config) (es : List Tree) (tr : Trace) (s : RuleState) (full : Trace) : Type 0 where
  pub rest : AtRest g start agents c tr s full
  pub known : s.known ≡ es
  pub tabled : AreRuleTables agents c.facts s.facts tables
  pub made : (n : ℕ) → Contains s.made n → MadeFor drawn tables.next c n
  pub entries : (x : Tree) → Contains es x → W x
  pub envs : (t : ℕ) (a : Agent) → slice_get agents t ≡ Some (Some a) → EnvWithin g W (env_of a)
  pub stored : (x v : Tree) → c.store x ≡ Some v → W v
