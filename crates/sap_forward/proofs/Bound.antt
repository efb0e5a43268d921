-- What a line `found` binds.
use Rattle.std.proofs.Common.{◌≡◌, ℕ, List, [], ◌∷◌, Option, Some, None, refl, sym, ap, ◌∙◌, subst, slice_get}
use Rattle.std.specs.Option.{option_map}
use Rattle.std.specs.Prelude.{MatchOption}
use Rattle.sap_terms.specs.Equations.{equations}
use Rattle.sap_terms.specs.Normal.{IsNormalForm}
use Rattle.sap_terms.specs.Signature.{Sig}
use Rattle.sap_terms.specs.Trace.{Trace}
use Rattle.sap_terms.specs.Tree.{Tree}
use Rattle.sap_terms.specs.View.{tree}
use Rattle.sap_terms.specs.declared.binding.Binding.{Binding}
use Rattle.sap_terms.specs.declared.fact.Fact.{Fact}
use Rattle.sap_terms.specs.declared.term.Term.{Term}
use Rattle.sap_terms.specs.declared.var.Var.{Var}
use Rattle.sap_rewrite.specs.Laws.{FormIsOne}
use Rattle.sap_deduce.specs.Entries.{terms_of}
use Rattle.sap_process.specs.Configuration.{Config, Runs}
use Rattle.sap_process.specs.Instance.{process_instance, without}
use Rattle.sap_process.specs.Proc.{Proc, lookup}
use Rattle.sap_rule.specs.RuleSteps.{RuleState}
use Rattle.sap_runs.specs.Inner.{InnerAction, found}
use Rattle.sap_runs.specs.Limits.{HasFewNodes}
use Rattle.sap_runs.specs.declared.process_step.PStep.{PStep}
use Rattle.sap_runs.specs.declared.process_step.PStep.TheVariants as line
use Rattle.sap_runs.specs.declared.rule_step.RStep.{RStep}
use Rattle.sap_lines.specs.Answers.{MatchesExactly, ProcessLinesHaveOneAnswer}
use Rattle.sap_lines.specs.Faults.{IsRefused}
use Rattle.sap_lines.specs.Lines.{IsProcessLine}
use Rattle.sap_calc.specs.Running.{Running, configuration, WouldFind, FindsNothing}
use Rattle.sap_translate.specs.relation.Agents.{Agent, running, process_of}
use Rattle.sap_translate.specs.relation.Answers.{AtRest, term_under, under}
use Rattle.sap_translate.specs.relation.Envs.{Env, chosen}
use Rattle.sap_forward.specs.Tables.{RuleTables}
use Rattle.sap_forward.specs.Written.{IsWrittenAsRules}
use Rattle.sap_forward.specs.code.Desk.{BindsFound}
use Rattle.sap_forward.specs.code.Taken.{IsFoundBy}
use Rattle.sap_forward.proofs.Tabled.{map_get}

-- the process that a thread runs is the one at its place
runs_here : (g : Sig) (start : Proc) (agents : List (Option Agent)) (c : Config) (tr : Trace) (s : RuleState) (full : Trace) (t : ℕ) (path : List ℕ) (env : Env) (body : Proc) → AtRest g start agents c tr s full → slice_get agents t ≡ Some (Some (running path env body)) → Runs c t (under env body)
runs_here g start agents c tr s full t path env body rest is = ap (λ ts. slice_get ts t) rest.related.threads ∙ map_get (option_map process_of) agents t (Some (running path env body)) is

-- the store has one value at the key of a lookup
one_value : (one : FormIsOne) (g : Sig) (c : Config) (es fs : List Tree) (t : ℕ) (m x v n k u : Tree) (y z : Var) (p q a b : Proc) → Runs c t (lookup m y p q) → IsNormalForm (equations g) m x → c.store x ≡ Some v
    → Runs c t (lookup n z a b) → IsNormalForm (equations g) n k → c.store k ≡ Some u → v ≡ u
one_value one g c es fs t m x v n k u y z p q a b runs form held runs_too form_too held_too =
    let both : Some (Some (lookup n z a b)) ≡ Some (Some (lookup m y p q)) = sym runs_too ∙ runs in
    let heads : n ≡ m = cc in
    let keys : k ≡ x = one (equations g) m k x (subst (λ i. IsNormalForm (equations g) i k) heads form_too) form in
    let values : Some v ≡ Some u = sym held ∙ ap c.store (sym keys) ∙ held_too in
    cc

-- what a line finds
value_of : (one : FormIsOne) (g : Sig) (c : Config) (es fs : List Tree) (t : ℕ) (m x v key w : Tree) (y : Var) (p q : Proc) (inner : List InnerAction) (label : List Fact) (d : Config) → Runs c t (lookup m y p q) → IsNormalForm (equations g) m x → c.store x ≡ Some v
    → IsProcessLine g HasFewNodes c es (line.Found t) inner label d fs → inner ≡ found key w ∷ [] → v ≡ w
value_of one g c es fs t m x v key w y p q inner label d runs form held (IsProcessLine.finds {m = n} {k = k} {v = u} {x = z} {p = a} {q = b} _ runs_too form_too held_too small) e =
    let there : v ≡ u = one_value one g c es fs t m x v n k u y z p q a b runs form held runs_too form_too held_too in
    let same : u ≡ w = cc in
    there ∙ same

module _ (one : FormIsOne) (answer : ProcessLinesHaveOneAnswer) (g : Sig) (start : Proc) (drawn : List ℕ) (agents : List (Option Agent)) (tr : Trace) (s : RuleState) (full : Trace) (r : Running) (tables : RuleTables) (sig : r.sig ≡ g) (exact : MatchesExactly g (configuration r) (terms_of r.known)) (rest : AtRest g start agents (configuration r) tr s full) where
  -- what was found before the line is done is the value that the line finds
  found_is : (t : ℕ) (inner : List InnerAction) (label : List Fact) (d : Config) (fs : List Tree) (m x v : Tree) (y : Var) (p q : Proc) (o : Option Term) → Runs (configuration r) t (lookup m y p q) → IsNormalForm (equations g) m x → (configuration r).store x ≡ Some v
      → IsProcessLine g HasFewNodes (configuration r) (terms_of r.known) (line.Found t) inner label d fs → MatchOption o (FindsNothing r t) (λ w. WouldFind r t (tree w)) → option_map tree o ≡ Some v
  found_is t inner label d fs m x v y p q None runs form held is h =
      absurd (h.cause (answer g (configuration r) d (terms_of r.known) fs (line.Found t) inner label h.fault exact is (subst (λ x. IsRefused x (configuration r) (terms_of r.known) (line.Found t) h.fault) sig h.denied)))
  found_is t inner label d fs m x v y p q (Some w) runs form held is h =
      ap Some (sym (value_of one g (configuration r) (terms_of r.known) (terms_of r.known) t m x v h.key (tree w) y p q (found h.key (tree w) ∷ []) [] h.after runs form held (subst (λ x. IsProcessLine x HasFewNodes (configuration r) (terms_of r.known) (line.Found t) (found h.key (tree w) ∷ []) [] h.after (terms_of r.known)) sig h.line) refl))

  -- so what is written binds it
  pub binds_found : (step : PStep) (inner : List InnerAction) (label : List Fact) (d : Config) (fs : List Tree) (ls : List RStep) (o : Option Term) (later : List (Option Agent)) (behind : RuleTables) → IsProcessLine g HasFewNodes (configuration r) (terms_of r.known) step inner label d fs → IsFoundBy r step o
      → IsWrittenAsRules g drawn agents (configuration r) tables step ls later behind → BindsFound o step ls
  binds_found (line.Found t) inner label d fs ls o later behind is h (IsWrittenAsRules.finds _ k path env m x v y b p q sits form held var term) = λ name ks b2 e.
      let same : b ≡ b2 = cc in
      found_is t inner label d fs (term_under env m) x v y (process_instance (without (chosen env) y) p) (under env q) o (runs_here g start agents (configuration r) tr s full t path env (lookup m y p q) rest sits.thread) form held is (h t refl) ∙ ap Some (sym term ∙ ap (λ (i : Binding). tree i.term) same)
  binds_found step inner label d fs ls o later behind is h w = tt
