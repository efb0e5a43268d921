-- Lines that one state fact answers.
use Rattle.std.proofs.Common.{◌≡◌, ℕ, ◌<◌, ◌^◌, List, [], ◌∷◌, ◌++◌, Option, Some, None, refl, sym, ap, ◌∙◌, subst, slice_get, map, true, false, Bool}
use Rattle.std.specs.Prelude.{if◌then◌else◌}
use Rattle.sap_terms.specs.Choice.{instance}
use Rattle.sap_terms.specs.Equations.{equations}
use Rattle.sap_terms.specs.Modulo.{instance_fact, IsFormOfFact}
use Rattle.sap_terms.specs.Normal.{IsNormalForm}
use Rattle.sap_terms.specs.Reserved.{is_reserved}
use Rattle.sap_terms.specs.Same.{same_tree}
use Rattle.sap_terms.specs.Signature.{Sig, HoldsBuiltins}
use Rattle.sap_terms.specs.Trace.{Trace, shown}
use Rattle.sap_terms.specs.Tree.{Tree, variable}
use Rattle.sap_terms.specs.declared.fact.Fact.{Fact}
use Rattle.sap_terms.specs.declared.var.Var.{Var}
use Rattle.sap_process.specs.Action as action
use Rattle.sap_process.specs.Configuration.{Config, becomes, stores, stored, holding}
use Rattle.sap_process.specs.Proc as whole
use Rattle.sap_process.specs.Proc.{Proc, act, node_count}
use Rattle.sap_process.specs.Ready.{IsReady}
use Rattle.sap_process.specs.Scopes.{lock_var}
use Rattle.sap_locks.specs.Annotation.{IsAnnotation}
use Rattle.sap_restrict.specs.ReservedFacts.{event_fact}
use Rattle.sap_rule.specs.RuleSteps.{RuleState}
use Rattle.sap_rule.specs.Variables.{open_variables}
use Rattle.sap_runs.specs.Inner.{equal, different, missing, inserted, deleted, unlocked}
use Rattle.sap_runs.specs.Marks.{Mark, marks_of}
use Rattle.sap_runs.specs.declared.process_step.PStep.{PStep}
use Rattle.sap_runs.specs.declared.process_step.PStep.TheVariants as line
use Rattle.sap_lines.specs.Lines.{EvaluateWithin}
use Rattle.sap_translate.specs.Scoped.{Within, AllWithin}
use Rattle.sap_templates.specs.Templates as rules
use Rattle.sap_templates.specs.Templates.{first_of, second_of}
use Rattle.sap_translate.specs.relation.Agents.{Agent, running}
use Rattle.sap_translate.specs.relation.Answers.{term_under, under}
use Rattle.sap_translate.specs.relation.Answered.{Agrees, Differs, Shows, Inserts, Deletes, Misses, Unlocks}
use Rattle.sap_translate.specs.relation.Envs.{Env, names, filled, chosen}
use Rattle.sap_translate.specs.relation.ProcessMoves as process
use Rattle.sap_forward.specs.Answered.{IsAnswered}
use Rattle.sap_forward.specs.Linked.{Linked, EnvWithin}
use Rattle.sap_forward.specs.Tables.{RuleTables}
use Rattle.sap_forward.specs.Written.{IsWrittenAsRules}
use Rattle.sap_forward.proofs.Advance.{contains, place_sound, opens_at, state_within, law, stands_at, seated, plain}
use Rattle.sap_forward.proofs.Evaluated.{Evaluates, rule_within, first_within, rest_within, form_within, all_within}
use Rattle.sap_translate.proofs.Shared.Marked.{event_marks}
use Rattle.sap_forward.proofs.Premises.{Laws}

-- what is in the store stays within the limit

stored_if : (W : Tree → Type 0) (b : Bool) (o p : Option Tree) (v : Tree) → ((w : Tree) → o ≡ Some w → W w) → ((w : Tree) → p ≡ Some w → W w) → (if b then o else p) ≡ Some v → W v
stored_if W true o p v h k e = h v e
stored_if W false o p v h k e = k v e

stored_small : (W : Tree → Type 0) (store : Tree → Option Tree) (x y i v : Tree) → ((x v : Tree) → store x ≡ Some v → W v) → W y → stored store x (Some y) i ≡ Some v → W v
stored_small W store x y i v all here e = stored_if W (same_tree x i) (Some y) (store i) v (λ w h. let s : y ≡ w = cc in subst W s here) (λ w h. all i w h) e

cleared_small : (W : Tree → Type 0) (store : Tree → Option Tree) (x i v : Tree) → ((x v : Tree) → store x ≡ Some v → W v) → stored store x None i ≡ Some v → W v
cleared_small W store x i v all e = stored_if W (same_tree x i) None (store i) v (λ w h. absurd (cc)) (λ w h. all i w h) e

put_all : (laws : Laws) (env : Env) (ts : List Tree) → AllWithin (names env) ts → map (instance (filled env)) ts ≡ map (term_under env) ts
put_all laws env [] h = refl
put_all laws env (t ∷ ts) h = λ i. laws.terms env t h.0 i ∷ put_all laws env ts h.1 i

module _ (laws : Laws) (g : Sig) (W : Tree → Type 0) (p q : Proc) (hold : HoldsBuiltins g) (ready : IsReady g p) (small : node_count p < 2 ^ 64) (annotated : IsAnnotation p q) (drawn : List ℕ) (agents : List (Option Agent)) (c : Config) (es : List Tree) (tr : Trace) (s : RuleState) (full : Trace) (tables : RuleTables) (lk : Linked g W q drawn tables agents c es tr s full) where
  abbrev pub Goes : PStep → Config → List Fact → List Mark → Type 0
  Goes step d label ms = IsAnswered g W q drawn agents c tables s full step d es (tr ++ shown label) ms

  -- what all these have in common
  state_at : (path : List ℕ) (env : Env) → EnvWithin g W env → Evaluates g W (filled env) (map variable (names env))
  state_at path env h = state_within laws g W p q hold ready small annotated env (names env) h (λ x m. m)

  put : (env : Env) (m : Tree) (path : List ℕ) → Within (names env) m → EvaluateWithin g W (term_under env m ∷ []) → EvaluateWithin g W (instance (filled env) m ∷ [])
  put env m path w h = subst (λ t. EvaluateWithin g W (t ∷ [])) (sym (laws.terms env m w)) h

  pub agrees_here : (t : ℕ) (path : List ℕ) (env : Env) (m n x y : Tree) (u v : Proc)
      → slice_get agents t ≡ Some (Some (running path env (whole.test m n u v))) → IsNormalForm (equations g) (term_under env m) x → IsNormalForm (equations g) (term_under env n) y → x ≡ y → EvaluateWithin g W (term_under env m ∷ term_under env n ∷ []) → Goes (line.Then t) (becomes c t (Some (under env u))) [] (marks_of (equal x y ∷ []) [])
  agrees_here t path env m n x y u v is fx fy same heads =
      let body : Proc = whole.test m n u v in
      let sits = seated laws g W p q hold ready small annotated drawn agents c es tr s full tables lk t path env body is in
      let at = stands_at laws g W p q hold ready small annotated drawn agents c es tr s full tables lk t path env body is in
      let sound = place_sound laws g W p q hold ready small annotated path env body at in
      let opens = opens_at laws g W p q hold ready small annotated path env body at in
      let wide = lk.envs t (running path env body) is in
      let st = state_at path env wide in
      let none : open_variables g (rules.then_rule path (names env) m n) ≡ [] = cc in
      let ans = law laws g W p q hold ready small annotated drawn agents c es tr s full tables lk Agrees laws.agrees t sits.0 path env m n x y u v sits.2 ((laws.decide (equations g) (term_under env m) (term_under env n) x y fx fy).1 same) fx fy in
      plain laws g W p q hold ready small annotated drawn agents c es tr s full tables lk t sits.0 path env body sits.1 (first_of path) env u wide (line.Then t) (process.agrees t) [] (becomes c t (Some (under env u))) (rules.then_rule path (names env) m n) (filled env) [] _ (marks_of (equal x y ∷ []) []) ans
      (record { vars = sym none; agrees = tt })
      (rule_within g W (filled env) (rules.then_rule path (names env) m n) (st, tt) ((put env m path sound.0 (first_within g W (term_under env m) (term_under env n ∷ []) heads), (put env n path sound.1 (rest_within g W (term_under env m) (term_under env n ∷ []) heads), tt)), tt) (st, tt))
      refl refl refl lk.stored refl (IsWrittenAsRules.agrees t sits.0 path env m n u v sits.1)

  pub differs_here : (t : ℕ) (path : List ℕ) (env : Env) (m n x y : Tree) (u v : Proc)
      → slice_get agents t ≡ Some (Some (running path env (whole.test m n u v))) → IsNormalForm (equations g) (term_under env m) x → IsNormalForm (equations g) (term_under env n) y → ¬ (x ≡ y) → EvaluateWithin g W (term_under env m ∷ term_under env n ∷ []) → Goes (line.Else t) (becomes c t (Some (under env v))) [] (marks_of (different x y ∷ []) [])
  differs_here t path env m n x y u v is fx fy differ heads =
      let body : Proc = whole.test m n u v in
      let sits = seated laws g W p q hold ready small annotated drawn agents c es tr s full tables lk t path env body is in
      let at = stands_at laws g W p q hold ready small annotated drawn agents c es tr s full tables lk t path env body is in
      let sound = place_sound laws g W p q hold ready small annotated path env body at in
      let opens = opens_at laws g W p q hold ready small annotated path env body at in
      let wide = lk.envs t (running path env body) is in
      let st = state_at path env wide in
      let none : open_variables g (rules.else_rule path (names env) m n) ≡ [] = cc in
      let ans = law laws g W p q hold ready small annotated drawn agents c es tr s full tables lk Differs laws.differs t sits.0 path env m n x y u v sits.2 (λ e. differ ((laws.decide (equations g) (term_under env m) (term_under env n) x y fx fy).0 e)) fx fy in
      plain laws g W p q hold ready small annotated drawn agents c es tr s full tables lk t sits.0 path env body sits.1 (second_of path) env v wide (line.Else t) (process.differs t) [] (becomes c t (Some (under env v))) (rules.else_rule path (names env) m n) (filled env) [] _ (marks_of (different x y ∷ []) []) ans
      (record { vars = sym none; agrees = tt })
      (rule_within g W (filled env) (rules.else_rule path (names env) m n) (st, tt) ((put env m path sound.0 (first_within g W (term_under env m) (term_under env n ∷ []) heads), (put env n path sound.1 (rest_within g W (term_under env m) (term_under env n ∷ []) heads), tt)), tt) (st, tt))
      refl refl refl lk.stored refl (IsWrittenAsRules.differs t sits.0 path env m n u v sits.1)

  pub inserts_here : (t : ℕ) (path : List ℕ) (env : Env) (m n x y : Tree) (u : Proc)
      → slice_get agents t ≡ Some (Some (running path env (act (action.insert m n) u))) → IsNormalForm (equations g) (term_under env m) x → IsNormalForm (equations g) (term_under env n) y → EvaluateWithin g W (term_under env m ∷ term_under env n ∷ []) → Goes (line.Insert t) (stores (becomes c t (Some (under env u))) x (Some y)) [] (marks_of (inserted x y ∷ []) [])
  inserts_here t path env m n x y u is fx fy heads =
      let body : Proc = act (action.insert m n) u in
      let sits = seated laws g W p q hold ready small annotated drawn agents c es tr s full tables lk t path env body is in
      let at = stands_at laws g W p q hold ready small annotated drawn agents c es tr s full tables lk t path env body is in
      let sound = place_sound laws g W p q hold ready small annotated path env body at in
      let opens = opens_at laws g W p q hold ready small annotated path env body at in
      let wide = lk.envs t (running path env body) is in
      let st = state_at path env wide in
      let none : open_variables g (rules.insert_rule path (names env) m n) ≡ [] = cc in
      let ans = law laws g W p q hold ready small annotated drawn agents c es tr s full tables lk Inserts laws.inserts t sits.0 path env m n x y u sits.2 fx fy in
      plain laws g W p q hold ready small annotated drawn agents c es tr s full tables lk t sits.0 path env body sits.1 (first_of path) env u wide (line.Insert t) (process.inserts t) [] (stores (becomes c t (Some (under env u))) x (Some y)) (rules.insert_rule path (names env) m n) (filled env) [] _ (marks_of (inserted x y ∷ []) []) ans
      (record { vars = sym none; agrees = tt })
      (rule_within g W (filled env) (rules.insert_rule path (names env) m n) (st, tt) ((put env m path sound.0 (first_within g W (term_under env m) (term_under env n ∷ []) heads), (put env n path sound.1 (rest_within g W (term_under env m) (term_under env n ∷ []) heads), tt)), tt) (st, tt))
      refl refl refl (λ i v e. stored_small W c.store x y i v lk.stored (form_within g W (term_under env n) y [] (rest_within g W (term_under env m) (term_under env n ∷ []) heads) fy) e) refl (IsWrittenAsRules.inserts t sits.0 path env m n u sits.1)

  pub deletes_here : (t : ℕ) (path : List ℕ) (env : Env) (m x : Tree) (u : Proc)
      → slice_get agents t ≡ Some (Some (running path env (act (action.delete m) u))) → IsNormalForm (equations g) (term_under env m) x → EvaluateWithin g W (term_under env m ∷ []) → Goes (line.Delete t) (stores (becomes c t (Some (under env u))) x None) [] (marks_of (deleted x ∷ []) [])
  deletes_here t path env m x u is fx heads =
      let body : Proc = act (action.delete m) u in
      let sits = seated laws g W p q hold ready small annotated drawn agents c es tr s full tables lk t path env body is in
      let at = stands_at laws g W p q hold ready small annotated drawn agents c es tr s full tables lk t path env body is in
      let sound = place_sound laws g W p q hold ready small annotated path env body at in
      let opens = opens_at laws g W p q hold ready small annotated path env body at in
      let wide = lk.envs t (running path env body) is in
      let st = state_at path env wide in
      let none : open_variables g (rules.delete_rule path (names env) m) ≡ [] = cc in
      let ans = law laws g W p q hold ready small annotated drawn agents c es tr s full tables lk Deletes laws.deletes t sits.0 path env m x u sits.2 fx in
      plain laws g W p q hold ready small annotated drawn agents c es tr s full tables lk t sits.0 path env body sits.1 (first_of path) env u wide (line.Delete t) (process.deletes t) [] (stores (becomes c t (Some (under env u))) x None) (rules.delete_rule path (names env) m) (filled env) [] _ (marks_of (deleted x ∷ []) []) ans
      (record { vars = sym none; agrees = tt })
      (rule_within g W (filled env) (rules.delete_rule path (names env) m) (st, tt) ((put env m path sound heads, tt), tt) (st, tt))
      refl refl refl (λ i v e. cleared_small W c.store x i v lk.stored e) refl (IsWrittenAsRules.deletes t sits.0 path env m u sits.1)

  pub misses_here : (t : ℕ) (path : List ℕ) (env : Env) (m x : Tree) (y : Var) (u v : Proc)
      → slice_get agents t ≡ Some (Some (running path env (whole.lookup m y u v))) → IsNormalForm (equations g) (term_under env m) x → c.store x ≡ None → EvaluateWithin g W (term_under env m ∷ []) → Goes (line.Missing t) (becomes c t (Some (under env v))) [] (marks_of (missing x ∷ []) [])
  misses_here t path env m x y u v is fx unset heads =
      let body : Proc = whole.lookup m y u v in
      let sits = seated laws g W p q hold ready small annotated drawn agents c es tr s full tables lk t path env body is in
      let at = stands_at laws g W p q hold ready small annotated drawn agents c es tr s full tables lk t path env body is in
      let sound = place_sound laws g W p q hold ready small annotated path env body at in
      let opens = opens_at laws g W p q hold ready small annotated path env body at in
      let wide = lk.envs t (running path env body) is in
      let st = state_at path env wide in
      let none : open_variables g (rules.missing_rule path (names env) m) ≡ [] = cc in
      let ans = law laws g W p q hold ready small annotated drawn agents c es tr s full tables lk Misses laws.misses t sits.0 path env m x y u v sits.2 fx unset in
      plain laws g W p q hold ready small annotated drawn agents c es tr s full tables lk t sits.0 path env body sits.1 (second_of path) env v wide (line.Missing t) (process.misses t) [] (becomes c t (Some (under env v))) (rules.missing_rule path (names env) m) (filled env) [] _ (marks_of (missing x ∷ []) []) ans
      (record { vars = sym none; agrees = tt })
      (rule_within g W (filled env) (rules.missing_rule path (names env) m) (st, tt) ((put env m path sound.0 heads, tt), tt) (st, tt))
      refl refl refl lk.stored refl (IsWrittenAsRules.misses t sits.0 path env m y u v sits.1)

  pub unlocks_here : (t : ℕ) (path : List ℕ) (env : Env) (m x : Tree) (l : ℕ) (u : Proc)
      → slice_get agents t ≡ Some (Some (running path env (act (action.unlock m l) u))) → IsNormalForm (equations g) (term_under env m) x → EvaluateWithin g W (term_under env m ∷ []) → Goes (line.Unlock t) (holding (becomes c t (Some (under env u))) x false) [] (marks_of (unlocked x ∷ []) [])
  unlocks_here t path env m x l u is fx heads =
      let body : Proc = act (action.unlock m l) u in
      let sits = seated laws g W p q hold ready small annotated drawn agents c es tr s full tables lk t path env body is in
      let at = stands_at laws g W p q hold ready small annotated drawn agents c es tr s full tables lk t path env body is in
      let sound = place_sound laws g W p q hold ready small annotated path env body at in
      let opens = opens_at laws g W p q hold ready small annotated path env body at in
      let wide = lk.envs t (running path env body) is in
      let st = state_at path env wide in
      let lock_named : EvaluateWithin g W (filled env (lock_var l) ∷ []) = subst (λ i. EvaluateWithin g W (i ∷ [])) (sym (laws.variables env (lock_var l) (contains sound.1))) (wide (lock_var l) sound.1) in
      let none : open_variables g (rules.unlock_rule path (names env) m l) ≡ [] = cc in
      let ans = law laws g W p q hold ready small annotated drawn agents c es tr s full tables lk Unlocks laws.unlocks t sits.0 path env m x l u sits.2 fx in
      plain laws g W p q hold ready small annotated drawn agents c es tr s full tables lk t sits.0 path env body sits.1 (first_of path) env u wide (line.Unlock t) (process.unlocks t) [] (holding (becomes c t (Some (under env u))) x false) (rules.unlock_rule path (names env) m l) (filled env) [] _ (marks_of (unlocked x ∷ []) []) ans
      (record { vars = sym none; agrees = tt })
      (rule_within g W (filled env) (rules.unlock_rule path (names env) m l) (st, tt) ((lock_named, (put env m path sound.0 heads, tt)), tt) (st, tt))
      refl refl refl lk.stored refl (IsWrittenAsRules.unlocks t sits.0 path env m l u sits.1)

  -- an event shows its fact
  pub shows_here : (t : ℕ) (path : List ℕ) (env : Env) (f h : Fact) (u : Proc) → slice_get agents t ≡ Some (Some (running path env (act (action.event f) u))) → IsFormOfFact (equations g) (instance_fact (chosen env) f) h
      → EvaluateWithin g W (map (term_under env) f.args) → Goes (line.Event t) (becomes c t (Some (under env u))) (h ∷ []) (marks_of [] (h ∷ []))
  shows_here t path env f h u is form heads =
      let body : Proc = act (action.event f) u in
      let sits = seated laws g W p q hold ready small annotated drawn agents c es tr s full tables lk t path env body is in
      let at = stands_at laws g W p q hold ready small annotated drawn agents c es tr s full tables lk t path env body is in
      let sound = place_sound laws g W p q hold ready small annotated path env body at in
      let opens = opens_at laws g W p q hold ready small annotated path env body at in
      let wide = lk.envs t (running path env body) is in
      let st = state_at path env wide in
      let none : open_variables g (rules.event_rule path (names env) f) ≡ [] = cc in
      let free : is_reserved h.name ≡ false = ap is_reserved form.name ∙ sound.0 in
      let ans = law laws g W p q hold ready small annotated drawn agents c es tr s full tables lk Shows laws.shows t sits.0 path env f h u sits.2 form in
      plain laws g W p q hold ready small annotated drawn agents c es tr s full tables lk t sits.0 path env body sits.1 (first_of path) env u wide (line.Event t) (process.shows t) (h ∷ []) (becomes c t (Some (under env u))) (rules.event_rule path (names env) f) (filled env) [] (event_fact ∷ h ∷ []) (marks_of [] (h ∷ [])) ans
      (record { vars = sym none; agrees = tt })
      (rule_within g W (filled env) (rules.event_rule path (names env) f) (st, tt) (tt, (all_within g W (filled env) f.args (subst (λ ts. EvaluateWithin g W ts) (sym (put_all laws env f.args sound.1)) heads), tt)) (st, tt))
      refl refl refl lk.stored (event_marks h free) (IsWrittenAsRules.shows t sits.0 path env f u sits.1)
