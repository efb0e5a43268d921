-- Each line of the process is answered.
use Rattle.std.proofs.Common.{◌≡◌, ℕ, ◌<◌, ◌^◌, List, [], ◌∷◌, ◌++◌, Option, Some, None, sym, subst, slice_get, true, false}
use Rattle.sap_terms.specs.AdversaryFacts.{k_fact}
use Rattle.sap_terms.specs.Choice.{Choice, instance}
use Rattle.sap_terms.specs.Equal.{IsTheoryEqual}
use Rattle.sap_terms.specs.Equations.{equations, app2, pair_name}
use Rattle.sap_terms.specs.Message.{IsMessageChoice}
use Rattle.sap_terms.specs.Modulo.{instance_facts, IsFormOfFact, AreEqualFacts, AreFormsOfFacts}
use Rattle.sap_terms.specs.Normal.{IsNormalForm}
use Rattle.sap_terms.specs.Piles.{Pile, Takes, adds}
use Rattle.sap_terms.specs.Signature.{Sig, HoldsBuiltins}
use Rattle.sap_terms.specs.Trace.{Trace, shown}
use Rattle.sap_terms.specs.Tree.{Tree, fresh}
use Rattle.sap_terms.specs.Variables.{tree_vars, facts_vars}
use Rattle.sap_terms.specs.declared.binding.Binding.{Binding}
use Rattle.sap_terms.specs.declared.fact.Fact.{Fact}
use Rattle.sap_terms.proofs.PlainLaws.Items.{contains_got}
use Rattle.sap_rewrite.specs.Match.{Agrees, bound_vars}
use Rattle.sap_process.specs.Heads.{facts_terms}
use Rattle.sap_process.specs.Action as action
use Rattle.sap_process.specs.Action.{Action}
use Rattle.sap_process.specs.Configuration as config
use Rattle.sap_process.specs.Configuration.{Config, Runs, becomes, spawns, makes, stores, holding, sends_out, IsUnused}
use Rattle.sap_process.specs.Proc as whole
use Rattle.sap_process.specs.Proc.{Proc, act, node_count}
use Rattle.sap_process.specs.ProcessSteps.{Fits, with_choice, with_term}
use Rattle.sap_process.specs.Ready.{IsReady}
use Rattle.sap_locks.specs.Annotation.{IsAnnotation}
use Rattle.sap_rule.specs.RuleSteps.{RuleState}
use Rattle.sap_runs.specs.Inner.{InnerAction, equal, different, found, missing, inserted, deleted, locked, unlocked}
use Rattle.sap_runs.specs.Marks.{marks_of}
use Rattle.sap_runs.specs.declared.process_step.PStep.{PStep}
use Rattle.sap_runs.specs.declared.process_step.PStep.TheVariants as line
use Rattle.sap_lines.specs.Answers.{MatchesExactly}
use Rattle.sap_lines.specs.Lines.{IsProcessLine, EvaluateWithin, left_open as line_open}
use Rattle.sap_lines.specs.Runs.{CanGiveEach}
use Rattle.sap_translate.specs.relation.Agents.{Agent, running}
use Rattle.sap_translate.specs.relation.Answers.{term_under, under}
use Rattle.sap_translate.specs.relation.Envs.{Env}
use Rattle.sap_forward.specs.Answered.{IsAnswered, Draws}
use Rattle.sap_rule_lines.specs.Least.{is_among}
use Rattle.sap_forward.specs.Linked.{Linked}
use Rattle.sap_forward.specs.Tables.{RuleTables}
use Rattle.sap_forward.proofs.Control.{ends_here, splits_here, copies_first_here, copies_more_here}
use Rattle.sap_forward.proofs.Embedded.{embeds_here}
use Rattle.sap_forward.proofs.Fresh.{makes_name_here, locks_here, names_here}
use Rattle.sap_forward.proofs.Inputs.{inputs_here, inputs_on_here, finds_here}
use Rattle.sap_forward.proofs.Known.{writes_here, applies_here}
use Rattle.sap_forward.proofs.Learnt.{outputs_here, outputs_on_here, knows_here}
use Rattle.sap_forward.proofs.Meets.{meets_here}
use Rattle.sap_forward.proofs.Plain.{agrees_here, differs_here, inserts_here, deletes_here, misses_here, unlocks_here, shows_here}
use Rattle.sap_forward.proofs.Premises.{Laws}
use Rattle.sap_forward.proofs.Standing.{Standing, at_place, has_started, standing}
use Rattle.sap_forward.proofs.Advance.{IsLimit}

module _ (laws : Laws) (g : Sig) (W : Tree → Type 0) (p q : Proc) (hold : HoldsBuiltins g) (ready : IsReady g p) (small : node_count p < 2 ^ 64) (annotated : IsAnnotation p q) (drawn : List ℕ) (agents : List (Option Agent)) (c : Config) (es : List Tree) (tr : Trace) (s : RuleState) (full : Trace) (tables : RuleTables) (lk : Linked g W q drawn tables agents c es tr s full) (limit : IsLimit g W) (can : CanGiveEach g c es) (exact : MatchesExactly g c es) where
  abbrev pub Goes : PStep → Config → List Tree → List Fact → List InnerAction → Type 0
  Goes step d fs label inner = IsAnswered g W q drawn agents c tables s full step d fs (tr ++ shown label) (marks_of inner label)

  -- the lines of a thread that runs this are answered
  abbrev pub ActGoal : ℕ → Action → Proc → Type 0
  ActGoal t (action.new x) u = (n : ℕ) → IsUnused c n → is_among drawn n ≡ true → Goes (line.New t n) (makes (becomes c t (Some (with_term x (fresh n) u))) n) es [] []
  ActGoal t (action.out m) u = (x : Tree) → IsNormalForm (equations g) m x → EvaluateWithin g W (m ∷ []) → Goes (line.Out t) (sends_out (becomes c t (Some u)) x) (es ++ x ∷ []) [] []
  ActGoal t (action.send m n) u =
      ((j : ℕ) (x y : Tree) → slice_get es j ≡ Some x → IsNormalForm (equations g) m x → IsNormalForm (equations g) n y → EvaluateWithin g W (m ∷ n ∷ []) → Goes (line.Send t j) (sends_out (becomes c t (Some u)) y) (es ++ y ∷ []) (k_fact x ∷ []) [])
      × ((b : ℕ) (l r : Tree) (w : Proc) (σ : Choice) → Runs c b (act (action.receive l r) w) → IsTheoryEqual (equations g) m l → Fits g σ r n → EvaluateWithin g W (m ∷ n ∷ l ∷ []) → Goes (line.Sync t b) (becomes (becomes c t (Some u)) b (Some (with_choice σ (tree_vars r) w))) es [] [])
  ActGoal t (action.input m) u = (j : ℕ) (x : Tree) (σ : Choice) → slice_get es j ≡ Some x → Fits g σ m x → Goes (line.In t j) (becomes c t (Some (with_choice σ (tree_vars m) u))) es (k_fact x ∷ []) []
  ActGoal t (action.receive m n) u = (j : ℕ) (x : Tree) (σ : Choice) → slice_get es j ≡ Some x → IsMessageChoice g σ → IsTheoryEqual (equations g) (app2 pair_name m (instance σ n)) x → EvaluateWithin g W (m ∷ []) → Goes (line.In t j) (becomes c t (Some (with_choice σ (tree_vars n) u))) es (k_fact x ∷ []) []
  ActGoal t (action.event f) u = (h : Fact) → IsFormOfFact (equations g) f h → EvaluateWithin g W f.args → Goes (line.Event t) (becomes c t (Some u)) es (h ∷ []) []
  ActGoal t (action.insert m n) u = (x y : Tree) → IsNormalForm (equations g) m x → IsNormalForm (equations g) n y → EvaluateWithin g W (m ∷ n ∷ []) → Goes (line.Insert t) (stores (becomes c t (Some u)) x (Some y)) es [] (inserted x y ∷ [])
  ActGoal t (action.delete m) u = (x : Tree) → IsNormalForm (equations g) m x → EvaluateWithin g W (m ∷ []) → Goes (line.Delete t) (stores (becomes c t (Some u)) x None) es [] (deleted x ∷ [])
  ActGoal t (action.lock m l) u = (x : Tree) → IsNormalForm (equations g) m x → c.held x ≡ false → EvaluateWithin g W (m ∷ []) → Goes (line.Lock t) (holding (becomes c t (Some u)) x true) es [] (locked x ∷ [])
  ActGoal t (action.unlock m l) u = (x : Tree) → IsNormalForm (equations g) m x → EvaluateWithin g W (m ∷ []) → Goes (line.Unlock t) (holding (becomes c t (Some u)) x false) es [] (unlocked x ∷ [])
  ActGoal t (action.embedded l e r) u =
      (ks : List ℕ) (b : List Binding) (σ : Choice) (taken acts added : List Fact) (rest : Pile) → IsMessageChoice g σ → bound_vars b ≡ line_open l e r → Agrees b σ → AreEqualFacts (equations g) (instance_facts σ l) taken → Takes c.facts ks taken rest
      → AreFormsOfFacts (equations g) (instance_facts σ e) acts → AreFormsOfFacts (equations g) (instance_facts σ r) added → EvaluateWithin g W (facts_terms (instance_facts σ (l ++ (e ++ r))))
      → Goes (line.Embedded t ks b) (config.leaves (becomes c t (Some (with_choice σ (facts_vars (l ++ (e ++ r))) u))) (adds rest added)) es acts []

  abbrev pub Goal : ℕ → Proc → Type 0
  Goal t whole.nil = Goes (line.Nil t) (becomes c t None) es [] []
  Goal t (whole.parallel u v) = Goes (line.Par t) (spawns (becomes c t (Some u)) v) es [] []
  Goal t (whole.replicated u) = Goes (line.Rep t) (spawns c u) es [] []
  Goal t (act a u) = ActGoal t a u
  Goal t (whole.test m n u v) =
      ((x y : Tree) → IsNormalForm (equations g) m x → IsNormalForm (equations g) n y → x ≡ y → EvaluateWithin g W (m ∷ n ∷ []) → Goes (line.Then t) (becomes c t (Some u)) es [] (equal x y ∷ []))
      × ((x y : Tree) → IsNormalForm (equations g) m x → IsNormalForm (equations g) n y → ¬ (x ≡ y) → EvaluateWithin g W (m ∷ n ∷ []) → Goes (line.Else t) (becomes c t (Some v)) es [] (different x y ∷ []))
  Goal t (whole.lookup m y u v) =
      ((x w : Tree) → IsNormalForm (equations g) m x → c.store x ≡ Some w → EvaluateWithin g W (m ∷ []) → Goes (line.Found t) (becomes c t (Some (with_term y w u))) es [] (found x w ∷ []))
      × ((x : Tree) → IsNormalForm (equations g) m x → c.store x ≡ None → EvaluateWithin g W (m ∷ []) → Goes (line.Missing t) (becomes c t (Some v)) es [] (missing x ∷ []))

  -- what a sender meets
  abbrev pub Met : (a : ℕ) (m n : Tree) (u : Proc) (b : ℕ) → Proc → Type 0
  Met a m n u b (act (action.receive l r) w) = (σ : Choice) → IsTheoryEqual (equations g) m l → Fits g σ r n → EvaluateWithin g W (m ∷ n ∷ l ∷ []) → Goes (line.Sync a b) (becomes (becomes c a (Some u)) b (Some (with_choice σ (tree_vars r) w))) es [] []
  Met a m n u b other = Unit {0}

  met_here : (a b : ℕ) (path at : List ℕ) (env other : Env) (m n : Tree) (u body : Proc) → slice_get agents a ≡ Some (Some (running path env (act (action.send m n) u))) → slice_get agents b ≡ Some (Some (running at other body))
      → Runs c a (act (action.send (term_under env m) (term_under env n)) (under env u)) → Runs c b (under other body) → Met a (term_under env m) (term_under env n) (under env u) b (under other body)
  met_here a b path at env other m n u (act (action.receive l r) w) ia ib ra rb = λ σ alike fits heads. meets_here laws g W p q hold ready small annotated drawn agents c es tr s full tables lk limit can exact a b path at env other m n l r u w σ ia ib ra rb alike fits heads
  met_here a b path at env other m n u whole.nil ia ib ra rb = tt
  met_here a b path at env other m n u (whole.parallel v w) ia ib ra rb = tt
  met_here a b path at env other m n u (whole.replicated v) ia ib ra rb = tt
  met_here a b path at env other m n u (whole.test x y v w) ia ib ra rb = tt
  met_here a b path at env other m n u (whole.lookup x y v w) ia ib ra rb = tt
  met_here a b path at env other m n u (act (action.new x) w) ia ib ra rb = tt
  met_here a b path at env other m n u (act (action.out x) w) ia ib ra rb = tt
  met_here a b path at env other m n u (act (action.send x y) w) ia ib ra rb = tt
  met_here a b path at env other m n u (act (action.input x) w) ia ib ra rb = tt
  met_here a b path at env other m n u (act (action.event f) w) ia ib ra rb = tt
  met_here a b path at env other m n u (act (action.insert x y) w) ia ib ra rb = tt
  met_here a b path at env other m n u (act (action.delete x) w) ia ib ra rb = tt
  met_here a b path at env other m n u (act (action.lock x l) w) ia ib ra rb = tt
  met_here a b path at env other m n u (act (action.unlock x l) w) ia ib ra rb = tt
  met_here a b path at env other m n u (act (action.embedded l e r) w) ia ib ra rb = tt

  met_at : (a b : ℕ) (path : List ℕ) (env : Env) (m n : Tree) (u z : Proc) → slice_get agents a ≡ Some (Some (running path env (act (action.send m n) u))) → Runs c a (act (action.send (term_under env m) (term_under env n)) (under env u)) → Runs c b z → Standing agents b z → Met a (term_under env m) (term_under env n) (under env u) b z
  met_at a b path env m n u z ia ra rb (at_place at other body ib same) = subst (Met a (term_under env m) (term_under env n) (under env u) b) same (met_here a b path at env other m n u body ia ib ra (subst (λ x. Runs c b x) (sym same) rb))
  met_at a b path env m n u z ia ra rb (has_started at other body ib same) = subst (Met a (term_under env m) (term_under env n) (under env u) b) same tt

  goal_here : (t : ℕ) (path : List ℕ) (env : Env) (body : Proc) → slice_get agents t ≡ Some (Some (running path env body)) → Runs c t (under env body) → Goal t (under env body)
  goal_here t path env whole.nil is e = ends_here laws g W p q hold ready small annotated drawn agents c es tr s full tables lk t path env is
  goal_here t path env (whole.parallel u v) is e = splits_here laws g W p q hold ready small annotated drawn agents c es tr s full tables lk t path env u v is
  goal_here t path env (whole.replicated u) is e = copies_first_here laws g W p q hold ready small annotated drawn agents c es tr s full tables lk t path env u is
  goal_here t path env (whole.test m n u v) is e = (λ x y fx fy same heads. agrees_here laws g W p q hold ready small annotated drawn agents c es tr s full tables lk t path env m n x y u v is fx fy same heads, λ x y fx fy differ heads. differs_here laws g W p q hold ready small annotated drawn agents c es tr s full tables lk t path env m n x y u v is fx fy differ heads)
  goal_here t path env (whole.lookup m y u v) is e = (λ x w fx held heads. finds_here laws g W p q hold ready small annotated drawn agents c es tr s full tables lk limit can exact t path env m x w y u v is e fx held heads, λ x fx unset heads. misses_here laws g W p q hold ready small annotated drawn agents c es tr s full tables lk t path env m x y u v is fx unset heads)
  goal_here t path env (act (action.new x) u) is e = λ n unused known. makes_name_here laws g W p q hold ready small annotated drawn agents c es tr s full tables lk limit t n path env x u is e unused known
  goal_here t path env (act (action.out m) u) is e = λ x fx heads. outputs_here laws g W p q hold ready small annotated drawn agents c es tr s full tables lk t path env m x u is fx heads
  goal_here t path env (act (action.send m n) u) is e = (
    λ j x y entry fx fy heads. outputs_on_here laws g W p q hold ready small annotated drawn agents c es tr s full tables lk t j path env m n x y u is entry (can x (contains_got es x j entry)) fx fy heads,
    λ b l r w σ runs alike fits heads. met_at t b path env m n u (act (action.receive l r) w) is e runs (standing g q agents c tr s full b (act (action.receive l r) w) lk.rest runs) σ alike fits heads,
  )
  goal_here t path env (act (action.input m) u) is e = λ j x σ entry fits. inputs_here laws g W p q hold ready small annotated drawn agents c es tr s full tables lk limit can exact t j path env m x u σ is e entry fits
  goal_here t path env (act (action.receive m n) u) is e = λ j x σ entry messages alike heads. inputs_on_here laws g W p q hold ready small annotated drawn agents c es tr s full tables lk limit can exact t j path env m n x u σ is e entry messages alike heads
  goal_here t path env (act (action.event f) u) is e = λ h form heads. shows_here laws g W p q hold ready small annotated drawn agents c es tr s full tables lk t path env f h u is form heads
  goal_here t path env (act (action.insert m n) u) is e = λ x y fx fy heads. inserts_here laws g W p q hold ready small annotated drawn agents c es tr s full tables lk t path env m n x y u is fx fy heads
  goal_here t path env (act (action.delete m) u) is e = λ x fx heads. deletes_here laws g W p q hold ready small annotated drawn agents c es tr s full tables lk t path env m x u is fx heads
  goal_here t path env (act (action.lock m l) u) is e = λ x fx unheld heads. locks_here laws g W p q hold ready small annotated drawn agents c es tr s full tables lk limit t path env m x l u is fx unheld heads
  goal_here t path env (act (action.unlock m l) u) is e = λ x fx heads. unlocks_here laws g W p q hold ready small annotated drawn agents c es tr s full tables lk t path env m x l u is fx heads
  goal_here t path env (act (action.embedded l a r) u) is e = λ ks b σ taken acts added rest messages vars agrees alike takes shows adds_ heads. embeds_here laws g W p q hold ready small annotated drawn agents c es tr s full tables lk t path env l a r u ks b σ taken acts added rest is e messages vars agrees alike takes shows adds_ heads

  goal : (t : ℕ) (b : Proc) → Runs c t b → Standing agents t b → Goal t b
  goal t b e (at_place path env body is same) = subst (Goal t) same (goal_here t path env body is (subst (λ x. Runs c t x) (sym same) e))
  goal t b e (has_started path env body is same) = subst (Goal t) same (copies_more_here laws g W p q hold ready small annotated drawn agents c es tr s full tables lk t path env body is)

  goal_of : (t : ℕ) (b : Proc) → Runs c t b → Goal t b
  goal_of t b e = goal t b e (standing g q agents c tr s full t b lk.rest e)

  pub answer : (step : PStep) (inner : List InnerAction) (label : List Fact) (d : Config) (fs : List Tree) → Draws drawn step → IsProcessLine g W c es step inner label d fs → Goes step d fs label inner
  answer step inner label d fs h (IsProcessLine.ends t e) = goal_of t whole.nil e
  answer step inner label d fs h (IsProcessLine.splits {p = u} {q = v} t e) = goal_of t (whole.parallel u v) e
  answer step inner label d fs h (IsProcessLine.copies {p = u} t e) = goal_of t (whole.replicated u) e
  answer step inner label d fs h (IsProcessLine.makes_name {x = x} {p = u} t n e unused) = goal_of t (act (action.new x) u) e n unused h
  answer step inner label d fs h (IsProcessLine.outputs {m = m} {n = x} {p = u} t e f w) = goal_of t (act (action.out m) u) e x f w
  answer step inner label d fs h (IsProcessLine.outputs_on {m = m} {n = n} {x = x} {u = y} {p = u} t j e entry fx fy w) = (goal_of t (act (action.send m n) u) e).0 j x y entry fx fy w
  answer step inner label d fs h (IsProcessLine.inputs {n = m} {x = x} {p = u} t j σ e entry fits) = goal_of t (act (action.input m) u) e j x σ entry fits
  answer step inner label d fs h (IsProcessLine.inputs_on {m = m} {n = n} {x = x} {p = u} t j σ e entry messages alike w) = goal_of t (act (action.receive m n) u) e j x σ entry messages alike w
  answer step inner label d fs h (IsProcessLine.meets {m = m} {n = n} {l = l} {r = r} {p = u} {q = v} a b σ e f alike fits w) = (goal_of a (act (action.send m n) u) e).1 b l r v σ f alike fits w
  answer step inner label d fs h (IsProcessLine.agrees {m = m} {n = n} {x = x} {y = y} {p = u} {q = v} t e fx fy same w) = (goal_of t (whole.test m n u v) e).0 x y fx fy same w
  answer step inner label d fs h (IsProcessLine.differs {m = m} {n = n} {x = x} {y = y} {p = u} {q = v} t e fx fy differ w) = (goal_of t (whole.test m n u v) e).1 x y fx fy differ w
  answer step inner label d fs h (IsProcessLine.shows {f = f} {h = k} {p = u} t e form w) = goal_of t (act (action.event f) u) e k form w
  answer step inner label d fs h (IsProcessLine.inserts {m = m} {n = n} {k = x} {v = y} {p = u} t e fx fy w) = goal_of t (act (action.insert m n) u) e x y fx fy w
  answer step inner label d fs h (IsProcessLine.deletes {m = m} {k = x} {p = u} t e fx w) = goal_of t (act (action.delete m) u) e x fx w
  answer step inner label d fs h (IsProcessLine.finds {m = m} {k = x} {v = y} {x = v} {p = u} {q = w0} t e fx held w) = (goal_of t (whole.lookup m v u w0) e).0 x y fx held w
  answer step inner label d fs h (IsProcessLine.misses {m = m} {k = x} {x = v} {p = u} {q = w0} t e fx unset w) = (goal_of t (whole.lookup m v u w0) e).1 x fx unset w
  answer step inner label d fs h (IsProcessLine.locks {m = m} {k = x} {i = l} {p = u} t e fx unheld w) = goal_of t (act (action.lock m l) u) e x fx unheld w
  answer step inner label d fs h (IsProcessLine.unlocks {m = m} {k = x} {i = l} {p = u} t e fx w) = goal_of t (act (action.unlock m l) u) e x fx w
  answer step inner label d fs h (IsProcessLine.embeds {l = l} {e = a} {r = r} {rest = rest} {p = u} t ks b σ taken acts added e messages vars agrees alike takes shows adds_ w) = goal_of t (act (action.embedded l a r) u) e ks b σ taken acts added rest messages vars agrees alike takes shows adds_ w
  answer step inner label d fs h (IsProcessLine.names n unused) = names_here laws g W p q hold ready small annotated drawn agents c es tr s full tables lk limit n unused h
  answer step inner label d fs h (IsProcessLine.writes a) = writes_here laws g W p q hold ready small annotated drawn agents c es tr s full tables lk limit a
  answer step inner label d fs h (IsProcessLine.applies f ks ts x is_public arity entries form w) = applies_here laws g W p q hold ready small annotated drawn agents c es tr s full tables lk limit f ks ts x is_public arity entries form w
  answer step inner label d fs h (IsProcessLine.knows j x entry) = knows_here laws g W p q hold ready small annotated drawn agents c es tr s full tables lk j x entry (can x (contains_got es x j entry))
