-- Lines that bind what a pattern, or a look-up, has fit.
use Rattle.std.proofs.Common.{◌≡◌, ℕ, ◌<◌, ◌^◌, List, [], ◌∷◌, ◌++◌, Option, Some, refl, sym, ap, ◌∙◌, subst, slice_get, append-nil, true, false, Bool}
use Rattle.std.specs.Prelude.{All, if◌then◌else◌}
use Rattle.std.proofs.lemmas.List.Elements.{All-head}
use Rattle.sap_terms.specs.AdversaryFacts.{k_fact, in_fact}
use Rattle.sap_terms.specs.Choice.{Choice, instance}
use Rattle.sap_terms.specs.Equal.{IsTheoryEqual}
use Rattle.sap_terms.specs.Equations.{equations, app2, pair_name}
use Rattle.sap_terms.specs.Message.{IsMessageChoice}
use Rattle.sap_terms.specs.Normal.{IsNormal, IsNormalForm}
use Rattle.sap_terms.specs.Signature.{Sig, HoldsBuiltins}
use Rattle.sap_terms.specs.Subterms.{SomeSubtermWithin, itself, below, here as sub_here, later as sub_later}
use Rattle.sap_terms.specs.Trace.{Trace, shown}
use Rattle.sap_terms.specs.Tree.{Tree, trees_of}
use Rattle.sap_terms.specs.Variables.{is_known, new_vars, tree_vars}
use Rattle.sap_terms.specs.View.{term, tree-term}
use Rattle.sap_terms.specs.declared.binding.Binding.{Binding}
use Rattle.sap_terms.specs.declared.var.Var.{Var}
use Rattle.sap_terms.proofs.PlainLaws.Items.{contains_got}
use Rattle.sap_rewrite.specs.Pattern.{IsPattern}
use Rattle.sap_process.specs.Action as action
use Rattle.sap_process.specs.Configuration.{Config, Runs, becomes}
use Rattle.sap_process.specs.Heads.{patterns}
use Rattle.sap_process.specs.Instance.{process_instance, without}
use Rattle.sap_process.specs.Proc as whole
use Rattle.sap_process.specs.Proc.{Proc, act, node_count}
use Rattle.sap_process.specs.ProcessSteps.{Fits, with_choice, with_term}
use Rattle.sap_process.specs.Ready.{IsReady}
use Rattle.sap_process.specs.Sites.{message_var, var_names}
use Rattle.sap_locks.specs.Annotation.{IsAnnotation}
use Rattle.sap_process.specs.Scopes.{with_new}
use Rattle.sap_restrict.specs.ReservedFacts.{input_fact, is_in_fact}
use Rattle.sap_rule.specs.RuleSteps.{RuleState}
use Rattle.sap_rule.specs.Variables.{open_variables}
use Rattle.sap_rule.specs.declared.rule.Rule.{Rule}
use Rattle.sap_runs.specs.Inner.{found}
use Rattle.sap_runs.specs.Marks.{marks_of}
use Rattle.sap_runs.specs.declared.process_step.PStep.TheVariants as line
use Rattle.sap_runs.specs.declared.rule_step.RStep.TheVariants.{Know}
use Rattle.sap_lines.specs.Answers.{MatchesExactly}
use Rattle.sap_lines.specs.Lines.{EvaluateWithin}
use Rattle.sap_lines.specs.Runs.{CanGiveEach}
use Rattle.sap_translate.specs.Members.{Member}
use Rattle.sap_templates.specs.Templates as rules
use Rattle.sap_templates.specs.Templates.{rules_of, first_of}
use Rattle.sap_translate.specs.relation.Agents.{Agent, running}
use Rattle.sap_translate.specs.relation.Answers.{term_under, under, widened}
use Rattle.sap_translate.specs.relation.Answered as case
use Rattle.sap_translate.specs.relation.Envs.{Env, names, filled, chosen, just, join, bind}
use Rattle.sap_translate.specs.relation.ProcessMoves as process
use Rattle.sap_translate.specs.relation.RuleMoves as move
use Rattle.sap_forward.specs.Answered.{IsAnswered}
use Rattle.sap_rule_lines.specs.Least.{not_drawn, numbers_below}
use Rattle.sap_forward.specs.Linked.{Linked, EnvWithin, MadeFor}
use Rattle.sap_forward.specs.Tables.{RuleTables}
use Rattle.sap_forward.specs.Written.{IsWrittenAsRules}
use Rattle.sap_forward.proofs.Evaluated.{rule_within, var_within, left, right, sides}
use Rattle.sap_forward.proofs.Lines.{given_line}
use Rattle.sap_forward.proofs.Moves.{input_by_move, input_on_by_move, found_by_move}
use Rattle.sap_forward.proofs.Fresh.{wide_just, just_within, just_is, in_front}
use Rattle.sap_forward.proofs.Premises.{Laws}
use Rattle.sap_forward.proofs.Advance.{contains, IsLimit, place_sound, opens_at, state_within, law, stands_at, seated, plain, twofold}

longer : {x v : Var} {xs vs : List Var} → Member x (v ∷ xs) → (Member x xs → Member x vs) → Member x (v ∷ vs)
longer Member.here k = Member.here
longer (Member.later h) k = Member.later (k h)

-- the first occurrences of new variables are among the variables
pub new_in : (known : List (List ℕ)) (vs : List Var) (x : Var) → Member x (new_vars known vs) → Member x vs
new_in known [] x m = elim m [ ]
new_in known (v ∷ vs) x m = by (is_known known v.name) m (λ k. new_in known vs x k) (λ k. new_in (known ++ v.name ∷ []) vs x k) where
  by : (b : Bool) → Member x (if b then new_vars known vs else v ∷ new_vars (known ++ v.name ∷ []) vs) → (Member x (new_vars known vs) → Member x vs) → (Member x (new_vars (known ++ v.name ∷ []) vs) → Member x vs) → Member x (v ∷ vs)
  by true h k l = Member.later (k h)
  by false h k l = longer h l

pub in_back : {A : Type 0} {x : A} (xs ys : List A) → Member x ys → Member x (xs ++ ys)
in_back [] ys m = m
in_back (x ∷ xs) ys m = Member.later (in_back xs ys m)

-- what is in scope behind a pattern stands for terms within the limit, where each of its variables does under the choice
pub wide_pattern : (laws : Laws) (g : Sig) (W : Tree → Type 0) (env : Env) (σ : Choice) (vs : List Var) → EnvWithin g W env → ((x : Var) → Member x vs → EvaluateWithin g W (filled (widened env σ vs) x ∷ [])) → EnvWithin g W (widened env σ vs)
wide_pattern laws g W env σ vs h k x m = elim (sides (names env) (new_vars (var_names (names env)) vs) m) [
  | left n ↦ subst (λ i. EvaluateWithin g W (i ∷ [])) (sym (laws.old env (bind σ (new_vars (var_names (names env)) vs)) x (contains n))) (h x n)
  | right n ↦ subst (λ i. EvaluateWithin g W (i ∷ [])) (laws.variables (widened env σ vs) x (contains m)) (k x (new_in (var_names (names env)) vs x n))
]

-- the normal term itself is its only normal form
pub normal_is : (laws : Laws) (g : Sig) (t n : Tree) → IsNormal (equations g) t → IsNormalForm (equations g) t n → n ≡ t
normal_is laws g t n h f = laws.one_form (equations g) t n t f (record { equal = IsTheoryEqual.same; normal = h })

-- a pair evaluates within the limit where its parts do and its normal form is
pair_within : (g : Sig) (W : Tree → Type 0) (a b n : Tree) → (IsNormalForm (equations g) (app2 pair_name a b) n → W n) → EvaluateWithin g W (a ∷ []) → EvaluateWithin g W (b ∷ []) → SomeSubtermWithin (λ u. IsNormalForm (equations g) u n) (trees_of (app2 pair_name a b ∷ [])) → W n
pair_within g W a b n top fst_ok snd_ok (sub_here (itself f)) = top f
pair_within g W a b n top fst_ok snd_ok (sub_here (below (sub_here s))) = fst_ok n (sub_here s)
pair_within g W a b n top fst_ok snd_ok (sub_here (below (sub_later (sub_here s)))) = snd_ok n (sub_here s)
pair_within g W a b n top fst_ok snd_ok (sub_here (below (sub_later (sub_later s)))) = elim s [ ]
pair_within g W a b n top fst_ok snd_ok (sub_later s) = elim s [ ]

module _ (laws : Laws) (g : Sig) (W : Tree → Type 0) (p q : Proc) (hold : HoldsBuiltins g) (ready : IsReady g p) (small : node_count p < 2 ^ 64) (annotated : IsAnnotation p q) (drawn : List ℕ) (agents : List (Option Agent)) (c : Config) (es : List Tree) (tr : Trace) (s : RuleState) (full : Trace) (tables : RuleTables) (lk : Linked g W q drawn tables agents c es tr s full) (limit : IsLimit g W) (can : CanGiveEach g c es) (exact : MatchesExactly g c es) where
  -- an entry evaluates within the limit
  entry_within : (j : ℕ) (x : Tree) → slice_get es j ≡ Some x → EvaluateWithin g W (x ∷ [])
  entry_within j x entry = let m = contains_got es x j entry in limit.parts x (can x m).normal (lk.entries x m)

  -- what fits a normal term by the theory is that term
  pub fits_is : (t : ℕ) (r : Proc) (m x : Tree) (σ : Choice) → Runs c t r → patterns r ≡ m ∷ [] → IsMessageChoice g σ → IsTheoryEqual (equations g) (instance σ m) x → IsNormal (equations g) x → instance σ m ≡ x
  fits_is t r m x σ runs is messages alike normal =
      let plain : IsPattern (equations g) m = All-head (IsPattern (equations g)) m [] (subst (λ ps. All (IsPattern (equations g)) ps) is (exact.patterns_are t r runs)) in
      (laws.modulo (equations g) σ m x (λ v. (messages v).normal) plain normal).0 alike

  pub inputs_here : (t j : ℕ) (path : List ℕ) (env : Env) (m x : Tree) (u : Proc) (σ : Choice) → slice_get agents t ≡ Some (Some (running path env (act (action.input m) u))) → Runs c t (act (action.input (term_under env m)) (under env u)) → slice_get es j ≡ Some x → Fits g σ (term_under env m) x
      → IsAnswered g W q drawn agents c tables s full (line.In t j) (becomes c t (Some (with_choice σ (tree_vars (term_under env m)) (under env u)))) es (tr ++ shown (k_fact x ∷ [])) (marks_of [] (k_fact x ∷ []))
  inputs_here t j path env m x u σ is runs entry fits =
      let body : Proc = act (action.input m) u in
      let sits = seated laws g W p q hold ready small annotated drawn agents c es tr s full tables lk t path env body is in
      let k = sits.0 in
      let at = stands_at laws g W p q hold ready small annotated drawn agents c es tr s full tables lk t path env body is in
      let sound = place_sound laws g W p q hold ready small annotated path env body at in
      let opens = opens_at laws g W p q hold ready small annotated path env body at in
      let wide = lk.envs t (running path env body) is in
      let wider : Env = widened env σ (tree_vars m) in
      let gives_x = can x (contains_got es x j entry) in
      let term_is : instance (filled wider) m ≡ x = laws.patterns g env σ (tree_vars m) m at.1 sound ∙ fits_is t (act (action.input (term_under env m)) (under env u)) (term_under env m) x σ runs refl fits.messages fits.equal gives_x.normal in
      let ev = subst (λ i. EvaluateWithin g W (i ∷ [])) (sym term_is) (entry_within j x entry) in
      let all = wide_pattern laws g W env σ (tree_vars m) wide (λ y i. var_within g W (filled wider) m y i ev) in
      let st = state_within laws g W p q hold ready small annotated wider (names env) all (λ y i. in_front (names env) (new_vars (var_names (names env)) (tree_vars m)) i) in
      let st2 = state_within laws g W p q hold ready small annotated wider (with_new (names env) (tree_vars m)) all (λ y i. i) in
      let r : Rule = rules.in_rule path (names env) m in
      let none : open_variables g r ≡ [] = cc in
      let e' : slice_get s.known j ≡ Some x = ap (λ i. slice_get i j) lk.known ∙ entry in
      let ans = law laws g W p q hold ready small annotated drawn agents c es tr s full tables lk case.Inputs laws.inputs t k path env m x u σ sits.2 gives_x fits (contains_got s.known x j e') in
      let d_is = input_by_move g c t σ (term_under env m) (under env u) (k_fact x ∷ []) (becomes c t (Some (under wider u))) ans.process runs in
      subst (λ d. IsAnswered g W q drawn agents c tables s full (line.In t j) d es (tr ++ shown (k_fact x ∷ [])) (marks_of [] (k_fact x ∷ []))) d_is
      (twofold laws g W p q hold ready small annotated drawn agents c es tr s full tables lk t k path env body sits.1 (first_of path) wider u all (line.In t j) (process.inputs t σ) (k_fact x ∷ []) (becomes c t (Some (under wider u))) (move.gives x) (Know j) (k_fact x ∷ []) (in_fact x) r (filled wider) (input_fact x ∷ []) (marks_of [] (k_fact x ∷ [])) _ tables.next ans
      refl lk.known (λ o i. elim (lk.made o i) [ MadeFor.a_process a e ↦ MadeFor.a_process a e | MadeFor.the_adversary a e ↦ MadeFor.the_adversary a e | MadeFor.a_lock_or_tag e l ↦ MadeFor.a_lock_or_tag e l ])
      (λ a z h. given_line W g (rules_of q) (laws.named q) s z a j x e' h) none (rule_within g W (filled wider) r (st, ((ev, tt), tt)) ((ev, tt), tt) (st2, tt)) refl lk.stored refl (sym (append-nil (not_drawn drawn (numbers_below tables.next))))
      (IsWrittenAsRules.inputs t k j path env m σ u sits.1))

  pub inputs_on_here : (t j : ℕ) (path : List ℕ) (env : Env) (m n x : Tree) (u : Proc) (σ : Choice) → slice_get agents t ≡ Some (Some (running path env (act (action.receive m n) u))) → Runs c t (act (action.receive (term_under env m) (term_under env n)) (under env u)) → slice_get es j ≡ Some x
      → IsMessageChoice g σ → IsTheoryEqual (equations g) (app2 pair_name (term_under env m) (instance σ (term_under env n))) x → EvaluateWithin g W (term_under env m ∷ [])
      → IsAnswered g W q drawn agents c tables s full (line.In t j) (becomes c t (Some (with_choice σ (tree_vars (term_under env n)) (under env u)))) es (tr ++ shown (k_fact x ∷ [])) (marks_of [] (k_fact x ∷ []))
  inputs_on_here t j path env m n x u σ is runs entry messages alike heads =
      let body : Proc = act (action.receive m n) u in
      let sits = seated laws g W p q hold ready small annotated drawn agents c es tr s full tables lk t path env body is in
      let k = sits.0 in
      let at = stands_at laws g W p q hold ready small annotated drawn agents c es tr s full tables lk t path env body is in
      let sound = place_sound laws g W p q hold ready small annotated path env body at in
      let opens = opens_at laws g W p q hold ready small annotated path env body at in
      let wide = lk.envs t (running path env body) is in
      let wider : Env = widened env σ (tree_vars n) in
      let gives_x = can x (contains_got es x j entry) in
      let a : Tree = term_under env m in
      let b : Tree = instance σ (term_under env n) in
      let fa = laws.each_form (equations g) a in
      let fb = laws.each_form (equations g) b in
      let fx : IsNormalForm (equations g) (app2 pair_name a b) x = record { equal = alike; normal = gives_x.normal } in
      let x_is : x ≡ app2 pair_name fa.0 fb.0 = laws.one_form (equations g) (app2 pair_name a b) x (app2 pair_name fa.0 fb.0) fx (laws.pairs g a b fa.0 fb.0 fa.1 fb.1) in
      let part : W fb.0 = (subst (λ i. EvaluateWithin g W (i ∷ [])) x_is (entry_within j x entry)) fb.0 (sub_here (below (sub_later (sub_here (itself (record { equal = IsTheoryEqual.same; normal = fb.1.normal })))))) in
      let term_is : instance (filled wider) n ≡ fb.0 = laws.patterns g env σ (tree_vars n) n at.1 sound.2 ∙ fits_is t (act (action.receive a (term_under env n)) (under env u)) (term_under env n) fb.0 σ runs refl messages fb.1.equal fb.1.normal in
      let ev_n = subst (λ i. EvaluateWithin g W (i ∷ [])) (sym term_is) (limit.parts fb.0 fb.1.normal part) in
      let channel : instance (filled wider) m ≡ a = laws.longer env (bind σ (new_vars (var_names (names env)) (tree_vars n))) m sound.0 in
      let ev_m = subst (λ i. EvaluateWithin g W (i ∷ [])) (sym channel) heads in
      let both : app2 pair_name (instance (filled wider) m) (instance (filled wider) n) ≡ app2 pair_name a b = λ i. app2 pair_name (channel i) (laws.patterns g env σ (tree_vars n) n at.1 sound.2 i) in
      let ev : EvaluateWithin g W (app2 pair_name (instance (filled wider) m) (instance (filled wider) n) ∷ []) = λ o h. pair_within g W (instance (filled wider) m) (instance (filled wider) n) o
      (λ f. subst W (laws.one_form (equations g) (app2 pair_name a b) x o fx (subst (λ i. IsNormalForm (equations g) i o) both f)) (lk.entries x (contains_got es x j entry))) ev_m ev_n h in
      let all = wide_pattern laws g W env σ (tree_vars n) wide (λ y i. var_within g W (filled wider) n y i ev_n) in
      let st = state_within laws g W p q hold ready small annotated wider (names env) all (λ y i. in_front (names env) (new_vars (var_names (names env)) (tree_vars n)) i) in
      let st2 = state_within laws g W p q hold ready small annotated wider (with_new (names env) (tree_vars n)) all (λ y i. i) in
      let r : Rule = rules.in_adv_rule path (names env) m n in
      let none : open_variables g r ≡ [] = cc in
      let e' : slice_get s.known j ≡ Some x = ap (λ i. slice_get i j) lk.known ∙ entry in
      let ans = law laws g W p q hold ready small annotated drawn agents c es tr s full tables lk case.InputsOn laws.inputs_on t k path env m n x u σ sits.2 gives_x messages alike (contains_got s.known x j e') in
      let d_is = input_on_by_move g c t σ a (term_under env n) (under env u) (k_fact x ∷ []) (becomes c t (Some (under wider u))) ans.process runs in
      subst (λ d. IsAnswered g W q drawn agents c tables s full (line.In t j) d es (tr ++ shown (k_fact x ∷ [])) (marks_of [] (k_fact x ∷ []))) d_is
      (twofold laws g W p q hold ready small annotated drawn agents c es tr s full tables lk t k path env body sits.1 (first_of path) wider u all (line.In t j) (process.inputs_on t σ) (k_fact x ∷ []) (becomes c t (Some (under wider u))) (move.gives x) (Know j) (k_fact x ∷ []) (in_fact x) r (filled wider) (input_fact x ∷ []) (marks_of [] (k_fact x ∷ [])) _ tables.next ans
      refl lk.known (λ o i. elim (lk.made o i) [ MadeFor.a_process a e ↦ MadeFor.a_process a e | MadeFor.the_adversary a e ↦ MadeFor.the_adversary a e | MadeFor.a_lock_or_tag e l ↦ MadeFor.a_lock_or_tag e l ])
      (λ o z h. given_line W g (rules_of q) (laws.named q) s z o j x e' h) none (rule_within g W (filled wider) r (st, ((ev, tt), tt)) ((ev, tt), tt) (st2, tt)) refl lk.stored refl (sym (append-nil (not_drawn drawn (numbers_below tables.next))))
      (IsWrittenAsRules.inputs_on t k j path env m n σ u sits.1))

  pub finds_here : (t : ℕ) (path : List ℕ) (env : Env) (m x v : Tree) (y : Var) (u w : Proc) → slice_get agents t ≡ Some (Some (running path env (whole.lookup m y u w))) → Runs c t (whole.lookup (term_under env m) y (process_instance (without (chosen env) y) u) (under env w)) → IsNormalForm (equations g) (term_under env m) x → c.store x ≡ Some v
      → EvaluateWithin g W (term_under env m ∷ [])
      → IsAnswered g W q drawn agents c tables s full (line.Found t) (becomes c t (Some (with_term y v (process_instance (without (chosen env) y) u)))) es (tr ++ shown []) (marks_of (found x v ∷ []) [])
  finds_here t path env m x v y u w is runs fx held heads =
      let body : Proc = whole.lookup m y u w in
      let sits = seated laws g W p q hold ready small annotated drawn agents c es tr s full tables lk t path env body is in
      let k = sits.0 in
      let at = stands_at laws g W p q hold ready small annotated drawn agents c es tr s full tables lk t path env body is in
      let sound = place_sound laws g W p q hold ready small annotated path env body at in
      let opens = opens_at laws g W p q hold ready small annotated path env body at in
      let wide = lk.envs t (running path env body) is in
      let z1 : Var = message_var y in
      let message = lk.rest.related.traces.store.values x v held in
      let value = limit.parts v message.normal (lk.stored x v held) in
      let wider : Env = join env (just z1 v) in
      let all = wide_just laws g W env z1 v sound.1 wide value in
      let st = state_within laws g W p q hold ready small annotated wider (names env) all (λ i n. in_front (names env) (z1 ∷ []) n) in
      let st2 = state_within laws g W p q hold ready small annotated wider (names env ++ z1 ∷ []) all (λ i n. n) in
      let var = just_within laws g W env z1 v sound.1 value in
      let key = subst (λ i. EvaluateWithin g W (i ∷ [])) (sym (laws.longer env (just z1 v) m sound.0)) heads in
      let r : Rule = rules.found_rule path (names env) m y in
      let only : open_variables g r ≡ z1 ∷ [] = cc in
      let b : Binding = record { var = z1; term = term v } in
      let stands : filled wider z1 ≡ v = just_is laws env z1 v sound.1 in
      let ans = law laws g W p q hold ready small annotated drawn agents c es tr s full tables lk case.Finds laws.finds t k path env m x v y u w sits.2 fx held in
      let d_is = found_by_move g c laws.one_form t (term_under env m) x v y (process_instance (without (chosen env) y) u) (under env w) [] (becomes c t (Some (under wider u))) ans.process runs fx held in
      subst (λ d. IsAnswered g W q drawn agents c tables s full (line.Found t) d es (tr ++ shown []) (marks_of (found x v ∷ []) [])) d_is
      (plain laws g W p q hold ready small annotated drawn agents c es tr s full tables lk t k path env body sits.1 (first_of path) wider u all (line.Found t) (process.finds t) [] (becomes c t (Some (under wider u))) r (filled wider) (b ∷ []) (is_in_fact x v ∷ []) (marks_of (found x v ∷ []) []) ans
      (record { vars = sym only; agrees = (stands ∙ sym (tree-term v), tt) })
      (rule_within g W (filled wider) r (st, tt) ((key, (var, tt)), tt) (st2, tt)) refl refl refl lk.stored refl (IsWrittenAsRules.finds t k path env m x v y b u w sits.1 fx held refl (tree-term v)))
