-- A test that the names in a process and in its lines pass, the names in all that a run leads to pass.
use Rattle.std.proofs.Common.{◌≡◌, ℕ, zero, suc, Bool, true, false, List, [], ◌∷◌, ◌++◌, Option, Some, None, cond, map, slice_get, slice_set, refl, sym, subst, inl, inr, arith}
use Rattle.std.specs.Prelude.{All, Contains}
use Rattle.std.specs.List.{AllZip}
use Rattle.std.specs.Option.{option_map_or}
use Rattle.std.specs.Str.{bytes_eq}
use Rattle.std.proofs.lemmas.List.Elements.{All-head, All-tail, All-contains, Contains-append_left, Contains-append_right, Contains-append_cases, Contains-push_cases}
use Rattle.sap_terms.specs.Choice.{Choice, instance, instances}
use Rattle.sap_terms.specs.Equal.{IsTheoryEqual}
use Rattle.sap_terms.specs.Equations.{equations, IsInstance, app2, pair_name}
use Rattle.sap_terms.specs.Message.{IsMessageChoice}
use Rattle.sap_terms.specs.Modulo.{instance_facts, AreEqualFacts, AreFormsOfFacts}
use Rattle.sap_terms.specs.Normal.{IsNormal, AreNormal, IsNormalForm}
use Rattle.sap_terms.specs.Piles.{Pile, Takes, nothing, one, used, adds}
use Rattle.sap_terms.specs.Same.{same_tree}
use Rattle.sap_terms.specs.Signature.{Sig}
use Rattle.sap_terms.specs.Trace.{Trace}
use Rattle.sap_terms.specs.Tree.{Tree, variable, public, fresh, apply, Trees, trees_of, list_of, trees_of-list_of}
use Rattle.sap_terms.specs.Tree as tree
use Rattle.sap_terms.specs.Variables.{tree_vars, trees_vars, facts_vars}
use Rattle.sap_terms.specs.declared.binding.Binding.{Binding}
use Rattle.sap_terms.specs.declared.fact.Fact.{Fact}
use Rattle.sap_terms.specs.declared.var.Var.{Var}
use Rattle.sap_terms.proofs.PlainLaws.Items.{first_item, item_cases, cons_cases, contains_got}
use Rattle.sap_rewrite.specs.Laws.{SymbolsReduceOnce}
use Rattle.sap_rewrite.specs.Match.{Agrees, bound_vars}
use Rattle.sap_rewrite.specs.Pattern.{IsPattern}
use Rattle.sap_process.specs.Action as action
use Rattle.sap_process.specs.Action.{Action}
use Rattle.sap_process.specs.Configuration.{Config, Runs, initial, stored}
use Rattle.sap_process.specs.Flaws.{binder_of}
use Rattle.sap_process.specs.Instance.{process_instance, action_instance, behind, without}
use Rattle.sap_process.specs.Proc as whole
use Rattle.sap_process.specs.Proc.{Proc, act}
use Rattle.sap_process.specs.ProcessSteps.{chosen, with_choice, with_term}
use Rattle.sap_runs.specs.Inner.{InnerAction}
use Rattle.sap_runs.specs.Limits.{HasFewNodes}
use Rattle.sap_runs.specs.Marks.{Mark}
use Rattle.sap_runs.specs.declared.process_step.PStep.{PStep}
use Rattle.sap_lines.specs.Answers.{MatchesExactly, RunsMatchExactly}
use Rattle.sap_lines.specs.Lines.{IsProcessLine, left_open}
use Rattle.sap_lines.specs.NamesPass.{NamesPass, AllNamesPass, FactsPass, ActionPasses, ProcessPasses, BindingsPass, LinePasses, LinesPass, NamesStandInRuns}
use Rattle.sap_lines.specs.Runs.{IsLegalProcessRun, SmallProcessRunsAreLegal}
use Rattle.sap_lines.proofs.Agreeing.{binder_among}
use Rattle.sap_lines.proofs.Fits.{pair_parts, facts_all, taken_all}
use Rattle.sap_lines.proofs.Opened.{covered, facts_vars-append}
use Rattle.sap_lines.proofs.Premises.{Laws}

-- lists of what may be gone

abbrev Every : {A : Type 0} → (A → Type 0) → List (Option A) → Type 0
Every {A} P xs = (t : ℕ) (a : A) → slice_get xs t ≡ Some (Some a) → P a

every_set : {A : Type 0} (P : A → Type 0) (xs : List (Option A)) (t : ℕ) (o : Option A) → Every P xs → ((a : A) → o ≡ Some a → P a) → Every P (slice_set xs t o)
every_set P [] t o all h k a e = cc
every_set P (x ∷ xs) zero o all h zero a e = h a (cc)
every_set P (x ∷ xs) zero o all h (suc k) a e = all (suc k) a e
every_set P (x ∷ xs) (suc t) o all h zero a e = all zero a e
every_set P (x ∷ xs) (suc t) o all h (suc k) a e = every_set P xs t o (λ j b g. all (suc j) b g) h k a e

every_push : {A : Type 0} (P : A → Type 0) (xs : List (Option A)) (y : A) → Every P xs → P y → Every P (xs ++ Some y ∷ [])
every_push P [] y all h zero a e = let same : y ≡ a = cc in subst P same h
every_push P [] y all h (suc k) a e = cc
every_push P (x ∷ xs) y all h zero a e = all zero a e
every_push P (x ∷ xs) y all h (suc k) a e = every_push P xs y (λ j b g. all (suc j) b g) h k a e

module _ (test : Tree → Bool) where
  -- a choice whose terms pass
  abbrev ChoicePasses : Choice → Type 0
  ChoicePasses σ = (v : Var) → NamesPass test (σ v)

  -- what stands for these variables passes
  abbrev VarsPass : Choice → List Var → Type 0
  VarsPass σ vs = (v : Var) → Contains vs v → NamesPass test (σ v)

  vars_left : (σ : Choice) (vs ws : List Var) → VarsPass σ (vs ++ ws) → VarsPass σ vs
  vars_left σ vs ws h v m = h v (Contains-append_left vs ws v m)

  vars_right : (σ : Choice) (vs ws : List Var) → VarsPass σ (vs ++ ws) → VarsPass σ ws
  vars_right σ vs ws h v m = h v (Contains-append_right vs ws v m)

  mutual
    put_passes : (σ : Choice) (t : Tree) → VarsPass σ (tree_vars t) → NamesPass test t → NamesPass test (instance σ t)
    put_passes σ (variable v) h p = h v (first_item v [])
    put_passes σ (public a) h p = p
    put_passes σ (fresh n) h p = p
    put_passes σ (apply f ts) h p = puts_pass σ ts h p

    puts_pass : (σ : Choice) (ts : Trees) → VarsPass σ (trees_vars ts) → AllNamesPass test ts → AllNamesPass test (instances σ ts)
    puts_pass σ tree.none h p = tt
    puts_pass σ (tree.more t ts) h p = (put_passes σ t (vars_left σ (tree_vars t) (trees_vars ts) h) p.0, puts_pass σ ts (vars_right σ (tree_vars t) (trees_vars ts) h) p.1)

  put_args : (σ : Choice) (ts : List Tree) → VarsPass σ (trees_vars (trees_of ts)) → AllNamesPass test (trees_of ts) → AllNamesPass test (trees_of (map (instance σ) ts))
  put_args σ [] h p = tt
  put_args σ (t ∷ ts) h p = (put_passes σ t (vars_left σ (tree_vars t) (trees_vars (trees_of ts)) h) p.0, put_args σ ts (vars_right σ (tree_vars t) (trees_vars (trees_of ts)) h) p.1)

  put_facts : (σ : Choice) (fs : List Fact) → VarsPass σ (facts_vars fs) → FactsPass test fs → FactsPass test (instance_facts σ fs)
  put_facts σ [] h p = tt
  put_facts σ (f ∷ fs) h p = (put_args σ f.args (vars_left σ (trees_vars (trees_of f.args)) (facts_vars fs) h) p.0, put_facts σ fs (vars_right σ (trees_vars (trees_of f.args)) (facts_vars fs) h) p.1)

  vars_of : (σ : Choice) (vs : List Var) → ChoicePasses σ → VarsPass σ vs
  vars_of σ vs h v m = h v

  tree_passes : (σ : Choice) (t : Tree) → ChoicePasses σ → NamesPass test t → NamesPass test (instance σ t)
  tree_passes σ t h p = put_passes σ t (vars_of σ (tree_vars t) h) p

  args_pass : (σ : Choice) (ts : List Tree) → ChoicePasses σ → AllNamesPass test (trees_of ts) → AllNamesPass test (trees_of (map (instance σ) ts))
  args_pass σ ts h p = put_args σ ts (vars_of σ (trees_vars (trees_of ts)) h) p

  facts_pass : (σ : Choice) (fs : List Fact) → ChoicePasses σ → FactsPass test fs → FactsPass test (instance_facts σ fs)
  facts_pass σ fs h p = put_facts σ fs (vars_of σ (facts_vars fs) h) p

  action_passes : (σ : Choice) (a : Action) → ChoicePasses σ → ActionPasses test a → ActionPasses test (action_instance σ a)
  action_passes σ (action.new x) h p = tt
  action_passes σ (action.out t) h p = tree_passes σ t h p
  action_passes σ (action.send t u) h p = (tree_passes σ t h p.0, tree_passes σ u h p.1)
  action_passes σ (action.input t) h p = tree_passes σ t h p
  action_passes σ (action.receive t u) h p = (tree_passes σ t h p.0, tree_passes σ u h p.1)
  action_passes σ (action.event f) h p = args_pass σ f.args h p
  action_passes σ (action.insert t u) h p = (tree_passes σ t h p.0, tree_passes σ u h p.1)
  action_passes σ (action.delete t) h p = tree_passes σ t h p
  action_passes σ (action.lock t i) h p = tree_passes σ t h p
  action_passes σ (action.unlock t i) h p = tree_passes σ t h p
  action_passes σ (action.embedded l e r) h p = (facts_pass σ l h p.0, facts_pass σ e h p.1, facts_pass σ r h p.2)

  without_passes : (σ : Choice) (x : Var) → ChoicePasses σ → ChoicePasses (without σ x)
  without_passes σ x h v = at (bytes_eq x.name v.name)
    where
      at : (b : Bool) → NamesPass test (cond b (variable v) (σ v))
      at true = tt
      at false = h v

  behind_passes : (σ : Choice) (a : Action) → ChoicePasses σ → ChoicePasses (behind σ a)
  behind_passes σ (action.new x) h = without_passes σ x h
  behind_passes σ (action.out t) h = h
  behind_passes σ (action.send t u) h = h
  behind_passes σ (action.input t) h = h
  behind_passes σ (action.receive t u) h = h
  behind_passes σ (action.event f) h = h
  behind_passes σ (action.insert t u) h = h
  behind_passes σ (action.delete t) h = h
  behind_passes σ (action.lock t i) h = h
  behind_passes σ (action.unlock t i) h = h
  behind_passes σ (action.embedded l e r) h = h

  process_passes : (p : Proc) (σ : Choice) → ChoicePasses σ → ProcessPasses test p → ProcessPasses test (process_instance σ p)
  process_passes whole.nil σ h k = tt
  process_passes (whole.parallel p q) σ h k = (process_passes p σ h k.0, process_passes q σ h k.1)
  process_passes (whole.replicated p) σ h k = process_passes p σ h k
  process_passes (act a p) σ h k = (action_passes σ a h k.0, process_passes p (behind σ a) (behind_passes σ a h) k.1)
  process_passes (whole.test t u p q) σ h k = (tree_passes σ t h k.0, tree_passes σ u h k.1, process_passes p σ h k.2, process_passes q σ h k.3)
  process_passes (whole.lookup t x p q) σ h k = (tree_passes σ t h k.0, process_passes p (without σ x) (without_passes σ x h) k.1, process_passes q σ h k.2)

  chosen_passes : (σ : Choice) (vs : List Var) → VarsPass σ vs → ChoicePasses (chosen σ vs)
  chosen_passes σ vs h v = at (binder_of vs v.name) refl
    where
      at : (o : Option Var) → binder_of vs v.name ≡ o → NamesPass test (option_map_or σ o (variable v))
      at None e = tt
      at (Some w) e = h w (binder_among vs v.name w e)

  with_passes : (σ : Choice) (vs : List Var) (p : Proc) → VarsPass σ vs → ProcessPasses test p → ProcessPasses test (with_choice σ vs p)
  with_passes σ vs p h k = process_passes p (chosen σ vs) (chosen_passes σ vs h) k

  term_passes : (x : Var) (t : Tree) (p : Proc) → NamesPass test t → ProcessPasses test p → ProcessPasses test (with_term x t p)
  term_passes x t p h k = with_passes (λ v. t) (x ∷ []) p (λ v m. h) k

  -- where an instance passes, so does what stands for each of its variables
  mutual
    vars_pass : (σ : Choice) (t : Tree) → NamesPass test (instance σ t) → VarsPass σ (tree_vars t)
    vars_pass σ (variable x) h v m = subst (λ (u : Var). NamesPass test (σ u)) (item_cases x v m) h
    vars_pass σ (public a) h v m = absurd (omega (arith, m.1))
    vars_pass σ (fresh n) h v m = absurd (omega (arith, m.1))
    vars_pass σ (apply f ts) h v m = all_vars_pass σ ts h v m

    all_vars_pass : (σ : Choice) (ts : Trees) → AllNamesPass test (instances σ ts) → VarsPass σ (trees_vars ts)
    all_vars_pass σ tree.none h v m = absurd (omega (arith, m.1))
    all_vars_pass σ (tree.more t ts) h v m = elim (Contains-append_cases (tree_vars t) (trees_vars ts) v m) [
      | inl k ↦ vars_pass σ t h.0 v k
      | inr k ↦ all_vars_pass σ ts h.1 v k
    ]

  -- the variables of the right side are variables of the rule
  rule_var_right : (l e r : List Fact) (v : Var) → Contains (facts_vars r) v → Contains (facts_vars (l ++ (e ++ r))) v
  rule_var_right l e r v m =
      subst (λ (vs : List Var). Contains vs v) (sym (facts_vars-append l (e ++ r)))
      (Contains-append_right (facts_vars l) (facts_vars (e ++ r)) v
      (subst (λ (vs : List Var). Contains vs v) (sym (facts_vars-append e r)) (Contains-append_right (facts_vars e) (facts_vars r) v m)))

  bound_pass : (b : List Binding) (σ : Choice) → Agrees b σ → BindingsPass test b → VarsPass σ (bound_vars b)
  bound_pass [] σ a h v m = absurd (omega (arith, m.1))
  bound_pass (x ∷ xs) σ a h v m = elim (cons_cases x.var (bound_vars xs) v m) [
    | inl is ↦ subst (λ (u : Var). NamesPass test (σ u)) is (subst (NamesPass test) (sym a.0) h.0)
    | inr later ↦ bound_pass xs σ a.1 h.1 v later
  ]

  -- what an equation leaves of a term brings no name
  right_passes : (g : Sig) {t r : Tree} → IsInstance (equations g) t r → NamesPass test t → NamesPass test r
  right_passes g IsInstance.first h = h.0.0
  right_passes g IsInstance.second h = h.0.1.0
  right_passes g (IsInstance.symmetric s) h = h.0.0
  right_passes g (IsInstance.asymmetric s) h = h.0.0
  right_passes g (IsInstance.signing s) h = tt
  right_passes g (IsInstance.revealing s) h = tt
  right_passes g (IsInstance.revealed s) h = h.0.0

  module _ (laws : Laws) (symbols : SymbolsReduceOnce) (g : Sig) where
    -- a normal form whose names pass
    record Form (t : Tree) : Type 0 where
      form : Tree
      is : IsNormalForm (equations g) t form
      passes : NamesPass test form

    record Forms (ts : Trees) : Type 0 where
      forms : List Tree
      equal : AllZip (IsTheoryEqual (equations g)) (list_of ts) forms
      normal : AreNormal (equations g) (trees_of forms)
      passes : AllNamesPass test (trees_of forms)

    own : (t : Tree) → IsNormal (equations g) t → NamesPass test t → Form t
    own t n h = record { form = t; is = record { equal = IsTheoryEqual.same; normal = n }; passes = h }

    symbol_form : (f : List ℕ) (ts ns : Trees) → IsTheoryEqual (equations g) (apply f ts) (apply f ns) → AreNormal (equations g) ns → AllNamesPass test ns → Form (apply f ts)
    symbol_form f ts ns equal normal passes = elim (symbols.side (equations g) f ns) [
      | inl k ↦
          let is = symbols.right_side_is_form (equations g) f ns k.0 normal k.1 in
          record { form = k.0; is = record { equal = laws.kept.onwards (equations g) (apply f ts) (apply f ns) k.0 equal is.equal; normal = is.normal }; passes = right_passes g k.1 passes }
      | inr none ↦
          let is = symbols.own_form (equations g) f ns normal none in
          record { form = apply f ns; is = record { equal = equal; normal = is.normal }; passes = passes }
    ]

    mutual
      passing_form : (t : Tree) → NamesPass test t → Form t
      passing_form (variable v) h = own (variable v) (laws.leaves.of_variable (equations g) v) h
      passing_form (public a) h = own (public a) (laws.leaves.of_public_name (equations g) a) h
      passing_form (fresh n) h = own (fresh n) (laws.leaves.of_fresh_name (equations g) n) h
      passing_form (apply f ts) h =
          let parts = passing_forms ts h in
          let equal : IsTheoryEqual (equations g) (apply f ts) (apply f (trees_of parts.forms)) =
          subst (λ (us : Trees). IsTheoryEqual (equations g) (apply f us) (apply f (trees_of parts.forms))) (trees_of-list_of ts)
          (laws.kept.under_symbols (equations g) f (list_of ts) parts.forms parts.equal)
          in
          symbol_form f ts (trees_of parts.forms) equal parts.normal parts.passes

      passing_forms : (ts : Trees) → AllNamesPass test ts → Forms ts
      passing_forms tree.none h = record { forms = []; equal = tt; normal = tt; passes = tt }
      passing_forms (tree.more t ts) h =
          let first = passing_form t h.0 in
          let later = passing_forms ts h.1 in
          record { forms = first.form ∷ later.forms; equal = (first.is.equal, later.equal); normal = (first.is.normal, later.normal); passes = (first.passes, later.passes) }

    form_passes : (t n : Tree) → NamesPass test t → IsNormalForm (equations g) t n → NamesPass test n
    form_passes t n h is =
        let found = passing_form t h in
        subst (NamesPass test) (laws.one_form (equations g) t found.form n found.is is) found.passes

    args_forms : (ts ns : List Tree) → AllNamesPass test (trees_of ts) → AllZip (IsNormalForm (equations g)) ts ns → AllNamesPass test (trees_of ns)
    args_forms [] [] h a = tt
    args_forms [] (n ∷ ns) h a = absurd a
    args_forms (t ∷ ts) [] h a = absurd a
    args_forms (t ∷ ts) (n ∷ ns) h a = (form_passes t n h.0 a.0, args_forms ts ns h.1 a.1)

    facts_forms : (fs hs : List Fact) → FactsPass test fs → AreFormsOfFacts (equations g) fs hs → FactsPass test hs
    facts_forms [] [] h a = tt
    facts_forms [] (k ∷ hs) h a = absurd a
    facts_forms (f ∷ fs) [] h a = absurd a
    facts_forms (f ∷ fs) (k ∷ hs) h a = (args_forms f.args k.args h.0 a.0.args, facts_forms fs hs h.1 a.1)

    -- where a pattern fits a normal term that passes, what stands for its variables passes
    fit_passes : (σ : Choice) (p t : Tree) → ((v : Var) → IsNormal (equations g) (σ v)) → IsPattern (equations g) p → IsNormal (equations g) t → IsTheoryEqual (equations g) (instance σ p) t → NamesPass test t → VarsPass σ (tree_vars p)
    fit_passes σ p t normal pattern n equal h = vars_pass σ p (subst (NamesPass test) (sym ((laws.modulo (equations g) σ p t normal pattern n).0 equal)) h)

    args_fit : (σ : Choice) (ps ts : List Tree) → ((v : Var) → IsNormal (equations g) (σ v)) → All (IsPattern (equations g)) ps → All (IsNormal (equations g)) ts → AllZip (IsTheoryEqual (equations g)) (map (instance σ) ps) ts → AllNamesPass test (trees_of ts) → VarsPass σ (trees_vars (trees_of ps))
    args_fit σ [] ts normal h n a k v m = absurd (omega (arith, m.1))
    args_fit σ (p ∷ ps) [] normal h n a k v m = absurd a
    args_fit σ (p ∷ ps) (t ∷ ts) normal h n a k v m = elim (Contains-append_cases (tree_vars p) (trees_vars (trees_of ps)) v m) [
      | inl i ↦ fit_passes σ p t normal (All-head (IsPattern (equations g)) p ps h) (All-head (IsNormal (equations g)) t ts n) a.0 k.0 v i
      | inr i ↦ args_fit σ ps ts normal (All-tail (IsPattern (equations g)) p ps h) (All-tail (IsNormal (equations g)) t ts n) a.1 k.1 v i
    ]

    facts_fit : (σ : Choice) (fs hs : List Fact) → ((v : Var) → IsNormal (equations g) (σ v)) → All (λ (f : Fact). All (IsPattern (equations g)) f.args) fs → All (λ (f : Fact). All (IsNormal (equations g)) f.args) hs → AreEqualFacts (equations g) (instance_facts σ fs) hs → FactsPass test hs → VarsPass σ (facts_vars fs)
    facts_fit σ [] hs normal h n a k v m = absurd (omega (arith, m.1))
    facts_fit σ (f ∷ fs) [] normal h n a k v m = absurd a
    facts_fit σ (f ∷ fs) (x ∷ xs) normal h n a k v m = elim (Contains-append_cases (trees_vars (trees_of f.args)) (facts_vars fs) v m) [
      | inl i ↦ args_fit σ f.args x.args normal (All-head (λ (y : Fact). All (IsPattern (equations g)) y.args) f fs h) (All-head (λ (y : Fact). All (IsNormal (equations g)) y.args) x xs n) a.0.args k.0 v i
      | inr i ↦ facts_fit σ fs xs normal (All-tail (λ (y : Fact). All (IsPattern (equations g)) y.args) f fs h) (All-tail (λ (y : Fact). All (IsNormal (equations g)) y.args) x xs n) a.1 k.1 v i
    ]

    -- what a line keeps
    record Good (c : Config) (es : List Tree) : Type 0 where
      threads : Every (ProcessPasses test) c.threads
      store : (k v : Tree) → c.store k ≡ Some v → NamesPass test v
      facts : Every (λ (f : Fact). AllNamesPass test (trees_of f.args)) c.facts
      entries : (x : Tree) → Contains es x → NamesPass test x

    abbrev PassingFact : Fact → Type 0
    PassingFact f = AllNamesPass test (trees_of f.args)

    added : (hs : List Fact) → FactsPass test hs → Every PassingFact (map (λ f. Some f) hs)
    added [] h k f e = cc
    added (x ∷ xs) h zero f e = let same : x ≡ f = cc in subst PassingFact same h.0
    added (x ∷ xs) h (suc k) f e = added xs h.1 k f e

    every_adds : (pile : Pile) (hs : List Fact) → Every PassingFact pile → FactsPass test hs → Every PassingFact (adds pile hs)
    every_adds [] hs all h k f e = added hs h k f e
    every_adds (x ∷ xs) hs all h zero f e = all zero f e
    every_adds (x ∷ xs) hs all h (suc k) f e = every_adds xs hs (λ j b g. all (suc j) b g) h k f e

    every_used : (pile : Pile) (k : ℕ) (f : Fact) → Every PassingFact pile → Every PassingFact (used pile k f)
    every_used pile k f all = at f.persistent
      where
        at : (b : Bool) → Every PassingFact (cond b pile (slice_set pile k None))
        at true = all
        at false = every_set PassingFact pile k None all (λ a e. absurd (cc))

    every_left : {pile rest : Pile} {ks : List ℕ} {fs : List Fact} → Takes pile ks fs rest → Every PassingFact pile → Every PassingFact rest
    every_left nothing all = all
    every_left (one {facts = facts} {k = k} {f = f} e tail) all = every_left tail (every_used facts k f all)

    every_taken : {pile rest : Pile} {ks : List ℕ} {fs : List Fact} → Takes pile ks fs rest → Every PassingFact pile → FactsPass test fs
    every_taken nothing all = tt
    every_taken (one {facts = facts} {k = k} {f = f} e tail) all = (all k f e, every_taken tail (every_used facts k f all))

    module _ (c : Config) (es : List Tree) (good : Good c es) where
      goes_on : (t : ℕ) (p : Proc) → ProcessPasses test p → Every (ProcessPasses test) (slice_set c.threads t (Some p))
      goes_on t p h = every_set (ProcessPasses test) c.threads t (Some p) good.threads (λ q e. let same : p ≡ q = cc in subst (ProcessPasses test) same h)

      -- the thread goes on as this
      on_with : (t : ℕ) (p : Proc) → ProcessPasses test p → Good (record c { threads = slice_set c.threads t (Some p) }) es
      on_with t p h = record { threads = goes_on t p h; store = good.store; facts = good.facts; entries = good.entries }

      one_more : (x : Tree) → NamesPass test x → (y : Tree) → Contains (es ++ x ∷ []) y → NamesPass test y
      one_more x h y m = elim (Contains-push_cases es x y m) as (λ _. NamesPass test y) [ inl a ↦ good.entries y a | inr e ↦ subst (NamesPass test) e h ]

      kept_store : (k : Tree) (o : Option Tree) → ((v : Tree) → o ≡ Some v → NamesPass test v) → (x v : Tree) → stored c.store k o x ≡ Some v → NamesPass test v
      kept_store k o h x v e = at (same_tree k x) e
        where
          at : (b : Bool) → cond b o (c.store x) ≡ Some v → NamesPass test v
          at true d = h v d
          at false d = good.store x v d

      got_entry : (k : ℕ) (x : Tree) → slice_get es k ≡ Some x → NamesPass test x
      got_entry k x e = good.entries x (contains_got es x k e)

      got_entries : (ks : List ℕ) (ts : List Tree) → map (slice_get es) ks ≡ map Some ts → AllNamesPass test (trees_of ts)
      got_entries [] [] e = tt
      got_entries (k ∷ ks) [] e = absurd (cc)
      got_entries [] (t ∷ ts) e = absurd (cc)
      got_entries (k ∷ ks) (t ∷ ts) e =
          let first : slice_get es k ≡ Some t = cc in
          let later : map (slice_get es) ks ≡ map Some ts = cc in
          (got_entry k t first, got_entries ks ts later)

      module _ (exact : MatchesExactly g c es) where
        input_pattern : (t : ℕ) (n : Tree) (p : Proc) → Runs c t (act (action.input n) p) → IsPattern (equations g) n
        input_pattern t n p r = All-head (IsPattern (equations g)) n [] (exact.patterns_are t (act (action.input n) p) r)

        receive_pattern : (t : ℕ) (l n : Tree) (p : Proc) → Runs c t (act (action.receive l n) p) → IsPattern (equations g) n
        receive_pattern t l n p r = All-head (IsPattern (equations g)) n [] (exact.patterns_are t (act (action.receive l n) p) r)

        entry_normal : (k : ℕ) (x : Tree) → slice_get es k ≡ Some x → IsNormal (equations g) x
        entry_normal k x e = All-contains (IsNormal (equations g)) es x exact.entries (contains_got es x k e)

        -- the variables of an embedded rule
        rule_vars_pass : (t : ℕ) (l e r left : List Fact) (rest : Pile) (p : Proc) (ks : List ℕ) (b : List Binding) (σ : Choice) → Runs c t (act (action.embedded l e r) p) → bound_vars b ≡ left_open l e r → IsMessageChoice g σ → Agrees b σ
            → Takes c.facts ks left rest → AreEqualFacts (equations g) (instance_facts σ l) left → BindingsPass test b → VarsPass σ (facts_vars (l ++ (e ++ r)))
        rule_vars_pass t l e r left rest p ks b σ runs vars message agrees takes fits h v m = elim (covered l e r (exact.sorts t l e r p runs) v m) [
          | inl i ↦ facts_fit σ l left (λ w. (message w).normal) (facts_all (IsPattern (equations g)) l (exact.patterns_are t (act (action.embedded l e r) p) runs))
              (taken_all (λ (f : Fact). All (IsNormal (equations g)) f.args) exact.facts takes) fits (every_taken takes good.facts) v i
          | inr i ↦ bound_pass b σ agrees h v (subst (λ (vs : List Var). Contains vs v) (sym vars) i)
        ]

        keeps : (d : Config) (fs : List Tree) (step : PStep) (inner : List InnerAction) (label : List Fact) → IsProcessLine g HasFewNodes c es step inner label d fs → LinePasses test step → Good d fs
        keeps _ _ _ _ _ (IsProcessLine.ends t r) h = record { threads = every_set (ProcessPasses test) c.threads t None good.threads (λ q e. absurd (cc)); store = good.store; facts = good.facts; entries = good.entries }
        keeps _ _ _ _ _ (IsProcessLine.splits {p = p} {q = q} t r) h =
            let b = good.threads t (whole.parallel p q) r in
            record { threads = every_push (ProcessPasses test) (slice_set c.threads t (Some p)) q (goes_on t p b.0) b.1; store = good.store; facts = good.facts; entries = good.entries }
        keeps _ _ _ _ _ (IsProcessLine.copies {p = p} t r) h =
            let b = good.threads t (whole.replicated p) r in
            record { threads = every_push (ProcessPasses test) c.threads p good.threads b; store = good.store; facts = good.facts; entries = good.entries }
        keeps _ _ _ _ _ (IsProcessLine.makes_name {x = x} {p = p} t n r u) h =
            let b = good.threads t (act (action.new x) p) r in
            let w = on_with t (with_term x (fresh n) p) (term_passes x (fresh n) p h b.1) in
            record { threads = w.threads; store = w.store; facts = w.facts; entries = w.entries }
        keeps _ _ _ _ _ (IsProcessLine.outputs {m = m} {n = n} {p = p} t r f within) h =
            let b = good.threads t (act (action.out m) p) r in
            let w = on_with t p b.1 in
            record { threads = w.threads; store = w.store; facts = w.facts; entries = one_more n (form_passes m n b.0 f) }
        keeps _ _ _ _ _ (IsProcessLine.outputs_on {m = m} {n = n} {u = u} {p = p} t k r e f v within) h =
            let b = good.threads t (act (action.send m n) p) r in
            let w = on_with t p b.1 in
            record { threads = w.threads; store = w.store; facts = w.facts; entries = one_more u (form_passes n u b.0.1 v) }
        keeps _ _ _ _ _ (IsProcessLine.inputs {n = n} {x = x} {p = p} t k σ r e f) h =
            let b = good.threads t (act (action.input n) p) r in
            let vars = fit_passes σ n x (λ v. (f.messages v).normal) (input_pattern t n p r) (entry_normal k x e) f.equal (got_entry k x e) in
            on_with t (with_choice σ (tree_vars n) p) (with_passes σ (tree_vars n) p vars b.1)
        keeps _ _ _ _ _ (IsProcessLine.inputs_on {m = m} {n = n} {x = x} {p = p} t k σ r e message equal within) h =
            let b = good.threads t (act (action.receive m n) p) r in
            let parts = pair_parts laws g m (instance σ n) x (entry_normal k x e) equal in
            let both : NamesPass test (app2 pair_name parts.first parts.second) = subst (NamesPass test) parts.is (got_entry k x e) in
            let vars = fit_passes σ n parts.second (λ v. (message v).normal) (receive_pattern t m n p r) parts.second_form.normal parts.second_form.equal both.1.0 in
            on_with t (with_choice σ (tree_vars n) p) (with_passes σ (tree_vars n) p vars b.1)
        keeps _ _ _ _ _ (IsProcessLine.meets {m = m} {n = n} {l = l} {r = r} {p = p} {q = q} s t σ from to same f within) h =
            let a = good.threads s (act (action.send m n) p) from in
            let b = good.threads t (act (action.receive l r) q) to in
            let sent = passing_form n a.0.1 in
            let equal = laws.kept.onwards (equations g) (instance σ r) n sent.form f.equal sent.is.equal in
            let vars = fit_passes σ r sent.form (λ v. (f.messages v).normal) (receive_pattern t l r q to) sent.is.normal equal sent.passes in
            let goes = with_passes σ (tree_vars r) q vars b.1 in
            record {
              threads = every_set (ProcessPasses test) (slice_set c.threads s (Some p)) t (Some (with_choice σ (tree_vars r) q)) (goes_on s p a.1) (λ z e. let same : with_choice σ (tree_vars r) q ≡ z = cc in subst (ProcessPasses test) same goes);
              store = good.store;
              facts = good.facts;
              entries = good.entries;
            }
        keeps _ _ _ _ _ (IsProcessLine.agrees {m = m} {n = n} {p = p} {q = q} t r f v e within) h = on_with t p (good.threads t (whole.test m n p q) r).2
        keeps _ _ _ _ _ (IsProcessLine.differs {m = m} {n = n} {p = p} {q = q} t r f v e within) h = on_with t q (good.threads t (whole.test m n p q) r).3
        keeps _ _ _ _ _ (IsProcessLine.shows {f = f} {p = p} t r e within) h = on_with t p (good.threads t (act (action.event f) p) r).1
        keeps _ _ _ _ _ (IsProcessLine.inserts {m = m} {n = n} {k = k} {v = v} {p = p} t r e f within) h =
            let b = good.threads t (act (action.insert m n) p) r in
            let w = on_with t p b.1 in
            let value = form_passes n v b.0.1 f in
            record { threads = w.threads; store = kept_store k (Some v) (λ u i. let same : v ≡ u = cc in subst (NamesPass test) same value); facts = w.facts; entries = w.entries }
        keeps _ _ _ _ _ (IsProcessLine.deletes {m = m} {k = k} {p = p} t r e within) h =
            let b = good.threads t (act (action.delete m) p) r in
            let w = on_with t p b.1 in
            record { threads = w.threads; store = kept_store k None (λ u i. absurd (cc)); facts = w.facts; entries = w.entries }
        keeps _ _ _ _ _ (IsProcessLine.finds {m = m} {k = k} {v = v} {x = x} {p = p} {q = q} t r f e within) h =
            on_with t (with_term x v p) (term_passes x v p (good.store k v e) (good.threads t (whole.lookup m x p q) r).1)
        keeps _ _ _ _ _ (IsProcessLine.misses {m = m} {x = x} {p = p} {q = q} t r f e within) h = on_with t q (good.threads t (whole.lookup m x p q) r).2
        keeps _ _ _ _ _ (IsProcessLine.locks {m = m} {i = i} {p = p} t r f e within) h =
            let w = on_with t p (good.threads t (act (action.lock m i) p) r).1 in
            record { threads = w.threads; store = w.store; facts = w.facts; entries = w.entries }
        keeps _ _ _ _ _ (IsProcessLine.unlocks {m = m} {i = i} {p = p} t r f within) h =
            let w = on_with t p (good.threads t (act (action.unlock m i) p) r).1 in
            record { threads = w.threads; store = w.store; facts = w.facts; entries = w.entries }
        keeps _ _ _ _ _ (IsProcessLine.embeds {l = l} {e = e} {r = r} {rest = rest} {p = p} t ks b σ left acts right runs message vars agrees equal takes shown adds within) h =
            let k = good.threads t (act (action.embedded l e r) p) runs in
            let all = rule_vars_pass t l e r left rest p ks b σ runs vars message agrees takes equal h in
            let w = on_with t (with_choice σ (facts_vars (l ++ (e ++ r))) p) (with_passes σ (facts_vars (l ++ (e ++ r))) p all k.1) in
            let own : VarsPass σ (facts_vars r) = λ v m. all v (rule_var_right l e r v m) in
            record {
              threads = w.threads;
              store = w.store;
              facts = every_adds rest right (every_left takes good.facts) (facts_forms (instance_facts σ r) right (put_facts σ r own k.0.2) adds);
              entries = w.entries;
            }
        keeps _ _ _ _ _ (IsProcessLine.names n u) h = record { threads = good.threads; store = good.store; facts = good.facts; entries = one_more (fresh n) h }
        keeps _ _ _ _ _ (IsProcessLine.writes a) h = record { threads = good.threads; store = good.store; facts = good.facts; entries = one_more (public a) h }
        keeps _ _ _ _ _ (IsProcessLine.applies f ks ts x p a e n w) h =
            record { threads = good.threads; store = good.store; facts = good.facts; entries = one_more x (form_passes (apply f (trees_of ts)) x (got_entries ks ts e) n) }
        keeps _ _ _ _ _ (IsProcessLine.knows k x e) h = good

    starts_good : (p : Proc) → ProcessPasses test p → Good (initial p) []
    starts_good p h = record { threads = start; store = λ k v e. absurd (cc); facts = λ k f e. cc; entries = λ x m. absurd (omega (arith, m.1)) }
      where
        start : (t : ℕ) (q : Proc) → slice_get (Some p ∷ []) t ≡ Some (Some q) → ProcessPasses test q
        start zero q e = let same : p ≡ q = cc in subst (ProcessPasses test) same h
        start (suc t) q e = absurd (cc)

    lines_before : (lines : List PStep) (step : PStep) → LinesPass test (lines ++ step ∷ []) → LinesPass test lines × LinePasses test step
    lines_before [] step h = (tt, h.0)
    lines_before (x ∷ lines) step h = let rest = lines_before lines step h.1 in ((h.0, rest.0), rest.1)

    module _ (p : Proc) (passes : ProcessPasses test p)
        (exactly : (lines : List PStep) (c : Config) (es : List Tree) (tr : Trace) (marks : List Mark) → IsLegalProcessRun g HasFewNodes p lines c es tr marks → MatchesExactly g c es)
      where
        run_good : (lines : List PStep) (c : Config) (es : List Tree) (tr : Trace) (marks : List Mark) → LinesPass test lines → IsLegalProcessRun g HasFewNodes p lines c es tr marks → Good c es
        run_good _ _ _ _ _ h IsLegalProcessRun.starts = starts_good p passes
        run_good _ d fs _ _ h (IsLegalProcessRun.further {lines = lines} {c = c} {es = es} {tr = tr} {marks = marks} step inner label run is) =
            let parts = lines_before lines step h in
            keeps c es (run_good lines c es tr marks parts.0 run) (exactly lines c es tr marks run) d fs step inner label is parts.1

pub names_stand : Laws → SymbolsReduceOnce → RunsMatchExactly → SmallProcessRunsAreLegal → NamesStandInRuns
names_stand laws symbols exactly legal test g p lines c es tr marks hold ready passes brought run =
    let good = run_good test laws symbols g p passes (λ ls d fs t ms r. exactly g p ls d fs t ms hold ready (legal g p ls d fs t ms r)) lines c es tr marks brought run in
    record { threads = good.threads; store = good.store; facts = good.facts; entries = good.entries }
