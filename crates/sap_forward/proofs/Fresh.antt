-- Lines that make names, for a process, for the adversary, for a lock.
use Rattle.std.proofs.Common.{◌≡◌, ℕ, ◌+◌, ◌<◌, ◌^◌, List, [], ◌∷◌, ◌++◌, Option, Some, None, refl, sym, ap, ◌∙◌, subst, arith, slice_get, slice_set, length, true, false, inl, inr}
use Rattle.std.specs.Prelude.{Contains}
use Rattle.std.proofs.lemmas.List.Elements.{Contains-push_cases, Contains-push, Contains-append_left}
use Rattle.std.proofs.lemmas.Option.{slice_get_within}
use Rattle.sap_terms.specs.AdversaryFacts.{fr_fact}
use Rattle.sap_terms.specs.Equations.{equations}
use Rattle.sap_terms.specs.Normal.{IsNormalForm}
use Rattle.sap_terms.specs.Piles.{Pile}
use Rattle.sap_terms.specs.Signature.{Sig, HoldsBuiltins}
use Rattle.sap_terms.specs.Trace.{Trace, shown}
use Rattle.sap_terms.specs.Tree.{Tree, fresh}
use Rattle.sap_terms.specs.declared.var.Var.{Var}
use Rattle.sap_process.specs.Action as action
use Rattle.sap_process.specs.Configuration.{Config, Runs, becomes, makes, owns, holding, IsUnused}
use Rattle.sap_process.specs.Instance.{process_instance, without}
use Rattle.sap_process.specs.Proc.{Proc, act, node_count}
use Rattle.sap_process.specs.ProcessSteps.{with_term}
use Rattle.sap_process.specs.Ready.{IsReady}
use Rattle.sap_process.specs.Sites.{fresh_var}
use Rattle.sap_locks.specs.Annotation.{IsAnnotation}
use Rattle.sap_process.specs.Scopes.{lock_var}
use Rattle.sap_restrict.specs.ReservedFacts.{lock_fact}
use Rattle.sap_rule.specs.RuleSteps.{RuleState}
use Rattle.sap_rule.specs.Variables.{open_variables}
use Rattle.sap_rule.specs.declared.rule.Rule.{Rule}
use Rattle.sap_runs.specs.Inner.{locked}
use Rattle.sap_runs.specs.Marks.{marks_of}
use Rattle.sap_runs.specs.declared.process_step.PStep.TheVariants as line
use Rattle.sap_runs.specs.declared.rule_step.RStep.TheVariants.{Fresh, Own}
use Rattle.sap_lines.specs.Lines.{EvaluateWithin}
use Rattle.sap_steps.specs.Lines.{IsLine}
use Rattle.sap_translate.specs.Members.{Member}
use Rattle.sap_translate.specs.Scoped.{IsFree}
use Rattle.sap_templates.specs.Templates as rules
use Rattle.sap_templates.specs.Templates.{rules_of, first_of}
use Rattle.sap_translate.specs.relation.Agents.{Agent, running}
use Rattle.sap_translate.specs.relation.Answers.{term_under, under}
use Rattle.sap_translate.specs.relation.Answered as case
use Rattle.sap_translate.specs.relation.Envs.{Env, names, filled, chosen, just, join}
use Rattle.sap_translate.specs.relation.ProcessMoves as process
use Rattle.sap_translate.specs.relation.RuleMoves as move
use Rattle.sap_forward.specs.Answered.{IsAnswered}
use Rattle.sap_rule_lines.specs.Least.{is_among, not_drawn, numbers_below, IsNext}
use Rattle.sap_forward.specs.Linked.{Linked, EnvWithin, MadeFor}
use Rattle.sap_forward.specs.Tables.{RuleTables}
use Rattle.sap_forward.specs.Written.{IsWrittenAsRules, with_facts}
use Rattle.sap_forward.proofs.Evaluated.{rule_within, left, right, sides}
use Rattle.sap_forward.proofs.Given.{next_from, next_given, drawn_given, free_one}
use Rattle.sap_forward.proofs.Lines.{lines_of, made_line, owned_line}
use Rattle.sap_forward.proofs.Moves.{made_by_move}
use Rattle.sap_forward.proofs.Premises.{Laws}
use Rattle.sap_forward.proofs.Tabled.{length_set, length_join, get_left, get_other, tables_stay}
use Rattle.sap_forward.proofs.Advance.{contains, IsLimit, place_sound, opens_at, state_within, law, stands_at, seated, twofold}

-- what is in scope behind one variable more stands for terms within the limit
pub wide_just : (laws : Laws) (g : Sig) (W : Tree → Type 0) (env : Env) (x : Var) (t : Tree) → IsFree x (names env) → EnvWithin g W env → EvaluateWithin g W (t ∷ []) → EnvWithin g W (join env (just x t))
wide_just laws g W env x t free h k y m = elim (sides (names env) (x ∷ []) m) [ left n ↦ subst (λ i. EvaluateWithin g W (i ∷ [])) (sym (laws.old env (just x t) y (contains n))) (h y n) | right n ↦ newest y n ] where
  newest : (y : Var) → Member y (x ∷ []) → EvaluateWithin g W ((join env (just x t)).choice y ∷ [])
  newest y Member.here = subst (λ i. EvaluateWithin g W (i ∷ [])) (sym (laws.new env (just x t) x free)) k
  newest y (Member.later n) = elim n [ ]

-- what the variable that was added stands for under the choice
pub just_is : (laws : Laws) (env : Env) (x : Var) (t : Tree) → IsFree x (names env) → filled (join env (just x t)) x ≡ t
just_is laws env x t free = laws.variables (join env (just x t)) x (contains (last_in (names env) x)) ∙ laws.new env (just x t) x free where
  last_in : (xs : List Var) (x : Var) → Member x (xs ++ x ∷ [])
  last_in [] x = Member.here
  last_in (y ∷ xs) x = Member.later (last_in xs x)

-- which is within the limit
pub just_within : (laws : Laws) (g : Sig) (W : Tree → Type 0) (env : Env) (x : Var) (t : Tree) → IsFree x (names env) → EvaluateWithin g W (t ∷ []) → EvaluateWithin g W (filled (join env (just x t)) x ∷ [])
just_within laws g W env x t free k = subst (λ i. EvaluateWithin g W (i ∷ [])) (sym (just_is laws env x t free)) k

pub in_front : {A : Type 0} {x : A} (xs ys : List A) → Member x xs → Member x (xs ++ ys)
in_front (x ∷ xs) ys Member.here = Member.here
in_front (x ∷ xs) ys (Member.later m) = Member.later (in_front xs ys m)
in_front [] ys m = elim m [ ]

pub fresh_within : (laws : Laws) (g : Sig) (W : Tree → Type 0) → IsLimit g W → (n : ℕ) → EvaluateWithin g W (fresh n ∷ [])
fresh_within laws g W limit n = limit.parts (fresh n) (laws.leaves.of_fresh_name (equations g) n) (limit.names n)

-- a name that is drawn, and that nobody has, Fr was not made of
pub drawn_new : (drawn : List ℕ) (next : ℕ) (c : Config) (n : ℕ) → is_among drawn n ≡ true → IsUnused c n → MadeFor drawn next c n → ⊥
drawn_new drawn next c n e u (MadeFor.a_process m f) = u.0 m
drawn_new drawn next c n e u (MadeFor.the_adversary m f) = u.1 m
drawn_new drawn next c n e u (MadeFor.a_lock_or_tag f l) = absurd (let z : true ≡ false = sym e ∙ f in cc)

-- nor of the next that is not drawn
pub next_new : (drawn : List ℕ) (next : ℕ) (c : Config) (n : ℕ) → IsNext drawn next n → MadeFor drawn next c n → ⊥
next_new drawn next c n h (MadeFor.a_process m f) = absurd (let z : true ≡ false = sym f ∙ h.free in cc)
next_new drawn next c n h (MadeFor.the_adversary m f) = absurd (let z : true ≡ false = sym f ∙ h.free in cc)
next_new drawn next c n h (MadeFor.a_lock_or_tag f l) = absurd (let from = h.from in omega arith)

-- whom names were made for, where one is given to a lock or a tag
pub made_next : (drawn : List ℕ) (next : ℕ) (c d : Config) (n : ℕ) (ns : List ℕ) → d.made ≡ c.made → d.own ≡ c.own → IsNext drawn next n → ((m : ℕ) → Contains ns m → MadeFor drawn next c m) → (m : ℕ) → Contains (ns ++ n ∷ []) m → MadeFor drawn (n + 1) d m
made_next drawn next c d n ns made own h all m k = elim (Contains-push_cases ns n m k) [ inl old ↦ further (all m old) | inr same ↦ newest same ] where
  further : MadeFor drawn next c m → MadeFor drawn (n + 1) d m
  further (MadeFor.a_process a e) = MadeFor.a_process (subst (λ x. Contains x m) (sym made) a) e
  further (MadeFor.the_adversary a e) = MadeFor.the_adversary (subst (λ x. Contains x m) (sym own) a) e
  further (MadeFor.a_lock_or_tag e l) = MadeFor.a_lock_or_tag e (let from = h.from in omega arith)

  newest : n ≡ m → MadeFor drawn (n + 1) d m
  newest same = MadeFor.a_lock_or_tag (ap (is_among drawn) (sym same) ∙ h.free) (omega arith)

module _ (laws : Laws) (g : Sig) (W : Tree → Type 0) (p q : Proc) (hold : HoldsBuiltins g) (ready : IsReady g p) (small : node_count p < 2 ^ 64) (annotated : IsAnnotation p q) (drawn : List ℕ) (agents : List (Option Agent)) (c : Config) (es : List Tree) (tr : Trace) (s : RuleState) (full : Trace) (tables : RuleTables) (lk : Linked g W q drawn tables agents c es tr s full) (limit : IsLimit g W) where
  pub makes_name_here : (t n : ℕ) (path : List ℕ) (env : Env) (x : Var) (u : Proc) → slice_get agents t ≡ Some (Some (running path env (act (action.new x) u))) → Runs c t (act (action.new x) (process_instance (without (chosen env) x) u)) → IsUnused c n → is_among drawn n ≡ true
      → IsAnswered g W q drawn agents c tables s full (line.New t n) (makes (becomes c t (Some (with_term x (fresh n) (process_instance (without (chosen env) x) u)))) n) es (tr ++ shown []) (marks_of [] [])
  makes_name_here t n path env x u is runs unused known =
      let body : Proc = act (action.new x) u in
      let sits = seated laws g W p q hold ready small annotated drawn agents c es tr s full tables lk t path env body is in
      let k = sits.0 in
      let at = stands_at laws g W p q hold ready small annotated drawn agents c es tr s full tables lk t path env body is in
      let free = place_sound laws g W p q hold ready small annotated path env body at in
      let opens = opens_at laws g W p q hold ready small annotated path env body at in
      let wide = lk.envs t (running path env body) is in
      let name = fresh_within laws g W limit n in
      let wider : Env = join env (just (fresh_var x) (fresh n)) in
      let all = wide_just laws g W env (fresh_var x) (fresh n) free wide name in
      let st = state_within laws g W p q hold ready small annotated wider (names env) all (λ y m. in_front (names env) (fresh_var x ∷ []) m) in
      let st2 = state_within laws g W p q hold ready small annotated wider (names env ++ fresh_var x ∷ []) all (λ y m. m) in
      let var = just_within laws g W env (fresh_var x) (fresh n) free name in
      let r : Rule = rules.new_rule path (names env) x in
      let none : open_variables g r ≡ [] = cc in
      let clear : Contains s.made n → ⊥ = λ m. drawn_new drawn tables.next c n known unused (lk.made n m) in
      let ans = law laws g W p q hold ready small annotated drawn agents c es tr s full tables lk case.MakesName laws.makes_name t k n path env x u sits.2 unused clear in
      let d_is = made_by_move g c t n x (process_instance (without (chosen env) x) u) [] (makes (becomes c t (Some (under wider u))) n) ans.process runs in
      subst (λ d. IsAnswered g W q drawn agents c tables s full (line.New t n) d es (tr ++ shown []) (marks_of [] [])) d_is
      (twofold laws g W p q hold ready small annotated drawn agents c es tr s full tables lk t k path env body sits.1 (first_of path) wider u all (line.New t n) (process.makes_name t n) [] (makes (becomes c t (Some (under wider u))) n) (move.makes_name n) (Fresh n) [] (fr_fact n) r (filled wider) [] (marks_of [] []) _ tables.next ans
      refl lk.known (λ m i. elim (Contains-push_cases s.made n m i) [ inl old ↦ further m (lk.made m old) | inr same ↦ MadeFor.a_process (subst (λ y. Contains (c.made ++ n ∷ []) y) same (Contains-push c.made n)) (ap (is_among drawn) (sym same) ∙ known) ])
      (λ a z h. made_line W g (rules_of q) (laws.named q) s z a n h) none (rule_within g W (filled wider) r (st, ((var, tt), tt)) tt (st2, tt)) refl lk.stored refl
      (drawn_given drawn tables.next n known) (IsWrittenAsRules.makes_name t k n path env x u sits.1))
    where
      further : (m : ℕ) → MadeFor drawn tables.next c m → MadeFor drawn tables.next (makes (becomes c t (Some (under (join env (just (fresh_var x) (fresh n))) u))) n) m
      further m (MadeFor.a_process a e) = MadeFor.a_process (Contains-append_left c.made (n ∷ []) m a) e
      further m (MadeFor.the_adversary a e) = MadeFor.the_adversary a e
      further m (MadeFor.a_lock_or_tag e l) = MadeFor.a_lock_or_tag e l

  pub locks_here : (t : ℕ) (path : List ℕ) (env : Env) (m x : Tree) (l : ℕ) (u : Proc) → slice_get agents t ≡ Some (Some (running path env (act (action.lock m l) u))) → IsNormalForm (equations g) (term_under env m) x → c.held x ≡ false → EvaluateWithin g W (term_under env m ∷ [])
      → IsAnswered g W q drawn agents c tables s full (line.Lock t) (holding (becomes c t (Some (under env u))) x true) es (tr ++ shown []) (marks_of (locked x ∷ []) [])
  locks_here t path env m x l u is fx unheld heads =
      let body : Proc = act (action.lock m l) u in
      let next = next_from drawn tables.next in
      let n = next.0 in
      let sits = seated laws g W p q hold ready small annotated drawn agents c es tr s full tables lk t path env body is in
      let k = sits.0 in
      let at = stands_at laws g W p q hold ready small annotated drawn agents c es tr s full tables lk t path env body is in
      let sound = place_sound laws g W p q hold ready small annotated path env body at in
      let opens = opens_at laws g W p q hold ready small annotated path env body at in
      let wide = lk.envs t (running path env body) is in
      let name = fresh_within laws g W limit n in
      let wider : Env = join env (just (lock_var l) (fresh n)) in
      let all = wide_just laws g W env (lock_var l) (fresh n) sound.1 wide name in
      let st = state_within laws g W p q hold ready small annotated wider (names env) all (λ y m. in_front (names env) (lock_var l ∷ []) m) in
      let st2 = state_within laws g W p q hold ready small annotated wider (names env ++ lock_var l ∷ []) all (λ y m. m) in
      let var = just_within laws g W env (lock_var l) (fresh n) sound.1 name in
      let key = subst (λ i. EvaluateWithin g W (i ∷ [])) (sym (laws.longer env (just (lock_var l) (fresh n)) m sound.0)) heads in
      let r : Rule = rules.lock_rule path (names env) m l in
      let none : open_variables g r ≡ [] = cc in
      let clear : Contains s.made n → ⊥ = λ i. next_new drawn tables.next c n next.1 (lk.made n i) in
      let ans = law laws g W p q hold ready small annotated drawn agents c es tr s full tables lk case.Locks laws.locks t k n path env m x l u sits.2 fx unheld clear in
      let d : Config = holding (becomes c t (Some (under env u))) x true in
      twofold laws g W p q hold ready small annotated drawn agents c es tr s full tables lk t k path env body sits.1 (first_of path) wider u all (line.Lock t) (process.locks t) [] d (move.makes_name n) (Fresh n) [] (fr_fact n) r (filled wider) (lock_fact (fresh n) x ∷ []) (marks_of (locked x ∷ []) []) _ (n + 1) ans
      refl lk.known (made_next drawn tables.next c d n s.made refl refl next.1 lk.made)
      (λ a z h. made_line W g (rules_of q) (laws.named q) s z a n h) none (rule_within g W (filled wider) r (st, ((var, tt), tt)) ((var, (key, tt)), tt) (st2, tt)) refl lk.stored refl
      (next_given drawn tables.next n next.1 ∙ ap (λ i. not_drawn drawn (numbers_below tables.next) ++ i) (sym (free_one drawn n next.1.free))) (IsWrittenAsRules.locks t k n path env m l u sits.1 next.1)

  pub names_here : (n : ℕ) → IsUnused c n → is_among drawn n ≡ true → IsAnswered g W q drawn agents c tables s full (line.Name n) (owns c n) (es ++ fresh n ∷ []) (tr ++ shown []) (marks_of [] [])
  names_here n unused known =
      let clear : Contains s.made n → ⊥ = λ m. drawn_new drawn tables.next c n known unused (lk.made n m) in
      let ans = law laws g W p q hold ready small annotated drawn agents c es tr s full tables lk case.AdversaryMakes laws.adversary_makes n unused clear in
      let N = length s.facts in
      let facts : Pile = slice_set (s.facts ++ Some (fr_fact n) ∷ []) N None in
      record {
        lines = Fresh n ∷ Own tables.count ∷ [];
        later = agents;
        behind = with_facts tables 1;
        state = _;
        more = [] ∷ [] ∷ [];
        written = IsWrittenAsRules.names n;
        legal = lines_of W g (rules_of q) s _ (move.makes_name n ∷ move.owns N n ∷ []) (Fresh n ∷ Own tables.count ∷ []) ([] ∷ [] ∷ [])
            ((λ a y h. made_line W g (rules_of q) (laws.named q) s y a n h), (λ y. ((λ a x h. subst (λ i. IsLine g (rules_of q) W y (Own i) a x) (sym lk.tabled.count) (owned_line W g (rules_of q) (laws.named q) y x a N n h)), (λ x. tt)))) ans.rules;
        linked = record {
          rest = ans.rest;
          known = ap (λ x. x ++ fresh n ∷ []) lk.known;
          tabled = tables_stay agents c.facts s.facts tables lk.tabled 1 facts (λ j f e. get_other (s.facts ++ Some (fr_fact n) ∷ []) N j None (λ i. absurd (let low = slice_get_within s.facts j (Some f) e in omega arith)) ∙ get_left s.facts (Some (fr_fact n) ∷ []) j (Some f) e)
              (length_set (s.facts ++ Some (fr_fact n) ∷ []) N None ∙ length_join s.facts (Some (fr_fact n) ∷ []));
          made = λ m i. elim (Contains-push_cases s.made n m i) [ inl old ↦ further m (lk.made m old) | inr same ↦ MadeFor.the_adversary (subst (λ y. Contains (c.own ++ n ∷ []) y) same (Contains-push c.own n)) (ap (is_among drawn) (sym same) ∙ known) ];
          entries = λ x m. elim (Contains-push_cases es (fresh n) x m) [ inl old ↦ lk.entries x old | inr same ↦ subst W same (limit.names n) ];
          envs = lk.envs;
          stored = lk.stored;
        };
        marked = refl;
        short = omega arith;
        names = drawn_given drawn tables.next n known;
      }
    where
      further : (m : ℕ) → MadeFor drawn tables.next c m → MadeFor drawn tables.next (owns c n) m
      further m (MadeFor.a_process a e) = MadeFor.a_process a e
      further m (MadeFor.the_adversary a e) = MadeFor.the_adversary (Contains-append_left c.own (n ∷ []) m a) e
      further m (MadeFor.a_lock_or_tag e l) = MadeFor.a_lock_or_tag e l
