-- What a rule shows and adds can be evaluated.
use Rattle.std.proofs.Common.{◌≡◌, ◌<◌, ℕ, Bool, true, false, ◌||◌, List, [], ◌∷◌, ◌++◌, length, refl, sym, ap, subst, ◌∙◌, inl, inr, arith}
use Rattle.std.specs.Prelude.{All, Contains, slice_index_or}
use Rattle.std.proofs.lemmas.List.Elements.{All-contains, Contains-get_or, Contains-append_left, Contains-append_right}
use Rattle.sap_terms.specs.Equations.{equations}
use Rattle.sap_terms.specs.Choice.{Choice, instance, instances}
use Rattle.sap_terms.specs.Ground.{IsGround, AreGround}
use Rattle.sap_terms.specs.Message.{IsOver}
use Rattle.sap_terms.specs.Tree.{Tree, variable, public, fresh, apply, Trees, none, more, trees_of}
use Rattle.sap_terms.specs.Variables.{tree_vars, trees_vars, facts_vars, is_known, new_vars}
use Rattle.sap_terms.specs.declared.binding.Binding.{Binding}
use Rattle.sap_terms.specs.declared.fact.Fact.{Fact}
use Rattle.sap_terms.specs.declared.limits.TheConstants.{MOST_TERM_NODES}
use Rattle.sap_terms.specs.declared.var.Var.{Var}
use Rattle.sap_rewrite.specs.Bound.{NamedOnceStay, BindingsGiveChoices}
use Rattle.sap_rewrite.specs.Match.{HaveOneSort}
use Rattle.sap_process.specs.Heads.{facts_terms}
use Rattle.sap_process.specs.Sites.{var_names}
use Rattle.std.proofs.lemmas.Bool.{false≢true}
use Rattle.sap_share.specs.Env.{given, AreSmallForms}
use Rattle.sap_share.specs.Shared.{Shared, tree_at, Keeps}
use Rattle.sap_share.specs.declared.env.Bound.{Bound}
use Rattle.sap_sides.specs.Messages.{IsSmallMessageFact}
use Rattle.sap_heads.specs.Bound.{names_of}
use Rattle.sap_heads.specs.code.Rules.{IsRuleEnv}
use Rattle.sap_heads.specs.Values.{CanEvaluate}
use Rattle.sap_heads.proofs.Binds.{given_cases}
use Rattle.sap_heads.proofs.Kept.{env_stays}
use Rattle.sap_heads.proofs.Ruled.{rule_small_env, rule_names}
use Rattle.sap_heads.proofs.Sided.{known_append, together_vars, vars_append, facts_terms-append}
use Rattle.sap_terms.proofs.PlainLaws.Names.{first_named}
use Rattle.sap_terms.proofs.PlainLaws.Items.{first_item, cons_cases}
use Rattle.std.specs.Str.{bytes_eq}
use Rattle.std.proofs.lemmas.Slice.Eq.{bytes_eq-Decides}

-- where each variable stands for a ground tree, so does the term
mutual
  ground_instance : (σ : Choice) (t : Tree) → ((v : Var) → Contains (tree_vars t) v → IsGround (σ v)) → IsGround (instance σ t)
  ground_instance σ (variable v) h = h v (first_item v [])
  ground_instance σ (public n) h = tt
  ground_instance σ (fresh k) h = tt
  ground_instance σ (apply f ts) h = grounds_instance σ ts h

  grounds_instance : (σ : Choice) (ts : Trees) → ((v : Var) → Contains (trees_vars ts) v → IsGround (σ v)) → AreGround (instances σ ts)
  grounds_instance σ none h = tt
  grounds_instance σ (more t ts) h = (ground_instance σ t (λ v m. h v (Contains-append_left (tree_vars t) (trees_vars ts) v m)), grounds_instance σ ts (λ v m. h v (Contains-append_right (tree_vars t) (trees_vars ts) v m)))

known_in : (ws : List Var) (w : Var) → Contains ws w → is_known (var_names ws) w.name ≡ true
known_in [] w m = absurd (omega (arith, m.1))
known_in (x ∷ xs) w m = elim (cons_cases x xs w m) [
  | inl same ↦ ap (λ b. b || is_known (var_names xs) w.name) ((bytes_eq-Decides x.name w.name).1 (ap (λ (u : Var). u.name) same))
  | inr later ↦ by (bytes_eq x.name w.name) (known_in xs w later)
]
  where
    by : (b : Bool) → is_known (var_names xs) w.name ≡ true → (b || is_known (var_names xs) w.name) ≡ true
    by true h = refl
    by false h = h

or_left : (a b : Bool) → a ≡ true → (a || b) ≡ true
or_left true b h = refl
or_left false b h = cc

or_right : (a b : Bool) → b ≡ true → (a || b) ≡ true
or_right true b h = refl
or_right false b h = h

-- each variable is known where first occurrences are
known_new : (ns : List (List ℕ)) (vs : List Var) (v : Var) → Contains vs v → is_known (ns ++ var_names (new_vars ns vs)) v.name ≡ true
known_new ns vs v m = known_append ns (var_names (new_vars ns vs)) v.name ∙ elim (first_named ns vs v m) [
  | inl old ↦ or_left (is_known ns v.name) (is_known (var_names (new_vars ns vs)) v.name) old
  | inr w ↦ or_right (is_known ns v.name) (is_known (var_names (new_vars ns vs)) v.name) (subst (λ n. is_known (var_names (new_vars ns vs)) n ≡ true) w.3 (known_in (new_vars ns vs) w.0 w.1))
]

var_in_list : (ts : List Tree) (t : Tree) (v : Var) → Contains ts t → Contains (tree_vars t) v → Contains (trees_vars (trees_of ts)) v
var_in_list [] t v m k = absurd (omega (arith, m.1))
var_in_list (x ∷ xs) t v m k = elim (cons_cases x xs t m) [
  | inl same ↦ Contains-append_left (tree_vars x) (trees_vars (trees_of xs)) v (subst (λ u. Contains (tree_vars u) v) (sym same) k)
  | inr later ↦ Contains-append_right (tree_vars x) (trees_vars (trees_of xs)) v (var_in_list xs t v later k)
]

module _ (s u : Shared) (h : Keeps s u) (env : List Bound) (small : AreSmallForms (equations s.sig) MOST_TERM_NODES s.trees env) (cited : List Fact) (fine : All (IsSmallMessageFact s.sig) cited) (l e r : List Fact) (one : HaveOneSort (facts_vars (l ++ (e ++ r))))
    (over : All (IsOver s.sig) (facts_terms (l ++ (e ++ r)))) (b : List Binding) (once : NamedOnceStay) (give : BindingsGiveChoices) (grounds : (k : ℕ) → k < length u.trees → IsGround (tree_at u.trees k)) (new : List Bound) (x : IsRuleEnv u env cited l e r b new) where
  fine_there : All (IsSmallMessageFact u.sig) cited
  fine_there = subst (λ g. All (IsSmallMessageFact g) cited) (sym h.sig) fine

  pub sides_small : AreSmallForms (equations u.sig) MOST_TERM_NODES u.trees new
  sides_small = rule_small_env u.sig u.trees grounds env (env_stays s u h env small) l e r one cited fine_there x.found x.matched once give b x.opened new x.bound

  names : names_of new ≡ names_of env ++ var_names (new_vars (names_of env) (facts_vars (l ++ (e ++ r))))
  names = rule_names u.sig u.trees grounds env (env_stays s u h env small) l e r one cited fine_there x.found x.matched once give b x.opened new x.bound

  known_ground : (v : Var) → is_known (names_of new) v.name ≡ true → IsGround (given u.trees new v)
  known_ground v known = elim (given_cases u.trees grounds new v (λ k d lt. (sides_small k d lt).below)) [ inl bound ↦ bound.1 | inr free ↦ absurd (false≢true (sym free.0 ∙ known)) ]

  can_side : (fs : List Fact) → ((v : Var) → Contains (facts_vars fs) v → Contains (facts_vars (l ++ (e ++ r))) v) → ((t : Tree) → Contains (facts_terms fs) t → Contains (facts_terms (l ++ (e ++ r))) t) → All (CanEvaluate u new) (facts_terms fs)
  can_side fs vars terms = λ k d lt.
      let t : Tree = slice_index_or (facts_terms fs) k d in
      let m : Contains (facts_terms fs) t = Contains-get_or (facts_terms fs) k d lt in
      record {
        ground = ground_instance (given u.trees new) t (λ v n. known_ground v (subst (λ ns. is_known ns v.name ≡ true) (sym names) (known_new (names_of env) (facts_vars (l ++ (e ++ r))) v (vars v (subst (λ vs. Contains vs v) (together_vars fs) (var_in_list (facts_terms fs) t v m n))))));
        over = subst (λ g. IsOver g t) (sym h.sig) (All-contains (IsOver s.sig) (facts_terms (l ++ (e ++ r))) t over (terms t m));
      }

  pub can_acts : All (CanEvaluate u new) (facts_terms e)
  can_acts = can_side e
      (λ v m. subst (λ vs. Contains vs v) (sym (vars_append l (e ++ r) ∙ ap (λ vs. facts_vars l ++ vs) (vars_append e r))) (Contains-append_right (facts_vars l) (facts_vars e ++ facts_vars r) v (Contains-append_left (facts_vars e) (facts_vars r) v m)))
      (λ t m. subst (λ ts. Contains ts t) (sym (facts_terms-append l (e ++ r) ∙ ap (λ ts. facts_terms l ++ ts) (facts_terms-append e r))) (Contains-append_right (facts_terms l) (facts_terms e ++ facts_terms r) t (Contains-append_left (facts_terms e) (facts_terms r) t m)))

  pub can_right : All (CanEvaluate u new) (facts_terms r)
  can_right = can_side r
      (λ v m. subst (λ vs. Contains vs v) (sym (vars_append l (e ++ r) ∙ ap (λ vs. facts_vars l ++ vs) (vars_append e r))) (Contains-append_right (facts_vars l) (facts_vars e ++ facts_vars r) v (Contains-append_right (facts_vars e) (facts_vars r) v m)))
      (λ t m. subst (λ ts. Contains ts t) (sym (facts_terms-append l (e ++ r) ∙ ap (λ ts. facts_terms l ++ ts) (facts_terms-append e r))) (Contains-append_right (facts_terms l) (facts_terms e ++ facts_terms r) t (Contains-append_right (facts_terms e) (facts_terms r) t m)))
