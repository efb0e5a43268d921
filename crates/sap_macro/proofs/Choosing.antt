-- What patterns that are equal up to names bind: for each choice on the one side there is one on the other.
use Rattle.std.proofs.Common.{◌≡◌, ℕ, false, List, [], ◌∷◌, ◌++◌, ◌⊎◌, Some, None, inl, inr, map, refl, sym, ap, ◌∙◌, subst, ⊎_elim}
use Rattle.std.proofs.lemmas.Bool.{cases_Bool}
use Rattle.std.specs.Option.{option_map_or}
use Rattle.std.specs.Prelude.{if◌then◌else◌}
use Rattle.std.specs.Str.{bytes_eq}
use Rattle.sap_terms.specs.Choice.{Choice, instance, instances}
use Rattle.sap_terms.specs.Ground.{IsGround}
use Rattle.sap_terms.specs.Modulo.{instance_facts}
use Rattle.sap_terms.specs.Tree.{Tree, variable, apply, Trees, more, trees_of, list_of}
use Rattle.sap_terms.specs.Variables.{is_known, tree_vars, trees_vars, facts_vars}
use Rattle.sap_terms.specs.declared.fact.Fact.{Fact}
use Rattle.sap_terms.specs.declared.var.Sort.{Sort}
use Rattle.sap_terms.specs.declared.var.Var.{Var}
use Rattle.sap_process.specs.Flaws.{binder_of}
use Rattle.sap_process.specs.Proc.{Proc}
use Rattle.sap_process.specs.ProcessSteps.{chosen, with_choice}
use Rattle.sap_macro.specs.UpToNames.{named, fact, Pair, pair_of, lefts, rights, HaveOneBinder, here, above, AreAlikePatterns, old_name, new_name, one_public, one_fresh, one_symbol, AreAlikeRows, row_ends, row_goes_on, AreAlikeFacts, facts_end, facts_go_on, AreAlike}
use Rattle.sap_terms.proofs.PlainLaws.Known.{one_name, own_name, clash, apart}
use Rattle.sap_macro.proofs.Names.{left_known, right_known, left_of, left_is, right_is, right_of}
use Rattle.sap_macro.proofs.Moving.{Moves, stays_alike}

-- the variables of patterns, one by one
pub data AreAlikeVars : List Pair → List Var → List Var → List Pair → Type 0 where
  vars_end : {ρ : List Pair} → AreAlikeVars ρ [] [] ρ
  old_var : {ρ ζ : List Pair} {x y : List ℕ} {s : Sort} {vs ws : List Var} → HaveOneBinder ρ x y → AreAlikeVars ρ vs ws ζ
      → AreAlikeVars ρ (named x s ∷ vs) (named y s ∷ ws) ζ
  new_var : {ρ ζ : List Pair} {x y : List ℕ} {s : Sort} {vs ws : List Var} → is_known (lefts ρ) x ≡ false → is_known (rights ρ) y ≡ false
      → AreAlikeVars (pair_of x y ∷ ρ) vs ws ζ → AreAlikeVars ρ (named x s ∷ vs) (named y s ∷ ws) ζ

join : (ρ ξ ζ : List Pair) (vs ws us qs : List Var) → AreAlikeVars ρ vs ws ξ → AreAlikeVars ξ us qs ζ → AreAlikeVars ρ (vs ++ us) (ws ++ qs) ζ
join _ _ ζ _ _ us qs vars_end k = k
join _ ξ ζ _ _ us qs (old_var {ρ = ρ} {vs = vs} {ws = ws} h l) k = old_var h (join ρ ξ ζ vs ws us qs l k)
join _ ξ ζ _ _ us qs (new_var {ρ = ρ} {x = x} {y = y} {vs = vs} {ws = ws} h i l) k = new_var h i (join (pair_of x y ∷ ρ) ξ ζ vs ws us qs l k)

mutual
  pub pattern_vars : (ρ ζ : List Pair) (t u : Tree) → AreAlikePatterns ρ t u ζ → AreAlikeVars ρ (tree_vars t) (tree_vars u) ζ
  pattern_vars _ _ _ _ (old_name h) = old_var h vars_end
  pattern_vars _ _ _ _ (new_name h k) = new_var h k vars_end
  pattern_vars _ _ _ _ one_public = vars_end
  pattern_vars _ _ _ _ one_fresh = vars_end
  pattern_vars _ _ _ _ (one_symbol {ρ = ρ} {ξ = ζ} {ts = ts} {us = us} h) = row_vars ρ ζ ts us h

  row_vars : (ρ ζ : List Pair) (ts us : Trees) → AreAlikeRows ρ ts us ζ → AreAlikeVars ρ (trees_vars ts) (trees_vars us) ζ
  row_vars _ _ _ _ row_ends = vars_end
  row_vars _ _ _ _ (row_goes_on {ρ = ρ} {ξ = ξ} {ζ = ζ} {t = t} {u = u} {ts = ts} {us = us} h k) =
      join ρ ξ ζ (tree_vars t) (tree_vars u) (trees_vars ts) (trees_vars us) (pattern_vars ρ ξ t u h) (row_vars ξ ζ ts us k)

pub fact_vars : (ρ ζ : List Pair) (fs hs : List Fact) → AreAlikeFacts ρ fs hs ζ → AreAlikeVars ρ (facts_vars fs) (facts_vars hs) ζ
fact_vars _ _ _ _ facts_end = vars_end
fact_vars _ _ _ _ (facts_go_on {ρ = ρ} {ξ = ξ} {ζ = ζ} {ts = ts} {us = us} {fs = fs} {hs = hs} h k) =
    join ρ ξ ζ (trees_vars (trees_of ts)) (trees_vars (trees_of us)) (facts_vars fs) (facts_vars hs) (row_vars ρ ξ (trees_of ts) (trees_of us) h) (fact_vars ξ ζ fs hs k)

-- names with one binder keep it behind patterns
pub stay_bound : (ρ ζ : List Pair) (vs ws : List Var) → AreAlikeVars ρ vs ws ζ → (x y : List ℕ) → HaveOneBinder ρ x y → HaveOneBinder ζ x y
stay_bound _ _ _ _ vars_end x y h = h
stay_bound _ ζ _ _ (old_var {ρ = ρ} {vs = vs} {ws = ws} i l) x y h = stay_bound ρ ζ vs ws l x y h
stay_bound _ ζ _ _ (new_var {ρ = ρ} {x = a} {y = b} {vs = vs} {ws = ws} i j l) x y h =
    stay_bound (pair_of a b ∷ ρ) ζ vs ws l x y
    (above (λ e. clash (is_known (lefts ρ) x) (left_known ρ x y h) (sym (ap (is_known (lefts ρ)) e) ∙ i))
    (λ e. clash (is_known (rights ρ) y) (right_known ρ x y h) (sym (ap (is_known (rights ρ)) e) ∙ j)) h)

-- the first variable of a name, or none
binder_none : (x : List ℕ) (v : Var) (vs : List Var) → bytes_eq v.name x ≡ false → binder_of (v ∷ vs) x ≡ binder_of vs x
binder_none x v vs h = ap (λ b. if b then Some v else binder_of vs x) h

binder_found : (x : List ℕ) (s : Sort) (vs : List Var) → binder_of (named x s ∷ vs) x ≡ Some (named x s)
binder_found x s vs = ap (λ b. if b then Some (named x s) else binder_of vs x) (own_name x)

-- a name has its first variable in both, with one sort
abbrev pub AreFirst : List Var → List Var → List ℕ → List ℕ → Type 0
AreFirst vs ws x y = (s : Sort) × (binder_of vs x ≡ Some (named x s)) × (binder_of ws y ≡ Some (named y s))

not_left : (ρ ζ : List Pair) (vs ws : List Var) → AreAlikeVars ρ vs ws ζ → (x : List ℕ) → is_known (lefts ζ) x ≡ false → binder_of vs x ≡ None
not_left _ _ _ _ vars_end x h = refl
not_left _ ζ _ _ (old_var {ρ = ρ} {x = a} {y = b} {s = s} {vs = vs} {ws = ws} i l) x h =
    let bound = left_known ζ a b (stay_bound ρ ζ vs ws l a b i) in
    binder_none x (named a s) vs (apart a x (λ e. clash (is_known (lefts ζ) x) (sym (ap (is_known (lefts ζ)) e) ∙ bound) h)) ∙ not_left ρ ζ vs ws l x h
not_left _ ζ _ _ (new_var {ρ = ρ} {x = a} {y = b} {s = s} {vs = vs} {ws = ws} i j l) x h =
    let bound = left_known ζ a b (stay_bound (pair_of a b ∷ ρ) ζ vs ws l a b here) in
    binder_none x (named a s) vs (apart a x (λ e. clash (is_known (lefts ζ) x) (sym (ap (is_known (lefts ζ)) e) ∙ bound) h)) ∙ not_left (pair_of a b ∷ ρ) ζ vs ws l x h

not_right : (ρ ζ : List Pair) (vs ws : List Var) → AreAlikeVars ρ vs ws ζ → (y : List ℕ) → is_known (rights ζ) y ≡ false → binder_of ws y ≡ None
not_right _ _ _ _ vars_end y h = refl
not_right _ ζ _ _ (old_var {ρ = ρ} {x = a} {y = b} {s = s} {vs = vs} {ws = ws} i l) y h =
    let bound = right_known ζ a b (stay_bound ρ ζ vs ws l a b i) in
    binder_none y (named b s) ws (apart b y (λ e. clash (is_known (rights ζ) y) (sym (ap (is_known (rights ζ)) e) ∙ bound) h)) ∙ not_right ρ ζ vs ws l y h
not_right _ ζ _ _ (new_var {ρ = ρ} {x = a} {y = b} {s = s} {vs = vs} {ws = ws} i j l) y h =
    let bound = right_known ζ a b (stay_bound (pair_of a b ∷ ρ) ζ vs ws l a b here) in
    binder_none y (named b s) ws (apart b y (λ e. clash (is_known (rights ζ) y) (sym (ap (is_known (rights ζ)) e) ∙ bound) h)) ∙ not_right (pair_of a b ∷ ρ) ζ vs ws l y h

-- names that have one binder behind two variables of which one has one of the names: the other has the other name
same_right : (ζ : List Pair) (a b x y : List ℕ) → HaveOneBinder ζ a b → HaveOneBinder ζ x y → a ≡ x → b ≡ y
same_right ζ a b x y h k e = sym (right_is ζ a b h) ∙ ap (right_of ζ) e ∙ right_is ζ x y k

same_left : (ζ : List Pair) (a b x y : List ℕ) → HaveOneBinder ζ a b → HaveOneBinder ζ x y → b ≡ y → a ≡ x
same_left ζ a b x y h k e = sym (left_is ζ a b h) ∙ ap (left_of ζ) e ∙ left_is ζ x y k

-- so the variables are both of these names, or neither is
both_or_none : (ζ : List Pair) (a b x y : List ℕ) → HaveOneBinder ζ a b → HaveOneBinder ζ x y
    → ((a ≡ x) × (b ≡ y)) ⊎ ((bytes_eq a x ≡ false) × (bytes_eq b y ≡ false))
both_or_none ζ a b x y h k =
    ⊎_elim (λ e. let f = one_name a x e in inl (f, same_right ζ a b x y h k f))
    (λ e. ⊎_elim (λ f. let g = one_name b y f in inl (same_left ζ a b x y h k g, g)) (λ f. inr (e, f)) (cases_Bool (bytes_eq b y)))
    (cases_Bool (bytes_eq a x))

later_first : (v w : Var) (vs ws : List Var) (x y : List ℕ) → bytes_eq v.name x ≡ false → bytes_eq w.name y ≡ false → AreFirst vs ws x y → AreFirst (v ∷ vs) (w ∷ ws) x y
later_first v w vs ws x y h k f = (f.0, binder_none x v vs h ∙ f.1, binder_none y w ws k ∙ f.2)

own_first : (a b x y : List ℕ) (s : Sort) (vs ws : List Var) → a ≡ x → b ≡ y → AreFirst (named a s ∷ vs) (named b s ∷ ws) x y
own_first a b x y s vs ws h k =
    subst (λ z. AreFirst (named a s ∷ vs) (named b s ∷ ws) z y) h (subst (AreFirst (named a s ∷ vs) (named b s ∷ ws) a) k (s, binder_found a s vs, binder_found b s ws))

old_or_first : (ρ ζ : List Pair) (vs ws : List Var) → AreAlikeVars ρ vs ws ζ → (x y : List ℕ) → HaveOneBinder ζ x y → HaveOneBinder ρ x y ⊎ AreFirst vs ws x y
old_or_first _ _ _ _ vars_end x y h = inl h
old_or_first _ ζ _ _ (old_var {ρ = ρ} {x = a} {y = b} {s = s} {vs = vs} {ws = ws} i l) x y h =
    ⊎_elim (λ k. inl k)
    (λ f. ⊎_elim (λ e. inl (subst (λ z. HaveOneBinder ρ z y) e.0 (subst (HaveOneBinder ρ a) e.1 i))) (λ e. inr (later_first (named a s) (named b s) vs ws x y e.0 e.1 f))
    (both_or_none ζ a b x y (stay_bound ρ ζ vs ws l a b i) h))
    (old_or_first ρ ζ vs ws l x y h)
old_or_first _ ζ _ _ (new_var {ρ = ρ} {x = a} {y = b} {s = s} {vs = vs} {ws = ws} i j l) x y h =
    ⊎_elim (λ e. inr (own_first a b x y s vs ws e.0 e.1))
    (λ e. ⊎_elim (λ k. inl (below a b x y ρ e.0 k)) (λ f. inr (later_first (named a s) (named b s) vs ws x y e.0 e.1 f)) (old_or_first (pair_of a b ∷ ρ) ζ vs ws l x y h))
    (both_or_none ζ a b x y (stay_bound (pair_of a b ∷ ρ) ζ vs ws l a b here) h) where
      below : (a b x y : List ℕ) (ρ : List Pair) → bytes_eq a x ≡ false → HaveOneBinder (pair_of a b ∷ ρ) x y → HaveOneBinder ρ x y
      below _ _ x y ρ e here = clash (bytes_eq x x) (own_name x) e
      below _ _ x y ρ e (above h k l) = l

-- ---- choices

-- the choices agree on names with one binder
abbrev pub AreLinked : List Pair → Choice → Choice → Type 0
AreLinked ζ σ τ = (x y : List ℕ) (s : Sort) → HaveOneBinder ζ x y → σ (named x s) ≡ τ (named y s)

-- the choice for the right side
abbrev pub taken_over : List Pair → Choice → Choice
taken_over ζ σ v = σ (named (left_of ζ v.name) v.sort)

pub are_linked : (ζ : List Pair) (σ : Choice) → AreLinked ζ σ (taken_over ζ σ)
are_linked ζ σ x y s h = ap (λ z. σ (named z s)) (sym (left_is ζ x y h))

chosen_first : (σ : Choice) (vs : List Var) (x : List ℕ) (s t : Sort) → binder_of vs x ≡ Some (named x s) → chosen σ vs (named x t) ≡ σ (named x s)
chosen_first σ vs x s t h = ap (λ o. option_map_or σ o (variable (named x t))) h

chosen_none : (σ : Choice) (vs : List Var) (x : List ℕ) (t : Sort) → binder_of vs x ≡ None → chosen σ vs (named x t) ≡ variable (named x t)
chosen_none σ vs x t h = ap (λ o. option_map_or σ o (variable (named x t))) h

-- what these variables stand for is put into processes that are alike below them
pub chosen_move : (ζ : List Pair) (vs ws : List Var) (σ τ : Choice) → AreAlikeVars [] vs ws ζ → AreLinked ζ σ τ → ((v : Var) → IsGround (σ v))
    → Moves ζ [] (chosen σ vs) (chosen τ ws)
chosen_move ζ vs ws σ τ l linked ground = record {
  moved = λ x y s h. ⊎_elim (λ k. elim k [ ])
      (λ f. inr (chosen_first σ vs x f.0 s f.1 ∙ linked x y f.0 h ∙ sym (chosen_first τ ws y f.0 s f.2), subst IsGround (sym (chosen_first σ vs x f.0 s f.1)) (ground (named x f.0))))
      (old_or_first [] ζ vs ws l x y h);
  left = λ x s h. (refl, chosen_none σ vs x s (not_left [] ζ vs ws l x h));
  right = λ y s h. (refl, chosen_none τ ws y s (not_right [] ζ vs ws l y h));
}

pub chosen_alike : (ζ : List Pair) (vs ws : List Var) (σ τ : Choice) → AreAlikeVars [] vs ws ζ → AreLinked ζ σ τ → ((v : Var) → IsGround (σ v)) → (p q : Proc)
    → AreAlike ζ p q → AreAlike [] (with_choice σ vs p) (with_choice τ ws q)
chosen_alike ζ vs ws σ τ l linked ground p q h = stays_alike ζ [] (chosen σ vs) (chosen τ ws) p q h (chosen_move ζ vs ws σ τ l linked ground)

mutual
  -- linked choices give patterns that are alike one instance
  pub one_instance : (σ τ : Choice) (ρ ζ : List Pair) (t u : Tree) → AreAlikePatterns ρ t u ζ → AreLinked ζ σ τ → instance σ t ≡ instance τ u
  one_instance σ τ _ _ _ _ (old_name {x = x} {y = y} {s = s} h) k = k x y s h
  one_instance σ τ _ _ _ _ (new_name {x = x} {y = y} {s = s} h i) k = k x y s here
  one_instance σ τ _ _ _ _ one_public k = refl
  one_instance σ τ _ _ _ _ one_fresh k = refl
  one_instance σ τ _ _ _ _ (one_symbol {ρ = ρ} {ξ = ζ} {f = f} {ts = ts} {us = us} h) k = ap (apply f) (one_row σ τ ρ ζ ts us h k)

  one_row : (σ τ : Choice) (ρ ζ : List Pair) (ts us : Trees) → AreAlikeRows ρ ts us ζ → AreLinked ζ σ τ → instances σ ts ≡ instances τ us
  one_row σ τ _ _ _ _ row_ends k = refl
  one_row σ τ _ _ _ _ (row_goes_on {ρ = ρ} {ξ = ξ} {ζ = ζ} {t = t} {u = u} {ts = ts} {us = us} h i) k =
      let first = one_instance σ τ ρ ξ t u h (λ x y s l. k x y s (stay_bound ξ ζ (trees_vars ts) (trees_vars us) (row_vars ξ ζ ts us i) x y l)) in
      let later = one_row σ τ ξ ζ ts us i k in
      λ j. more (first j) (later j)

each_of : (σ : Choice) (ts : List Tree) → map (instance σ) ts ≡ list_of (instances σ (trees_of ts))
each_of σ [] = refl
each_of σ (t ∷ ts) = ap (λ us. instance σ t ∷ us) (each_of σ ts)

pub one_fact_list : (σ τ : Choice) (ρ ζ : List Pair) (fs hs : List Fact) → AreAlikeFacts ρ fs hs ζ → AreLinked ζ σ τ → instance_facts σ fs ≡ instance_facts τ hs
one_fact_list σ τ _ _ _ _ facts_end k = refl
one_fact_list σ τ _ _ _ _ (facts_go_on {ρ = ρ} {ξ = ξ} {ζ = ζ} {n = n} {b = b} {ts = ts} {us = us} {fs = fs} {hs = hs} h i) k =
    let row = one_row σ τ ρ ξ (trees_of ts) (trees_of us) h (λ x y s l. k x y s (stay_bound ξ ζ (facts_vars fs) (facts_vars hs) (fact_vars ξ ζ fs hs i) x y l)) in
    let args = each_of σ ts ∙ ap list_of row ∙ sym (each_of τ us) in
    let later = one_fact_list σ τ ξ ζ fs hs i k in
    λ j. fact n b (args j) ∷ later j
