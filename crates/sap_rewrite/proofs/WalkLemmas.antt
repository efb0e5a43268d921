-- One walk over a pattern finds its match, and there is no other.
use Rattle.std.proofs.Common.{◌≡◌, ℕ, suc, length, Bool, true, false, ◌||◌, inl, inr, List, [], ◌∷◌, ◌++◌, Option, Some, None, map, cond, is_some, refl, sym, ap, subst, ◌∙◌, append_assoc, unwrap_or}
use Rattle.std.proofs.lemmas.List.{append-nil, map-append}
use Rattle.std.proofs.lemmas.Option.{option_and_then_some, same_Some}
use Rattle.std.proofs.lemmas.Slice.Eq.{bytes_eq-Decides}
use Rattle.std.specs.Str.{bytes_eq}
use Rattle.sap_terms.specs.declared.var.Var.{Var}
use Rattle.sap_terms.specs.declared.binding.Binding.{Binding}
use Rattle.sap_terms.specs.Same.{same_tree}
use Rattle.sap_terms.specs.Tree.{Tree, variable, public, fresh, apply, Trees, none, more, trees_of}
use Rattle.sap_terms.specs.declared.term.Term.{Term}
use Rattle.sap_terms.specs.View.{tree, term, term-tree, tree-term}
use Rattle.sap_terms.specs.Subst.{bound_to}
use Rattle.sap_terms.proofs.PlainLaws.Tests.{same_tree-sound, same_tree-refl, same_name}
use Rattle.sap_terms.specs.Choice.{fits_sort}
use Rattle.sap_rewrite.specs.Match.{AllSorted, names, Extends}
use Rattle.sap_terms.specs.Variables.{is_known, new_vars}
use Rattle.sap_parts.specs.Parts.{guard, ◌>>=◌}
use Rattle.sap_rewrite.specs.code.Walk.{bound, match_variable, match_tree, match_trees}
use Rattle.sap_rewrite.proofs.Skips.{met_vars, all_met_vars, FitsBut, AllFitBut}

bound_to-bound : (b : List Binding) (v : Var) → bound_to b v ≡ unwrap_or (bound b v.name) (variable v)
bound_to-bound [] v = refl
bound_to-bound (e ∷ es) v =
    elim (bytes_eq e.var.name v.name) as (λ r. cond r (tree e.term) (bound_to es v) ≡ unwrap_or (cond r (Some (tree e.term)) (bound es v.name)) (variable v)) [ true ↦ refl | false ↦ bound_to-bound es v ]

known-bound : (b : List Binding) (n : List ℕ) → is_known (names b) n ≡ is_some (bound b n)
known-bound [] n = refl
known-bound (e ∷ es) n =
    elim (bytes_eq e.var.name n) as (λ r. (r || is_known (names es) n) ≡ is_some (cond r (Some (tree e.term)) (bound es n))) [ true ↦ refl | false ↦ known-bound es n ]

bound-kept : (b d : List Binding) (n : List ℕ) (u : Tree) → bound b n ≡ Some u → bound (b ++ d) n ≡ Some u
bound-kept [] d n u = λ h. cc
bound-kept (e ∷ es) d n u =
    elim (bytes_eq e.var.name n) as (λ r. cond r (Some (tree e.term)) (bound es n) ≡ Some u → cond r (Some (tree e.term)) (bound (es ++ d) n) ≡ Some u) [ true ↦ λ h. h | false ↦ λ h. bound-kept es d n u h ]

bound-after : (b d : List Binding) (n : List ℕ) → bound b n ≡ None → bound (b ++ d) n ≡ bound d n
bound-after [] d n = λ h. refl
bound-after (e ∷ es) d n =
    elim (bytes_eq e.var.name n) as (λ r. cond r (Some (tree e.term)) (bound es n) ≡ None → cond r (Some (tree e.term)) (bound (es ++ d) n) ≡ bound d n) [ true ↦ λ h. cc | false ↦ λ h. bound-after es d n h ]

new_vars-append : (known : List (List ℕ)) (vs ws : List Var) → new_vars known (vs ++ ws) ≡ new_vars known vs ++ new_vars (known ++ map (λ (v : Var). v.name) (new_vars known vs)) ws
new_vars-append known [] ws = rw append-nil refl
new_vars-append known (v ∷ vs) ws =
    elim (is_known known v.name) as (λ r. cond r (new_vars known (vs ++ ws)) (v ∷ new_vars (known ++ v.name ∷ []) (vs ++ ws)) ≡ cond r (new_vars known vs) (v ∷ new_vars (known ++ v.name ∷ []) vs) ++ new_vars (known ++ map (λ (v : Var). v.name) (cond r (new_vars known vs) (v ∷ new_vars (known ++ v.name ∷ []) vs))) ws) [ true ↦ new_vars-append known vs ws | false ↦ rw (new_vars-append (known ++ v.name ∷ []) vs ws, append_assoc) refl ]

AllSorted-append : (b d : List Binding) → AllSorted b → AllSorted d → AllSorted (b ++ d)
AllSorted-append [] d p q = q
AllSorted-append (e ∷ es) d p q = (p.0, AllSorted-append es d p.1 q)

pub added_names : (a : List Binding) (vs : List Var) → map (λ (e : Binding). e.var) a ≡ vs → names a ≡ map (λ (v : Var). v.name) vs
added_names a vs h = sym (fused a) ∙ ap (map (λ (v : Var). v.name)) h where
  fused : (a : List Binding) → map (λ (v : Var). v.name) (map (λ (e : Binding). e.var) a) ≡ names a
  fused [] = refl
  fused (e ∷ es) = ap (λ ns. e.var.name ∷ ns) (fused es)

pub extends_none : (b : List Binding) → Extends b [] b
extends_none b = record { added = []; is = sym (append-nil b); on = refl; sorted = tt }

pub extends_join : (b c d : List Binding) (vs ws : List Var) → Extends b vs c → Extends c ws d → Extends b (vs ++ ws) d
extends_join b c d vs ws p q =
    let known : names c ≡ names b ++ map (λ (v : Var). v.name) (new_vars (names b) vs) =
    ap names p.is ∙ map-append (λ (e : Binding). e.var.name) b p.added ∙ ap (λ ns. names b ++ ns) (added_names p.added (new_vars (names b) vs) p.on) in
    record {
      added = p.added ++ q.added;
      is = q.is ∙ ap (λ xs. xs ++ q.added) p.is ∙ append_assoc b p.added q.added;
      on =
          map-append (λ (e : Binding). e.var) p.added q.added ∙ ap (λ xs. xs ++ map (λ (e : Binding). e.var) q.added) p.on ∙ ap (λ xs. new_vars (names b) vs ++ xs) (q.on ∙ ap (λ ns. new_vars ns ws) known) ∙ sym (new_vars-append (names b) vs ws);
      sorted = AllSorted-append p.added q.added p.sorted q.sorted;
    }

-- what a walk that succeeds has found
pub record Found (s : List ℕ → Bool) (p t : Tree) (b c : List Binding) : Type 0 where
  pub extends : Extends b (met_vars s p) c
  pub fits : (d : List Binding) → FitsBut s (bound_to (c ++ d)) p t

pub record FoundAll (s : List ℕ → Bool) (ps ts : Trees) (b c : List Binding) : Type 0 where
  pub extends : Extends b (all_met_vars s ps) c
  pub fit : (d : List Binding) → AllFitBut s (bound_to (c ++ d)) ps ts

guard_some : {A P : Type 0} (b : Bool) (o : Option A) (r : A) → guard b o ≡ Some r → (b ≡ true → o ≡ Some r → P) → P
guard_some true o r h k = k refl h
guard_some false o r h k = cc

if_some : {P : Type 0} (r : Bool) (b : List Binding) (o : Option (List Binding)) (c : List Binding) → cond r (Some b) o ≡ Some c → (r ≡ true → b ≡ c → P) → (r ≡ false → o ≡ Some c → P) → P
if_some true b o c h k l = k refl (same_Some _ _ h)
if_some false b o c h k l = l refl h

found_bound : (s : List ℕ → Bool) (v : Var) (t u : Tree) (b : List Binding) → bound b v.name ≡ Some u → u ≡ t → Found s (variable v) t b b
found_bound s v t u b h e =
    let known : is_known (names b) v.name ≡ true = known-bound b v.name ∙ ap is_some h in
    record {
      extends = record { added = []; is = sym (append-nil b); on = rw known refl; sorted = tt };
      fits = λ d. bound_to-bound (b ++ d) v ∙ ap (λ o. unwrap_or o (variable v)) (bound-kept b d v.name u h) ∙ e;
    }

found_new : (s : List ℕ → Bool) (v : Var) (t : Tree) (b : List Binding) → bound b v.name ≡ None → fits_sort v.sort t ≡ true → Found s (variable v) t b (b ++ record { var = v; term = term t } ∷ [])
found_new s v t b h f =
    let known : is_known (names b) v.name ≡ false = known-bound b v.name ∙ ap is_some h in
    let e : Binding = record { var = v; term = term t } in
    record {
      extends = record {
        added = e ∷ [];
        is = refl;
        on = rw known refl;
        sorted = (ap (fits_sort v.sort) (tree-term t) ∙ f, tt);
      };
      fits =
          λ d. bound_to-bound ((b ++ e ∷ []) ++ d) v ∙ ap (λ xs. unwrap_or (bound xs v.name) (variable v)) (append_assoc b (e ∷ []) d) ∙ ap (λ o. unwrap_or o (variable v)) (bound-after b (e ∷ d) v.name h) ∙ ap (λ r. unwrap_or (cond r (Some (tree (term t))) (bound d v.name)) (variable v)) (same_name v.name) ∙ tree-term t;
    }

walk_variable : (s : List ℕ → Bool) (v : Var) (t : Tree) (b c : List Binding) (o : Option Tree) → bound b v.name ≡ o → match_variable v t b o ≡ Some c → Found s (variable v) t b c
walk_variable s v t b c (Some u) h m =
    guard_some (same_tree u t) (Some b) c m (λ f e. subst (λ x. Found s (variable v) t b x) (same_Some _ _ e) (found_bound s v t u b h (same_tree-sound u t f)))
walk_variable s v t b c None h m =
    guard_some (fits_sort v.sort t) (Some (b ++ record { var = v; term = term t } ∷ [])) c m (λ f e. subst (λ x. Found s (variable v) t b x) (same_Some _ _ e) (found_new s v t b h f))

-- a symbol that is skipped
found_skipped : (s : List ℕ → Bool) (f : List ℕ) (ps : Trees) (t : Tree) (b c : List Binding) → s f ≡ true → b ≡ c → Found s (apply f ps) t b c
found_skipped s f ps t b c h e =
    subst (λ x. Found s (apply f ps) t b x) e (record { extends = rw h (extends_none b); fits = λ d. inl h })

not_skipped : (s : List ℕ → Bool) (f : List ℕ) (ps : Trees) (t : Tree) (b c : List Binding) → cond (s f) (Some b) None ≡ Some c → Found s (apply f ps) t b c
not_skipped s f ps t b c m = if_some (s f) b None c m (λ h e. found_skipped s f ps t b c h e) (λ h e. cc)

mutual
  pub walk : (s : List ℕ → Bool) (p t : Tree) (b c : List Binding) → match_tree s p t b ≡ Some c → Found s p t b c
  walk s (variable v) t b c m = walk_variable s v t b c (bound b v.name) refl m
  walk s (public n) t b c m =
      guard_some (same_tree (public n) t) (Some b) c m (λ h e. subst (λ x. Found s (public n) t b x) (same_Some _ _ e) (record { extends = extends_none b; fits = λ d. same_tree-sound (public n) t h }))
  walk s (fresh k) t b c m =
      guard_some (same_tree (fresh k) t) (Some b) c m (λ h e. subst (λ x. Found s (fresh k) t b x) (same_Some _ _ e) (record { extends = extends_none b; fits = λ d. same_tree-sound (fresh k) t h }))
  walk s (apply f ps) (apply g ts) b c m =
      if_some (s f) b (guard (bytes_eq f g) (match_trees s ps ts b)) c m (λ h e. found_skipped s f ps (apply g ts) b c h e) (λ h m. guard_some (bytes_eq f g) (match_trees s ps ts b) c m (λ n m.
      let q = walk_all s ps ts b c m in
      record { extends = rw h q.extends; fits = λ d. inr (ts, ap (λ f. apply f ts) (sym ((bytes_eq-Decides f g).0 n)), q.fit d) }))
  walk s (apply f ps) (variable v) b c m = not_skipped s f ps (variable v) b c m
  walk s (apply f ps) (public n) b c m = not_skipped s f ps (public n) b c m
  walk s (apply f ps) (fresh k) b c m = not_skipped s f ps (fresh k) b c m

  walk_all : (s : List ℕ → Bool) (ps ts : Trees) (b c : List Binding) → match_trees s ps ts b ≡ Some c → FoundAll s ps ts b c
  walk_all s none none b c m = subst (λ x. FoundAll s none none b x) (same_Some _ _ m) (record { extends = extends_none b; fit = λ d. tt })
  walk_all s (more p ps) (more t ts) b c m =
      option_and_then_some (match_trees s ps ts) (match_tree s p t b) c m (λ b' m' h.
      let x = walk s p t b b' m' in
      let y = walk_all s ps ts b' c h in
      let longer = λ (d : List Binding). ap (λ xs. xs ++ d) y.extends.is ∙ append_assoc b' y.extends.added d in
      record {
        extends = extends_join b b' c (met_vars s p) (all_met_vars s ps) x.extends y.extends;
        fit = λ d. (subst (λ xs. FitsBut s (bound_to xs) p t) (sym (longer d)) (x.fits (y.extends.added ++ d)), y.fit d);
      })
  walk_all s none (more t ts) b c m = cc
  walk_all s (more p ps) none b c m = cc

no_bindings : (a : List Binding) → map (λ (e : Binding). e.var) a ≡ [] → a ≡ []
no_bindings [] h = refl
no_bindings (e ∷ es) h = cc

bound_last : (v : Var) (t : Tree) (b d : List Binding) (x : Binding) → bound b v.name ≡ None → x.var ≡ v → unwrap_or (bound ((b ++ x ∷ []) ++ d) v.name) (variable v) ≡ t → tree x.term ≡ t
bound_last v t b d x h m e =
    let name : bytes_eq x.var.name v.name ≡ true = (bytes_eq-Decides x.var.name v.name).1 (ap (λ (w : Var). w.name) m) in
    sym (ap (λ xs. unwrap_or (bound xs v.name) (variable v)) (append_assoc b (x ∷ []) d) ∙ ap (λ o. unwrap_or o (variable v)) (bound-after b (x ∷ d) v.name h) ∙ ap (λ r. unwrap_or (cond r (Some (tree x.term)) (bound d v.name)) (variable v)) name) ∙ e

same_guard : (p t : Tree) (b a : List Binding) → map (λ (e : Binding). e.var) a ≡ [] → p ≡ t → guard (same_tree p t) (Some b) ≡ Some (b ++ a)
same_guard p t b a m e =
    let P : Tree → Type 0 = λ u. guard (same_tree p u) (Some b) ≡ Some (b ++ a) in
    subst P e (rw (same_tree-refl p, no_bindings a m, append-nil) refl)

complete_variable : (v : Var) (t : Tree) (b a d : List Binding) (o : Option Tree) → bound b v.name ≡ o → map (λ (e : Binding). e.var) a ≡ cond (is_some o) [] (v ∷ []) → AllSorted a → unwrap_or (bound ((b ++ a) ++ d) v.name) (variable v) ≡ t → match_variable v t b o ≡ Some (b ++ a)
complete_variable v t b a d (Some u) h m s e =
    let is = bound-kept (b ++ a) d v.name u (bound-kept b a v.name u h) in
    same_guard u t b a m (sym (ap (λ o. unwrap_or o (variable v)) is) ∙ e)
complete_variable v t b [] d None h m s e = cc
complete_variable v t b (x ∷ []) d None h m s e =
    let var_is : x.var ≡ v = cc in
    let tree_is = bound_last v t b d x h var_is e in
    let P : Var → Tree → Type 0 = λ w u. match_variable w u b None ≡ Some (b ++ x ∷ []) in
    subst (λ w. P w t) var_is (subst (λ u. P x.var u) tree_is (rw (s.0, term-tree) refl))
complete_variable v t b (x ∷ y ∷ ys) d None h m s e = cc

record Split (a : List Binding) (us ws : List Var) : Type 0 where
  front : List Binding
  back : List Binding
  is : a ≡ front ++ back
  front_on : map (λ (e : Binding). e.var) front ≡ us
  back_on : map (λ (e : Binding). e.var) back ≡ ws
  both : AllSorted front × AllSorted back

split : (a : List Binding) (us ws : List Var) → map (λ (e : Binding). e.var) a ≡ us ++ ws → AllSorted a → Split a us ws
split a [] ws m s = record { front = []; back = a; is = refl; front_on = refl; back_on = m; both = (tt, s) }
split [] (u ∷ us) ws m s = cc
split (e ∷ es) (u ∷ us) ws m s =
    let first : e.var ≡ u = cc in
    let q = split es us ws (cc) s.1 in
    record {
      front = e ∷ q.front;
      back = q.back;
      is = ap (λ xs. e ∷ xs) q.is;
      front_on = λ i. first i ∷ q.front_on i;
      back_on = q.back_on;
      both = ((s.0, q.both.0), q.both.1);
    }

skip_some : (s : List ℕ → Bool) (f : List ℕ) (ps : Trees) (t : Tree) (b : List Binding) → s f ≡ true → match_tree s (apply f ps) t b ≡ Some b
skip_some s f ps (apply g ts) b h = rw h refl
skip_some s f ps (variable v) b h = rw h refl
skip_some s f ps (public n) b h = rw h refl
skip_some s f ps (fresh k) b h = rw h refl

complete_skipped : (s : List ℕ → Bool) (f : List ℕ) (ps : Trees) (t : Tree) (b a : List Binding) → s f ≡ true → map (λ (e : Binding). e.var) a ≡ new_vars (names b) (met_vars s (apply f ps)) → match_tree s (apply f ps) t b ≡ Some (b ++ a)
complete_skipped s f ps t b a h m =
    let nothing : map (λ (e : Binding). e.var) a ≡ [] = m ∙ ap (λ r. new_vars (names b) (cond r [] (all_met_vars s ps))) h in
    skip_some s f ps t b h ∙ ap Some (sym (append-nil b) ∙ ap (λ xs. b ++ xs) (sym (no_bindings a nothing)))

same_symbol : (s : List ℕ → Bool) (f : List ℕ) (ps ts : Trees) (t : Tree) (b c : List Binding) → s f ≡ false → t ≡ apply f ts → match_trees s ps ts b ≡ Some c → match_tree s (apply f ps) t b ≡ Some c
same_symbol s f ps ts t b c h e m = rw (e, h, same_name f) m

mutual
  complete : (s : List ℕ → Bool) (p t : Tree) (b a d : List Binding) → map (λ (e : Binding). e.var) a ≡ new_vars (names b) (met_vars s p) → AllSorted a → FitsBut s (bound_to ((b ++ a) ++ d)) p t → match_tree s p t b ≡ Some (b ++ a)
  complete s (variable v) t b a d m o h =
      complete_variable v t b a d (bound b v.name) refl (m ∙ ap (λ r. cond r [] (v ∷ [])) (known-bound b v.name)) o (sym (bound_to-bound ((b ++ a) ++ d) v) ∙ h)
  complete s (public n) t b a d m o h = same_guard (public n) t b a m h
  complete s (fresh k) t b a d m o h = same_guard (fresh k) t b a m h
  complete s (apply f ps) t b a d m o (inl h) = complete_skipped s f ps t b a h m
  complete s (apply f ps) t b a d m o (inr h) =
      elim (s f) as (λ r. s f ≡ r → match_tree s (apply f ps) t b ≡ Some (b ++ a)) [
        | true ↦ λ e. complete_skipped s f ps t b a e m
        | false ↦ λ e. same_symbol s f ps h.0 t b (b ++ a) e h.1 (complete_all s ps h.0 b a d (m ∙ ap (λ r. new_vars (names b) (cond r [] (all_met_vars s ps))) e) o h.2)
      ] refl

  complete_all : (s : List ℕ → Bool) (ps ts : Trees) (b a d : List Binding) → map (λ (e : Binding). e.var) a ≡ new_vars (names b) (all_met_vars s ps) → AllSorted a → AllFitBut s (bound_to ((b ++ a) ++ d)) ps ts → match_trees s ps ts b ≡ Some (b ++ a)
  complete_all s none none b a d m o h = rw (no_bindings a m, append-nil) refl
  complete_all s none (more t ts) b a d m o h = absurd h
  complete_all s (more p ps) none b a d m o h = absurd h
  complete_all s (more p ps) (more t ts) b a d m o h =
      let q = split a (new_vars (names b) (met_vars s p)) _ (m ∙ new_vars-append (names b) (met_vars s p) (all_met_vars s ps)) o in
      let x = q.front in
      let y = q.back in
      let whole : b ++ a ≡ (b ++ x) ++ y = ap (λ xs. b ++ xs) q.is ∙ sym (append_assoc b x y) in
      let all_is : (b ++ a) ++ d ≡ (b ++ x) ++ (y ++ d) = ap (λ xs. xs ++ d) whole ∙ append_assoc (b ++ x) y d in
      let known : names (b ++ x) ≡ names b ++ map (λ (v : Var). v.name) (new_vars (names b) (met_vars s p)) =
      map-append (λ (e : Binding). e.var.name) b x ∙ ap (λ ns. names b ++ ns) (added_names x (new_vars (names b) (met_vars s p)) q.front_on) in
      let head = complete s p t b x (y ++ d) q.front_on q.both.0 (subst (λ xs. FitsBut s (bound_to xs) p t) all_is h.0) in
      let tail = complete_all s ps ts (b ++ x) y d (q.back_on ∙ ap (λ ns. new_vars ns (all_met_vars s ps)) (sym known)) q.both.1 (subst (λ xs. AllFitBut s (bound_to (xs ++ d)) ps ts) whole h.1) in
      ap (λ o. o >>= match_trees s ps ts) head ∙ tail ∙ ap Some (sym whole)

-- bindings that extend and fit are what the walk gives, so there are no others
pub walk_finds : (s : List ℕ → Bool) (p t : Tree) (b c : List Binding) → Extends b (met_vars s p) c → FitsBut s (bound_to c) p t → match_tree s p t b ≡ Some c
walk_finds s p t b c x h =
    let is = append-nil (b ++ x.added) ∙ sym x.is in
    complete s p t b x.added [] x.on x.sorted (subst (λ xs. FitsBut s (bound_to xs) p t) (sym is) h) ∙ ap Some (sym x.is)

pub match_length : (s : List ℕ → Bool) (ps ts : List Tree) (b : List Binding) → (length ps ≡ length ts → ⊥) → match_trees s (trees_of ps) (trees_of ts) b ≡ None
match_length s [] [] b h = absurd (h refl)
match_length s [] (t ∷ ts) b h = refl
match_length s (p ∷ ps) [] b h = refl
match_length s (p ∷ ps) (t ∷ ts) b h =
    elim (match_tree s p t b) as (λ o. (o >>= match_trees s (trees_of ps) (trees_of ts)) ≡ None) [ None ↦ refl | Some c ↦ match_length s ps ts c (λ e. h (ap suc e)) ]

pub new_binding : (v : Var) (t : Term) (b c : List Binding) (e : Binding) → bound b v.name ≡ None → fits_sort v.sort (tree t) ≡ true → e.var ≡ v → e.term ≡ t → c ≡ b ++ e ∷ [] → match_variable v (tree t) b (bound b v.name) ≡ Some c
new_binding v t b c e h s p q is =
    let same_e : record { var = v; term = term (tree t) } ≡ e = λ i. record { var = sym p i; term = (term-tree t ∙ sym q) i } in
    ap (match_variable v (tree t) b) h ∙ rw s (ap (λ x. Some (b ++ x ∷ [])) same_e ∙ ap Some (sym is))

-- what an answer of the walk on a copy says of the walk
pub answered : (m : List Binding → Option (List Binding)) (b c d : List Binding) (r s : Bool) → c ≡ b → m c ≡ cond r (Some d) None → r ≡ s → m b ≡ cond s (Some d) None
answered m b c d r s e h q = ap m (sym e) ∙ h ∙ ap (λ r. cond r (Some d) None) q
