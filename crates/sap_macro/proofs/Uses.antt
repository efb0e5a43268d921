-- A use stands for the definition's instance, and an expansion is one process up to names.
use Rattle.std.proofs.Common.{◌≡◌, ℕ, Bool, true, false, List, [], ◌∷◌, map, refl, sym, ap, ap₂, ◌∙◌, subst, ⊎_elim}
use Rattle.std.proofs.lemmas.Bool.{cases_Bool, false≢true}
use Rattle.std.specs.Prelude.{if◌then◌else◌}
use Rattle.std.specs.Str.{bytes_eq}
use Rattle.sap_terms.specs.Choice.{Choice, instance}
use Rattle.sap_terms.specs.Ground.{AreGround}
use Rattle.sap_terms.specs.Tree.{Tree, public, trees_of}
use Rattle.sap_terms.specs.Variables.{is_known}
use Rattle.sap_terms.specs.declared.var.Var.{Var}
use Rattle.sap_process.specs.Action.{Action}
use Rattle.sap_process.specs.Instance.{action_instance, process_instance}
use Rattle.sap_process.specs.Proc as whole
use Rattle.sap_macro.specs.Expansion.{binders, own_names, Expanded, expanded_as, Meaning, same_name, by_names, unchanged, put, binding, expanded, entered, with_definition, no_meaning, meaning_after, meaning_of}
use Rattle.sap_macro.specs.Instances.{written_instance, instance_by, IsClosed, Keeps, AreTaken}
use Rattle.sap_macro.specs.NewNames.{renamed, taken_after}
use Rattle.sap_macro.specs.UpToNames.{Pair, lefts, rights, AreAlikeTerms, both_public, AreAlikeLists, both_more, AreAlike, both_nil}
use Rattle.sap_macro.specs.Written.{Written, nil, call, parallel, replicated, act, test, lookup, Definition}
use Rattle.sap_terms.proofs.PlainLaws.Known.{clash, two_names, in_cases, not_in}
use Rattle.sap_macro.proofs.Moving.{all_ground}
use Rattle.sap_macro.proofs.Scopes.{Among, binder_is_new, is_once, once_is, grown, renamed_is_new, renamed_is_taken, renamed_one}
use Rattle.sap_macro.proofs.Commuting.{IsSteady, same_taken, taken_grows, keeps_more, Commutes, commuted}
use Rattle.sap_macro.proofs.AlikeExpansions.{Respects, alike}
use Rattle.sap_macro.proofs.Kept.{action_kept, each_kept, kept}

-- each of these definitions is closed
abbrev pub AreClosed : List Definition → Type 0
AreClosed [] = Unit {0}
AreClosed (d ∷ ds) = IsClosed d.params d.body × AreClosed ds

-- a name that is no parameter
pub put_other : (ys : List (List ℕ)) (ts : List Tree) (o : Choice) (v : Var) → is_known ys v.name ≡ false → put ys ts o v ≡ o v
put_other [] ts o v h = refl
put_other (y ∷ ys) [] o v h =
    let k = not_in v.name y ys h in ap (λ z. if z then public [] else put ys [] o v) k.0 ∙ put_other ys [] o v k.1
put_other (y ∷ ys) (t ∷ ts) o v h =
    let k = not_in v.name y ys h in ap (λ z. if z then t else put ys ts o v) k.0 ∙ put_other ys ts o v k.1

pub later_param : (y : List ℕ) (ys : List (List ℕ)) (x : List ℕ) → is_known (y ∷ ys) x ≡ true → bytes_eq y x ≡ false → is_known ys x ≡ true
later_param y ys x h e = ⊎_elim (λ f. absurd (two_names y x e f)) (λ k. k) (in_cases x y ys h)

-- a parameter's argument under a choice
pub put_instance : (σ : Choice) (ys : List (List ℕ)) (ts : List Tree) (o u : Choice) (v : Var) → is_known ys v.name ≡ true
    → instance σ (put ys ts o v) ≡ put ys (map (instance σ) ts) u v
put_instance σ [] ts o u v h = absurd (false≢true h)
put_instance σ (y ∷ ys) [] o u v h =
    ⊎_elim (λ e. ap (λ z. instance σ (if z then public [] else put ys [] o v)) e ∙ sym (ap (λ z. if z then public [] else put ys [] u v) e))
    (λ e. ap (λ z. instance σ (if z then public [] else put ys [] o v)) e ∙ put_instance σ ys [] o u v (later_param y ys v.name h e)
    ∙ sym (ap (λ z. if z then public [] else put ys [] u v) e))
    (cases_Bool (bytes_eq y v.name))
put_instance σ (y ∷ ys) (t ∷ ts) o u v h =
    ⊎_elim (λ e. ap (λ z. instance σ (if z then t else put ys ts o v)) e ∙ sym (ap (λ z. if z then instance σ t else put ys (map (instance σ) ts) u v) e))
    (λ e. ap (λ z. instance σ (if z then t else put ys ts o v)) e ∙ put_instance σ ys ts o u v (later_param y ys v.name h e)
    ∙ sym (ap (λ z. if z then instance σ t else put ys (map (instance σ) ts) u v) e))
    (cases_Bool (bytes_eq y v.name))

pub either_way : {A : Type 0} (P : A → Type 0) (b : Bool) (x y : A) → (b ≡ true → P x) → (b ≡ false → P y) → P (if b then x else y)
either_way P true x y h k = h refl
either_way P false x y h k = k refl

both_ways : {A : Type 0} (P : A → A → Type 0) (b : Bool) (x y u v : A) → (b ≡ true → P x u) → (b ≡ false → P y v) → P (if b then x else y) (if b then u else v)
both_ways P true x y u v h k = h refl
both_ways P false x y u v h k = k refl

-- arguments that are equal up to names
put_alike : (ρ : List Pair) (ys : List (List ℕ)) (ts us : List Tree) (o u : Choice) (v : Var) → AreAlikeLists ρ (trees_of ts) (trees_of us) → is_known ys v.name ≡ true
    → AreAlikeTerms ρ (put ys ts o v) (put ys us u v)
put_alike ρ [] ts us o u v l h = absurd (false≢true h)
put_alike ρ (y ∷ ys) [] [] o u v l h =
    both_ways (AreAlikeTerms ρ) (bytes_eq y v.name) (public []) (put ys [] o v) (public []) (put ys [] u v) (λ e. both_public) (λ e. put_alike ρ ys [] [] o u v l (later_param y ys v.name h e))
put_alike ρ (y ∷ ys) [] (w ∷ us) o u v l h = elim l [ ]
put_alike ρ (y ∷ ys) (t ∷ ts) [] o u v l h = elim l [ ]
put_alike ρ (y ∷ ys) (t ∷ ts) (w ∷ us) o u v (both_more a l) h =
    both_ways (AreAlikeTerms ρ) (bytes_eq y v.name) t (put ys ts o v) w (put ys us u v) (λ e. a) (λ e. put_alike ρ ys ts us o u v l (later_param y ys v.name h e))

-- ---- what uses mean, definition by definition

-- what the definition binds is among its own names, and no other is
pub own_has : (d : Definition) → Among (binders d.params d.body) (own_names d)
own_has d x h = ⊎_elim (λ e. absurd (false≢true e)) (λ k. k) (is_once [] (binders d.params d.body) x h)

pub own_is_new : (d : Definition) → IsClosed d.params d.body → (x : List ℕ) → is_known (own_names d) x ≡ true → is_known d.params x ≡ false
own_is_new d closed x h = binder_is_new d.params d.body closed x (once_is [] (binders d.params d.body) x h)

module _ (m : Meaning) (steady : IsSteady m) where
  pub steady_with : (d : Definition) → IsSteady (with_definition m d)
  steady_with d = record {
    same = λ f ts us taken.
        let b = renamed taken (own_names d) in
        both_ways (λ (x y : Expanded). x.taken ≡ y.taken) (bytes_eq d.name f) (entered m d ts taken) (m f ts taken) (entered m d us taken) (m f us taken)
        (λ e. same_taken m steady (put d.params ts (by_names b)) (put d.params us (by_names b)) b b d.body (taken_after taken (own_names d))) (λ e. steady.same f ts us taken);
    grows = λ f ts taken x h.
        let b = renamed taken (own_names d) in
        either_way (λ (e : Expanded). is_known e.taken x ≡ true) (bytes_eq d.name f) (entered m d ts taken) (m f ts taken)
        (λ e. taken_grows m steady (put d.params ts (by_names b)) b d.body (taken_after taken (own_names d)) x (grown taken (own_names d) x h)) (λ e. steady.grows f ts taken x h);
  }

  -- a use of a definition, under a choice
  pub entered_commutes : Commutes m → (d : Definition) → IsClosed d.params d.body → (ts : List Tree) (taken : List (List ℕ)) (σ : Choice) → Keeps σ taken
      → process_instance σ (entered m d ts taken).process ≡ (entered m d (map (instance σ) ts) taken).process
  entered_commutes commuting d closed ts taken σ k =
      let bs = own_names d in
      let b = renamed taken bs in
      commuted m steady commuting σ (put d.params ts (by_names b)) (put d.params (map (instance σ) ts) (by_names b)) b bs
      (λ v i. let other = own_is_new d closed v.name i in
      ap (instance σ) (put_other d.params ts (by_names b) v other) ∙ k.keeps (b v.name) v.sort (renamed_is_new taken bs v.name i) ∙ sym (put_other d.params (map (instance σ) ts) (by_names b) v other))
      (λ x s i. k.keeps (b x) s (renamed_is_new taken bs x i)) d.params d.body (taken_after taken bs) closed (own_has d)
      (λ v i. put_instance σ d.params ts (by_names b) (by_names b) v i) (keeps_more σ taken (taken_after taken bs) k (grown taken bs))

  commutes_with : Commutes m → (d : Definition) → IsClosed d.params d.body → Commutes (with_definition m d)
  commutes_with commuting d closed = record {
    commutes = λ f ts taken σ k.
        both_ways (λ (x y : Expanded). process_instance σ x.process ≡ y.process) (bytes_eq d.name f) (entered m d ts taken) (m f ts taken)
        (entered m d (map (instance σ) ts) taken) (m f (map (instance σ) ts) taken)
        (λ e. entered_commutes commuting d closed ts taken σ k) (λ e. commuting.commutes f ts taken σ k);
  }

  entered_alike : Respects m → (d : Definition) → IsClosed d.params d.body → (ts us : List Tree) (c e : List (List ℕ)) (ρ : List Pair) → AreAlikeLists ρ (trees_of ts) (trees_of us)
      → Among (lefts ρ) c → Among (rights ρ) e → AreAlike ρ (entered m d ts c).process (entered m d us e).process
  entered_alike respecting d closed ts us c e ρ l h k =
      let bs = own_names d in
      let a = renamed c bs in
      let b = renamed e bs in
      alike m steady respecting (put d.params ts (by_names a)) (put d.params us (by_names b)) a b bs
      (λ v i. put_other d.params ts (by_names a) v (own_is_new d closed v.name i)) (λ v i. put_other d.params us (by_names b) v (own_is_new d closed v.name i))
      (λ x z i j f. renamed_one c bs x z i j f) (λ x z i j f. renamed_one e bs x z i j f)
      (taken_after c bs) (taken_after e bs) ρ d.params d.body closed (own_has d)
      (record {
        linked = λ v i. put_alike ρ d.params ts us (by_names a) (by_names b) v l i;
        left_new = λ x i n. ⊎_elim (λ f. clash (is_known c (a x)) (h (a x) f) (renamed_is_new c bs x i)) (λ f. f) (cases_Bool (is_known (lefts ρ) (a x)));
        right_new = λ x i n. ⊎_elim (λ f. clash (is_known e (b x)) (k (b x) f) (renamed_is_new e bs x i)) (λ f. f) (cases_Bool (is_known (rights ρ) (b x)));
        left_taken = λ x i. grown c bs x (h x i);
        right_taken = λ x i. grown e bs x (k x i);
        left_names = λ x i. renamed_is_taken c bs x i;
        right_names = λ x i. renamed_is_taken e bs x i;
      })

  respects_with : Respects m → (d : Definition) → IsClosed d.params d.body → Respects (with_definition m d)
  respects_with respecting d closed = record {
    respects = λ f ts us c e ρ l h k.
        both_ways (λ (x y : Expanded). AreAlike ρ x.process y.process) (bytes_eq d.name f) (entered m d ts c) (m f ts c) (entered m d us e) (m f us e)
        (λ i. entered_alike respecting d closed ts us c e ρ l h k) (λ i. respecting.respects f ts us c e ρ l h k);
  }

  -- a use on ground terms is its instance, up to names
  pub entered_instance : Respects m → (d : Definition) → IsClosed d.params d.body → (ts : List Tree) (taken other : List (List ℕ)) → AreGround (trees_of ts)
      → AreTaken other d.params d.body → AreAlike [] (entered m d ts taken).process (expanded m (put d.params ts unchanged) same_name d.body other).process
  entered_instance respecting d closed ts taken other g o =
      let bs = own_names d in
      let a = renamed taken bs in
      alike m steady respecting (put d.params ts (by_names a)) (put d.params ts unchanged) a same_name bs
      (λ v i. put_other d.params ts (by_names a) v (own_is_new d closed v.name i)) (λ v i. put_other d.params ts unchanged v (own_is_new d closed v.name i))
      (λ x z i j f. renamed_one taken bs x z i j f) (λ x z i j f. f) (taken_after taken bs) other [] d.params d.body closed (own_has d)
      (record {
        linked = λ v i. put_alike [] d.params ts ts (by_names a) unchanged v (all_ground [] (trees_of ts) g) i;
        left_new = λ x i n. refl;
        right_new = λ x i n. refl;
        left_taken = λ x i. absurd (false≢true i);
        right_taken = λ x i. absurd (false≢true i);
        left_names = λ x i. renamed_is_taken taken bs x i;
        right_names = λ x i. o.holds x (once_is [] (binders d.params d.body) x i);
      })

-- what a meaning has where definitions are closed
pub record AllHold (m : Meaning) : Type 0 where
  pub steady : IsSteady m
  pub commutes : Commutes m
  pub respects : Respects m

holds_after : (m : Meaning) (ds : List Definition) → AreClosed ds → AllHold m → AllHold (meaning_after m ds)
holds_after m [] closed h = h
holds_after m (d ∷ ds) closed h =
    holds_after (with_definition m d) ds closed.1
    (record { steady = steady_with m h.steady d; commutes = commutes_with m h.steady h.commutes d closed.0; respects = respects_with m h.steady h.respects d closed.0 })

pub all_hold : (ds : List Definition) → AreClosed ds → AllHold (meaning_of ds)
all_hold ds closed =
    holds_after no_meaning ds closed
    (record {
      steady = record { same = λ f ts us taken. refl; grows = λ f ts taken x h. h };
      commutes = record { commutes = λ f ts taken σ k. refl };
      respects = record { respects = λ f ts us c d ρ l h k. both_nil };
    })

-- ---- the instance as a process that is written

-- to put terms and to expand is to expand with the terms
pub at_once : (m : Meaning) (σ : Choice) (p : Written) (taken : List (List ℕ)) → expanded m unchanged same_name (written_instance σ p) taken ≡ expanded m σ same_name p taken
at_once m σ nil taken = refl
at_once m σ (call f ts) taken = ap (λ us. m f us taken) (each_kept (map (instance σ) ts))
at_once m σ (parallel p q) taken =
    let second = ap (λ t. expanded m unchanged same_name (written_instance σ q) t) (ap (λ (e : Expanded). e.taken) (at_once m σ p taken)) ∙ at_once m σ q (expanded m σ same_name p taken).taken in
    ap₂ (λ (e h : Expanded). expanded_as (whole.parallel e.process h.process) h.taken) (at_once m σ p taken) second
at_once m σ (replicated p) taken = ap (λ (e : Expanded). expanded_as (whole.replicated e.process) e.taken) (at_once m σ p taken)
at_once m σ (act a p) taken =
    ap₂ (λ (z : Action) (e : Expanded). expanded_as (whole.act (binding same_name z) e.process) e.taken) (action_kept (action_instance σ a)) (at_once m σ p taken)
at_once m σ (test t u p q) taken =
    let first = at_once m σ p taken in
    let second = ap (λ t. expanded m unchanged same_name (written_instance σ q) t) (ap (λ (e : Expanded). e.taken) first) ∙ at_once m σ q (expanded m σ same_name p taken).taken in
    λ i. expanded_as (whole.test (kept (instance σ t) i) (kept (instance σ u) i) (first i).process (second i).process) (second i).taken
at_once m σ (lookup t x p q) taken =
    let first = at_once m σ p taken in
    let second = ap (λ t. expanded m unchanged same_name (written_instance σ q) t) (ap (λ (e : Expanded). e.taken) first) ∙ at_once m σ q (expanded m σ same_name p taken).taken in
    λ i. expanded_as (whole.lookup (kept (instance σ t) i) x (first i).process (second i).process) (second i).taken

-- ---- the laws

pub uses_are_instances : (ds : List Definition) (d : Definition) (ts : List Tree) (σ : Choice) (taken other : List (List ℕ)) → AreClosed ds → IsClosed d.params d.body
    → AreGround (trees_of (map (instance σ) ts)) → Keeps σ taken → AreTaken other d.params d.body
    → AreAlike [] (process_instance σ (entered (meaning_of ds) d ts taken).process)
    (expanded (meaning_of ds) unchanged same_name (instance_by d (map (instance σ) ts)) other).process
uses_are_instances ds d ts σ taken other all closed g k o =
    let m = meaning_of ds in
    let us = map (instance σ) ts in
    let h = all_hold ds all in
    let moved = entered_commutes m h.steady h.commutes d closed ts taken σ k in
    let one = ap (λ (e : Expanded). e.process) (at_once m (put d.params us unchanged) d.body other) in
    subst (AreAlike [] (process_instance σ (entered m d ts taken).process)) (sym one)
    (subst (λ p. AreAlike [] p (expanded m (put d.params us unchanged) same_name d.body other).process) (sym moved)
    (entered_instance m h.steady h.respects d closed us taken other g o))

pub expansions_are_one : (ds : List Definition) (p : Written) (taken other : List (List ℕ)) → AreClosed ds → IsClosed [] p → AreTaken taken [] p → AreTaken other [] p
    → AreAlike [] (expanded (meaning_of ds) unchanged same_name p taken).process (expanded (meaning_of ds) unchanged same_name p other).process
expansions_are_one ds p taken other all closed h k =
    let m = meaning_of ds in
    let own = all_hold ds all in
    alike m own.steady own.respects unchanged unchanged same_name same_name (binders [] p) (λ v i. refl) (λ v i. refl) (λ x z i j f. f) (λ x z i j f. f)
    taken other [] [] p closed (λ x i. i)
    (record {
      linked = λ v i. absurd (false≢true i);
      left_new = λ x i n. refl;
      right_new = λ x i n. refl;
      left_taken = λ x i. absurd (false≢true i);
      right_taken = λ x i. absurd (false≢true i);
      left_names = h.holds;
      right_names = k.holds;
    })
