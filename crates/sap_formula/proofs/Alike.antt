-- Truth on two traces whose times correspond.
use Rattle.std.proofs.Common.{◌≡◌, ℕ, ◌<◌, List, [], ◌∷◌, true, false, Some, refl, sym, subst, inl, inr, if◌then◌else◌, ◌↔◌}
use Rattle.std.specs.List.{AllZip}
use Rattle.std.specs.Str.{bytes_eq}
use Rattle.sap_formula.specs.Form.{Form, action, both, earlier, either, equal, equivalent, every, exists, falsity, implies, negation, same_time, truth}
use Rattle.sap_formula.specs.Truth.{AnyIn, Every, Exists, IsTrueUnder, Shows, Times, bind, facts_at, stamp}
use Rattle.sap_formula.specs.declared.binder.Binder.{Binder}
use Rattle.sap_formula.specs.declared.binder.Binder.TheVariants.{Message, Time}
use Rattle.sap_terms.specs.Choice.{Choice, instance, instances}
use Rattle.sap_terms.specs.Equal.{IsTheoryEqual}
use Rattle.sap_terms.specs.Signature.{Sig}
use Rattle.sap_terms.specs.Equations.{Equations}
use Rattle.sap_terms.specs.Trace.{Trace}
use Rattle.sap_terms.specs.Tree.{Tree, Trees, apply, fresh, more, none, public, trees_of, variable}
use Rattle.sap_terms.specs.declared.fact.Fact.{Fact}
use Rattle.sap_terms.specs.declared.var.Sort.{Sort}
use Rattle.sap_terms.specs.declared.var.Var.{Var}
use Rattle.sap_formula.specs.Checked.{AreCheckedTerms, IsChecked, IsCheckedTerm, enter, find_binder}

pub any_map : {X : Type 0} (P Q : X → Type 0) (xs : List X) → ((x : X) → P x → Q x) → AnyIn P xs → AnyIn Q xs
any_map P Q [] f a = absurd a
any_map P Q (x ∷ xs) f (inl p) = inl (f x p)
any_map P Q (x ∷ xs) f (inr a) = inr (any_map P Q xs f a)

-- the variables in scope have the same terms
abbrev pub Agree : List Binder → Choice → Choice → Type 0
Agree scope σ σ' = (v : Var) → find_binder scope v.name ≡ Some (Message v) → σ v ≡ σ' v

pub turned : (scope : List Binder) (σ σ' : Choice) → Agree scope σ σ' → Agree scope σ' σ
turned scope σ σ' a v h = sym (a v h)

mutual
  pub same_subst : (g : Sig) (scope : List Binder) (σ σ' : Choice) → Agree scope σ σ' → (t : Tree) → IsCheckedTerm g scope t → instance σ t ≡ instance σ' t
  same_subst g scope σ σ' a (variable v) c = a v c
  same_subst g scope σ σ' a (public n) c = refl
  same_subst g scope σ σ' a (fresh k) c = refl
  same_subst g scope σ σ' a (apply f ts) c = λ i. apply f (same_substs g scope σ σ' a ts c.2 i)

  pub same_substs : (g : Sig) (scope : List Binder) (σ σ' : Choice) → Agree scope σ σ' → (ts : Trees) → AreCheckedTerms g scope ts → instances σ ts ≡ instances σ' ts
  same_substs g scope σ σ' a none c = refl
  same_substs g scope σ σ' a (more t ts) c = λ i. more (same_subst g scope σ σ' a t c.0 i) (same_substs g scope σ σ' a ts c.1 i)

same_args : (g : Sig) (e : Equations) (scope : List Binder) (σ σ' : Choice) → Agree scope σ σ' → (ss ts : List Tree) → AreCheckedTerms g scope (trees_of ss) → AllZip (λ s t. IsTheoryEqual e (instance σ s) t) ss ts → AllZip (λ s t. IsTheoryEqual e (instance σ' s) t) ss ts
same_args g e scope σ σ' a [] [] c h = tt
same_args g e scope σ σ' a [] (t ∷ ts) c h = absurd h
same_args g e scope σ σ' a (s ∷ ss) [] c h = absurd h
same_args g e scope σ σ' a (s ∷ ss) (t ∷ ts) c h = (subst (λ u. IsTheoryEqual e u t) (same_subst g scope σ σ' a s c.0) h.0, same_args g e scope σ σ' a ss ts c.1 h.1)

-- the variables in scope have the same terms and times that correspond
pub record Alike (M : ℕ → ℕ → Type 0) (scope : List Binder) (σ : Choice) (τ : Times) (σ' : Choice) (τ' : Times) : Type 0 where
  pub terms : Agree scope σ σ'
  pub times : (n : List ℕ) → find_binder scope n ≡ Some (Time n) → M (τ n) (τ' n)

alike_message : (M : ℕ → ℕ → Type 0) (scope : List Binder) (σ : Choice) (τ : Times) (σ' : Choice) (τ' : Times) (v : Var) (t : Tree) → Alike M scope σ τ σ' τ' → Alike M (Message v ∷ scope) (bind v t σ) τ (bind v t σ') τ'
alike_message M scope σ τ σ' τ' v t a = record {
  terms = λ w. elim (bytes_eq v.name w.name) as (λ b. (if b then Some (Message v) else find_binder scope w.name) ≡ Some (Message w) → (if b then t else σ w) ≡ (if b then t else σ' w)) [ true ↦ λ h. refl | false ↦ λ h. a.terms w h ];
  times = λ n. elim (bytes_eq v.name n) as (λ b. (if b then Some (Message v) else find_binder scope n) ≡ Some (Time n) → M (τ n) (τ' n)) [ true ↦ λ h. absurd (cc) | false ↦ λ h. a.times n h ];
}

alike_time : (M : ℕ → ℕ → Type 0) (scope : List Binder) (σ : Choice) (τ : Times) (σ' : Choice) (τ' : Times) (m : List ℕ) (k k' : ℕ) → M k k' → Alike M scope σ τ σ' τ' → Alike M (Time m ∷ scope) σ (stamp m k τ) σ' (stamp m k' τ')
alike_time M scope σ τ σ' τ' m k k' i a = record {
  terms = λ w. elim (bytes_eq m w.name) as (λ b. (if b then Some (Time m) else find_binder scope w.name) ≡ Some (Message w) → σ w ≡ σ' w) [ true ↦ λ h. absurd (cc) | false ↦ λ h. a.terms w h ];
  times = λ n. elim (bytes_eq m n) as (λ b. (if b then Some (Time m) else find_binder scope n) ≡ Some (Time n) → M (if b then k else τ n) (if b then k' else τ' n)) [ true ↦ λ h. i | false ↦ λ h. a.times n h ];
}

module _ (g : Sig) (V : List ℕ → Type 0) (tr tr' : Trace) (D D' : Sort → Tree → Type 0) (P P' : ℕ → Type 0) (M : ℕ → ℕ → Type 0) (terms : (s : Sort) (t : Tree) → D s t ↔ D' s t) (to : (k : ℕ) → P k → (k' : ℕ) × P' k' × M k k') (from : (k' : ℕ) → P' k' → (k : ℕ) × P k × M k k') (one : (i j i' j' : ℕ) → M i i' → M j j' → (i ≡ j) ↔ (i' ≡ j')) (order : (i j i' j' : ℕ) → M i i' → M j j' → (i < j) ↔ (i' < j')) (facts : (k k' : ℕ) → M k k' → (Q : Fact → Type 0) → ((x : Fact) → Q x → V x.name) → AnyIn Q (facts_at tr k) ↔ AnyIn Q (facts_at tr' k')) where
  every_alike : (bs : List Binder) (B B' : Choice → Times → Type 0) (scope : List Binder) → ((σ : Choice) (τ : Times) (σ' : Choice) (τ' : Times) → Alike M (enter bs scope) σ τ σ' τ' → B σ τ ↔ B' σ' τ') → (σ : Choice) (τ : Times) (σ' : Choice) (τ' : Times) → Alike M scope σ τ σ' τ' → Every D P bs B σ τ ↔ Every D' P' bs B' σ' τ'
  every_alike [] B B' scope f σ τ σ' τ' a = f σ τ σ' τ' a
  every_alike (Message v ∷ bs) B B' scope f σ τ σ' τ' a =
      let r = λ (t : Tree). every_alike bs B B' (Message v ∷ scope) f (bind v t σ) τ (bind v t σ') τ' (alike_message M scope σ τ σ' τ' v t a) in
      (λ h t d. (r t).0 (h t ((terms v.sort t).1 d)), λ h t d. (r t).1 (h t ((terms v.sort t).0 d)))
  every_alike (Time m ∷ bs) B B' scope f σ τ σ' τ' a =
      let r = λ (k k' : ℕ) (i : M k k'). every_alike bs B B' (Time m ∷ scope) f σ (stamp m k τ) σ' (stamp m k' τ') (alike_time M scope σ τ σ' τ' m k k' i a) in
      (λ h k' p. let w = from k' p in (r w.0 k' w.2).0 (h w.0 w.1), λ h k p. let w = to k p in (r k w.0 w.2).1 (h w.0 w.1))

  exists_alike : (bs : List Binder) (B B' : Choice → Times → Type 0) (scope : List Binder) → ((σ : Choice) (τ : Times) (σ' : Choice) (τ' : Times) → Alike M (enter bs scope) σ τ σ' τ' → B σ τ ↔ B' σ' τ') → (σ : Choice) (τ : Times) (σ' : Choice) (τ' : Times) → Alike M scope σ τ σ' τ' → Exists D P bs B σ τ ↔ Exists D' P' bs B' σ' τ'
  exists_alike [] B B' scope f σ τ σ' τ' a = f σ τ σ' τ' a
  exists_alike (Message v ∷ bs) B B' scope f σ τ σ' τ' a =
      let r = λ (t : Tree). exists_alike bs B B' (Message v ∷ scope) f (bind v t σ) τ (bind v t σ') τ' (alike_message M scope σ τ σ' τ' v t a) in
      (λ h. (h.0, (terms v.sort h.0).0 h.1, (r h.0).0 h.2), λ h. (h.0, (terms v.sort h.0).1 h.1, (r h.0).1 h.2))
  exists_alike (Time m ∷ bs) B B' scope f σ τ σ' τ' a =
      let r = λ (k k' : ℕ) (i : M k k'). exists_alike bs B B' (Time m ∷ scope) f σ (stamp m k τ) σ' (stamp m k' τ') (alike_time M scope σ τ σ' τ' m k k' i a) in
      (λ h. let w = to h.0 h.1 in (w.0, w.1, (r h.0 w.0 w.2).0 h.2), λ h. let w = from h.0 h.1 in (w.0, w.1, (r w.0 h.0 w.2).1 h.2))

  -- truth on the two traces is the same
  pub alike : (f : Form) (scope : List Binder) (σ : Choice) (τ : Times) (σ' : Choice) (τ' : Times) → IsChecked g V scope f → Alike M scope σ τ σ' τ' → (e : Equations) → IsTrueUnder e tr D P f σ τ ↔ IsTrueUnder e tr' D' P' f σ' τ'
  alike truth scope σ τ σ' τ' c a e = (λ h. h, λ h. h)
  alike falsity scope σ τ σ' τ' c a e = (λ h. h, λ h. h)
  alike (action f i) scope σ τ σ' τ' c a e =
      let k = τ i in
      let k' = τ' i in
      let r = facts k k' (a.times i c.2) in (
        λ h. any_map (Shows e σ f) (Shows e σ' f) (facts_at tr' k') (λ x y. (y.0, same_args g e scope σ σ' a.terms f.args x.args c.1 y.1)) ((r (Shows e σ f) (λ x y. subst V y.0 c.0)).0 h),
        λ h. (r (Shows e σ f) (λ x y. subst V y.0 c.0)).1 (any_map (Shows e σ' f) (Shows e σ f) (facts_at tr' k') (λ x y. (y.0, same_args g e scope σ' σ (turned scope σ σ' a.terms) f.args x.args c.1 y.1)) h),
      )
  alike (equal s t) scope σ τ σ' τ' c a e =
      let p = same_subst g scope σ σ' a.terms s c.0 in
      let q = same_subst g scope σ σ' a.terms t c.1 in (
        λ h. subst (λ u. IsTheoryEqual e u (instance σ' t)) p (subst (λ u. IsTheoryEqual e (instance σ s) u) q h),
        λ h. subst (λ u. IsTheoryEqual e u (instance σ t)) (sym p) (subst (λ u. IsTheoryEqual e (instance σ' s) u) (sym q) h),
      )
  alike (same_time i j) scope σ τ σ' τ' c a e = one (τ i) (τ j) (τ' i) (τ' j) (a.times i c.0) (a.times j c.1)
  alike (earlier i j) scope σ τ σ' τ' c a e = order (τ i) (τ j) (τ' i) (τ' j) (a.times i c.0) (a.times j c.1)
  alike (negation f) scope σ τ σ' τ' c a e =
      let p = alike f scope σ τ σ' τ' c a e in
      (λ h x. h (p.1 x), λ h x. h (p.0 x))
  alike (both f h) scope σ τ σ' τ' c a e =
      let p = alike f scope σ τ σ' τ' c.0 a e in
      let q = alike h scope σ τ σ' τ' c.1 a e in
      (λ x. (p.0 x.0, q.0 x.1), λ x. (p.1 x.0, q.1 x.1))
  alike (either f h) scope σ τ σ' τ' c a e =
      let p = alike f scope σ τ σ' τ' c.0 a e in
      let q = alike h scope σ τ σ' τ' c.1 a e in
      (λ x. elim x [ inl y ↦ inl (p.0 y) | inr y ↦ inr (q.0 y) ], λ x. elim x [ inl y ↦ inl (p.1 y) | inr y ↦ inr (q.1 y) ])
  alike (implies f h) scope σ τ σ' τ' c a e =
      let p = alike f scope σ τ σ' τ' c.0 a e in
      let q = alike h scope σ τ σ' τ' c.1 a e in
      (λ x y. q.0 (x (p.1 y)), λ x y. q.1 (x (p.0 y)))
  alike (equivalent f h) scope σ τ σ' τ' c a e =
      let p = alike f scope σ τ σ' τ' c.0 a e in
      let q = alike h scope σ τ σ' τ' c.1 a e in
      (λ x. (λ y. q.0 (x.0 (p.1 y)), λ y. p.0 (x.1 (q.1 y))), λ x. (λ y. q.1 (x.0 (p.0 y)), λ y. p.1 (x.1 (q.0 y))))
  alike (every bs f) scope σ τ σ' τ' c a e = every_alike bs (IsTrueUnder e tr D P f) (IsTrueUnder e tr' D' P' f) scope (λ σ τ σ' τ' a. alike f (enter bs scope) σ τ σ' τ' c.1 a e) σ τ σ' τ' a
  alike (exists bs f) scope σ τ σ' τ' c a e = exists_alike bs (IsTrueUnder e tr D P f) (IsTrueUnder e tr' D' P' f) scope (λ σ τ σ' τ' a. alike f (enter bs scope) σ τ σ' τ' c.1 a e) σ τ σ' τ' a
