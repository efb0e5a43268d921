-- Values of a quantifier's binders, chosen one after another.
use Rattle.std.proofs.Common.{◌≡◌, ℕ, ◌<◌, List, [], ◌∷◌, Bool, true, false, length, Some, refl, sym, ap, subst, ◌∙◌, if◌then◌else◌}
use Rattle.std.specs.Str.{bytes_eq}
use Rattle.std.proofs.lemmas.Slice.Eq.{bytes_eq-Decides}
use Rattle.sap_formula.specs.Messages.{IsNormalEnv}
use Rattle.sap_judge.specs.Reasons.{Suits, value}
use Rattle.sap_judge.proofs.Reading.{IsFitting}
use Rattle.sap_formula.specs.Checked.{IsApart, NoTwice, binder_name, enter, find_binder}
use Rattle.sap_formula.specs.Truth.{EachIn, Every, Exists, Times, bind, stamp}
use Rattle.sap_match.specs.Atoms.{Held, held_term, held_time}
use Rattle.sap_formula.specs.declared.binder.Binder.{Binder}
use Rattle.sap_formula.specs.declared.binder.Binder.TheVariants.{Message, Time}
use Rattle.sap_terms.proofs.PlainLaws.Tests.{same_name}
use Rattle.sap_terms.specs.Choice.{Choice, fits_sort}
use Rattle.sap_terms.specs.Equations.{equations}
use Rattle.sap_terms.specs.Message.{IsMessage}
use Rattle.sap_terms.specs.Normal.{IsNormal}
use Rattle.sap_terms.specs.Signature.{Sig}
use Rattle.sap_terms.specs.Trace.{Trace}
use Rattle.sap_terms.specs.Tree.{Tree}
use Rattle.sap_terms.specs.declared.var.Sort.{Sort}
use Rattle.sap_terms.specs.declared.var.Var.{Var}

-- values of the binders, one after another
abbrev pub Fill : (Sort → Tree → Type 0) → (ℕ → Type 0) → List Binder → Choice → Times → Choice → Times → Type 0
Fill D P [] σ τ σ' τ' = (σ ≡ σ') × (τ ≡ τ')
Fill D P (Message v ∷ bs) σ τ σ' τ' = (t : Tree) × D v.sort t × Fill D P bs (bind v t σ) τ σ' τ'
Fill D P (Time m ∷ bs) σ τ σ' τ' = (k : ℕ) × P k × Fill D P bs σ (stamp m k τ) σ' τ'

pub other : (m n : List ℕ) → (m ≡ n → ⊥) → bytes_eq m n ≡ false
other m n h = at (bytes_eq m n) refl where
  at : (r : Bool) → bytes_eq m n ≡ r → r ≡ false
  at false e = refl
  at true e = absurd (h ((bytes_eq-Decides m n).0 e))

module _ (D : Sort → Tree → Type 0) (P : ℕ → Type 0) where
  pub exists_filled : (bs : List Binder) (B : Choice → Times → Type 0) (σ : Choice) (τ : Times) → Exists D P bs B σ τ → (σ' : Choice) × (τ' : Times) × Fill D P bs σ τ σ' τ' × B σ' τ'
  exists_filled [] B σ τ h = (σ, τ, (refl, refl), h)
  exists_filled (Message v ∷ bs) B σ τ (t, d, h) = let r = exists_filled bs B (bind v t σ) τ h in (r.0, r.1, (t, d, r.2), r.3)
  exists_filled (Time m ∷ bs) B σ τ (k, p, h) = let r = exists_filled bs B σ (stamp m k τ) h in (r.0, r.1, (k, p, r.2), r.3)

  pub every_filled : (bs : List Binder) (B : Choice → Times → Type 0) (σ : Choice) (τ : Times) → ((σ' : Choice) (τ' : Times) → Fill D P bs σ τ σ' τ' → B σ' τ') → Every D P bs B σ τ
  every_filled [] B σ τ h = h σ τ (refl, refl)
  every_filled (Message v ∷ bs) B σ τ h = λ t d. every_filled bs B (bind v t σ) τ (λ σ' τ' f. h σ' τ' (t, d, f))
  every_filled (Time m ∷ bs) B σ τ h = λ k p. every_filled bs B σ (stamp m k τ) (λ σ' τ' f. h σ' τ' (k, p, f))

  -- terms and times of names that none of them binds stay
  pub terms_kept : (bs : List Binder) (σ : Choice) (τ : Times) (σ' : Choice) (τ' : Times) → Fill D P bs σ τ σ' τ' → (w : Var) → IsApart bs w.name → σ' w ≡ σ w
  terms_kept [] σ τ σ' τ' f w a = ap (λ e. e w) (sym f.0)
  terms_kept (Message v ∷ bs) σ τ σ' τ' (t, d, f) w a = terms_kept bs (bind v t σ) τ σ' τ' f w a.1 ∙ rw (other v.name w.name a.0) refl
  terms_kept (Time m ∷ bs) σ τ σ' τ' (k, p, f) w a = terms_kept bs σ (stamp m k τ) σ' τ' f w a.1

  pub times_kept : (bs : List Binder) (σ : Choice) (τ : Times) (σ' : Choice) (τ' : Times) → Fill D P bs σ τ σ' τ' → (n : List ℕ) → IsApart bs n → τ' n ≡ τ n
  times_kept [] σ τ σ' τ' f n a = ap (λ e. e n) (sym f.1)
  times_kept (Message v ∷ bs) σ τ σ' τ' (t, d, f) n a = times_kept bs (bind v t σ) τ σ' τ' f n a.1
  times_kept (Time m ∷ bs) σ τ σ' τ' (k, p, f) n a = times_kept bs σ (stamp m k τ) σ' τ' f n a.1 ∙ rw (other m n a.0) refl

  -- so what such a binder has stays
  pub value_kept : (bs : List Binder) (σ : Choice) (τ : Times) (σ' : Choice) (τ' : Times) → Fill D P bs σ τ σ' τ' → (c : Binder) → IsApart bs (binder_name c) → value σ τ c ≡ value σ' τ' c
  value_kept bs σ τ σ' τ' f (Message v) a = ap (λ t. held_term t) (sym (terms_kept bs σ τ σ' τ' f v a))
  value_kept bs σ τ σ' τ' f (Time m) a = ap (λ t. held_time t) (sym (times_kept bs σ τ σ' τ' f m a))

pub fill_normal : (g : Sig) (P : ℕ → Type 0) (bs : List Binder) (σ : Choice) (τ : Times) (σ' : Choice) (τ' : Times) → IsNormalEnv (equations g) σ → Fill (IsMessage g) P bs σ τ σ' τ' → IsNormalEnv (equations g) σ'
fill_normal g P [] σ τ σ' τ' n f = subst (IsNormalEnv (equations g)) f.0 n
fill_normal g P (Message v ∷ bs) σ τ σ' τ' n (t, d, f) = fill_normal g P bs (bind v t σ) τ σ' τ' (λ w. elim (bytes_eq v.name w.name) as (λ b. IsNormal (equations g) (if b then t else σ w)) [ true ↦ d.normal | false ↦ n w ]) f
fill_normal g P (Time m ∷ bs) σ τ σ' τ' n (k, p, f) = fill_normal g P bs σ (stamp m k τ) σ' τ' n f

module _ (D : Sort → Tree → Type 0) (P : ℕ → Type 0) where
  pub filled_exists : (bs : List Binder) (B : Choice → Times → Type 0) (σ : Choice) (τ : Times) (σ' : Choice) (τ' : Times) → Fill D P bs σ τ σ' τ' → B σ' τ' → Exists D P bs B σ τ
  filled_exists [] B σ τ σ' τ' f h = subst (λ s. B s τ) (sym f.0) (subst (λ t. B σ' t) (sym f.1) h)
  filled_exists (Message v ∷ bs) B σ τ σ' τ' (t, d, f) h = (t, d, filled_exists bs B (bind v t σ) τ σ' τ' f h)
  filled_exists (Time m ∷ bs) B σ τ σ' τ' (k, p, f) h = (k, p, filled_exists bs B σ (stamp m k τ) σ' τ' f h)

  pub every_at : (bs : List Binder) (B : Choice → Times → Type 0) (σ : Choice) (τ : Times) (σ' : Choice) (τ' : Times) → Fill D P bs σ τ σ' τ' → Every D P bs B σ τ → B σ' τ'
  every_at [] B σ τ σ' τ' f h = subst (λ s. B s τ') f.0 (subst (λ t. B σ t) f.1 h)
  every_at (Message v ∷ bs) B σ τ σ' τ' (t, d, f) h = every_at bs B (bind v t σ) τ σ' τ' f (h t d)
  every_at (Time m ∷ bs) B σ τ σ' τ' (k, p, f) h = every_at bs B σ (stamp m k τ) σ' τ' f (h k p)

fitting_message : (scope : List Binder) (v : Var) (t : Tree) (σ : Choice) → fits_sort v.sort t ≡ true → IsFitting scope σ → IsFitting (Message v ∷ scope) (bind v t σ)
fitting_message scope v t σ d f x e =
    elim (bytes_eq v.name x.name) as (λ b. (if b then Some (Message v) else find_binder scope x.name) ≡ Some (Message x) → fits_sort x.sort (if b then t else σ x) ≡ true) [
      | true ↦ λ q. let is : v ≡ x = cc in subst (λ y. fits_sort y.sort t ≡ true) is d
      | false ↦ λ q. f x q
    ] e

fitting_time : (scope : List Binder) (m : List ℕ) (σ : Choice) → IsFitting scope σ → IsFitting (Time m ∷ scope) σ
fitting_time scope m σ f x e =
    elim (bytes_eq m x.name) as (λ b. (if b then Some (Time m) else find_binder scope x.name) ≡ Some (Message x) → fits_sort x.sort (σ x) ≡ true) [
      | true ↦ λ q. let is : Time m ≡ Message x = cc in absurd (cc)
      | false ↦ λ q. f x q
    ] e

pub fill_fitting : (g : Sig) (P : ℕ → Type 0) (bs scope : List Binder) (σ : Choice) (τ : Times) (σ' : Choice) (τ' : Times) → IsFitting scope σ → Fill (IsMessage g) P bs σ τ σ' τ' → IsFitting (enter bs scope) σ'
fill_fitting g P [] scope σ τ σ' τ' n f = subst (IsFitting scope) f.0 n
fill_fitting g P (Message v ∷ bs) scope σ τ σ' τ' n (t, d, f) = fill_fitting g P bs (Message v ∷ scope) (bind v t σ) τ σ' τ' (fitting_message scope v t σ d.sorted n) f
fill_fitting g P (Time m ∷ bs) scope σ τ σ' τ' n (k, p, f) = fill_fitting g P bs (Time m ∷ scope) σ (stamp m k τ) σ' τ' (fitting_time scope m σ n) f

-- a value for each binder that suits it and has the property R
abbrev pub HasOne : Sig → Trace → (Binder → Held → Type 0) → Binder → Type 0
HasOne g tr R b = (h : Held) × Suits g tr b h × R b h

module _ (g : Sig) (tr : Trace) (R : Binder → Held → Type 0) where
  -- values of all of them, one after another
  abbrev pub IsMade : List Binder → Choice → Times → Type 0
  IsMade bs σ τ = (σ' : Choice) × (τ' : Times) × Fill (IsMessage g) (λ k. k < length tr) bs σ τ σ' τ' × EachIn (λ b. R b (value σ' τ' b)) bs

  made_message : (v : Var) (bs : List Binder) (σ : Choice) (τ : Times) → NoTwice (Message v ∷ bs) → HasOne g tr R (Message v) → ((t : Tree) → IsMade bs (bind v t σ) τ) → IsMade (Message v ∷ bs) σ τ
  made_message v bs σ τ o (held_term t, s, r) f =
      let q = f t in
      let e : q.0 v ≡ t = terms_kept (IsMessage g) (λ k. k < length tr) bs (bind v t σ) τ q.0 q.1 q.2 v o.0 ∙ rw (same_name v.name) refl in
      (q.0, q.1, (t, s, q.2), (subst (λ u. R (Message v) (held_term u)) (sym e) r, q.3))
  made_message v bs σ τ o (held_time k, s, r) f = absurd s

  made_time : (m : List ℕ) (bs : List Binder) (σ : Choice) (τ : Times) → NoTwice (Time m ∷ bs) → HasOne g tr R (Time m) → ((k : ℕ) → IsMade bs σ (stamp m k τ)) → IsMade (Time m ∷ bs) σ τ
  made_time m bs σ τ o (held_time j, s, r) f =
      let q = f j in
      let e : q.1 m ≡ j = times_kept (IsMessage g) (λ k. k < length tr) bs σ (stamp m j τ) q.0 q.1 q.2 m o.0 ∙ rw (same_name m) refl in
      (q.0, q.1, (j, s, q.2), (subst (λ u. R (Time m) (held_time u)) (sym e) r, q.3))
  made_time m bs σ τ o (held_term t, s, r) f = absurd s

  -- then the binders can stand for such values
  pub made : (bs : List Binder) (σ : Choice) (τ : Times) → NoTwice bs → EachIn (HasOne g tr R) bs → IsMade bs σ τ
  made [] σ τ o e = (σ, τ, (refl, refl), tt)
  made (Message v ∷ bs) σ τ o e = made_message v bs σ τ o e.0 (λ t. made bs (bind v t σ) τ o.1 e.1)
  made (Time m ∷ bs) σ τ o e = made_time m bs σ τ o e.0 (λ k. made bs σ (stamp m k τ) o.1 e.1)
