-- Each term has exactly one normal form.
use Rattle.std.proofs.Common.{◌≡◌, ℕ, List, Option, Some, None, unwrap_or, refl, sym, ap, subst, ◌∙◌}
use Rattle.sap_terms.specs.Tree.{Tree, variable, public, fresh, apply, Trees, none, more}
use Rattle.sap_terms.specs.Equations.{Equations, IsInstance, first, second, symmetric, asymmetric, signing, revealing, revealed, true_name}
use Rattle.sap_terms.specs.Equal.{forward, IsTheoryEqual, same, next}
use Rattle.sap_terms.specs.Normal.{IsNoLeftSide, IsNormal, AreNormal, IsNormalForm}
use Rattle.sap_rewrite.specs.code.Reduce.{contracted, reduced, nf, nfs}
use Rattle.sap_rewrite.proofs.Sound.{contracted-sound, contracted-complete, contracted_tree}
use Rattle.sap_rewrite.proofs.Reach.{AreTheoryEqual, done, join, join_all, at_head, at_tail, within, back}
use Rattle.sap_rewrite.proofs.Respects.{nf-equal}

-- a term is theory-equal to its normal form
pub reduced-equal : (e : Equations) (f : List ℕ) (ts : Trees) → IsTheoryEqual e (apply f ts) (reduced e f ts)
reduced-equal e f ts = at (contracted e f ts) refl where
  at : (o : Option Tree) → contracted e f ts ≡ o → IsTheoryEqual e (apply f ts) (unwrap_or o (apply f ts))
  at None h = same
  at (Some r) h = next (forward (contracted-sound e f ts r h)) same

mutual
  unfolding nf nfs

  pub nf-reached : (e : Equations) (t : Tree) → IsTheoryEqual e t (nf e t)
  nf-reached e (variable v) = same
  nf-reached e (public n) = same
  nf-reached e (fresh k) = same
  nf-reached e (apply f ts) = join (within (nfs-reached e ts)) (reduced-equal e f (nfs e ts))

  nfs-reached : (e : Equations) (ts : Trees) → AreTheoryEqual e ts (nfs e ts)
  nfs-reached e none = done
  nfs-reached e (more t ts) = join_all (at_head (nf-reached e t)) (at_tail (nfs-reached e ts))

pub no_instance : (e : Equations) (f : List ℕ) (ts : Trees) → contracted e f ts ≡ None → IsNoLeftSide e (apply f ts)
no_instance e f ts h b i = let c = contracted-complete e i in cc

-- what stands below the head is normal
abbrev pub HasNormalParts : Equations → Tree → Type 0
HasNormalParts e (variable v) = Unit {0}
HasNormalParts e (public n) = Unit {0}
HasNormalParts e (fresh k) = Unit {0}
HasNormalParts e (apply f ts) = AreNormal e ts

-- the right side of an instance whose arguments are normal is normal
pub right-normal : (e : Equations) {t r : Tree} → IsInstance e t r → HasNormalParts e t → IsNormal e r
right-normal e first n = n.0.1.0
right-normal e second n = n.0.1.1.0
right-normal e (symmetric h) n = n.0.1.0
right-normal e (asymmetric h) n = n.0.1.0
right-normal e (signing h) n = (no_instance e true_name none refl, tt)
right-normal e (revealing h) n = (no_instance e true_name none refl, tt)
right-normal e (revealed h) n = n.0.1.0

pub leaf-normal : (e : Equations) (t : Tree) → contracted_tree e t ≡ None → IsNoLeftSide e t
leaf-normal e t h b i = let c = contracted-complete e i in cc

pub reduced-normal : (e : Equations) (f : List ℕ) (ts : Trees) → AreNormal e ts → IsNormal e (reduced e f ts)
reduced-normal e f ts n = at (contracted e f ts) refl where
  at : (o : Option Tree) → contracted e f ts ≡ o → IsNormal e (unwrap_or o (apply f ts))
  at None h = (no_instance e f ts h, n)
  at (Some r) h = right-normal e (contracted-sound e f ts r h) n

mutual
  unfolding nf nfs

  pub nf-normal : (e : Equations) (t : Tree) → IsNormal e (nf e t)
  nf-normal e (variable v) = leaf-normal e (variable v) refl
  nf-normal e (public n) = leaf-normal e (public n) refl
  nf-normal e (fresh k) = leaf-normal e (fresh k) refl
  nf-normal e (apply f ts) = reduced-normal e f (nfs e ts) (nfs-normal e ts)

  nfs-normal : (e : Equations) (ts : Trees) → AreNormal e (nfs e ts)
  nfs-normal e none = tt
  nfs-normal e (more t ts) = (nf-normal e t, nfs-normal e ts)

reduced-fixed : (e : Equations) (f : List ℕ) (ts : Trees) → IsNoLeftSide e (apply f ts) → reduced e f ts ≡ apply f ts
reduced-fixed e f ts n = at (contracted e f ts) refl where
  at : (o : Option Tree) → contracted e f ts ≡ o → unwrap_or o (apply f ts) ≡ apply f ts
  at None h = refl
  at (Some r) h = absurd (n r (contracted-sound e f ts r h))

mutual
  unfolding nf nfs

  pub nf-fixed : (e : Equations) (t : Tree) → IsNormal e t → nf e t ≡ t
  nf-fixed e (variable v) n = refl
  nf-fixed e (public m) n = refl
  nf-fixed e (fresh k) n = refl
  nf-fixed e (apply f ts) n = ap (reduced e f) (nfs-fixed e ts n.1) ∙ reduced-fixed e f ts n.0

  nfs-fixed : (e : Equations) (ts : Trees) → AreNormal e ts → nfs e ts ≡ ts
  nfs-fixed e none n = refl
  nfs-fixed e (more t ts) n = λ i. more (nf-fixed e t n.0 i) (nfs-fixed e ts n.1 i)

-- each term has a normal form
pub has_normal_form : (e : Equations) (t : Tree) → IsNormalForm e t (nf e t)
has_normal_form e t = record { equal = nf-reached e t; normal = nf-normal e t }

-- and no other
pub one_normal_form : (e : Equations) (t n : Tree) → IsNormalForm e t n → n ≡ nf e t
one_normal_form e t n h = sym (nf-equal e h.equal ∙ nf-fixed e n h.normal)

-- theory-equal terms are those with one normal form
pub equal-from_nf : (e : Equations) (t u : Tree) → nf e t ≡ nf e u → IsTheoryEqual e t u
equal-from_nf e t u h =
    let P : Tree → Type 0 = λ v. IsTheoryEqual e t v in
    join (subst P h (nf-reached e t)) (back (nf-reached e u))

pub form_from_nf : (e : Equations) (t r : Tree) → r ≡ nf e t → IsNormalForm e t r
form_from_nf e t r h = subst (λ n. IsNormalForm e t n) (sym h) (has_normal_form e t)

-- normal forms are the same tree exactly where the terms are theory-equal
pub decided : (e : Equations) (t u x y : Tree) → IsNormalForm e t x → IsNormalForm e u y → (x ≡ y → IsTheoryEqual e t u) × (IsTheoryEqual e t u → x ≡ y)
decided e t u x y p q =
    let x_is = one_normal_form e t x p in
    let y_is = one_normal_form e u y q in
    (λ h. equal-from_nf e t u (sym x_is ∙ h ∙ y_is), λ h. x_is ∙ nf-equal e h ∙ sym y_is)
