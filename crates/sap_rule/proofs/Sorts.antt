-- The sorts that are noted for names, and that no name has two.
use Rattle.std.proofs.Common.{◌≡◌, ℕ, ◌+◌, ◌<◌, List, [], ◌∷◌, ◌++◌, Bool, true, false, Option, Some, None, length, take, drop, get_or, inl, inr, arith, refl, sym, ap, subst, ◌∙◌}
use Rattle.std.specs.Prelude.{◌⊎◌, Contains, if◌then◌else◌}
use Rattle.std.specs.Str.{bytes_eq}
use Rattle.std.proofs.lemmas.List.{take_more, take-append-drop}
use Rattle.std.proofs.lemmas.List.Elements.{Contains-get_or, Contains-append_left, Contains-push, Contains-push_cases}
use Rattle.std.proofs.lemmas.Slice.Eq.{bytes_eq-Decides}
use Rattle.sap_terms.specs.declared.var.Sort.{Sort}
use Rattle.sap_terms.specs.declared.var.Sort.TheVariants.{Msg, Fresh, Pub}
use Rattle.sap_terms.specs.declared.var.Var.{Var}
use Rattle.sap_rewrite.specs.Match.{HaveOneSort}
use Rattle.sap_rule.specs.code.Checks.{AreNoted, IsOtherSort}

not_other : (s t : Sort) → ¬ (¬ (s ≡ t)) → s ≡ t
not_other Msg Msg h = refl
not_other Fresh Fresh h = refl
not_other Pub Pub h = refl
not_other _ _ h = absurd (h (λ e. cc))

-- a sort that is noted, and isn't another, is this one
it_fits : (o : Option Sort) (s t : Sort) → ¬ IsOtherSort o s → o ≡ Some t → t ≡ s
it_fits None s t h e = cc
it_fits (Some u) s t h e = let same : u ≡ t = cc in subst (λ z. z ≡ s) same (not_other u s h)

-- one more variable
noted-push : (sorts after : List ℕ → Option Sort) (vs : List Var) (x : Var) → AreNoted sorts vs → ¬ IsOtherSort (sorts x.name) x.sort → ((n : List ℕ) → after n ≡ (if bytes_eq x.name n then Some x.sort else sorts n)) → AreNoted after (vs ++ x ∷ [])
noted-push sorts after vs x tied fits updates v = by (bytes_eq x.name v.name) refl where
  there : x.name ≡ v.name → Contains vs v ⊎ (x ≡ v) → x.sort ≡ v.sort
  there same (inr e) = ap (λ (w : Var). w.sort) e
  there same (inl k) = sym (it_fits (sorts x.name) x.sort v.sort fits (ap sorts same ∙ (tied v).1 k))

  front : bytes_eq x.name v.name ≡ false → Contains vs v ⊎ (x ≡ v) → Contains vs v
  front d (inl k) = k
  front d (inr e) = let named : bytes_eq x.name v.name ≡ true = (bytes_eq-Decides x.name v.name).1 (ap (λ (w : Var). w.name) e) in cc

  by : (b : Bool) → bytes_eq x.name v.name ≡ b → (after v.name ≡ Some v.sort → Contains (vs ++ x ∷ []) v) × (Contains (vs ++ x ∷ []) v → after v.name ≡ Some v.sort)
  by true d =
      let same : x.name ≡ v.name = (bytes_eq-Decides x.name v.name).0 d in
      let now : after v.name ≡ Some x.sort = updates v.name ∙ rw d refl in (
        λ h.
            let s : x.sort ≡ v.sort = cc in
            subst (λ (w : Var). Contains (vs ++ x ∷ []) w) (λ i. record { name = same i; sort = s i }) (Contains-push vs x),
        λ k. now ∙ ap Some (there same (Contains-push_cases vs x v k)),
      )
  by false d =
      let now : after v.name ≡ sorts v.name = updates v.name ∙ rw d refl in (
        λ h. Contains-append_left vs (x ∷ []) v ((tied v).0 (sym now ∙ h)),
        λ k. now ∙ (tied v).1 (front d (Contains-push_cases vs x v k)),
      )

-- the next of the variables
pub noted-more : (sorts after : List ℕ → Option Sort) (vs : List Var) (i : ℕ) (x : Var) → i < length vs → x ≡ get_or vs i x → AreNoted sorts (take i vs) → ¬ IsOtherSort (sorts x.name) x.sort → ((n : List ℕ) → after n ≡ (if bytes_eq x.name n then Some x.sort else sorts n)) → AreNoted after (take (i + 1) vs)
noted-more sorts after vs i x below at tied fits updates =
    subst (AreNoted after) (sym (take_more vs i x below ∙ ap (λ z. take i vs ++ z ∷ []) (sym at))) (noted-push sorts after (take i vs) x tied fits updates)

-- where each name has the sort that is noted, no name has two
pub one_sort : (sorts : List ℕ → Option Sort) (vs : List Var) → AreNoted sorts vs → HaveOneSort vs
one_sort sorts vs tied v w a b e =
    let p : sorts v.name ≡ Some v.sort = (tied v).1 a in
    let q : sorts w.name ≡ Some w.sort = (tied w).1 b in
    let named : sorts v.name ≡ sorts w.name = ap sorts e in
    let s : v.sort ≡ w.sort = cc in
    λ i. record { name = e i; sort = s i }

-- where another sort is noted for the next variable's name, a name has two
pub two_sorts : (sorts : List ℕ → Option Sort) (vs : List Var) (i : ℕ) (x : Var) → i < length vs → x ≡ get_or vs i x → AreNoted sorts (take i vs) → IsOtherSort (sorts x.name) x.sort → HaveOneSort vs → ⊥
two_sorts sorts vs i x below at tied other one = by (sorts x.name) refl other where
  by : (o : Option Sort) → sorts x.name ≡ o → IsOtherSort o x.sort → ⊥
  by None d h = h
  by (Some t) d h =
      let w : Var = record { name = x.name; sort = t } in
      let front : Contains (take i vs ++ drop i vs) w = Contains-append_left (take i vs) (drop i vs) w ((tied w).0 d) in
      let first : Contains vs w = subst (λ (ws : List Var). Contains ws w) (take-append-drop i vs) front in
      let here : Contains vs x = subst (λ (z : Var). Contains vs z) (sym at) (Contains-get_or vs i x below) in
      h (ap (λ (z : Var). z.sort) (one w x first here refl))

-- no sort is noted for no variable
pub noted-none : (sorts : List ℕ → Option Sort) → ((n : List ℕ) → sorts n ≡ None) → AreNoted sorts []
noted-none sorts empty v = (
  λ h. let e : sorts v.name ≡ None = empty v.name in absurd (cc),
  λ k. absurd (omega (arith, k.1)),
)
