-- Bindings without those of one name.
use Rattle.std.proofs.Common.{◌≡◌, ℕ, zero, suc, ◌+◌, add-one, List, [], ◌∷◌, ◌++◌, take, map, Some, true, false, not, refl, sym, ap, ◌∙◌, inl, inr}
use Rattle.std.specs.Prelude.{slice_get}
use Rattle.std.proofs.lemmas.List.{map_push}
use Rattle.std.proofs.Math.Path.{fun_ext}
use Rattle.std.proofs.lemmas.Bool.{cases_Bool}
use Rattle.std.proofs.lemmas.Slice.Eq.{bytes_eq-Decides}
use Rattle.std.specs.List.{filter}
use Rattle.std.specs.Str.{bytes_eq}
use Rattle.sap_terms.specs.Subst.{bound_to}
use Rattle.sap_terms.specs.declared.binding.Binding.{Binding}
use Rattle.sap_terms.specs.declared.var.Var.{Var}
use Rattle.sap_process.specs.Instance.{without}

-- the bindings of other names
abbrev pub others : Var → List Binding → List Binding
others x b = filter (λ (e : Binding). not (bytes_eq x.name e.var.name)) b

are_apart : (v w : List ℕ) → ¬ (v ≡ w) → bytes_eq v w ≡ false
are_apart v w h = elim (cases_Bool (bytes_eq v w)) [
  | inl same ↦ absurd (h ((bytes_eq-Decides v w).0 same))
  | inr other ↦ other
]

are_other : (x v : List ℕ) → bytes_eq x v ≡ false → ¬ (x ≡ v)
are_other x v h e = let f : bytes_eq x v ≡ true = (bytes_eq-Decides x v).1 e in cc

-- what the bindings of other names choose
pub bound_to-others : (x : Var) (b : List Binding) (v : Var) → bound_to (others x b) v ≡ without (bound_to b) x v
bound_to-others x [] v = elim (cases_Bool (bytes_eq x.name v.name)) [
  | inl same ↦ rw same refl
  | inr other ↦ rw other refl
]
bound_to-others x (e ∷ es) v =
    let further : bound_to (others x es) v ≡ without (bound_to es) x v = bound_to-others x es v in
    elim (cases_Bool (bytes_eq x.name e.var.name)) [
      | inl hidden ↦
          elim (cases_Bool (bytes_eq x.name v.name)) [
            | inl same ↦ rw (hidden, further, same) refl
            | inr other ↦
                let d : bytes_eq e.var.name v.name ≡ false =
                are_apart e.var.name v.name (λ m. are_other x.name v.name other ((bytes_eq-Decides x.name e.var.name).0 hidden ∙ m)) in
                rw (hidden, further, other, d) refl
          ]
      | inr kept ↦
          elim (cases_Bool (bytes_eq x.name v.name)) [
            | inl same ↦
                let d : bytes_eq e.var.name v.name ≡ false =
                are_apart e.var.name v.name (λ m. are_other x.name e.var.name kept ((bytes_eq-Decides x.name v.name).0 same ∙ sym m)) in
                rw (kept, d, further, same) refl
            | inr other ↦ rw (kept, further, other) refl
          ]
    ]

-- the same for all variables at once
pub choice-others : (x : Var) (b : List Binding) → bound_to (others x b) ≡ without (bound_to b) x
choice-others x b = fun_ext (λ v. bound_to-others x b v)
