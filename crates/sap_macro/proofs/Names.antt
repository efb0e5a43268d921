-- Names with one binder.
use Rattle.std.proofs.Common.{◌≡◌, ℕ, true, List, [], ◌∷◌, ap, ◌∙◌}
use Rattle.std.specs.Prelude.{if◌then◌else◌}
use Rattle.std.specs.Str.{bytes_eq}
use Rattle.sap_terms.specs.Variables.{is_known}
use Rattle.sap_terms.proofs.PlainLaws.Known.{own_name, apart, in_head, in_tail}
use Rattle.sap_macro.specs.UpToNames.{Pair, lefts, rights, HaveOneBinder, here, above}

-- names with one binder are bound
pub left_known : (ρ : List Pair) (x y : List ℕ) → HaveOneBinder ρ x y → is_known (lefts ρ) x ≡ true
left_known _ x y (here {ρ = ρ}) = in_head x (lefts ρ)
left_known _ x y (above {a = a} {ρ = ρ} h k l) = in_tail x a (lefts ρ) (left_known ρ x y l)

pub right_known : (ρ : List Pair) (x y : List ℕ) → HaveOneBinder ρ x y → is_known (rights ρ) y ≡ true
right_known _ x y (here {ρ = ρ}) = in_head y (rights ρ)
right_known _ x y (above {b = b} {ρ = ρ} h k l) = in_tail y b (rights ρ) (right_known ρ x y l)

-- the name that has its binder with this one
abbrev pub right_of : List Pair → List ℕ → List ℕ
right_of [] x = x
right_of (p ∷ ρ) x = if bytes_eq p.left x then p.right else right_of ρ x

abbrev pub left_of : List Pair → List ℕ → List ℕ
left_of [] y = y
left_of (p ∷ ρ) y = if bytes_eq p.right y then p.left else left_of ρ y

pub right_is : (ρ : List Pair) (x y : List ℕ) → HaveOneBinder ρ x y → right_of ρ x ≡ y
right_is _ x y (here {ρ = ρ}) = ap (λ b. if b then y else right_of ρ x) (own_name x)
right_is _ x y (above {a = a} {b = b} {ρ = ρ} h k l) = ap (λ z. if z then b else right_of ρ x) (apart a x h) ∙ right_is ρ x y l

pub left_is : (ρ : List Pair) (x y : List ℕ) → HaveOneBinder ρ x y → left_of ρ y ≡ x
left_is _ x y (here {ρ = ρ}) = ap (λ b. if b then x else left_of ρ y) (own_name y)
left_is _ x y (above {a = a} {b = b} {ρ = ρ} h k l) = ap (λ z. if z then a else left_of ρ y) (apart b y k) ∙ left_is ρ x y l
