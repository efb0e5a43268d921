-- Members of lists.
use Rattle.std.proofs.Common.{List, [], ◌∷◌, ◌++◌, refl, sym, subst, ◌⊎◌, inl, inr}
use Rattle.sap_formula.specs.Truth.{AnyIn, EachIn}
use Rattle.sap_judge.proofs.Tests.{IsIn}

pub any_left : {X : Type 0} (Q : X → Type 0) (xs ys : List X) → AnyIn Q xs → AnyIn Q (xs ++ ys)
any_left Q [] ys a = absurd a
any_left Q (x ∷ xs) ys (inl h) = inl h
any_left Q (x ∷ xs) ys (inr a) = inr (any_left Q xs ys a)

pub any_right : {X : Type 0} (Q : X → Type 0) (xs ys : List X) → AnyIn Q ys → AnyIn Q (xs ++ ys)
any_right Q [] ys a = a
any_right Q (x ∷ xs) ys a = inr (any_right Q xs ys a)

pub each_append : {X : Type 0} (Q : X → Type 0) (xs ys : List X) → EachIn Q xs → EachIn Q ys → EachIn Q (xs ++ ys)
each_append Q [] ys h k = k
each_append Q (x ∷ xs) ys h k = (h.0, each_append Q xs ys h.1 k)

pub any_cases : {X : Type 0} (Q : X → Type 0) (xs ys : List X) → AnyIn Q (xs ++ ys) → AnyIn Q xs ⊎ AnyIn Q ys
any_cases Q [] ys a = inr a
any_cases Q (x ∷ xs) ys (inl h) = inl (inl h)
any_cases Q (x ∷ xs) ys (inr a) = elim (any_cases Q xs ys a) [ inl b ↦ inl (inr b) | inr b ↦ inr b ]

pub any_found : {X : Type 0} (Q : X → Type 0) (xs : List X) → AnyIn Q xs → (x : X) × IsIn xs x × Q x
any_found Q [] a = absurd a
any_found Q (x ∷ xs) (inl h) = (x, inl refl, h)
any_found Q (x ∷ xs) (inr a) = let r = any_found Q xs a in (r.0, inr r.1, r.2)

pub each_in : {X : Type 0} (Q : X → Type 0) (xs : List X) (x : X) → EachIn Q xs → IsIn xs x → Q x
each_in Q [] x h i = absurd i
each_in Q (y ∷ xs) x h (inl e) = subst Q e h.0
each_in Q (y ∷ xs) x h (inr i) = each_in Q xs x h.1 i

pub any_here : {X : Type 0} (Q : X → Type 0) (xs : List X) (x : X) → IsIn xs x → Q x → AnyIn Q xs
any_here Q [] x i h = absurd i
any_here Q (y ∷ xs) x (inl e) h = inl (subst Q (sym e) h)
any_here Q (y ∷ xs) x (inr i) h = inr (any_here Q xs x i h)

pub each_left : {X : Type 0} (Q : X → Type 0) (xs ys : List X) → EachIn Q (xs ++ ys) → EachIn Q xs
each_left Q [] ys h = tt
each_left Q (x ∷ xs) ys h = (h.0, each_left Q xs ys h.1)

pub each_right : {X : Type 0} (Q : X → Type 0) (xs ys : List X) → EachIn Q (xs ++ ys) → EachIn Q ys
each_right Q [] ys h = h
each_right Q (x ∷ xs) ys h = each_right Q xs ys h.1

pub each_map : {X : Type 0} (P Q : X → Type 0) (xs : List X) → ((x : X) → P x → Q x) → EachIn P xs → EachIn Q xs
each_map P Q [] f e = tt
each_map P Q (x ∷ xs) f e = (f x e.0, each_map P Q xs f e.1)

pub each_both : {X : Type 0} (P Q R : X → Type 0) (xs : List X) → ((x : X) → P x → Q x → R x) → EachIn P xs → EachIn Q xs → EachIn R xs
each_both P Q R [] f d e = tt
each_both P Q R (x ∷ xs) f d e = (f x d.0 e.0, each_both P Q R xs f d.1 e.1)
