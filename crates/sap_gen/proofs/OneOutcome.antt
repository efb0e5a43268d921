-- Settling has one outcome, where no two of the rules take one fact.
use Rattle.std.proofs.Common.{◌≡◌, List, [], ◌∷◌, ◌++◌, refl, sym, ap, subst, ◌∙◌}
use Rattle.sap_terms.specs.declared.fact.Fact.{Fact}
use Rattle.sap_rule.specs.declared.rule.Rule.{Rule}
use Rattle.sap_gen.specs.Settled.{IsSettled, nothing_left, stays, goes_on}

module _ (Q : Rule → Type 0) (one_rule : (q p : Rule) (f : Fact) → Q q → Q p → q.left ≡ f ∷ [] → p.left ≡ f ∷ [] → q ≡ p) where
  -- facts settle in one way
  pub one_outcome : (fs hs ks : List Fact) → IsSettled Q fs hs → IsSettled Q fs ks → hs ≡ ks
  one_outcome _ _ ks nothing_left b = at ks b where
    at : (ks : List Fact) → IsSettled Q [] ks → [] ≡ ks
    at _ nothing_left = refl
  one_outcome _ _ ks (stays {fs} {hs} f unasked s) b = at (f ∷ fs) ks refl b (λ ys t. one_outcome fs hs ys s t) where
    at : (zs ks : List Fact) → zs ≡ f ∷ fs → IsSettled Q zs ks → ((ys : List Fact) → IsSettled Q fs ys → hs ≡ ys) → (f ∷ hs) ≡ ks
    at _ _ e nothing_left next = cc
    at _ _ e (stays {fs = gs} {hs = ys} k u t) next =
        let head : k ≡ f = cc in
        let tail : gs ≡ fs = cc in
        let rest = next ys (subst (λ xs. IsSettled Q xs ys) tail t) in
        λ i. sym head i ∷ rest i
    at _ _ e (goes_on k q y l t) next = let head : k ≡ f = cc in absurd (unasked q y (l ∙ ap (λ x. x ∷ []) head))
  one_outcome _ _ ks (goes_on {fs} {hs} f q x l s) b = at (f ∷ fs) ks refl b (λ ys t. one_outcome (q.right ++ fs) hs ys s t) where
    at : (zs ks : List Fact) → zs ≡ f ∷ fs → IsSettled Q zs ks → ((ys : List Fact) → IsSettled Q (q.right ++ fs) ys → hs ≡ ys) → hs ≡ ks
    at _ _ e nothing_left next = cc
    at _ _ e (stays k u t) next = let head : k ≡ f = cc in absurd (u q x (l ∙ ap (λ x. x ∷ []) (sym head)))
    at _ _ e (goes_on {fs = gs} {hs = ys} k p y m t) next =
        let head : k ≡ f = cc in
        let tail : gs ≡ fs = cc in
        let rules_one : p ≡ q = one_rule p q f y x (m ∙ ap (λ z. z ∷ []) head) l in
        let right : p.right ++ gs ≡ q.right ++ fs = (λ i. (rules_one i).right ++ tail i) in
        next ys (subst (λ xs. IsSettled Q xs ys) right t)
