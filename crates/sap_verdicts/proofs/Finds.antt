-- What is found of formulas, one after another.
use Rattle.std.proofs.Common.{◌≡◌, ◌≤◌, ◌+◌, ℕ, zero, suc, List, [], ◌∷◌, ◌++◌, Some, append_assoc, drop, length, map, slice_get, refl, sym, ap, subst, ◌∙◌}
use Rattle.std.specs.List.{AllZip}
use Rattle.std.proofs.Math.ListN.{drop_of_length-le}
use Rattle.std.proofs.lemmas.List.{append-nil}
use Rattle.sap_formula.specs.Form.{LemmaForm, RestrictionForm}
use Rattle.sap_formula.specs.Truth.{EachIn}
use Rattle.sap_terms.proofs.PlainLaws.Lists.{drop_got}
use Rattle.sap_terms.specs.Signature.{Sig}
use Rattle.sap_terms.specs.Trace.{Trace}
use Rattle.sap_verdicts.specs.Findings.{AreFound, Found, IsFound, Stated, all_stated, stated_lemma, stated_restriction}
use Rattle.sap_verdicts.specs.code.Finding.{AddsFound}

-- what is found of two lists is found of both
pub joined : (g : Sig) (tr : Trace) (xs zs : List Stated) (ys ws : List Found) → AreFound g tr xs ys → AreFound g tr zs ws → AreFound g tr (xs ++ zs) (ys ++ ws)
joined g tr [] zs [] ws a b = b
joined g tr [] zs (y ∷ ys) ws a b = absurd a
joined g tr (x ∷ xs) zs [] ws a b = absurd a
joined g tr (x ∷ xs) zs (y ∷ ys) ws a b = (a.0, joined g tr xs zs ys ws a.1 b)

-- what each item has, the one at an index has
pub each_at : {X : Type 0} (P : X → Type 0) (xs : List X) (k : ℕ) (x : X) → EachIn P xs → slice_get xs k ≡ Some x → P x
each_at P [] k x a h = cc
each_at P (y ∷ ys) zero x a h = let same : y ≡ x = cc in subst P same a.0
each_at P (y ∷ ys) (suc k) x a h = each_at P ys k x a.1 h

module _ {X : Type 0} (s : X → Stated) (g : Sig) (tr : Trace) where
  -- whatever is found of the others from an index on, with that it is found of all
  pub record Behind (xs : List X) (k : ℕ) (old now : List Found) : Type 0 where
    pub ends : (more : List Found) → AreFound g tr (map s (drop k xs)) more → AddsFound g tr (map s xs) old (now ++ more)

  pub before_all : (xs : List X) (old : List Found) → Behind xs 0 old old
  before_all xs old = record { ends = λ more a. record { more = more; are = a; put = refl } }

  pub one_found : (xs : List X) (k : ℕ) (x : X) (old now next : List Found) → slice_get xs k ≡ Some x → Behind xs k old now → AddsFound g tr (s x ∷ []) now next
      → Behind xs (k + 1) old next
  one_found xs k x old now next h b a = record {
    ends = λ more are.
        let here : AreFound g tr (map s (drop k xs)) (a.more ++ more) = subst (λ (zs : List X). AreFound g tr (map s zs) (a.more ++ more)) (sym (drop_got xs k x h))
        (joined g tr (s x ∷ []) (map s (drop (k + 1) xs)) a.more more a.are are) in
        let same : now ++ (a.more ++ more) ≡ next ++ more = sym (append_assoc now a.more more) ∙ ap (λ z. z ++ more) (sym a.put) in
        subst (λ (z : List Found). AddsFound g tr (map s xs) old z) same (b.ends (a.more ++ more) here);
  }

  pub all_found : (xs : List X) (k : ℕ) (old now : List Found) → length xs ≤ k → Behind xs k old now → AddsFound g tr (map s xs) old now
  all_found xs k old now past b =
      let none : AreFound g tr (map s (drop k xs)) [] = subst (λ (zs : List X). AreFound g tr (map s zs) []) (sym (drop_of_length-le xs past)) tt in
      subst (λ (z : List Found). AddsFound g tr (map s xs) old z) (append-nil now) (b.ends [] none)

-- restrictions, and then lemmas
pub both_found : (g : Sig) (tr : Trace) (rs : List RestrictionForm) (ls : List LemmaForm) (first next last : List Found) → first ≡ []
    → AddsFound g tr (map stated_restriction rs) first next → AddsFound g tr (map stated_lemma ls) next last → AreFound g tr (all_stated rs ls) last
both_found g tr rs ls first next last none a b =
    let is : last ≡ a.more ++ b.more = b.put ∙ ap (λ z. z ++ b.more) (a.put ∙ ap (λ z. z ++ a.more) none) in
    subst (λ (z : List Found). AreFound g tr (all_stated rs ls) z) (sym is) (joined g tr (map stated_restriction rs) (map stated_lemma ls) a.more b.more a.are b.are)
