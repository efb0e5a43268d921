-- Turns of the loops over rules.
use Rattle.std.proofs.Common.{◌≡◌, ◌≤◌, ℕ, ◌+◌, length, List, ◌∷◌, drop, Some, sym, subst}
use Rattle.std.specs.Prelude.{slice_get, All}
use Rattle.std.proofs.lemmas.List.{drop_all}
use Rattle.std.proofs.lemmas.List.Elements.{All-nil, All-cons}
use Rattle.sap_terms.proofs.PlainLaws.Lists.{drop_got}
use Rattle.sap_terms.specs.Signature.{Sig}
use Rattle.sap_rule.specs.declared.rule.Rule.{Rule}
use Rattle.sap_theory.specs.declared.fault.TheoryFault.{TheoryFault}
use Rattle.sap_theory.specs.TheoryCauses.{IsFirstWrong, this_rule, later_rule}
use Rattle.sap_theory.specs.code.Judged.{IsWrong}

-- it is so of the rules before index k
pub record AreRightUpTo (Is : Rule → Type 0) (fault : List ℕ → TheoryFault) (rs : List Rule) (k : ℕ) : Type 0 where
  pub all : All Is (drop k rs) → All Is rs
  pub first : (e : TheoryFault) → IsFirstWrong Is fault (drop k rs) e → IsFirstWrong Is fault rs e

pub right_to_the_end : (Is : Rule → Type 0) (fault : List ℕ → TheoryFault) (rs : List Rule) (k : ℕ) → length rs ≤ k → AreRightUpTo Is fault rs k → All Is rs
right_to_the_end Is fault rs k le h = h.all (subst (All Is) (sym (drop_all k rs le)) (All-nil Is))

pub none_yet : (Is : Rule → Type 0) (fault : List ℕ → TheoryFault) (rs : List Rule) → AreRightUpTo Is fault rs 0
none_yet Is fault rs = record { all = λ a. a; first = λ e f. f }

module _ (Is : Rule → Type 0) (fault : List ℕ → TheoryFault) (rs : List Rule) (k : ℕ) (r : Rule) (there : slice_get rs k ≡ Some r) (h : AreRightUpTo Is fault rs k) where
  one_less : drop k rs ≡ r ∷ drop (k + 1) rs
  one_less = drop_got rs k r there

  pub wrong_here : (e : TheoryFault) → IsWrong Is fault r e → IsFirstWrong Is fault rs e
  wrong_here e w =
      h.first e (subst (λ (xs : List Rule). IsFirstWrong Is fault xs e) (sym one_less)
      (subst (λ (d : TheoryFault). IsFirstWrong Is fault (r ∷ drop (k + 1) rs) d) (sym w.is) (this_rule w.wrong)))

  pub right_here : Is r → AreRightUpTo Is fault rs (k + 1)
  right_here is = record {
    all = λ a. h.all (subst (All Is) (sym one_less) (All-cons Is r (drop (k + 1) rs) is a));
    first = λ e f. h.first e (subst (λ (xs : List Rule). IsFirstWrong Is fault xs e) (sym one_less) (later_rule is f));
  }
