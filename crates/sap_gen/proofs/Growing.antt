-- Short rules grow by one rule.
use Rattle.std.proofs.Common.{◌≡◌, ◌+◌, ℕ, Bool, true, false, List, [], ◌∷◌, ◌++◌, refl, slice_get, sym, ap, subst, take, Some, ◌∙◌}
use Rattle.sap_terms.proofs.PlainLaws.Lists.{take_got}
use Rattle.sap_terms.specs.declared.fact.Fact.{Fact}
use Rattle.sap_process.specs.Proc.{Proc}
use Rattle.sap_rule.specs.declared.rule.Rule.{Rule}
use Rattle.sap_gen.specs.Settled.{IsSettled}
use Rattle.sap_gen.specs.Short.{AreShort, no_rules, drops, keeps}
use Rattle.sap_gen.specs.Silent.{IsSilentRule}
use Rattle.sap_gen.specs.code.Shorter.{IsAddedRule}
use Rattle.sap_silent.specs.SilentNames.{is_silent_name}
use Rattle.sap_gen.specs.code.Takers.{NamesTell}
use Rattle.sap_gen.specs.code.Walks.{CanWalk, Takers}

module _ (p : Proc) where
  dropped_last : (rs ss : List Rule) (r : Rule) → AreShort p rs ss → IsSilentRule p r → AreShort p (rs ++ r ∷ []) ss
  dropped_last _ _ r no_rules x = drops x no_rules
  dropped_last _ _ r (drops {r = q} {rs} {ss} y h) x = drops y (dropped_last rs ss r h x)
  dropped_last _ _ r (keeps {r = q} {rs} {ss} n s h) x = keeps n s (dropped_last rs ss r h x)

  kept_last : (rs ss : List Rule) (r : Rule) (right : List Fact) → AreShort p rs ss → (IsSilentRule p r → ⊥) → IsSettled (IsSilentRule p) r.right right
      → AreShort p (rs ++ r ∷ []) (ss ++ record r { right = right } ∷ [])
  kept_last _ _ r right no_rules n s = keeps n s no_rules
  kept_last _ _ r right (drops {r = q} {rs} {ss} y h) n s = drops y (kept_last rs ss r right h n s)
  kept_last _ _ r right (keeps {r = q} {rs} {ss} m t h) n s = keeps m t (kept_last rs ss r right h n s)

  -- behind rule k, these are the short rules of the first k + 1
  pub grown : (rules : List Rule) (takers : Takers) (k : ℕ) (r : Rule) (old new : List Rule) → NamesTell p rules → CanWalk rules takers r.right p → slice_get rules k ≡ Some r
      → IsAddedRule rules takers r old new → AreShort p (take k rules) old → AreShort p (take (k + 1) rules) new
  grown rules takers k r old new tell can at added short = subst (λ z. AreShort p z new) (sym (take_got rules k r at)) (go (is_silent_name r.name) refl) where
    go : (b : Bool) → is_silent_name r.name ≡ b → AreShort p (take k rules ++ r ∷ []) new
    go true e = subst (AreShort p (take k rules ++ r ∷ [])) (sym (added.silent e)) (dropped_last (take k rules) old r short (tell.yes k r at e))
    go false e =
        let s = added.other e in
        let last = kept_last (take k rules) old r s.1.right short (tell.no k r at e) (s.1.settle p can) in
        subst (AreShort p (take k rules ++ r ∷ [])) (ap (λ z. old ++ z ∷ []) (sym s.1.is) ∙ sym s.2) last
