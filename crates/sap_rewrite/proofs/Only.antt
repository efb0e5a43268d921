-- What the walk gives is the one match, and where it gives none there is none; so it is around the destructors.
use Rattle.std.proofs.Common.{◌≡◌, List, [], ◌++◌, Some, None, sym, subst, ◌∙◌}
use Rattle.std.proofs.lemmas.List.{append-nil}
use Rattle.std.proofs.lemmas.Option.{same_Some}
use Rattle.sap_terms.specs.declared.binding.Binding.{Binding}
use Rattle.sap_terms.specs.declared.var.Var.{Var}
use Rattle.sap_terms.specs.Signature.{Sig}
use Rattle.sap_terms.specs.Subst.{bound_to}
use Rattle.sap_terms.specs.Tree.{Tree}
use Rattle.sap_rewrite.specs.Around.{IsOnlyFit, HasNoFit}
use Rattle.sap_rewrite.specs.Match.{Extends, IsMatch, HaveOneSort, bound_vars, IsOnlyMatch, HasNoMatch}
use Rattle.sap_rewrite.specs.code.Walk.{match_tree, skipped}
use Rattle.sap_rewrite.proofs.Choices.{found_agrees, none_fits, agreeing_fits}
use Rattle.sap_rewrite.proofs.Skips.{met-all, met-outer, FitsBut, fits-instance, instance-fits, fits-around, around-fits}
use Rattle.sap_rewrite.proofs.WalkLemmas.{walk, walk_finds}

-- the premise, where other variables are met
one_sort : (b : List Binding) (vs ws : List Var) → vs ≡ ws → HaveOneSort (bound_vars b ++ ws) → HaveOneSort (bound_vars b ++ vs)
one_sort b vs ws e h = subst (λ us. HaveOneSort (bound_vars b ++ us)) (sym e) h

sound : (p t : Tree) (b c : List Binding) → match_tree (skipped None) p t b ≡ Some c → IsMatch p t b c
sound p t b c m =
    let f = walk (skipped None) p t b c m in
    record {
      extends = subst (λ vs. Extends b vs c) (met-all p) f.extends;
      turns = fits-instance (bound_to c) p t (subst (λ d. FitsBut (skipped None) (bound_to d) p t) (append-nil c) (f.fits []));
    }

complete : (p t : Tree) (b c : List Binding) → IsMatch p t b c → match_tree (skipped None) p t b ≡ Some c
complete p t b c h =
    walk_finds (skipped None) p t b c (subst (λ vs. Extends b vs c) (sym (met-all p)) h.extends) (instance-fits (bound_to c) p t h.turns)

pub only_match : (p t : Tree) (b c : List Binding) → match_tree (skipped None) p t b ≡ Some c → IsOnlyMatch p t b c
only_match p t b c h = record {
  is_match = sound p t b c h;
  only = λ d m. same_Some _ _ (sym (complete p t b d m) ∙ h);
  of_all = λ one σ q. found_agrees (skipped None) p t b c h (one_sort b _ _ (met-all p) one) σ q.sorted q.agrees (instance-fits σ p t q.is);
}

none_of : (p t : Tree) (b d : List Binding) → match_tree (skipped None) p t b ≡ None → IsMatch p t b d → ⊥
none_of p t b d h m = let found : match_tree (skipped None) p t b ≡ Some d = complete p t b d m in cc

pub no_match : (p t : Tree) (b : List Binding) → match_tree (skipped None) p t b ≡ None → HasNoMatch p t b
no_match p t b h = record {
  none = λ d m. none_of p t b d h m;
  of_none = λ one σ q. none_fits (skipped None) p t b h (one_sort b _ _ (met-all p) one) σ q.sorted q.agrees (instance-fits σ p t q.is);
}

pub only_fit : (g : Sig) (p t : Tree) (b c : List Binding) → match_tree (skipped (Some g)) p t b ≡ Some c → IsOnlyFit g p t b c
only_fit g p t b c h =
    let s = skipped (Some g) in
    record {
      extends = subst (λ vs. Extends b vs c) (met-outer g p) (walk s p t b c h).extends;
      fits = λ one σ a. fits-around g σ p t (agreeing_fits s p t b c h (one_sort b _ _ (met-outer g p) one) σ a);
      only = λ one σ o a f. found_agrees s p t b c h (one_sort b _ _ (met-outer g p) one) σ o a (around-fits g σ p t f);
    }

pub no_fit : (g : Sig) (p t : Tree) (b : List Binding) → match_tree (skipped (Some g)) p t b ≡ None → HasNoFit g p t b
no_fit g p t b h = λ one σ o a f. none_fits (skipped (Some g)) p t b h (one_sort b _ _ (met-outer g p) one) σ o a (around-fits g σ p t f)
