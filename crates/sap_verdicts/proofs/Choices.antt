-- The choices of a reason, one after another.
use Rattle.std.proofs.Common.{◌≡◌, ℕ, ◌+◌, ◌≤◌, List, [], ◌∷◌, ◌++◌, Some, append_assoc, codes, drop, length, map, slice_get, refl, sym, ap, ◌∙◌}
use Rattle.std.proofs.Math.ListN.{drop_of_length-le}
use Rattle.std.proofs.lemmas.List.{append-nil}
use Rattle.sap_called.specs.Names.{Draw}
use Rattle.sap_search.specs.View.{chosen_value}
use Rattle.sap_search.specs.declared.claim.Chosen.{Chosen}
use Rattle.sap_terms.proofs.PlainLaws.Lists.{drop_got}
use Rattle.sap_verdicts.specs.VerdictText.{choice_text, more_choices, reason_text}

-- one choice more
pub more_one : (ds : List Draw) (ls : List ℕ) (cs : List Chosen) (k : ℕ) (c : Chosen) (old new : List ℕ) → slice_get cs k ≡ Some c → new ≡ old ++ (codes ", " ++ choice_text ds ls (chosen_value c).binder (chosen_value c).value) → new ++ more_choices ds ls (map chosen_value (drop (k + 1) cs)) ≡ old ++ more_choices ds ls (map chosen_value (drop k cs))
more_one ds ls cs k c old new h e =
    let text = choice_text ds ls (chosen_value c).binder (chosen_value c).value in
    let rest = more_choices ds ls (map chosen_value (drop (k + 1) cs)) in
    ap (λ z. z ++ rest) e ∙ append_assoc old (codes ", " ++ text) rest ∙ ap (λ z. old ++ z) (append_assoc (codes ", ") text rest) ∙ sym (ap (λ z. old ++ more_choices ds ls (map chosen_value z)) (drop_got cs k c h))

pub more_none : (ds : List Draw) (ls : List ℕ) (cs : List Chosen) (k : ℕ) (old : List ℕ) → length cs ≤ k → old ++ more_choices ds ls (map chosen_value (drop k cs)) ≡ old
more_none ds ls cs k old h = ap (λ z. old ++ more_choices ds ls (map chosen_value z)) (drop_of_length-le cs h) ∙ append-nil old

pub ruleset choice_laws = (more_one, more_none)
