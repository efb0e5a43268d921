-- The names that are looked at, from the last on.
use Rattle.std.proofs.Common.{◌≡◌, ℕ, ◌+◌, List, ◌∷◌, true, false, ◌||◌, Option, Some, sym, ap, ◌∙◌, drop}
use Rattle.std.specs.Prelude.{slice_get}
use Rattle.std.specs.List.{list_any}
use Rattle.std.specs.Str.{bytes_eq}
use Rattle.sap_terms.proofs.PlainLaws.Lists.{drop_got}
use Rattle.sap_theory.specs.TheoryCauses.{first_repeated}
use Rattle.sap_theory.specs.code.Named.{AreSeen}

-- a name more is looked at, the one at index k
module _ (names : List (List ℕ)) (k : ℕ) (x : List ℕ) (behind after : List (List ℕ)) (found : Option ℕ) (there : slice_get names k ≡ Some x)
    (h : AreSeen names (k + 1) behind found) (more : (y : List ℕ) → list_any (bytes_eq y) after ≡ (bytes_eq x y || list_any (bytes_eq y) behind)) where
  one_less : drop k names ≡ x ∷ drop (k + 1) names
  one_less = drop_got names k x there

  more_seen : (y : List ℕ) → list_any (bytes_eq y) after ≡ list_any (λ z. bytes_eq z y) (drop k names)
  more_seen y = more y ∙ ap (λ t. bytes_eq x y || t) (h.seen y) ∙ sym (ap (list_any (λ z. bytes_eq z y)) one_less)

  -- it stands again
  pub repeated_here : list_any (bytes_eq x) behind ≡ true → AreSeen names k after (Some k)
  repeated_here is = record {
    seen = more_seen;
    first = ap first_repeated one_less ∙ rw (sym (h.seen x) ∙ is) (sym there);
  }

  -- it doesn't
  pub single_here : list_any (bytes_eq x) behind ≡ false → AreSeen names k after found
  single_here is = record {
    seen = more_seen;
    first = ap first_repeated one_less ∙ rw (sym (h.seen x) ∙ is) h.first;
  }
