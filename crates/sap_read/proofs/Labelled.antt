-- The file's process, and the names that are taken.
use Rattle.std.proofs.Common.{◌≡◌, ℕ, ◌+◌, List, ◌∷◌, ◌++◌, append_assoc, Bool, true, false, ◌||◌, Option, Some, refl, sym, ap, ◌∙◌, map, drop}
use Rattle.std.specs.Prelude.{slice_get, is_none}
use Rattle.std.specs.List.{list_any}
use Rattle.std.specs.Str.{bytes_eq}
use Rattle.sap_read.specs.declared.entry.Entry.{Entry}
use Rattle.sap_read.specs.Causes.{unlabelled, listed, labels, is_among, first_taken}
use Rattle.sap_read.specs.Entries.{body}
use Rattle.sap_read.specs.code.Label.{AreSeen}
use Rattle.sap_terms.proofs.PlainLaws.Lists.{drop_got}

-- a process with a label is passed over
pub passed : (es : List Entry) (k : ℕ) (e : Entry) → slice_get es k ≡ Some e → is_none e.label ≡ false → unlabelled (map body (drop k es)) ≡ unlabelled (map body (drop (k + 1) es))
passed es k e there labelled =
    ap (λ (xs : List Entry). unlabelled (map body xs)) (drop_got es k e there) ∙ rw labelled refl

-- one without a label is the first
pub stopped : (es : List Entry) (k : ℕ) (e : Entry) → slice_get es k ≡ Some e → is_none e.label ≡ true → unlabelled (map body (drop k es)) ≡ body e ∷ unlabelled (map body (drop (k + 1) es))
stopped es k e there bare =
    ap (λ (xs : List Entry). unlabelled (map body xs)) (drop_got es k e there) ∙ rw bare refl

-- a name more is looked at, the one at index k
module _ (is_reserved : List ℕ → Bool) (names : List (List ℕ)) (k : ℕ) (x : List ℕ) (behind after : List (List ℕ)) (found : Option ℕ) (there : slice_get names k ≡ Some x)
    (h : AreSeen is_reserved names (k + 1) behind found) (more : (y : List ℕ) → list_any (bytes_eq y) after ≡ (bytes_eq x y || list_any (bytes_eq y) behind)) where
  one_less : drop k names ≡ x ∷ drop (k + 1) names
  one_less = drop_got names k x there

  more_seen : (y : List ℕ) → list_any (bytes_eq y) after ≡ is_among (drop k names) y
  more_seen y = more y ∙ ap (λ t. bytes_eq x y || t) (h.seen y) ∙ sym (ap (λ zs. is_among zs y) one_less)

  same_test : (is_reserved x || list_any (bytes_eq x) behind) ≡ (is_reserved x || is_among (drop (k + 1) names) x)
  same_test = ap (λ t. is_reserved x || t) (h.seen x)

  -- it is taken
  pub taken_here : (is_reserved x || list_any (bytes_eq x) behind) ≡ true → AreSeen is_reserved names k after (Some k)
  taken_here is = record {
    seen = more_seen;
    first = ap (first_taken is_reserved) one_less ∙ rw (sym same_test ∙ is) (sym there);
  }

  -- it isn't
  pub free_here : (is_reserved x || list_any (bytes_eq x) behind) ≡ false → AreSeen is_reserved names k after found
  free_here is = record {
    seen = more_seen;
    first = ap (first_taken is_reserved) one_less ∙ rw (sym same_test ∙ is) h.first;
  }

-- the names of processes, one process more
pub label_more : (es : List Entry) (k : ℕ) (e : Entry) (names : List (List ℕ)) → slice_get es k ≡ Some e → labels (map body es) ≡ names ++ labels (map body (drop k es))
    → labels (map body es) ≡ (names ++ listed e.label) ++ labels (map body (drop (k + 1) es))
label_more es k e names there is =
    is ∙ ap (λ (xs : List Entry). names ++ labels (map body xs)) (drop_got es k e there) ∙ sym (append_assoc names (listed e.label) (labels (map body (drop (k + 1) es))))
