-- Expansions have one size, whatever names are taken.
use Rattle.std.proofs.Common.{◌≡◌, ℕ, ◌+◌, Bool, true, false, List, [], ◌∷◌, map, refl, sym, ◌∙◌}
use Rattle.std.specs.Prelude.{if◌then◌else◌}
use Rattle.std.specs.Str.{bytes_eq}
use Rattle.sap_terms.specs.Choice.{Choice, instance}
use Rattle.sap_terms.specs.Tree.{Tree}
use Rattle.sap_process.specs.Proc.{level_count, node_count}
use Rattle.sap_macro.specs.Expansion.{Meaning, by_names, entered, expanded, expansion, meaning_after, meaning_of, no_meaning, own_names, plain, plain_bodies, put, same_name, unchanged, with_definition}
use Rattle.sap_macro.specs.NewNames.{renamed, taken_after}
use Rattle.sap_macro.specs.Written.{Written, nil, call, parallel, replicated, act, test, lookup, Definition}
use Rattle.sap_macro.specs.code.Sizes.{deeper, plus}
use Rattle.sap_macro.proofs.Sized.{levels_are, nodes_are, size_of}

module _ (j : ℕ → ℕ → ℕ) where
  -- a name means processes of one size, whatever its arguments are, and what is taken
  abbrev HasOneSize : Meaning → Type 0
  HasOneSize m = (f : List ℕ) (ts us : List Tree) (taken other : List (List ℕ)) → size_of j (m f ts taken).process ≡ size_of j (m f us other).process

  module _ (m : Meaning) (h : HasOneSize m) (r q : Choice) (b c : List ℕ → List ℕ) where
    one_size : (w : Written) (taken other : List (List ℕ)) → size_of j (expanded m r b w taken).process ≡ size_of j (expanded m q c w other).process
    one_size nil taken other = refl
    one_size (call f ts) taken other = h f (map (instance r) ts) (map (instance q) ts) taken other
    one_size (parallel p o) taken other =
        λ i. j (one_size p taken other i) (one_size o (expanded m r b p taken).taken (expanded m q c p other).taken i) + 1
    one_size (replicated p) taken other = λ i. one_size p taken other i + 1
    one_size (act a p) taken other = λ i. one_size p taken other i + 1
    one_size (test t u p o) taken other =
        λ i. j (one_size p taken other i) (one_size o (expanded m r b p taken).taken (expanded m q c p other).taken i) + 1
    one_size (lookup t x p o) taken other =
        λ i. j (one_size p taken other i) (one_size o (expanded m r b p taken).taken (expanded m q c p other).taken i) + 1

  one_with : (m : Meaning) → HasOneSize m → (d : Definition) → HasOneSize (with_definition m d)
  one_with m h d f ts us taken other = by (bytes_eq d.name f) where
    by : (b : Bool) → size_of j (if b then entered m d ts taken else m f ts taken).process ≡ size_of j (if b then entered m d us other else m f us other).process
    by true =
        let b = renamed taken (own_names d) in
        let c = renamed other (own_names d) in
        one_size m h (put d.params ts (by_names b)) (put d.params us (by_names c)) b c d.body (taken_after taken (own_names d)) (taken_after other (own_names d))
    by false = h f ts us taken other

  one_after : (ds : List Definition) (m : Meaning) → HasOneSize m → HasOneSize (meaning_after m ds)
  one_after [] m h = h
  one_after (d ∷ ds) m h = one_after ds (with_definition m d) (one_with m h d)

  expansions_have_one : (ds : List Definition) (p : Written) (identifiers other : List (List ℕ))
      → size_of j (expansion ds identifiers p).process ≡ size_of j (expansion ds other p).process
  expansions_have_one ds p identifiers other =
      one_size (meaning_of (plain_bodies call ds)) (one_after (plain_bodies call ds) no_meaning (λ f ts us taken more. refl)) unchanged unchanged same_name same_name
      (plain ds p) identifiers other

pub one_node_count : (ds : List Definition) (p : Written) (identifiers other : List (List ℕ))
    → node_count (expansion ds identifiers p).process ≡ node_count (expansion ds other p).process
one_node_count ds p identifiers other =
    nodes_are (expansion ds identifiers p).process ∙ expansions_have_one plus ds p identifiers other ∙ sym (nodes_are (expansion ds other p).process)

pub one_level_count : (ds : List Definition) (p : Written) (identifiers other : List (List ℕ))
    → level_count (expansion ds identifiers p).process ≡ level_count (expansion ds other p).process
one_level_count ds p identifiers other =
    levels_are (expansion ds identifiers p).process ∙ expansions_have_one deeper ds p identifiers other ∙ sym (levels_are (expansion ds other p).process)
