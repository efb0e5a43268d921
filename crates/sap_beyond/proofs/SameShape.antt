-- Expansions have one shape, whatever names are taken.
use Rattle.std.proofs.Common.{◌≡◌, ℕ, Bool, true, false, List, [], ◌∷◌, map, refl, ap}
use Rattle.std.specs.Prelude.{if◌then◌else◌}
use Rattle.std.specs.Str.{bytes_eq}
use Rattle.sap_terms.specs.Choice.{Choice, instance}
use Rattle.sap_terms.specs.Tree.{Tree}
use Rattle.sap_macro.specs.Expansion.{Meaning, by_names, entered, expanded, expansion, meaning_after, meaning_of, no_meaning, own_names, plain, plain_bodies, put, same_name, unchanged, with_definition}
use Rattle.sap_macro.specs.NewNames.{renamed, taken_after}
use Rattle.sap_macro.specs.Written.{Written, nil, call, parallel, replicated, act, test, lookup, Definition}
use Rattle.sap_beyond.specs.code.Shapes.{one, two, shape}

-- a name means processes of one shape, whatever its arguments are, and what is taken
abbrev HasOneShape : Meaning → Type 0
HasOneShape m = (f : List ℕ) (ts us : List Tree) (taken other : List (List ℕ)) → shape (m f ts taken).process ≡ shape (m f us other).process

module _ (m : Meaning) (h : HasOneShape m) (r q : Choice) (b c : List ℕ → List ℕ) where
  one_shape : (w : Written) (taken other : List (List ℕ)) → shape (expanded m r b w taken).process ≡ shape (expanded m q c w other).process
  one_shape nil taken other = refl
  one_shape (call f ts) taken other = h f (map (instance r) ts) (map (instance q) ts) taken other
  one_shape (parallel p o) taken other =
      λ i. two (one_shape p taken other i) (one_shape o (expanded m r b p taken).taken (expanded m q c p other).taken i)
  one_shape (replicated p) taken other = ap one (one_shape p taken other)
  one_shape (act a p) taken other = ap one (one_shape p taken other)
  one_shape (test t u p o) taken other =
      λ i. two (one_shape p taken other i) (one_shape o (expanded m r b p taken).taken (expanded m q c p other).taken i)
  one_shape (lookup t x p o) taken other =
      λ i. two (one_shape p taken other i) (one_shape o (expanded m r b p taken).taken (expanded m q c p other).taken i)

one_with : (m : Meaning) → HasOneShape m → (d : Definition) → HasOneShape (with_definition m d)
one_with m h d f ts us taken other = by (bytes_eq d.name f) where
  by : (t : Bool) → shape (if t then entered m d ts taken else m f ts taken).process ≡ shape (if t then entered m d us other else m f us other).process
  by true =
      let b = renamed taken (own_names d) in
      let c = renamed other (own_names d) in
      one_shape m h (put d.params ts (by_names b)) (put d.params us (by_names c)) b c d.body (taken_after taken (own_names d)) (taken_after other (own_names d))
  by false = h f ts us taken other

one_after : (ds : List Definition) (m : Meaning) → HasOneShape m → HasOneShape (meaning_after m ds)
one_after [] m h = h
one_after (d ∷ ds) m h = one_after ds (with_definition m d) (one_with m h d)

pub expansions_have_one : (ds : List Definition) (p : Written) (identifiers other : List (List ℕ))
    → shape (expansion ds identifiers p).process ≡ shape (expansion ds other p).process
expansions_have_one ds p identifiers other =
    one_shape (meaning_of (plain_bodies call ds)) (one_after (plain_bodies call ds) no_meaning (λ f ts us taken more. refl)) unchanged unchanged same_name same_name
    (plain ds p) identifiers other
