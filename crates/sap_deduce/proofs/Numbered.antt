-- The numbers of the entries' terms.
use Rattle.std.proofs.Common.{◌≡◌, ◌<◌, ◌≤◌, ◌+◌, ℕ, List, [], ◌∷◌, ◌++◌, length, take, option_map, Some, None, slice_get, sym, ap, ◌∙◌}
use Rattle.std.proofs.lemmas.List.{length-map, map_push}
use Rattle.std.proofs.lemmas.List.Elements.{All-contains, All-push}
use Rattle.std.proofs.lemmas.Option.{slice_get-map, slice_get_within, slice_get_past, get_or_from_slice_get, slice_get-get_or, same_Some}
use Rattle.sap_terms.specs.Tree.{Tree}
use Rattle.sap_share.specs.Shared.{Shared, tree_at, trees_at, AreBelow, HaveOneNumber}
use Rattle.sap_deduce.specs.Entries.{Entry, Entries, terms_of, AreNumbered, AreTermsAt}
use Rattle.sap_deduce.specs.Laws.{NumbersTellTerms}
use Rattle.sap_deduce.proofs.Numbers.{terms_at-more}

-- as many numbers as entries
pub numbers-length : (s : Shared) (k : Entries) → AreNumbered s k → length k.numbers ≡ length k.entries
numbers-length s k h = sym (length-map k.numbers (tree_at s.trees)) ∙ ap length h.terms ∙ length-map k.entries (λ (e : Entry). e.term)

-- an entry's term is that of its number
numbers-term : (s : Shared) (k : Entries) → AreNumbered s k → (j : ℕ) → slice_get (terms_of k.entries) j ≡ option_map (tree_at s.trees) (slice_get k.numbers j)
numbers-term s k h j = ap (λ ts. slice_get ts j) (sym h.terms) ∙ slice_get-map (tree_at s.trees) k.numbers j

-- and it is in the table
numbers-below : (s : Shared) (k : Entries) → AreNumbered s k → (j n : ℕ) → slice_get k.numbers j ≡ Some n → n < length s.trees
numbers-below s k h j n at =
    let P : ℕ → Type 0 = λ m. m < length s.trees in
    All-contains P k.numbers n h.below (j, slice_get_within k.numbers j n at, get_or_from_slice_get k.numbers j n n at)

pub number-says : (s : Shared) (k : Entries) → AreNumbered s k → (j n : ℕ) → slice_get k.numbers j ≡ Some n → (n < length s.trees) × (slice_get (terms_of k.entries) j ≡ Some (tree_at s.trees n))
number-says s k h j n at = (numbers-below s k h j n at, numbers-term s k h j ∙ ap (option_map (tree_at s.trees)) at)

number_there : (s : Shared) (k : Entries) → AreNumbered s k → (j : ℕ) → j < length k.entries → (n : ℕ) × (slice_get k.numbers j ≡ Some n)
number_there s k h j lt = (_, slice_get-get_or k.numbers j 0 (rw (numbers-length s k h) lt))

-- one term, one number
one_number : (s : Shared) (k : Entries) → AreNumbered s k → HaveOneNumber s.trees (length s.trees) → (i j : ℕ) → (m : (n : ℕ) × (slice_get k.numbers i ≡ Some n)) → (n : (n : ℕ) × (slice_get k.numbers j ≡ Some n))
    → slice_get (terms_of k.entries) i ≡ slice_get (terms_of k.entries) j → slice_get k.numbers i ≡ slice_get k.numbers j
one_number s k h once i j m n same =
    let first = number-says s k h i m.0 m.1 in
    let second = number-says s k h j n.0 n.1 in
    let trees : tree_at s.trees m.0 ≡ tree_at s.trees n.0 = same_Some (tree_at s.trees m.0) (tree_at s.trees n.0) (sym first.1 ∙ same ∙ second.1) in
    m.1 ∙ ap Some (once m.0 n.0 first.0 second.0 trees) ∙ sym n.1

pub numbers-tell : (s : Shared) (k : Entries) → AreNumbered s k → HaveOneNumber s.trees (length s.trees) → NumbersTellTerms k
numbers-tell s k h once i j hi hj = (
  (λ same. numbers-term s k h i ∙ ap (option_map (tree_at s.trees)) same ∙ sym (numbers-term s k h j)),
  one_number s k h once i j (number_there s k h i hi) (number_there s k h j hj),
)

-- beyond the entries there is no number
pub number_beyond : (s : Shared) (k : Entries) → AreNumbered s k → (j : ℕ) → length k.entries ≤ j → None ≡ slice_get k.numbers j
number_beyond s k h j le = sym (slice_get_past k.numbers j (rw (numbers-length s k h) le))

-- the numbers of some entries' terms, and of one more entry's
pub numbers_more : (es : List Entry) (trees : List Tree) (ns ks more : List ℕ) (i n k : ℕ) → AreTermsAt es (take i ns) (trees_at trees ks) → AreBelow (length trees) ks → slice_get ns i ≡ Some n
    → slice_get (terms_of es) n ≡ Some (tree_at trees k) → k < length trees → more ≡ ks ++ k ∷ [] → AreTermsAt es (take (i + 1) ns) (trees_at trees more) × AreBelow (length trees) more
numbers_more es trees ns ks more i n k terms below at term lt is =
    let P : ℕ → Type 0 = λ j. j < length trees in
    rw (is, map_push (tree_at trees) ks k) (
      terms_at-more (terms_of es) ns i n (trees_at trees ks) (tree_at trees k) terms at term,
      All-push P ks k below lt,
    )
