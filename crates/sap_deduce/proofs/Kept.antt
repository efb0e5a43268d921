-- Numbers of a table that gains more.
use Rattle.std.proofs.Common.{◌≡◌, ◌<◌, ◌+◌, ℕ, List, [], ◌∷◌, length, refl, ap, ◌∙◌, arith, length-append}
use Rattle.std.proofs.lemmas.List.{get_or_append_left}
use Rattle.std.proofs.lemmas.List.Elements.{All-head, All-tail}
use Rattle.sap_terms.specs.Tree.{fresh}
use Rattle.sap_share.specs.Shared.{Shared, tree_at, trees_at, AreBelow, Keeps}
use Rattle.sap_deduce.specs.Entries.{Entries, AreNumbered}

length-kept : (s t : Shared) → Keeps s t → (k : ℕ) → k < length s.trees → k < length t.trees
length-kept s t h k lt =
    let l : length t.trees ≡ length s.trees + length h.added = ap length h.trees ∙ length-append s.trees h.added in
    omega (arith, l, lt)

tree_at-kept : (s t : Shared) → Keeps s t → (k : ℕ) → k < length s.trees → tree_at t.trees k ≡ tree_at s.trees k
tree_at-kept s t h k lt = ap (λ us. tree_at us k) h.trees ∙ get_or_append_left s.trees h.added (fresh 0) k lt

trees_at-kept : (s t : Shared) → Keeps s t → (ks : List ℕ) → AreBelow (length s.trees) ks → trees_at t.trees ks ≡ trees_at s.trees ks
trees_at-kept s t h [] b = refl
trees_at-kept s t h (k ∷ ks) b =
    let P : ℕ → Type 0 = λ j. j < length s.trees in
    λ i. tree_at-kept s t h k (All-head P k ks b) i ∷ trees_at-kept s t h ks (All-tail P k ks b) i

-- entries keep their numbers
pub numbers_stay : (s t : Shared) (k : Entries) → AreNumbered s k → Keeps s t → AreNumbered t k
numbers_stay s t k h keeps = record {
  sig = keeps.sig ∙ h.sig;
  below = λ j d lt. length-kept s t keeps _ (h.below j d lt);
  terms = trees_at-kept s t keeps k.numbers h.below ∙ h.terms;
}
