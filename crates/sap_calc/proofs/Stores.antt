-- A map by numbers is the map by their trees.
use Rattle.std.proofs.Common.{◌≡◌, ◌<◌, ℕ, List, [], ◌∷◌, length, map, Option, Some, None, option_map, unwrap_or, Bool, true, false, nat_eq, if◌then◌else◌, refl, sym, subst, ◌∙◌}
use Rattle.std.specs.Prelude.{All}
use Rattle.std.specs.Map.{lookup}
use Rattle.std.specs.Cmp.{unsigned_Decides}
use Rattle.std.proofs.lemmas.Bool.{false≢true}
use Rattle.std.proofs.lemmas.List.Elements.{All-head, All-tail, All-nil, All-cons}
use Rattle.indexmap.specs.IndexMap.{insert_entry}
use Rattle.sap_terms.specs.Same.{same_tree}
use Rattle.sap_terms.specs.Tree.{Tree}
use Rattle.sap_terms.proofs.PlainLaws.Tests.{same_tree-sound, same_tree-refl}
use Rattle.sap_process.specs.Configuration.{stores, holding}
use Rattle.sap_share.specs.Shared.{Shared, tree_at, HaveOneNumber}
use Rattle.sap_calc.specs.Running.{value_at, configuration}
use Rattle.sap_calc.specs.code.Parts.{Parts, AreTied, seen, IsSmallValue}
use Rattle.sap_heads.specs.Values.{IsSmallNumber}

-- what stands at a key after a value was put there, and at another key
two_keys : {V : Type 0} (a b : Bool) (v w rest : V) → (a ≡ true → b ≡ true → ⊥) → (if a then w else (if b then v else rest)) ≡ (if b then v else (if a then w else rest))
two_keys true true v w rest n = absurd (n refl refl)
two_keys true false v w rest n = refl
two_keys false true v w rest n = refl
two_keys false false v w rest n = refl

one_key : {V : Type 0} (a : Bool) (v w rest : V) → (if a then v else rest) ≡ (if a then v else (if a then w else rest))
one_key true v w rest = refl
one_key false v w rest = refl

module _ (ts : List Tree) (once : HaveOneNumber ts (length ts)) (k : ℕ) (k_below : k < length ts) {V W : Type 0} (f : V → W) (d : W) where
  pub put_at : (v : V) (es : List (ℕ × V)) → All (λ (e : ℕ × V). e.0 < length ts) es → (t : Tree)
      → value_at d (map (λ (e : ℕ × V). (tree_at ts e.0, f e.1)) (insert_entry nat_eq es k v)) t ≡ (if same_tree (tree_at ts k) t then f v else value_at d (map (λ (e : ℕ × V). (tree_at ts e.0, f e.1)) es) t)
  put_at v [] below t = refl
  put_at v (e ∷ es) below t =
      let Q : ℕ × V → Type 0 = λ e. e.0 < length ts in
      by (nat_eq k e.0) refl (put_at v es (All-tail Q e es below) t) (All-head Q e es below) where
        by : (b : Bool) → nat_eq k e.0 ≡ b
            → value_at d (map (λ (e : ℕ × V). (tree_at ts e.0, f e.1)) (insert_entry nat_eq es k v)) t ≡ (if same_tree (tree_at ts k) t then f v else value_at d (map (λ (e : ℕ × V). (tree_at ts e.0, f e.1)) es) t)
            → e.0 < length ts
            → value_at d (map (λ (e : ℕ × V). (tree_at ts e.0, f e.1)) (if b then (e.0, v) ∷ es else e ∷ insert_entry nat_eq es k v)) t ≡ (if same_tree (tree_at ts k) t then f v else value_at d (map (λ (e : ℕ × V). (tree_at ts e.0, f e.1)) (e ∷ es)) t)
        by true is later lt =
            let same : k ≡ e.0 = (unsigned_Decides k e.0).0 is in
            rw same (one_key (same_tree (tree_at ts e.0) t) (f v) (f e.1) (value_at d (map (λ (e : ℕ × V). (tree_at ts e.0, f e.1)) es) t))
        by false is later lt =
            rw later (two_keys (same_tree (tree_at ts e.0) t) (same_tree (tree_at ts k) t) (f v) (f e.1) (value_at d (map (λ (e : ℕ × V). (tree_at ts e.0, f e.1)) es) t)
            (λ a b.
            let trees = same_tree-sound (tree_at ts k) t b ∙ sym (same_tree-sound (tree_at ts e.0) t a) in
            let number = once k e.0 k_below lt trees in
            false≢true (sym is ∙ (unsigned_Decides k e.0).1 number)))

  pub found_at : (c : V) → f c ≡ d → (es : List (ℕ × V)) → All (λ (e : ℕ × V). e.0 < length ts) es
      → value_at d (map (λ (e : ℕ × V). (tree_at ts e.0, f e.1)) es) (tree_at ts k) ≡ f (unwrap_or (lookup (nat_eq k) es) c)
  found_at c is [] below = sym is
  found_at c is (e ∷ es) below =
      let Q : ℕ × V → Type 0 = λ e. e.0 < length ts in
      by (nat_eq k e.0) refl (found_at c is es (All-tail Q e es below)) (All-head Q e es below) where
        by : (b : Bool) → nat_eq k e.0 ≡ b → value_at d (map (λ (e : ℕ × V). (tree_at ts e.0, f e.1)) es) (tree_at ts k) ≡ f (unwrap_or (lookup (nat_eq k) es) c) → e.0 < length ts
            → value_at d (map (λ (e : ℕ × V). (tree_at ts e.0, f e.1)) (e ∷ es)) (tree_at ts k) ≡ f (unwrap_or (if b then Some e.1 else lookup (nat_eq k) es) c)
        by true is later lt =
            let same : k ≡ e.0 = (unsigned_Decides k e.0).0 is in
            let yes : same_tree (tree_at ts e.0) (tree_at ts k) ≡ true = rw same (same_tree-refl (tree_at ts e.0)) in
            rw yes refl
        by false is later lt = other (same_tree (tree_at ts e.0) (tree_at ts k)) refl later where
          other : (a : Bool) → same_tree (tree_at ts e.0) (tree_at ts k) ≡ a → value_at d (map (λ (e : ℕ × V). (tree_at ts e.0, f e.1)) es) (tree_at ts k) ≡ f (unwrap_or (lookup (nat_eq k) es) c)
              → (if a then f e.1 else value_at d (map (λ (e : ℕ × V). (tree_at ts e.0, f e.1)) es) (tree_at ts k)) ≡ f (unwrap_or (lookup (nat_eq k) es) c)
          other true same later = absurd (false≢true (sym is ∙ (unsigned_Decides k e.0).1 (sym (once e.0 k lt k_below (same_tree-sound (tree_at ts e.0) (tree_at ts k) same)))))
          other false differ later = later

-- what holds of each entry and of the one that is put holds of each entry then
put_all : {V : Type 0} (Q : ℕ × V → Type 0) (es : List (ℕ × V)) (k : ℕ) (v : V) → ((j : ℕ) → k ≡ j → Q (j, v)) → All Q es → All Q (insert_entry nat_eq es k v)
put_all Q [] k v new all = All-cons Q (k, v) [] (new k refl) (All-nil Q)
put_all {V} Q (e ∷ es) k v new all = by (nat_eq k e.0) refl (put_all Q es k v new (All-tail Q e es all)) where
  by : (b : Bool) → nat_eq k e.0 ≡ b → All Q (insert_entry nat_eq es k v) → All Q (if b then (e.0, v) ∷ es else e ∷ insert_entry nat_eq es k v)
  by true is later = All-cons Q (e.0, v) es (new e.0 ((unsigned_Decides k e.0).0 is)) (All-tail Q e es all)
  by false is later = All-cons Q e (insert_entry nat_eq es k v) (All-head Q e es all) later

module _ (P : Parts) (tied : AreTied P) (once : HaveOneNumber P.table.trees (length P.table.trees)) (k : ℕ) (small : IsSmallNumber P.table k) where
  keys_below : All (λ (e : ℕ × Option ℕ). e.0 < length P.table.trees) P.store
  keys_below = λ i d lt. (tied.keys i d lt).below

  marks_below : All (λ (e : ℕ × Bool). e.0 < length P.table.trees) P.held
  marks_below = λ i d lt. (tied.held i d lt).below

  -- a value put at a key's number is put at the key
  pub stores_is : (v : Option ℕ) → configuration (seen (record P { store = insert_entry nat_eq P.store k v })) ≡ stores (configuration (seen P)) (tree_at P.table.trees k) (option_map (tree_at P.table.trees) v)
  stores_is v =
      let f : Option ℕ → Option Tree = option_map (tree_at P.table.trees) in
      λ i. record (configuration (seen P)) { store = λ t. put_at P.table.trees once k small.below f None v P.store keys_below t i }

  pub stores_tied : (v : Option ℕ) → IsSmallValue P.table v → AreTied (record P { store = insert_entry nat_eq P.store k v })
  stores_tied v value = record {
    numbered = tied.numbered;
    places = tied.places;
    threads = tied.threads;
    keys = put_all (λ (e : ℕ × Option ℕ). IsSmallNumber P.table e.0) P.store k v (λ j e. subst (IsSmallNumber P.table) e small) tied.keys;
    values = put_all (λ (e : ℕ × Option ℕ). IsSmallValue P.table e.1) P.store k v (λ j e. value) tied.values;
    held = tied.held;
    own = tied.own;
    slots = tied.slots;
    facts = tied.facts;
  }

  pub stored_is : (configuration (seen P)).store (tree_at P.table.trees k) ≡ option_map (tree_at P.table.trees) (unwrap_or (lookup (nat_eq k) P.store) None)
  stored_is = found_at P.table.trees once k small.below (option_map (tree_at P.table.trees)) None None refl P.store keys_below

  pub holds_is : (b : Bool) → configuration (seen (record P { held = insert_entry nat_eq P.held k b })) ≡ holding (configuration (seen P)) (tree_at P.table.trees k) b
  holds_is b =
      let f : Bool → Bool = λ b. b in
      λ i. record (configuration (seen P)) { held = λ t. put_at P.table.trees once k small.below f false b P.held marks_below t i }

  pub holds_tied : (b : Bool) → AreTied (record P { held = insert_entry nat_eq P.held k b })
  holds_tied b = record {
    numbered = tied.numbered;
    places = tied.places;
    threads = tied.threads;
    keys = tied.keys;
    values = tied.values;
    held = put_all (λ (e : ℕ × Bool). IsSmallNumber P.table e.0) P.held k b (λ j e. subst (IsSmallNumber P.table) e small) tied.held;
    own = tied.own;
    slots = tied.slots;
    facts = tied.facts;
  }

  pub held_is : (configuration (seen P)).held (tree_at P.table.trees k) ≡ unwrap_or (lookup (nat_eq k) P.held) false
  held_is = found_at P.table.trees once k small.below (λ (b : Bool). b) false false refl P.held marks_below

-- what is found is small
pub looked_small : (s : Shared) (k : ℕ) (es : List (ℕ × Option ℕ)) (i : ℕ) → unwrap_or (lookup (nat_eq k) es) None ≡ Some i → All (λ (e : ℕ × Option ℕ). IsSmallValue s e.1) es → IsSmallNumber s i
looked_small s k [] i has all = cc
looked_small s k (e ∷ es) i has all =
    let Q : ℕ × Option ℕ → Type 0 = λ e. IsSmallValue s e.1 in
    by (nat_eq k e.0) has (All-head Q e es all) (λ later. looked_small s k es i later (All-tail Q e es all)) where
      by : (b : Bool) → unwrap_or (if b then Some e.1 else lookup (nat_eq k) es) None ≡ Some i → IsSmallValue s e.1 → (unwrap_or (lookup (nat_eq k) es) None ≡ Some i → IsSmallNumber s i) → IsSmallNumber s i
      by true is here later = here i is
      by false is here later = later is
