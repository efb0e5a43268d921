-- Keys of a set whose test of equal keys is equality.
use Rattle.std.proofs.Common.{◌≡◌, ◌<◌, ℕ, zero, suc, Bool, true, false, ◌||◌, List, [], ◌∷◌, ◌++◌, length, get_or, Some, refl, sym, ap, ◌∙◌, position, arith}
use Rattle.std.specs.Prelude.{slice_get, Contains}
use Rattle.std.specs.Bool.{Decides}
use Rattle.std.specs.List.{list_any}
use Rattle.std.proofs.lemmas.Bool.{false≢true}
use Rattle.std.proofs.lemmas.List.Quantifiers.{position-Some}
use Rattle.std.proofs.lemmas.Option.{slice_get-get_or}
use Rattle.indexmap.specs.IndexSet.{insert_key}
use Rattle.indexmap.proofs.CallerLemmas.{Contains-list_any}

module _ {T : Type 0} (eq : T → T → Bool) (dec : (x y : T) → Decides (eq x y) (x ≡ y)) where
  -- a key is in the list where the test finds it
  pub any-Contains : (ks : List T) (k : T) → list_any (eq k) ks ≡ true → Contains ks k
  any-Contains ks k h = Contains-list_any eq (λ x y e. (dec x y).0 e) ks k h

  -- and the test finds it there
  Contains-any : (ks : List T) (k : T) (i : ℕ) → i < length ks → get_or ks i k ≡ k → list_any (eq k) ks ≡ true
  Contains-any [] k i lt e = absurd (omega arith)
  Contains-any (x ∷ xs) k zero lt e = rw ((dec k x).1 (sym e)) refl
  Contains-any (x ∷ xs) k (suc i) lt e = by (eq k x) (Contains-any xs k i (omega arith) e) where
    by : (b : Bool) → list_any (eq k) xs ≡ true → (b || list_any (eq k) xs) ≡ true
    by true h = refl
    by false h = h

  pub none-Contains : (ks : List T) (k : T) (b : Bool) → b ≡ list_any (eq k) ks → b ≡ false → Contains ks k → ⊥
  none-Contains ks k b e f (i, lt, is) = false≢true (sym f ∙ e ∙ Contains-any ks k i lt is)

  -- a new key goes last
  pub new_is_last : (ks : List T) (k : T) → (Contains ks k → ⊥) → insert_key eq ks k ≡ ks ++ k ∷ []
  new_is_last ks k new = by (list_any (eq k) ks) refl where
    by : (b : Bool) → list_any (eq k) ks ≡ b → insert_key eq ks k ≡ ks ++ k ∷ []
    by true p = absurd (new (any-Contains ks k p))
    by false p = rw p refl

  -- a key stands at its place
  pub stands_at : (ks : List T) (k : T) (i : ℕ) → Some i ≡ position (eq k) ks → slice_get ks i ≡ Some k
  stands_at ks k i h =
      let p = position-Some (eq k) ks i k (sym h) in
      slice_get-get_or ks i k p.0 ∙ ap Some (sym ((dec k (get_or ks i k)).0 p.1))
