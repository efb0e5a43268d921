-- What a list keeps where something is put last, or refused.
use Rattle.std.proofs.Common.{◌≡◌, ◌≤◌, ℕ, List, [], ◌∷◌, ◌++◌, length, Some, sym, ap, ◌∙◌, ◌⊎◌, inl, inr, arith}
use Rattle.std.specs.Prelude.{slice_get, Result, Ok, Err, OnOk, OnErr}
use Rattle.std.proofs.lemmas.List.{length_push}
use Rattle.sap_derive.specs.code.Listed.{IsListed, StandOnce}
use Rattle.sap_derive.proofs.Gets.{get-more, get-last_cases}

pub record Keeps {X : Type 0} (old new : List X) : Type 0 where
  pub items : (k : ℕ) (x : X) → slice_get old k ≡ Some x → slice_get new k ≡ Some x
  pub count : length old ≤ length new

pub pushed-keeps : {X T E : Type 0} (old new : List X) (x : X) (r : Result T E) → OnOk r (new ≡ old ++ x ∷ []) → OnErr r (new ≡ old) → Keeps old new
pushed-keeps old new x (Ok t) e f = record {
  items = λ k y h. rw e (get-more old (x ∷ []) k y h);
  count = (let l = length_push old x in rw e (omega arith));
}
pushed-keeps old new x (Err t) e f = record { items = λ k y h. rw f h; count = rw f (omega arith) }

-- where none stands twice, none does behind one that doesn't stand there
pub once-more : (items : List ℕ) (m : ℕ) → StandOnce items → ¬ IsListed items m → StandOnce (items ++ m ∷ [])
once-more items m once none i j n a b = go (get-last_cases items m i n a) (get-last_cases items m j n b) where
  go : (slice_get items i ≡ Some n) ⊎ ((i ≡ length items) × (n ≡ m)) → (slice_get items j ≡ Some n) ⊎ ((j ≡ length items) × (n ≡ m)) → i ≡ j
  go (inl x) (inl y) = once i j n x y
  go (inl x) (inr y) = absurd (none (i, x ∙ ap Some y.1))
  go (inr x) (inl y) = absurd (none (j, y ∙ ap Some x.1))
  go (inr x) (inr y) = x.0 ∙ sym y.0
