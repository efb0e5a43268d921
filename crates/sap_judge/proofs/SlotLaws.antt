-- The binders of a quantifier that no later one hides, from the end on.
use Rattle.std.proofs.Common.{◌≡◌, ℕ, ◌+◌, ◌-◌, ◌<◌, ◌≤◌, List, [], ◌∷◌, ◌++◌, Bool, true, false, ◌||◌, Some, drop, length, map, slice_get, refl, sym, ap, ◌∙◌, if◌then◌else◌, arith}
use Rattle.std.proofs.Math.ListN.{drop_of_length-le}
use Rattle.std.specs.List.{list_any}
use Rattle.std.specs.Str.{bytes_eq}
use Rattle.sap_formula.specs.Checked.{binder_name}
use Rattle.sap_formula.specs.Slim.{binds, lasts}
use Rattle.sap_formula.specs.declared.binder.Binder.{Binder}
use Rattle.sap_judge.specs.code.Claiming.{slots_of}
use Rattle.sap_judge.specs.code.Ready.{Layers, slot_in}
use Rattle.sap_search.specs.Claims.{Slotted}
use Rattle.sap_terms.proofs.PlainLaws.Lists.{drop_got}

drop_nothing : {X : Type 0} (xs : List X) (j : ℕ) → j ≡ 0 → drop j xs ≡ xs
drop_nothing [] j e = rw e refl
drop_nothing (x ∷ xs) j e = rw e refl

-- what is left of the binders behind the one at this index from the end
one_more : (bs : List Binder) (k : ℕ) (b : Binder) → k < length bs → slice_get bs (length bs - 1 - k) ≡ Some b → drop (length bs - (k + 1)) bs ≡ b ∷ drop (length bs - k) bs
one_more bs k b l h =
    let j : length bs - (k + 1) ≡ length bs - 1 - k = omega (arith, l) in
    let n : (length bs - 1 - k) + 1 ≡ length bs - k = omega (arith, l) in
    ap (λ i. drop i bs) j ∙ drop_got bs (length bs - 1 - k) b h ∙ ap (λ i. b ∷ drop i bs) n

pub none_later : (bs : List Binder) (n : List ℕ) → false ≡ binds (drop (length bs - 0) bs) n
none_later bs n = sym (ap (λ l. binds l n) (drop_of_length-le bs (omega arith)))

pub none_slotted : (layers : Layers) (bs : List Binder) → [] ≡ slots_of layers (lasts (drop (length bs - 0) bs))
none_slotted layers bs = sym (ap (λ l. slots_of layers (lasts l)) (drop_of_length-le bs (omega arith)))

pub all_slotted : (layers : Layers) (bs : List Binder) (k : ℕ) → length bs ≤ k → slots_of layers (lasts (drop (length bs - k) bs)) ≡ slots_of layers (lasts bs)
all_slotted layers bs k h = ap (λ l. slots_of layers (lasts l)) (drop_nothing bs (length bs - k) (omega (arith, h)))

pub one_later : (bs : List Binder) (k : ℕ) (b : Binder) (old new : List (List ℕ)) → k < length bs → slice_get bs (length bs - 1 - k) ≡ Some b → ((n : List ℕ) → list_any (bytes_eq n) old ≡ binds (drop (length bs - k) bs) n) → ((n : List ℕ) → list_any (bytes_eq n) new ≡ (bytes_eq (binder_name b) n || list_any (bytes_eq n) old)) → (n : List ℕ) → list_any (bytes_eq n) new ≡ binds (drop (length bs - (k + 1)) bs) n
one_later bs k b old new l h e f n = f n ∙ ap (λ z. bytes_eq (binder_name b) n || z) (e n) ∙ sym (ap (λ z. binds z n) (one_more bs k b l h))

pub one_slotted : (layers : Layers) (bs : List Binder) (k : ℕ) (b : Binder) (later : List (List ℕ)) (old new : List Slotted) → k < length bs → slice_get bs (length bs - 1 - k) ≡ Some b → ((n : List ℕ) → list_any (bytes_eq n) later ≡ binds (drop (length bs - k) bs) n) → old ≡ slots_of layers (lasts (drop (length bs - k) bs)) → new ≡ (if list_any (bytes_eq (binder_name b)) later then old else old ++ record { binder = b; slot = slot_in layers (binder_name b) } ∷ []) → new ≡ slots_of layers (lasts (drop (length bs - (k + 1)) bs))
one_slotted layers bs k b later old new l h e o f =
    f ∙ ap (λ (r : Bool). if r then old else old ++ record { binder = b; slot = slot_in layers (binder_name b) } ∷ []) (e (binder_name b)) ∙ at (binds (drop (length bs - k) bs) (binder_name b)) ∙ sym (ap (λ z. slots_of layers (lasts z)) (one_more bs k b l h)) where
      at : (r : Bool) → (if r then old else old ++ record { binder = b; slot = slot_in layers (binder_name b) } ∷ []) ≡ slots_of layers (if r then lasts (drop (length bs - k) bs) else b ∷ lasts (drop (length bs - k) bs))
      at true = o
      at false = ap (λ z. z ++ record { binder = b; slot = slot_in layers (binder_name b) } ∷ []) o
