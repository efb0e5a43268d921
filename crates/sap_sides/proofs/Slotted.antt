-- Slots with facts of numbers, and the facts that they are seen as.
use Rattle.std.proofs.Common.{◌≡◌, ◌+◌, ℕ, zero, suc, Bool, true, false, List, [], ◌∷◌, ◌++◌, map, Option, Some, None, refl, sym, ap, ◌∙◌, take}
use Rattle.std.specs.Prelude.{slice_get, slice_set}
use Rattle.std.specs.List.{cons_option}
use Rattle.std.proofs.lemmas.List.{map-append}
use Rattle.std.proofs.lemmas.List.Elements.{All-head, All-tail, All-nil, All-cons, filter_map-append}
use Rattle.sap_terms.proofs.PlainLaws.Lists.{take_got}
use Rattle.sap_terms.specs.Piles.{adds}
use Rattle.sap_terms.specs.Tree.{Tree}
use Rattle.sap_facts.specs.Cited.{cited_at, left_of}
use Rattle.sap_facts.specs.Facts.{fact_at, slots_without}
use Rattle.sap_share.specs.Shared.{AreBelow}
use Rattle.sap_sides.specs.SharedFacts.{fact_seen, slot_seen, slots_seen, IsSlotBelow, AreSlotsBelow, AreFactsBelow}
use Rattle.sap_sides.specs.code.Slots.{held_at, held_each, cleared, cleared_each}
use Rattle.sap_sides.specs.declared.shared_fact.SharedFact.{SharedFact}

-- the fact at a number is seen as the fact there
pub seen_at : (ts : List Tree) (slots : List (Option SharedFact)) (k : ℕ) → fact_at (slots_seen ts slots) k ≡ slot_seen ts (held_at slots k)
seen_at ts [] k = refl
seen_at ts (None ∷ ss) zero = refl
seen_at ts (Some s ∷ ss) zero = refl
seen_at ts (s ∷ ss) (suc k) = seen_at ts ss k

seen_set : (ts : List Tree) (slots : List (Option SharedFact)) (k : ℕ) → slots_seen ts (slice_set slots k None) ≡ slice_set (slots_seen ts slots) k None
seen_set ts [] k = refl
seen_set ts (s ∷ ss) zero = refl
seen_set ts (s ∷ ss) (suc k) = ap (λ xs. slot_seen ts s ∷ xs) (seen_set ts ss k)

-- a number that is taken is taken of what is seen
taken_as : (ts : List Tree) (slots : List (Option SharedFact)) (k : ℕ) (o : Option SharedFact) → held_at slots k ≡ o → fact_at (slots_seen ts slots) k ≡ slot_seen ts o → slots_seen ts (cleared slots k) ≡ slots_without (slots_seen ts slots) k
taken_as ts slots k None is seen = rw (is, seen) refl
taken_as ts slots k (Some s) is seen = by s.persistent refl where
  by : (b : Bool) → s.persistent ≡ b → slots_seen ts (cleared slots k) ≡ slots_without (slots_seen ts slots) k
  by true p = rw (is, seen, p) refl
  by false p = rw (is, seen, p) (seen_set ts slots k)

seen_cleared : (ts : List Tree) (slots : List (Option SharedFact)) (k : ℕ) → slots_seen ts (cleared slots k) ≡ slots_without (slots_seen ts slots) k
seen_cleared ts slots k = taken_as ts slots k (held_at slots k) refl (seen_at ts slots k)

pub seen_cleared_each : (ts : List Tree) (slots : List (Option SharedFact)) (ks : List ℕ) → slots_seen ts (cleared_each slots ks) ≡ left_of (slots_seen ts slots) ks
seen_cleared_each ts slots [] = refl
seen_cleared_each ts slots (k ∷ ks) = seen_cleared_each ts (cleared slots k) ks ∙ ap (λ p. left_of p ks) (seen_cleared ts slots k)

-- facts that are added are added to what is seen
pub seen_added : (ts : List Tree) (slots : List (Option SharedFact)) (ss : List SharedFact) → slots_seen ts (slots ++ map (λ s. Some s) ss) ≡ adds (slots_seen ts slots) (map (fact_seen ts) ss)
seen_added ts slots ss = map-append (slot_seen ts) slots (map (λ s. Some s) ss) ∙ ap (λ xs. slots_seen ts slots ++ xs) (each ss) where
  each : (ss : List SharedFact) → slots_seen ts (map (λ s. Some s) ss) ≡ map (λ f. Some f) (map (fact_seen ts) ss)
  each [] = refl
  each (s ∷ ss) = ap (λ xs. Some (fact_seen ts s) ∷ xs) (each ss)

-- facts that are held are those that are cited of what is seen
pub seen_held : (ts : List Tree) (slots : List (Option SharedFact)) (ks : List ℕ) → map (fact_seen ts) (held_each slots ks) ≡ cited_at (slots_seen ts slots) ks
seen_held ts slots [] = refl
seen_held ts slots (k ∷ ks) = front (held_at slots k) (held_each slots ks) ∙ (λ i. cons_option (sym (seen_at ts slots k) i) (seen_held ts slots ks i)) where
  front : (o : Option SharedFact) (ss : List SharedFact) → map (fact_seen ts) (cons_option o ss) ≡ cons_option (slot_seen ts o) (map (fact_seen ts) ss)
  front None ss = refl
  front (Some s) ss = refl

-- the facts of the first numbers, and that of one more
pub held_more : (slots : List (Option SharedFact)) (ks : List ℕ) (i k : ℕ) (ss new : List SharedFact) → slice_get ks i ≡ Some k → ss ≡ held_each slots (take i ks) → new ≡ ss ++ held_each slots (k ∷ []) → new ≡ held_each slots (take (i + 1) ks)
held_more slots ks i k ss new at h is =
    is ∙ ap (λ xs. xs ++ held_each slots (k ∷ [])) h ∙ sym (ap (held_each slots) (take_got ks i k at) ∙ filter_map-append (held_at slots) (take i ks) (k ∷ []))

module _ (n : ℕ) where
  -- numbers stay below a count
  below_at : (slots : List (Option SharedFact)) (k : ℕ) → AreSlotsBelow n slots → IsSlotBelow n (held_at slots k)
  below_at [] k h = tt
  below_at (s ∷ ss) zero h = All-head (IsSlotBelow n) s ss h
  below_at (s ∷ ss) (suc k) h = below_at ss k (All-tail (IsSlotBelow n) s ss h)

  pub below_held : (slots : List (Option SharedFact)) (ks : List ℕ) → AreSlotsBelow n slots → AreFactsBelow n (held_each slots ks)
  below_held slots [] h = All-nil (λ (s : SharedFact). AreBelow n s.args)
  below_held slots (k ∷ ks) h = front (held_at slots k) (below_at slots k h) (held_each slots ks) (below_held slots ks h) where
    front : (o : Option SharedFact) → IsSlotBelow n o → (ss : List SharedFact) → AreFactsBelow n ss → AreFactsBelow n (cons_option o ss)
    front None b ss h = h
    front (Some s) b ss h = All-cons (λ (s : SharedFact). AreBelow n s.args) s ss b h

  below_set : (slots : List (Option SharedFact)) (k : ℕ) → AreSlotsBelow n slots → AreSlotsBelow n (slice_set slots k None)
  below_set [] k h = h
  below_set (s ∷ ss) zero h = All-cons (IsSlotBelow n) None ss tt (All-tail (IsSlotBelow n) s ss h)
  below_set (s ∷ ss) (suc k) h = All-cons (IsSlotBelow n) s (slice_set ss k None) (All-head (IsSlotBelow n) s ss h) (below_set ss k (All-tail (IsSlotBelow n) s ss h))

  below_taken : (slots : List (Option SharedFact)) (k : ℕ) (o : Option SharedFact) → held_at slots k ≡ o → AreSlotsBelow n slots → AreSlotsBelow n (cleared slots k)
  below_taken slots k None is h = rw is h
  below_taken slots k (Some s) is h = by s.persistent refl where
    by : (b : Bool) → s.persistent ≡ b → AreSlotsBelow n (cleared slots k)
    by true p = rw (is, p) h
    by false p = rw (is, p) (below_set slots k h)

  below_each : (slots : List (Option SharedFact)) (ks : List ℕ) → AreSlotsBelow n slots → AreSlotsBelow n (cleared_each slots ks)
  below_each slots [] h = h
  below_each slots (k ∷ ks) h = below_each (cleared slots k) ks (below_taken slots k (held_at slots k) refl h)

  below_added : (slots : List (Option SharedFact)) (ss : List SharedFact) → AreSlotsBelow n slots → AreFactsBelow n ss → AreSlotsBelow n (slots ++ map (λ s. Some s) ss)
  below_added [] [] h b = All-nil (IsSlotBelow n)
  below_added [] (s ∷ ss) h b = All-cons (IsSlotBelow n) (Some s) (map (λ s. Some s) ss) (All-head (λ (s : SharedFact). AreBelow n s.args) s ss b) (below_added [] ss h (All-tail (λ (s : SharedFact). AreBelow n s.args) s ss b))
  below_added (x ∷ xs) ss h b = All-cons (IsSlotBelow n) x (xs ++ map (λ s. Some s) ss) (All-head (IsSlotBelow n) x xs h) (below_added xs ss (All-tail (IsSlotBelow n) x xs h) b)

  pub below_exchanged : (slots : List (Option SharedFact)) (ks : List ℕ) (ss : List SharedFact) → AreSlotsBelow n slots → AreFactsBelow n ss → AreSlotsBelow n (cleared_each slots ks ++ map (λ s. Some s) ss)
  below_exchanged slots ks ss h b = below_added (cleared_each slots ks) ss (below_each slots ks h) b
