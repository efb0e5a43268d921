-- A pile whose facts have numbers, while the table grows and facts come and go.
use Rattle.std.proofs.Common.{◌≡◌, ◌<◌, ℕ, zero, suc, Bool, true, false, List, [], ◌∷◌, ◌++◌, length, map, Option, Some, None, option_map, slice_set, refl, sym, ap, subst, ◌∙◌, arith, append_assoc}
use Rattle.std.specs.Prelude.{slice_get, IsSome, MatchOption, Result, Ok, Err, IfOk}
use Rattle.std.specs.Option.{option_eq}
use Rattle.std.proofs.lemmas.List.{map_push}
use Rattle.std.proofs.lemmas.Option.{slice_get-map, same_Some}
use Rattle.std.proofs.lemmas.List.Elements.{All-head, All-tail, All-nil, All-cons}
use Rattle.sap_terms.specs.Piles.{Pile, adds}
use Rattle.sap_terms.specs.Tree.{Tree}
use Rattle.sap_terms.specs.declared.fact.Fact.{Fact}
use Rattle.sap_facts.specs.Facts.{standing, fact_at, slots_without}
use Rattle.sap_terms.specs.AdversaryFacts.{linear}
use Rattle.sap_share.specs.Shared.{Shared, tree_at, AreBelow, Keeps}
use Rattle.sap_sides.specs.Laws.{SharedFactsStay}
use Rattle.sap_sides.specs.SharedFacts.{fact_seen, slot_seen, slots_seen, IsSlotBelow, AreSlotsBelow}
use Rattle.sap_sides.specs.declared.shared_fact.SharedFact.{SharedFact}
use Rattle.sap_steps.specs.code.Piled.{single_of}

-- the facts of all slots stay what they are while the table grows
pub slots_stay : SharedFactsStay → (s t : Shared) (slots : List (Option SharedFact)) → Keeps s t → AreSlotsBelow (length s.trees) slots → (slots_seen t.trees slots ≡ slots_seen s.trees slots) × AreSlotsBelow (length t.trees) slots
slots_stay stay s t [] h b = (refl, All-nil (IsSlotBelow (length t.trees)))
slots_stay stay s t (None ∷ rest) h b =
    let q = slots_stay stay s t rest h (All-tail (IsSlotBelow (length s.trees)) None rest b) in
    (ap (λ xs. None ∷ xs) q.0, All-cons (IsSlotBelow (length t.trees)) None rest tt q.1)
slots_stay stay s t (Some f ∷ rest) h b =
    let first = All-head (IsSlotBelow (length s.trees)) (Some f) rest b in
    let q = slots_stay stay s t rest h (All-tail (IsSlotBelow (length s.trees)) (Some f) rest b) in
    let one = stay s t f h first in
    let is = one.0 in
    let same = q.0 in
    (λ i. Some (is i) ∷ same i, All-cons (IsSlotBelow (length t.trees)) (Some f) rest one.1 q.1)

-- the fact of a slot
pub fact_at-seen : (ts : List Tree) (slots : List (Option SharedFact)) (k : ℕ) → fact_at (slots_seen ts slots) k ≡ standing (option_map (slot_seen ts) (slice_get slots k))
fact_at-seen ts slots k = ap standing (slice_get-map (slot_seen ts) slots k)

pub set-seen : (ts : List Tree) (slots : List (Option SharedFact)) (k : ℕ) → slots_seen ts (slice_set slots k None) ≡ slice_set (slots_seen ts slots) k None
set-seen ts [] k = refl
set-seen ts (s ∷ ss) zero = refl
set-seen ts (s ∷ ss) (suc k) = ap (λ xs. slot_seen ts s ∷ xs) (set-seen ts ss k)

abbrev persistence_of : Option Fact → Option Bool
persistence_of o = option_map (λ (f : Fact). f.persistent) o

-- a linear fact is taken
without-linear : (facts : Pile) (k : ℕ) → persistence_of (fact_at facts k) ≡ Some false → slice_set facts k None ≡ slots_without facts k
without-linear facts k h = by (fact_at facts k) refl h where
  by : (o : Option Fact) → fact_at facts k ≡ o → persistence_of o ≡ Some false → slice_set facts k None ≡ slots_without facts k
  by None p h = cc
  by (Some f) p h = let linear : f.persistent ≡ false = same_Some _ _ h in rw (p, linear) refl

pub removed : (ts : List Tree) (slots : List (Option SharedFact)) (k : ℕ) → persistence_of (fact_at (slots_seen ts slots) k) ≡ Some false → slots_seen ts (slice_set slots k None) ≡ slots_without (slots_seen ts slots) k
removed ts slots k h = set-seen ts slots k ∙ without-linear (slots_seen ts slots) k h

-- a slot that holds a fact is there
pub live-within : (ts : List Tree) (slots : List (Option SharedFact)) (k : ℕ) → persistence_of (fact_at (slots_seen ts slots) k) ≡ Some false → k < length slots
live-within ts [] k h = cc
live-within ts (s ∷ ss) zero h = omega arith
live-within ts (s ∷ ss) (suc k) h = let l = live-within ts ss k h in omega (arith, l)

-- no slot holds more when one is emptied
pub below-cleared : (n : ℕ) (slots : List (Option SharedFact)) (k : ℕ) → AreSlotsBelow n slots → AreSlotsBelow n (slice_set slots k None)
below-cleared n [] k h = h
below-cleared n (s ∷ ss) zero h = All-cons (IsSlotBelow n) None ss tt (All-tail (IsSlotBelow n) s ss h)
below-cleared n (s ∷ ss) (suc k) h = All-cons (IsSlotBelow n) s (slice_set ss k None) (All-head (IsSlotBelow n) s ss h) (below-cleared n ss k (All-tail (IsSlotBelow n) s ss h))

pub is-linear : (E : Bool → Bool → Bool) (o : Option Bool) → option_eq E o (Some false) ≡ true → E true false ≡ false → o ≡ Some false
is-linear E None h n = cc
is-linear E (Some true) h n = cc (n, h)
is-linear E (Some false) h n = refl

pub some_of : (o : Option Fact) → IsSome o → (f : Fact) × (o ≡ Some f)
some_of None h = cc
some_of (Some f) h = (f, refl)

-- what is said of the fact that stands is said of whatever stands there
pub said_of : {E : Type 0} (P : Fact → Type 0) (b : Bool) (x : Fact) (o : Option Fact) (r : Result Bool E) → o ≡ Some x → IfOk r (λ v. v ≡ b → P x) → IfOk r (λ v. v ≡ b → (h : Fact) → o ≡ Some h → P h)
said_of P b x o (Err e) is i = tt
said_of P b x o (Ok v) is i = λ e h at. subst P (same_Some x h (sym is ∙ at)) (i e)

-- facts that were added, and one more
pub adds_seen : (facts now after : Pile) (ts : List Tree) (ss : List SharedFact) (s : SharedFact) → now ≡ adds facts (map (fact_seen ts) ss) → after ≡ now ++ Some (fact_seen ts s) ∷ [] → after ≡ adds facts (map (fact_seen ts) (ss ++ s ∷ []))
adds_seen facts now after ts ss s n a =
    let some : Fact → Option Fact = λ f. Some f in
    let one_more : map some (map (fact_seen ts) (ss ++ s ∷ [])) ≡ map some (map (fact_seen ts) ss) ++ Some (fact_seen ts s) ∷ [] = ap (map some) (map_push (fact_seen ts) ss s) ∙ map_push some (map (fact_seen ts) ss) (fact_seen ts s) in
    a ∙ ap (λ xs. xs ++ Some (fact_seen ts s) ∷ []) n ∙ append_assoc facts (map some (map (fact_seen ts) ss)) (Some (fact_seen ts s) ∷ []) ∙ ap (λ xs. facts ++ xs) (sym one_more)

-- the argument of a linear fact of one name
pub argument_seen : (ts : List Tree) (facts : Pile) (k : ℕ) (h : SharedFact) (name : List ℕ) (r : Option ℕ) → fact_at facts k ≡ Some (fact_seen ts h) → AreBelow (length ts) h.args
    → MatchOption r ((us : List Tree) (t : Tree) → ¬ (fact_seen us h ≡ linear name (t ∷ []))) (λ n. h ≡ single_of name n)
    → MatchOption r ((t : Tree) → ¬ (fact_at facts k ≡ Some (linear name (t ∷ [])))) (λ n. (n < length ts) × (fact_at facts k ≡ Some (linear name (tree_at ts n ∷ []))))
argument_seen ts facts k h name None at below none = λ t e. none ts t (same_Some _ _ (sym at ∙ e))
argument_seen ts facts k h name (Some n) at below is =
    let P : ℕ → Type 0 = λ j. j < length ts in
    (All-head P n [] (subst (λ (s : SharedFact). AreBelow (length ts) s.args) is below), at ∙ ap (λ (s : SharedFact). Some (fact_seen ts s)) is)
