-- The search through guards and their facts, step by step.
use Rattle.std.proofs.Common.{◌≡◌, ℕ, zero, suc, ◌+◌, ◌≤◌, List, [], ◌∷◌, ◌++◌, Bool, true, false, not, ◌&&◌, ◌||◌, Option, Some, None, length, drop, take, map, slice_get, append_assoc, refl, sym, ap, ◌∙◌, if◌then◌else◌, arith}
use mathlib.Core.Bool.{beq}
use Rattle.std.proofs.Math.ListN.{drop_of_length-le}
use Rattle.std.proofs.Math.Seq.{take-append_seam}
use Rattle.std.proofs.lemmas.List.{append-nil}
use Rattle.std.specs.List.{list_any, list_all}
use Rattle.sap_match.specs.Atoms.{Held, Sight}
use Rattle.sap_match.specs.Matched.{IsMet, StaysInFront, guarded}
use Rattle.sap_match.specs.View.{atom, sight}
use Rattle.sap_match.specs.declared.sighted.Sighted.{Sighted}
use Rattle.sap_search.specs.Planned.{any_or_all, searched, with_some}
use Rattle.sap_search.specs.View.{guard}
use Rattle.sap_search.specs.code.Chosen.{IsOnlyMet, chosen}
use Rattle.sap_search.specs.code.Connectives.{joined, last_of, settled}
use Rattle.sap_search.specs.declared.plan.GuardPlan.{GuardPlan}
use Rattle.sap_search.specs.declared.testing.Connective.{Connective}
use Rattle.sap_search.specs.declared.testing.Connective.TheVariants.{And, Or, Imp, Iff}
use Rattle.sap_terms.proofs.PlainLaws.Lists.{drop_got}

-- what stands in front, stays in front, and is left where the rest is cut off
pub front_same : {X : Type 0} (xs : List X) → StaysInFront xs xs
front_same xs = ([], sym (append-nil xs))

pub front_on : {X : Type 0} (xs ys zs : List X) → StaysInFront xs ys → StaysInFront ys zs → StaysInFront xs zs
front_on xs ys zs (a, e) (b, d) = (a ++ b, d ∙ ap (λ l. l ++ b) e ∙ append_assoc xs a b)

pub cut : {X : Type 0} (old new : List X) → StaysInFront old new → take (length old) new ≡ old
cut old new (more, e) = ap (take (length old)) e ∙ take-append_seam old more

pub map_length : {X Y : Type 0} (f : X → Y) (xs : List X) → length (map f xs) ≡ length xs
map_length f [] = refl
map_length f (x ∷ xs) = ap suc (map_length f xs)

drop_none : {X : Type 0} (xs : List X) → drop 0 xs ≡ xs
drop_none [] = refl
drop_none (x ∷ xs) = refl

-- all guards are left at the start
pub all_left : (d : Bool) (gs : List GuardPlan) (hs : List Held) (leaf : List Held → Bool) → searched d (map guard (drop 0 gs)) hs leaf ≡ searched d (map guard gs) hs leaf
all_left d gs hs leaf = ap (λ l. searched d (map guard l) hs leaf) (drop_none gs)

pub ruleset test_laws = (all_left, map_length)

pub settled_is : (how : Connective) (a b c : Bool) → settled how a ≡ Some b → joined how a c ≡ b
settled_is And true b c e = absurd (cc)
settled_is And false b c e = cc
settled_is Or true b c e = cc
settled_is Or false b c e = absurd (cc)
settled_is Imp true b c e = absurd (cc)
settled_is Imp false b c e = cc
settled_is Iff a b c e = absurd (cc)

pub last_is : (how : Connective) (a c : Bool) → settled how a ≡ None → joined how a c ≡ last_of how a c
last_is And true c e = refl
last_is And false c e = absurd (cc)
last_is Or true c e = absurd (cc)
last_is Or false c e = refl
last_is Imp true c e = refl
last_is Imp false c e = absurd (cc)
last_is Iff a c e = refl

pub ruleset connective_laws = (settled_is, last_is)

pub ruleset search_laws = (cut)

pub ruleset front_laws = (front_same, front_on)

pub none_leads : {X : Type 0} (d : Bool) (p : X → Bool) → any_or_all d p [] ≡ d
none_leads true p = refl
none_leads false p = refl

one_leads : {X : Type 0} (d : Bool) (p : X → Bool) (x : X) → any_or_all d p (x ∷ []) ≡ p x
one_leads true p x = and_true (p x) where
  and_true : (b : Bool) → (b && true) ≡ b
  and_true true = refl
  and_true false = refl
one_leads false p x = or_false (p x) where
  or_false : (b : Bool) → (b || false) ≡ b
  or_false true = refl
  or_false false = refl

-- the guard at an index in front of those behind it
pub guards_got : (gs : List GuardPlan) (k : ℕ) (g : GuardPlan) → slice_get gs k ≡ Some g → map guard (drop k gs) ≡ guard g ∷ map guard (drop (k + 1) gs)
guards_got gs k g h = ap (map guard) (drop_got gs k g h)

pub single : (xs : List Sighted) (x : Sighted) → length xs ≡ 1 → slice_get xs 0 ≡ Some x → map sight xs ≡ sight x ∷ []
single [] x l h = absurd (cc)
single (y ∷ []) x l h = let q : y ≡ x = cc in ap (λ z. sight z ∷ []) q
single (y ∷ z ∷ zs) x l h = absurd (omega (arith, l))

-- a guard with one fact
pub only_met : (g : GuardPlan) (s : Sighted) (hs ks : List Held) (b : Bool) → length g.facts.now ≡ 1 → slice_get g.facts.now 0 ≡ Some s → IsMet ks b (guarded (atom g.atom) s.fact.now s.time hs) → IsOnlyMet (guard g) hs ks b
only_met g s hs ks b l f m d gs leaf = ap (λ z. any_or_all d (λ s. with_some (guarded (atom g.atom) s.fact s.time hs) d (λ h. searched d gs h leaf)) z) (single g.facts.now s l f) ∙ one_leads d (λ s. with_some (guarded (atom g.atom) s.fact s.time hs) d (λ h. searched d gs h leaf)) (sight s) ∙ at b m where
  at : (b : Bool) → IsMet ks b (guarded (atom g.atom) s.fact.now s.time hs) → with_some (guarded (atom g.atom) s.fact.now s.time hs) d (λ h. searched d gs h leaf) ≡ (if b then searched d gs ks leaf else d)
  at true e = ap (λ o. with_some o d (λ h. searched d gs h leaf)) e
  at false e = ap (λ o. with_some o d (λ h. searched d gs h leaf)) e

pub ruleset only_laws = (only_met)

pub one_met : (d : Bool) (gs : List GuardPlan) (k : ℕ) (g : GuardPlan) (hs ks : List Held) (leaf : List Held → Bool) → slice_get gs k ≡ Some g → IsOnlyMet (guard g) hs ks true → searched d (map guard (drop k gs)) hs leaf ≡ searched d (map guard (drop (k + 1) gs)) ks leaf
one_met d gs k g hs ks leaf h m = ap (λ z. searched d z hs leaf) (guards_got gs k g h) ∙ m d (map guard (drop (k + 1) gs)) leaf

pub one_missed : (d : Bool) (gs : List GuardPlan) (k : ℕ) (g : GuardPlan) (hs ks : List Held) (leaf : List Held → Bool) → slice_get gs k ≡ Some g → IsOnlyMet (guard g) hs ks false → searched d (map guard (drop k gs)) hs leaf ≡ d
one_missed d gs k g hs ks leaf h m = ap (λ z. searched d z hs leaf) (guards_got gs k g h) ∙ m d (map guard (drop (k + 1) gs)) leaf

-- no guard is left
pub no_guard : (d : Bool) (gs : List GuardPlan) (k : ℕ) (hs : List Held) (leaf : List Held → Bool) → length gs ≤ k → searched d (map guard (drop k gs)) hs leaf ≡ leaf hs
no_guard d gs k hs leaf h = ap (λ l. searched d (map guard l) hs leaf) (drop_of_length-le gs h)

-- the facts of a guard, one after another
pub by_facts : (d : Bool) (gs : List GuardPlan) (k : ℕ) (g : GuardPlan) (hs : List Held) (leaf : List Held → Bool) → slice_get gs k ≡ Some g → searched d (map guard (drop k gs)) hs leaf ≡ any_or_all d (λ s. chosen d (map guard (drop k gs)) s hs leaf) (map sight g.facts.now)
by_facts d gs k g hs leaf h = ap (λ z. searched d z hs leaf) (guards_got gs k g h) ∙ sym (ap (λ z. any_or_all d (λ s. chosen d z s hs leaf) (map sight g.facts.now)) (guards_got gs k g h))

pub ruleset pass_laws = (front_same, front_on, no_guard)

differs : (a d : Bool) → (a ≡ d → ⊥) → a ≡ not d
differs true true h = absurd (h refl)
differs true false h = refl
differs false true h = refl
differs false false h = absurd (h refl)

-- one fact more that leads to the other answer, or doesn't
pub leads_on : (d : Bool) (p : Sight → Bool) (xs : List Sighted) (k : ℕ) (x : Sighted) → slice_get xs k ≡ Some x → p (sight x) ≡ d → any_or_all d p (map sight (drop k xs)) ≡ any_or_all d p (map sight (drop (k + 1) xs))
leads_on true p xs k x h e = ap (λ l. list_all p (map sight l)) (drop_got xs k x h) ∙ ap (λ b. b && list_all p (map sight (drop (k + 1) xs))) e
leads_on false p xs k x h e = ap (λ l. list_any p (map sight l)) (drop_got xs k x h) ∙ ap (λ b. b || list_any p (map sight (drop (k + 1) xs))) e

pub leads_off : (d : Bool) (p : Sight → Bool) (xs : List Sighted) (k : ℕ) (x : Sighted) → slice_get xs k ≡ Some x → (p (sight x) ≡ d → ⊥) → any_or_all d p (map sight (drop k xs)) ≡ not d
leads_off true p xs k x h e = ap (λ l. list_all p (map sight l)) (drop_got xs k x h) ∙ ap (λ b. b && list_all p (map sight (drop (k + 1) xs))) (differs (p (sight x)) true e)
leads_off false p xs k x h e = ap (λ l. list_any p (map sight l)) (drop_got xs k x h) ∙ ap (λ b. b || list_any p (map sight (drop (k + 1) xs))) (differs (p (sight x)) false e)

pub leads_end : (d : Bool) (p : Sight → Bool) (xs : List Sighted) (k : ℕ) → length xs ≤ k → any_or_all d p (map sight (drop k xs)) ≡ d
leads_end d p xs k h = ap (λ l. any_or_all d p (map sight l)) (drop_of_length-le xs h) ∙ none_leads d p

-- what a test of two answers says
pub answers_differ : (a d : Bool) → not (beq a d) ≡ true → a ≡ d → ⊥
answers_differ true true e _ = cc
answers_differ true false e h = cc
answers_differ false true e h = cc
answers_differ false false e _ = cc

pub answers_same : (a d : Bool) → not (beq a d) ≡ false → a ≡ d
answers_same true true e = refl
answers_same true false e = absurd (cc)
answers_same false true e = absurd (cc)
answers_same false false e = refl

pub ruleset branch_laws = (leads_on, leads_off, leads_end)

pub chosen_met : (d : Bool) (gs : List GuardPlan) (k : ℕ) (g : GuardPlan) (s : Sighted) (hs ks : List Held) (leaf : List Held → Bool) → slice_get gs k ≡ Some g → guarded (atom g.atom) s.fact.now s.time hs ≡ Some ks → chosen d (map guard (drop k gs)) (sight s) hs leaf ≡ searched d (map guard (drop (k + 1) gs)) ks leaf
chosen_met d gs k g s hs ks leaf h e = ap (λ z. chosen d z (sight s) hs leaf) (guards_got gs k g h) ∙ ap (λ o. with_some o d (λ h. searched d (map guard (drop (k + 1) gs)) h leaf)) e

pub chosen_missed : (d : Bool) (gs : List GuardPlan) (k : ℕ) (g : GuardPlan) (s : Sighted) (hs : List Held) (leaf : List Held → Bool) → slice_get gs k ≡ Some g → guarded (atom g.atom) s.fact.now s.time hs ≡ None → chosen d (map guard (drop k gs)) (sight s) hs leaf ≡ d
chosen_missed d gs k g s hs leaf h e = ap (λ z. chosen d z (sight s) hs leaf) (guards_got gs k g h) ∙ ap (λ o. with_some o d (λ h. searched d (map guard (drop (k + 1) gs)) h leaf)) e

-- what a guard met, by the answer
pub met_none : (hs : List Held) (b : Bool) (r : Option (List Held)) → IsMet hs b r → b ≡ false → r ≡ None
met_none hs true r h e = absurd (cc)
met_none hs false r h e = h

pub met_some : (hs : List Held) (b : Bool) (r : Option (List Held)) → IsMet hs b r → b ≡ true → r ≡ Some hs
met_some hs true r h e = h
met_some hs false r h e = absurd (cc)

pub ruleset choose_laws = (cut, chosen_met, chosen_missed)
