-- A name that is used with another number of arguments is defined.
use Rattle.std.proofs.Common.{◌≡◌, ◌||◌, ℕ, Bool, true, false, List, [], ◌∷◌, ◌++◌, append_assoc, length, refl, sym, ap, subst, ◌∙◌, Option, Some, None, ◌⊎◌, inl, inr}
use Rattle.std.specs.Prelude.{◌==◌, cond, if◌then◌else◌, is_none, map, not}
use Rattle.std.specs.List.{find}
use Rattle.std.specs.Str.{bytes_eq}
use Rattle.std.proofs.lemmas.List.{map-append}
use Rattle.sap_terms.proofs.PlainLaws.Known.{in_head, one_name}
use Rattle.sap_terms.specs.Variables.{is_known}
use Rattle.sap_macro.specs.MacroCauses.{Use, all_uses, first_other, parameter_count, uses}
use Rattle.sap_macro.specs.Written.{Written, act, call, lookup, nil, parallel, replicated, test}
use Rattle.sap_read.specs.Causes.{first_of, is_among, labels, listed, unknown_from}
use Rattle.sap_read.specs.FileProcess.{calls, defined_as, definitions_of, main_of}
use Rattle.sap_read.specs.Item.{Body}

no_name : {y : List ℕ} → ◌≡◌ {A = Option (List ℕ)} None (Some y) → ⊥
no_name e = absurd (cc)

some_none : {y : List ℕ} → ◌≡◌ {A = Option (List ℕ)} (Some y) None → ⊥
some_none e = absurd (cc)

some_name : {x y : List ℕ} → ◌≡◌ {A = Option (List ℕ)} (Some x) (Some y) → x ≡ y
some_name e = cc

some_written : {x y : Written} → ◌≡◌ {A = Option Written} (Some x) (Some y) → x ≡ y
some_written e = cc

false_true : false ≡ true → ⊥
false_true e = absurd (cc)

either : {A B C : Type 0} → A ⊎ B → (A → C) → (B → C) → C
either (inl a) f g = f a
either (inr b) f g = g b

or_cases : (b c : Bool) → (b || c) ≡ true → (b ≡ true) ⊎ (c ≡ true)
or_cases true c h = inl refl
or_cases false c h = inr h

or_first : (b c : Bool) → b ≡ true → (b || c) ≡ true
or_first true c e = refl
or_first false c e = absurd (false_true e)

or_second : (b c : Bool) → c ≡ true → (b || c) ≡ true
or_second true c e = refl
or_second false c e = e

-- a name of two lists is one of the first or of the second
known_cases : (xs ys : List (List ℕ)) (f : List ℕ) → is_known (xs ++ ys) f ≡ true → (is_known xs f ≡ true) ⊎ (is_known ys f ≡ true)
known_cases [] ys f h = inr h
known_cases (x ∷ xs) ys f h =
    either (or_cases (bytes_eq x f) (is_known (xs ++ ys) f) h) (λ same. inl (or_first (bytes_eq x f) (is_known xs f) same))
    (λ later. either (known_cases xs ys f later) (λ k. inl (or_second (bytes_eq x f) (is_known xs f) k)) (λ k. inr k))

among_first : (xs ys : List (List ℕ)) (f : List ℕ) → is_among xs f ≡ true → is_among (xs ++ ys) f ≡ true
among_first [] ys f h = absurd (false_true h)
among_first (x ∷ xs) ys f h =
    either (or_cases (bytes_eq x f) (is_among xs f) h) (λ same. or_first (bytes_eq x f) (is_among (xs ++ ys) f) same)
    (λ later. or_second (bytes_eq x f) (is_among (xs ++ ys) f) (among_first xs ys f later))

-- the names of uses
abbrev named : List Use → List (List ℕ)
named us = map (λ (u : Use). u.0) us

other_named : (count : List ℕ → ℕ) (us : List Use) (f : List ℕ) → first_other count us ≡ Some f → is_known (named us) f ≡ true
other_named count [] f h = absurd (no_name h)
other_named count (u ∷ us) f h = by (length u.1 == count u.0) h (λ e. other_named count us f e)
  where
    by : (b : Bool) → (if b then first_other count us else Some u.0) ≡ Some f → (first_other count us ≡ Some f → is_known (named us) f ≡ true) → is_known (named (u ∷ us)) f ≡ true
    by true later rest = or_second (bytes_eq u.0 f) (is_known (named us) f) (rest later)
    by false same rest = subst (λ (g : List ℕ). is_known (named (u ∷ us)) g ≡ true) (some_name same) (in_head u.0 (named us))

uses_calls : (p : Written) → named (uses p) ≡ calls p
uses_calls nil = refl
uses_calls (call f ts) = refl
uses_calls (parallel p q) = map-append (λ (u : Use). u.0) (uses p) (uses q) ∙ ap (λ (xs : List (List ℕ)). xs ++ named (uses q)) (uses_calls p) ∙ ap (λ (xs : List (List ℕ)). calls p ++ xs) (uses_calls q)
uses_calls (replicated p) = uses_calls p
uses_calls (act a p) = uses_calls p
uses_calls (test t u p q) = map-append (λ (u : Use). u.0) (uses p) (uses q) ∙ ap (λ (xs : List (List ℕ)). xs ++ named (uses q)) (uses_calls p) ∙ ap (λ (xs : List (List ℕ)). calls p ++ xs) (uses_calls q)
uses_calls (lookup t x p q) = map-append (λ (u : Use). u.0) (uses p) (uses q) ∙ ap (λ (xs : List (List ℕ)). xs ++ named (uses q)) (uses_calls p) ∙ ap (λ (xs : List (List ℕ)). calls p ++ xs) (uses_calls q)

-- one of these processes uses the name
abbrev IsUsed : List Body → List ℕ → Type 0
IsUsed [] f = ⊥
IsUsed (b ∷ bs) f = (is_known (calls b.content) f ≡ true) ⊎ IsUsed bs f

used_by : (bs : List Body) (p : Written) (f : List ℕ) → is_known (named (all_uses (definitions_of bs) p)) f ≡ true → IsUsed bs f ⊎ (is_known (calls p) f ≡ true)
used_by [] p f h = inr (subst (λ (xs : List (List ℕ)). is_known xs f ≡ true) (uses_calls p) h)
used_by (b ∷ bs) p f h = by b.label h (λ k. used_by bs p f k)
  where
    by : (o : Option (List ℕ)) → is_known (named (all_uses (defined_as o b ++ definitions_of bs) p)) f ≡ true
        → (is_known (named (all_uses (definitions_of bs) p)) f ≡ true → IsUsed bs f ⊎ (is_known (calls p) f ≡ true)) → IsUsed (b ∷ bs) f ⊎ (is_known (calls p) f ≡ true)
    by None k rest = either (rest k) (λ a. inl (inr a)) (λ a. inr a)
    by (Some x) k rest =
        let all = map-append (λ (u : Use). u.0) (uses b.content) (all_uses (definitions_of bs) p) ∙ ap (λ (xs : List (List ℕ)). xs ++ named (all_uses (definitions_of bs) p)) (uses_calls b.content) in
        either (known_cases (calls b.content) (named (all_uses (definitions_of bs) p)) f (subst (λ (xs : List (List ℕ)). is_known xs f ≡ true) all k)) (λ here. inl (inl here))
        (λ later. either (rest later) (λ a. inl (inr a)) (λ a. inr a))

main_used : (bs : List Body) (p : Written) (f : List ℕ) → main_of bs ≡ Some p → is_known (calls p) f ≡ true → IsUsed bs f
main_used [] p f e h = absurd (cc (e))
main_used (b ∷ bs) p f e h = by (is_none b.label) e (λ d. main_used bs p f d h)
  where
    by : (t : Bool) → (if t then Some b.content else main_of bs) ≡ Some p → (main_of bs ≡ Some p → IsUsed bs f) → IsUsed (b ∷ bs) f
    by true same rest = inl (subst (λ (q : Written). is_known (calls q) f ≡ true) (sym (some_written same)) h)
    by false later rest = inr (rest later)

-- the first of two options is none, and so is the second
both_none : (o p : Option (List ℕ)) → first_of (o ∷ p ∷ []) ≡ None → (o ≡ None) × (p ≡ None)
both_none None None h = (refl, refl)
both_none None (Some x) h = absurd (some_none h)
both_none (Some x) p h = absurd (some_none h)

none_unknown : (known xs : List (List ℕ)) (f : List ℕ) → find (λ x. not (is_among known x)) xs ≡ None → is_known xs f ≡ true → is_among known f ≡ true
none_unknown known [] f e h = absurd (false_true h)
none_unknown known (x ∷ xs) f e h = by (is_among known x) refl e (λ d k. none_unknown known xs f d k)
  where
    by : (b : Bool) → is_among known x ≡ b → cond (not b) (Some x) (find (λ x. not (is_among known x)) xs) ≡ None
        → (find (λ x. not (is_among known x)) xs ≡ None → is_known xs f ≡ true → is_among known f ≡ true) → is_among known f ≡ true
    by true is none rest = either (or_cases (bytes_eq x f) (is_known xs f) h) (λ same. subst (λ (y : List ℕ). is_among known y ≡ true) (one_name x f same) is) (λ later. rest none later)
    by false is never rest = absurd (some_none never)

used_defined : (known : List (List ℕ)) (bs : List Body) (f : List ℕ) → unknown_from known bs ≡ None → IsUsed bs f → is_among (known ++ labels bs) f ≡ true
used_defined known [] f e h = absurd h
used_defined known (b ∷ bs) f e h =
    let none = both_none (find (λ x. not (is_among known x)) (calls b.content)) (unknown_from (known ++ listed b.label) bs) e in
    either h (λ here. among_first known (labels (b ∷ bs)) f (none_unknown known (calls b.content) f none.0 here))
    (λ later. subst (λ (xs : List (List ℕ)). is_among xs f ≡ true) (append_assoc known (listed b.label) (labels bs)) (used_defined (known ++ listed b.label) bs f none.1 later))

-- the name of such a use is defined, where each name that is used is
pub other_defined : (bs : List Body) (p : Written) (f : List ℕ) → main_of bs ≡ Some p → unknown_from [] bs ≡ None
    → first_other (parameter_count (definitions_of bs)) (all_uses (definitions_of bs) p) ≡ Some f → is_among (labels bs) f ≡ true
other_defined bs p f main none other =
    used_defined [] bs f none
    (either (used_by bs p f (other_named (parameter_count (definitions_of bs)) (all_uses (definitions_of bs) p) f other)) (λ a. a) (λ k. main_used bs p f main k))
