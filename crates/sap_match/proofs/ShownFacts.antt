-- Whether a fact of a time is shown, fact by fact.
use Rattle.std.proofs.Common.{◌≡◌, ℕ, zero, suc, ◌+◌, ◌≤◌, List, [], ◌∷◌, Bool, true, false, ◌||◌, Option, Some, None, length, drop, slice_get, map, sym, ap, refl, ◌∙◌}
use Rattle.std.specs.Prelude.{option_map}
use Rattle.std.proofs.Math.ListN.{drop_of_length-le}
use Rattle.std.specs.List.{list_any}
use Rattle.sap_formula.specs.Truth.{facts_at}
use Rattle.sap_match.specs.Atoms.{Held}
use Rattle.sap_match.specs.Matched.{State, is_there}
use Rattle.sap_match.specs.code.Reached.{IsReached}
use Rattle.sap_match.proofs.Agreements.{cut}
use Rattle.sap_terms.proofs.PlainLaws.Lists.{drop_got}
use Rattle.sap_terms.specs.Trace.{Trace}
use Rattle.sap_terms.specs.declared.fact.Fact.{Fact}

pub there_reached : (marks : List (Option ℕ)) (hs : List Held) (o : Option ℕ) (r : Option State) → IsReached marks hs o r → is_there o ≡ is_there r
there_reached marks hs None r e = ap is_there (sym e)
there_reached marks hs (Some k) r e = ap is_there (sym e)

pub there_map : {X Y : Type 0} (f : X → Y) (o : Option X) (r : Option Y) → option_map f o ≡ r → is_there r ≡ is_there o
there_map f None r e = ap is_there (sym e)
there_map f (Some x) r e = ap is_there (sym e)

pub ruleset equal_laws = (there_map)

pub ruleset fact_laws = (cut, there_reached)

pub any_more : (p : Fact → Bool) (xs : List Fact) (k : ℕ) (x : Fact) → slice_get xs k ≡ Some x → list_any p (drop k xs) ≡ (p x || list_any p (drop (k + 1) xs))
any_more p xs k x h = ap (list_any p) (drop_got xs k x h)

pub any_end : (p : Fact → Bool) (xs : List Fact) (k : ℕ) → length xs ≤ k → list_any p (drop k xs) ≡ false
any_end p xs k h = ap (list_any p) (drop_of_length-le xs h)

-- a fact more of some that are lent or not: it is shown, or passed over
pub fact_shown : {X : Type 0} (p : Fact → Bool) (f : X → Fact) (xs : List X) (k : ℕ) (x : X) → slice_get xs k ≡ Some x → p (f x) ≡ true → list_any p (map f (drop k xs)) ≡ true
fact_shown p f xs k x h e = ap (λ l. list_any p (map f l)) (drop_got xs k x h) ∙ ap (λ b. b || list_any p (map f (drop (k + 1) xs))) e

pub fact_passed : {X : Type 0} (p : Fact → Bool) (f : X → Fact) (xs : List X) (k : ℕ) (x : X) → slice_get xs k ≡ Some x → p (f x) ≡ false → list_any p (map f (drop k xs)) ≡ list_any p (map f (drop (k + 1) xs))
fact_passed p f xs k x h e = ap (λ l. list_any p (map f l)) (drop_got xs k x h) ∙ ap (λ b. b || list_any p (map f (drop (k + 1) xs))) e

pub any_shown : (p : Fact → Bool) (xs : List Fact) (k : ℕ) (x : Fact) → slice_get xs k ≡ Some x → p x ≡ true → list_any p (drop k xs) ≡ true
any_shown p xs k x h e = any_more p xs k x h ∙ ap (λ b. b || list_any p (drop (k + 1) xs)) e

pub any_passed : (p : Fact → Bool) (xs : List Fact) (k : ℕ) (x : Fact) → slice_get xs k ≡ Some x → p x ≡ false → list_any p (drop k xs) ≡ list_any p (drop (k + 1) xs)
any_passed p xs k x h e = any_more p xs k x h ∙ ap (λ b. b || list_any p (drop (k + 1) xs)) e

pub ruleset any_laws = (any_more, any_end)

pub time_got : (tr : Trace) (k : ℕ) (p : List Fact) → slice_get tr k ≡ Some p → facts_at tr k ≡ p
time_got [] k p h = absurd (cc)
time_got (q ∷ tr) zero p h = cc
time_got (q ∷ tr) (suc k) p h = time_got tr k p h

pub time_past : (tr : Trace) (k : ℕ) → slice_get tr k ≡ None → facts_at tr k ≡ []
time_past [] k h = refl
time_past (q ∷ tr) zero h = absurd (cc)
time_past (q ∷ tr) (suc k) h = time_past tr k h

pub ruleset time_laws = (time_got, time_past)
