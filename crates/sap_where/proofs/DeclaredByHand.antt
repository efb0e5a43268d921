-- Where in small files a parameter stands twice, and where a declaration clashes.
use Rattle.std.proofs.Common.{◌≡◌, ◌<◌, ℕ, zero, suc, true, false, List, drop, Option, Some, None, refl, subst, arith}
use Rattle.std.specs.Prelude.{codes}
use Rattle.sap_terms.specs.declared.signature.Builtin.TheVariants.{Hashing}
use Rattle.sap_grammar.specs.Words.{words_of}
use Rattle.sap_grammar.specs.Reading.{given, names}
use Rattle.sap_grammar.specs.Declarations.{of_builtin, of_symbol}
use Rattle.sap_where.specs.Parameters.{IsParameter, goes_on, opens_parameters, parameter_at}
use Rattle.sap_where.specs.FileDeclarations.{IsClashAt}
use Rattle.sap_where.specs.PlaceExamples.{IsClash, IsTwice, few_declared_tokens, many_declared, many_declared_tokens, three_headings, three_headings_tokens}
use Rattle.sap_where.specs.Where.{HoldsOnce, IsSecond}
use Rattle.sap_where.proofs.Clashes.{clash_stays, one_clash}
use Rattle.sap_where.proofs.SecondParameter.{one_repeated}
use Rattle.sap_where.proofs.Seconds.{one_second}

false_is : false ≡ true → ⊥
false_is e = absurd (cc)

-- before the second definition the first alone begins
opened : (i : ℕ) → i < 9 → opens_parameters three_headings three_headings_tokens i ≡ true → i ≡ 0
opened zero lt h = refl
opened (suc zero) lt h = absurd (false_is h)
opened (suc (suc zero)) lt h = absurd (false_is h)
opened (suc (suc (suc zero))) lt h = absurd (false_is h)
opened (suc (suc (suc (suc zero)))) lt h = absurd (false_is h)
opened (suc (suc (suc (suc (suc zero))))) lt h = absurd (false_is h)
opened (suc (suc (suc (suc (suc (suc zero)))))) lt h = absurd (false_is h)
opened (suc (suc (suc (suc (suc (suc (suc zero))))))) lt h = absurd (false_is h)
opened (suc (suc (suc (suc (suc (suc (suc (suc zero)))))))) lt h = absurd (false_is h)
opened (suc (suc (suc (suc (suc (suc (suc (suc (suc i))))))))) lt h = absurd (omega (arith, lt))

abbrev pub IsX : ℕ → ℕ → Type 0
IsX i k = IsParameter three_headings three_headings_tokens (codes "x") i k

-- in the first x is its first parameter alone
only_in_first : (k : ℕ) → IsX 0 k → k ≡ 3
only_in_first k p = by p.can.number p.can.place p.can.before
  where
    by : (j : ℕ) → k ≡ parameter_at 0 j → ((l : ℕ) → l < j → goes_on three_headings three_headings_tokens (parameter_at 0 l) ≡ true) → k ≡ 3
    by zero e f = e
    by (suc zero) e f = absurd (false_is (subst (λ (n : ℕ). names (codes "x") (words_of three_headings (drop n three_headings_tokens)) ≡ true) e p.is))
    by (suc (suc j)) e f = absurd (false_is (f 1 (omega arith)))

once_in_first : HoldsOnce (IsX 0)
once_in_first a b lt p q =
    let e = only_in_first a p in
    let f = only_in_first b q in
    absurd (omega (arith, lt, e, f))

-- in the second it is the first, the third and the fourth
pub first_is : IsX 9 12
first_is = record { can = record { opens = refl; number = 0; place = refl; before = λ j lt. absurd (omega (arith, lt)) }; is = refl }

second_is : IsX 9 16
second_is = record { can = record { opens = refl; number = 2; place = refl; before = before }; is = refl }
  where
    before : (j : ℕ) → j < 2 → goes_on three_headings three_headings_tokens (parameter_at 9 j) ≡ true
    before zero lt = refl
    before (suc zero) lt = refl
    before (suc (suc j)) lt = absurd (omega (arith, lt))

no_other : (k : ℕ) → k < 16 → IsX 9 k → k ≡ 12
no_other k lt p = by p.can.number p.can.place
  where
    by : (j : ℕ) → k ≡ parameter_at 9 j → k ≡ 12
    by zero e = e
    by (suc zero) e = absurd (false_is (subst (λ (n : ℕ). names (codes "x") (words_of three_headings (drop n three_headings_tokens)) ≡ true) e p.is))
    by (suc (suc j)) e = absurd (omega (arith, e, lt))

pub second_there : IsSecond (IsX 9) 16
second_there = record { is = second_is; first = 12; before = omega arith; is_first = first_is; no_other = no_other }

pub none_in_first : (i j : ℕ) → i < 9 → IsSecond (IsX i) j → ⊥
none_in_first i j lt s = none (opened i lt s.is.can.opens)
  where
    none : i ≡ 0 → ⊥
    none e = let t = subst (λ (n : ℕ). IsSecond (IsX n) j) e s in once_in_first t.first j t.before t.is_first t.is

pub twice_at : IsTwice 16
twice_at = record { item = 9; second = second_there; none_before = none_in_first }

not_another : (k : ℕ) → (16 ≡ k → ⊥) → IsTwice k → ⊥
not_another k other h = other (one_repeated three_headings three_headings_tokens (codes "x") one_second 16 k twice_at h)

pub not_once : IsTwice 3 → ⊥
not_once h = not_another 3 (λ e. absurd (omega (arith, e))) h

pub not_the_first : IsTwice 12 → ⊥
not_the_first h = not_another 12 (λ e. absurd (omega (arith, e))) h

pub not_the_third : IsTwice 18 → ⊥
not_the_third h = not_another 18 (λ e. absurd (omega (arith, e))) h

pub not_behind : IsTwice 27 → ⊥
not_behind h = not_another 27 (λ e. absurd (omega (arith, e))) h

none_some : {x : List ℕ} → ◌≡◌ {A = Option (List ℕ)} None (Some x) → ⊥
none_some e = absurd (cc)

some_none : {x : List ℕ} → ◌≡◌ {A = Option (List ℕ)} (Some x) None → ⊥
some_none e = absurd (cc)

pub builtin_clashes : IsClash (codes "h") 15
unfolding given
builtin_clashes = record { inside = omega arith; declaration = of_builtin Hashing; declared = refl; clashes = refl; none_before = refl }

pub function_clashes : IsClashAt many_declared few_declared_tokens (codes "f") 15
unfolding given
function_clashes = record { inside = omega arith; declaration = of_symbol (record { name = codes "f"; arity = 2; private = false }); declared = refl; clashes = refl; none_before = refl }

pub not_declared_first : IsClash (codes "h") 2 → ⊥
not_declared_first h =
    let e : 15 ≡ 2 = one_clash many_declared many_declared_tokens (codes "h") 15 2 builtin_clashes h in
    absurd (omega (arith, e))

-- the same again is no clash
pub not_the_same : IsClash (codes "f") 10 → ⊥
unfolding given
not_the_same h = none_some (clash_stays many_declared many_declared_tokens (codes "f") 10 13 h (omega arith))

-- another clashes before it
pub not_the_second : IsClash (codes "f") 18 → ⊥
unfolding given
not_the_second h = some_none h.none_before
