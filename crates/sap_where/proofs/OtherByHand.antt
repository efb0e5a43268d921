-- Where in small files the other place is.
use Rattle.std.proofs.Common.{◌≡◌, ◌<◌, ℕ, zero, suc, true, false, List, [], refl, arith}
use Rattle.std.specs.Prelude.{codes}
use Rattle.sap_grammar.specs.Reading.{given}
use Rattle.sap_grammar.specs.Declarations.{of_symbol}
use Rattle.sap_read.specs.Files.{AreTokens}
use Rattle.sap_read.specs.declared.fault.ReadFault.{ReadFault}
use Rattle.sap_read.specs.declared.fault.ReadFault.TheVariants.{Arguments, DuplicateName, FunctionClash, Parameters, TwoProcesses}
use Rattle.sap_stretches.specs.StretchExamples.{stretch}
use Rattle.sap_stretches.specs.declared.stretch.Stretch.{Stretch}
use Rattle.sap_where.specs.declared.find.Beginning.TheVariants.{Definition, Process, Statement}
use Rattle.sap_where.specs.FileDeclarations.{IsClashAt}
use Rattle.sap_where.specs.OtherPlaces.{DeclaresAt, IsDeclaredFirstAt, IsOtherWhere, IsTakenFirstAt, first_declaration, first_definition as first_of_definitions, first_name, first_parameter, first_process, first_statement as first_of_statements, its_definition}
use Rattle.sap_where.specs.PlaceExamples.{IsFirstF, IsTwiceFirst, after_builtin, after_builtin_tokens, few_declared_tokens, many_declared, many_declared_tokens, of_pairs, of_pairs_tokens, once_tokens, stated, stated_tokens, three_headings, three_headings_tokens, twice, twice_tokens, two_processes, two_processes_tokens}
use Rattle.sap_where.specs.Where.{BeginsAt, IsFirst, IsSecond}
use Rattle.sap_where.proofs.DeclaredByHand.{builtin_clashes, first_is, function_clashes, none_in_first, second_there}
use Rattle.sap_where.proofs.FirstOfTwo.{one_declared_first, one_repeated_first, one_taken_first}
use Rattle.sap_where.proofs.OtherNowhere.{none_taken}
use Rattle.sap_where.proofs.PlacesByHand.{first_definition, first_statement, none_defined}
use Rattle.sap_where.proofs.SecondParameter.{low}

false_is : false ≡ true → ⊥
false_is e = absurd (cc)

first_at_0 : (P : ℕ → Type 0) → P 0 → IsFirst P 0
first_at_0 P p = record { is = p; none_before = λ i lt q. absurd (omega (arith, lt)) }

-- ---- names

first_let : IsFirst (BeginsAt twice twice_tokens Definition (codes "P")) 0
first_let = first_at_0 _ (record { inside = omega arith; is = refl })

second_let : IsSecond (BeginsAt twice twice_tokens Definition (codes "P")) 4
second_let = record {
  is = record { inside = omega arith; is = refl };
  first = 0;
  before = omega arith;
  is_first = record { inside = omega arith; is = refl };
  no_other = other;
}
  where
    other : (i : ℕ) → i < 4 → BeginsAt twice twice_tokens Definition (codes "P") i → i ≡ 0
    other zero lt b = refl
    other (suc zero) lt b = absurd (false_is b.is)
    other (suc (suc zero)) lt b = absurd (false_is b.is)
    other (suc (suc (suc zero))) lt b = absurd (false_is b.is)
    other (suc (suc (suc (suc i)))) lt b = absurd (omega (arith, lt))

pub first_taken : IsTakenFirstAt twice twice_tokens (codes "P") 0
first_taken = first_of_definitions second_let first_let

not_taken : (k : ℕ) → (0 ≡ k → ⊥) → IsTakenFirstAt twice twice_tokens (codes "P") k → ⊥
not_taken k other h = other (one_taken_first twice twice_tokens (codes "P") 0 k first_taken h)

pub not_the_lemma : IsTakenFirstAt twice twice_tokens (codes "P") 2 → ⊥
not_the_lemma h = not_taken 2 (λ e. absurd (omega (arith, e))) h

pub not_the_second_let : IsTakenFirstAt twice twice_tokens (codes "P") 4 → ⊥
not_the_second_let h = not_taken 4 (λ e. absurd (omega (arith, e))) h

second_stated : IsSecond (BeginsAt stated stated_tokens Statement (codes "P")) 2
second_stated = record {
  is = record { inside = omega arith; is = refl };
  first = 0;
  before = omega arith;
  is_first = record { inside = omega arith; is = refl };
  no_other = other;
}
  where
    other : (i : ℕ) → i < 2 → BeginsAt stated stated_tokens Statement (codes "P") i → i ≡ 0
    other zero lt b = refl
    other (suc zero) lt b = absurd (false_is b.is)
    other (suc (suc i)) lt b = absurd (omega (arith, lt))

pub first_lemma : IsTakenFirstAt stated stated_tokens (codes "P") 0
first_lemma =
    first_of_statements (λ i j lt a b. none_defined j b) second_stated (first_at_0 _ (record { inside = omega arith; is = refl }))

pub not_the_restriction : IsTakenFirstAt stated stated_tokens (codes "P") 2 → ⊥
not_the_restriction h =
    let e : 0 ≡ 2 = one_taken_first stated stated_tokens (codes "P") 0 2 first_lemma h in
    absurd (omega (arith, e))

pub none_twice : (j : ℕ) → IsTakenFirstAt twice once_tokens (codes "P") j → ⊥
none_twice j h =
    none_taken twice once_tokens (codes "P") (λ i j lt a b. let e = first_definition j b in absurd (omega (arith, lt, e)))
    (λ i j lt a b. let e = first_statement i a in let f = first_statement j b in absurd (omega (arith, lt, e, f))) j h

-- ---- parameters

pub first_x : IsTwiceFirst 12
first_x = record {
  second = 16;
  repeated = record { item = 9; second = second_there; none_before = none_in_first };
  first = record { is = first_is; none_before = λ n lt p. let le = low three_headings three_headings_tokens 9 n p.can in absurd (omega (arith, le, lt)) };
}

not_x : (k : ℕ) → (12 ≡ k → ⊥) → IsTwiceFirst k → ⊥
not_x k other h = other (one_repeated_first three_headings three_headings_tokens (codes "x") 12 k first_x h)

pub not_of_another : IsTwiceFirst 3 → ⊥
not_of_another h = not_x 3 (λ e. absurd (omega (arith, e))) h

pub not_the_second_x : IsTwiceFirst 16 → ⊥
not_the_second_x h = not_x 16 (λ e. absurd (omega (arith, e))) h

pub not_the_third_x : IsTwiceFirst 18 → ⊥
not_the_third_x h = not_x 18 (λ e. absurd (omega (arith, e))) h

-- ---- declarations

pub first_h : IsDeclaredFirstAt many_declared many_declared_tokens (codes "h") 2
unfolding given
first_h = record { second = 15; clash = builtin_clashes; first = record { is = record { inside = omega arith; is = refl }; none_before = none }; before = omega arith }
  where
    none : (i : ℕ) → i < 2 → DeclaresAt many_declared many_declared_tokens (codes "h") i → ⊥
    none zero lt d = false_is d.is
    none (suc zero) lt d = false_is d.is
    none (suc (suc i)) lt d = absurd (omega (arith, lt))

pub not_the_builtin : IsDeclaredFirstAt many_declared many_declared_tokens (codes "h") 15 → ⊥
not_the_builtin h =
    let e : 2 ≡ 15 = one_declared_first many_declared many_declared_tokens (codes "h") 2 15 first_h h in
    absurd (omega (arith, e))

pub first_f : IsFirstF 6
unfolding given
first_f = record { second = 15; clash = function_clashes; first = record { is = record { inside = omega arith; is = refl }; none_before = none }; before = omega arith }
  where
    none : (i : ℕ) → i < 6 → DeclaresAt many_declared few_declared_tokens (codes "f") i → ⊥
    none zero lt d = false_is d.is
    none (suc zero) lt d = false_is d.is
    none (suc (suc zero)) lt d = false_is d.is
    none (suc (suc (suc zero))) lt d = false_is d.is
    none (suc (suc (suc (suc zero)))) lt d = false_is d.is
    none (suc (suc (suc (suc (suc zero))))) lt d = false_is d.is
    none (suc (suc (suc (suc (suc (suc i)))))) lt d = absurd (omega (arith, lt))

not_f : (k : ℕ) → (6 ≡ k → ⊥) → IsFirstF k → ⊥
not_f k other h = other (one_declared_first many_declared few_declared_tokens (codes "f") 6 k first_f h)

pub not_of_h : IsFirstF 2 → ⊥
not_of_h h = not_f 2 (λ e. absurd (omega (arith, e))) h

pub not_f_again : IsFirstF 10 → ⊥
not_f_again h = not_f 10 (λ e. absurd (omega (arith, e))) h

pub not_f_otherwise : IsFirstF 15 → ⊥
not_f_otherwise h = not_f 15 (λ e. absurd (omega (arith, e))) h

clash_behind : IsClashAt after_builtin after_builtin_tokens (codes "h") 5
unfolding given
clash_behind = record { inside = omega arith; declaration = of_symbol (record { name = codes "h"; arity = 2; private = false }); declared = refl; clashes = refl; none_before = refl }

pub its_builtin : IsDeclaredFirstAt after_builtin after_builtin_tokens (codes "h") 2
unfolding given
its_builtin = record { second = 5; clash = clash_behind; first = record { is = record { inside = omega arith; is = refl }; none_before = none }; before = omega arith }
  where
    none : (i : ℕ) → i < 2 → DeclaresAt after_builtin after_builtin_tokens (codes "h") i → ⊥
    none zero lt d = false_is d.is
    none (suc zero) lt d = false_is d.is
    none (suc (suc i)) lt d = absurd (omega (arith, lt))

pub not_its_function : IsDeclaredFirstAt after_builtin after_builtin_tokens (codes "h") 5 → ⊥
not_its_function h =
    let e : 2 ≡ 5 = one_declared_first after_builtin after_builtin_tokens (codes "h") 2 5 its_builtin h in
    absurd (omega (arith, e))

-- the first that declares a symbol of pairs clashes itself
pub no_word_of_pairs : (j : ℕ) → IsDeclaredFirstAt of_pairs of_pairs_tokens (codes "fst") j → ⊥
unfolding given
no_word_of_pairs j h = by h.second h.clash.inside j h.before h.first.is h.clash
  where
    declares_at_2 : (j : ℕ) → DeclaresAt of_pairs of_pairs_tokens (codes "fst") j → j ≡ 2
    declares_at_2 zero d = absurd (false_is d.is)
    declares_at_2 (suc zero) d = absurd (false_is d.is)
    declares_at_2 (suc (suc zero)) d = refl
    declares_at_2 (suc (suc (suc zero))) d = absurd (false_is d.is)
    declares_at_2 (suc (suc (suc (suc zero)))) d = absurd (false_is d.is)
    declares_at_2 (suc (suc (suc (suc (suc zero))))) d = absurd (false_is d.is)
    declares_at_2 (suc (suc (suc (suc (suc (suc j)))))) d = let lt = d.inside in absurd (omega (arith, lt))

    -- behind it nothing is declared
    by : (k : ℕ) → k < 6 → (j : ℕ) → j < k → DeclaresAt of_pairs of_pairs_tokens (codes "fst") j → IsClashAt of_pairs of_pairs_tokens (codes "fst") k → ⊥
    by zero inside j lt d c = absurd (omega (arith, lt))
    by (suc zero) inside j lt d c = let e = declares_at_2 j d in absurd (omega (arith, lt, e))
    by (suc (suc zero)) inside j lt d c = let e = declares_at_2 j d in absurd (omega (arith, lt, e))
    by (suc (suc (suc zero))) inside j lt d c = absurd (cc (c.declared))
    by (suc (suc (suc (suc zero)))) inside j lt d c = absurd (cc (c.declared))
    by (suc (suc (suc (suc (suc zero))))) inside j lt d c = absurd (cc (c.declared))
    by (suc (suc (suc (suc (suc (suc k)))))) inside j lt d c = absurd (omega (arith, inside))

-- ---- stretches

from_is : (s t : Stretch) → s ≡ t → s.from ≡ t.from
from_is s t e = cc

another : ((z : List ℕ) (e : ReadFault) (s t : Stretch) → IsOtherWhere z e s → IsOtherWhere z e t → s ≡ t) → (z : List ℕ) (e : ReadFault) (s t : Stretch) → (s.from ≡ t.from → ⊥) → IsOtherWhere z e s → IsOtherWhere z e t → ⊥
another one z e s t other a b = other (from_is s t (one z e s t a b))

module _ (one : (z : List ℕ) (e : ReadFault) (s t : Stretch) → IsOtherWhere z e s → IsOtherWhere z e t → s ≡ t) where
  module _ (are : AreTokens twice twice_tokens) where
    name_there : IsOtherWhere twice (DuplicateName (codes "P")) (stretch 4 5)
    name_there = first_name are first_taken refl

    definition_there : IsOtherWhere twice (Arguments (codes "P")) (stretch 4 5)
    definition_there = its_definition are first_let refl

    pub names_there : IsOtherWhere twice (DuplicateName (codes "P")) (stretch 4 5) × IsOtherWhere twice (Arguments (codes "P")) (stretch 4 5)
        × (IsOtherWhere twice (DuplicateName (codes "P")) (stretch 0 3) → ⊥) × (IsOtherWhere twice (DuplicateName (codes "P")) (stretch 18 19) → ⊥)
        × (IsOtherWhere twice (Arguments (codes "P")) (stretch 18 19) → ⊥)
    names_there = (
      name_there,
      definition_there,
      another one twice _ (stretch 4 5) (stretch 0 3) (λ e. absurd (omega (arith, e))) name_there,
      another one twice _ (stretch 4 5) (stretch 18 19) (λ e. absurd (omega (arith, e))) name_there,
      another one twice _ (stretch 4 5) (stretch 18 19) (λ e. absurd (omega (arith, e))) definition_there,
    )

  second_process : IsSecond (BeginsAt two_processes two_processes_tokens Process []) 3
  second_process = record {
    is = record { inside = omega arith; is = refl };
    first = 0;
    before = omega arith;
    is_first = record { inside = omega arith; is = refl };
    no_other = other;
  }
    where
      other : (i : ℕ) → i < 3 → BeginsAt two_processes two_processes_tokens Process [] i → i ≡ 0
      other zero lt b = refl
      other (suc zero) lt b = absurd (false_is b.is)
      other (suc (suc zero)) lt b = absurd (false_is b.is)
      other (suc (suc (suc i))) lt b = absurd (omega (arith, lt))

  pub processes_there : AreTokens two_processes two_processes_tokens → IsOtherWhere two_processes (TwoProcesses 1) (stretch 0 7)
      × (IsOtherWhere two_processes (TwoProcesses 1) (stretch 12 19) → ⊥)
  processes_there are =
      let there : IsOtherWhere two_processes (TwoProcesses 1) (stretch 0 7) =
      first_process are second_process (first_at_0 _ (record { inside = omega arith; is = refl })) refl in
      (there, another one two_processes _ (stretch 0 7) (stretch 12 19) (λ e. absurd (omega (arith, e))) there)

  pub clashes_there : AreTokens many_declared few_declared_tokens → IsOtherWhere many_declared (FunctionClash (codes "f")) (stretch 20 21)
      × (IsOtherWhere many_declared (FunctionClash (codes "f")) (stretch 28 29) → ⊥)
  clashes_there are =
      let there : IsOtherWhere many_declared (FunctionClash (codes "f")) (stretch 20 21) = first_declaration are first_f refl in
      (there, another one many_declared _ (stretch 20 21) (stretch 28 29) (λ e. absurd (omega (arith, e))) there)

  pub repeated_there : AreTokens three_headings three_headings_tokens → IsOtherWhere three_headings (Parameters (codes "x")) (stretch 28 29)
      × (IsOtherWhere three_headings (Parameters (codes "x")) (stretch 8 9) → ⊥)
  repeated_there are =
      let there : IsOtherWhere three_headings (Parameters (codes "x")) (stretch 28 29) = first_parameter are first_x refl in
      (there, another one three_headings _ (stretch 28 29) (stretch 8 9) (λ e. absurd (omega (arith, e))) there)
