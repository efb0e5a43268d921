-- Where in small files is what.
use Rattle.std.proofs.Common.{◌≡◌, ◌<◌, ℕ, true, false, zero, suc, [], refl, arith}
use Rattle.std.specs.Prelude.{codes}
use Rattle.sap_where.specs.declared.find.Beginning.TheVariants.{Definition, Statement}
use Rattle.sap_where.specs.PlaceExamples.{ended_header, nameless_header, once_tokens, stated, stated_tokens, twice, twice_tokens}
use Rattle.sap_where.specs.Where.{BeginsAt, IsTakenAt, StartsFile, only_statement, second_definition, second_statement}
use Rattle.sap_expect.specs.FirstWrong.{IsFirstWrong}
use Rattle.sap_where.proofs.Headers.{wrong_first, wrong_second, wrong_third}
use Rattle.sap_where.proofs.OnePlace.{one_taken, one_wrong}

pub no_begin : IsFirstWrong StartsFile ended_header 2
no_begin = wrong_third ended_header refl refl refl

pub no_name : IsFirstWrong StartsFile nameless_header 1
no_name = wrong_second nameless_header refl refl

pub no_word : IsFirstWrong StartsFile [] 0
no_word = wrong_first [] refl

pub not_last : IsFirstWrong StartsFile nameless_header 2 → ⊥
not_last h =
    let e : 1 ≡ 2 = one_wrong StartsFile nameless_header 1 2 no_name h in
    absurd (omega (arith, e))

false_is : false ≡ true → ⊥
false_is e = absurd (cc)

pub again : IsTakenAt twice twice_tokens (codes "P") 4
again = second_definition (record {
  is = record { inside = omega arith; is = refl };
  first = 0;
  before = omega arith;
  is_first = record { inside = omega arith; is = refl };
  no_other = other;
})
  where
    other : (i : ℕ) → i < 4 → BeginsAt twice twice_tokens Definition (codes "P") i → i ≡ 0
    other zero lt b = refl
    other (suc zero) lt b = absurd (false_is b.is)
    other (suc (suc zero)) lt b = absurd (false_is b.is)
    other (suc (suc (suc zero))) lt b = absurd (false_is b.is)
    other (suc (suc (suc (suc i)))) lt b = absurd (omega (arith, lt))

pub not_before : IsTakenAt twice twice_tokens (codes "P") 0 → ⊥
not_before h =
    let e : 4 ≡ 0 = one_taken twice twice_tokens (codes "P") 4 0 again h in
    absurd (omega (arith, e))

pub first_definition : (i : ℕ) → BeginsAt twice once_tokens Definition (codes "P") i → i ≡ 0
first_definition zero b = refl
first_definition (suc zero) b = absurd (false_is b.is)
first_definition (suc (suc zero)) b = absurd (false_is b.is)
first_definition (suc (suc (suc zero))) b = absurd (false_is b.is)
first_definition (suc (suc (suc (suc i)))) b = let lt = b.inside in absurd (omega (arith, lt))

pub first_statement : (i : ℕ) → BeginsAt twice once_tokens Statement (codes "P") i → i ≡ 2
first_statement zero b = absurd (false_is b.is)
first_statement (suc zero) b = absurd (false_is b.is)
first_statement (suc (suc zero)) b = refl
first_statement (suc (suc (suc zero))) b = absurd (false_is b.is)
first_statement (suc (suc (suc (suc i)))) b = let lt = b.inside in absurd (omega (arith, lt))

pub alone : IsTakenAt twice once_tokens (codes "P") 2
alone = only_statement
    (λ i j lt a b. let e = first_definition j b in absurd (omega (arith, lt, e)))
    (λ i j lt a b. let e = first_statement i a in let f = first_statement j b in absurd (omega (arith, lt, e, f)))
    (record {
      is = record { inside = omega arith; is = refl };
      none_before = λ i lt b. let e = first_statement i b in absurd (omega (arith, lt, e));
    })

pub none_defined : (i : ℕ) → BeginsAt stated stated_tokens Definition (codes "P") i → ⊥
none_defined zero b = false_is b.is
none_defined (suc zero) b = false_is b.is
none_defined (suc (suc zero)) b = false_is b.is
none_defined (suc (suc (suc zero))) b = false_is b.is
none_defined (suc (suc (suc (suc i)))) b = let lt = b.inside in absurd (omega (arith, lt))

pub stated_again : IsTakenAt stated stated_tokens (codes "P") 2
stated_again = second_statement (λ i j lt a b. none_defined j b) (record {
  is = record { inside = omega arith; is = refl };
  first = 0;
  before = omega arith;
  is_first = record { inside = omega arith; is = refl };
  no_other = other;
})
  where
    other : (i : ℕ) → i < 2 → BeginsAt stated stated_tokens Statement (codes "P") i → i ≡ 0
    other zero lt b = refl
    other (suc zero) lt b = absurd (false_is b.is)
    other (suc (suc i)) lt b = absurd (omega (arith, lt))

pub not_first_stated : IsTakenAt stated stated_tokens (codes "P") 0 → ⊥
not_first_stated h =
    let e : 2 ≡ 0 = one_taken stated stated_tokens (codes "P") 2 0 stated_again h in
    absurd (omega (arith, e))
