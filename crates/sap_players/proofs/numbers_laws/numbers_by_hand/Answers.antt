use Rattle.std.proofs.Common.{◌≡◌, ℕ, zero, suc, [], ◌∷◌, Option, Some, slice_get, refl, arith}
use Rattle.sap_players.specs.Numbers.{IsRoleNumber}
use Rattle.sap_players.specs.NumberExamples.{interleaved}
use Rattle.sap_players.proofs.Numbered.{one_number}
use Rattle.sap_players.proofs.numbers_laws.numbers_by_hand.Goals as goal

-- it is this one, and no other
other : (r t k j : ℕ) → IsRoleNumber interleaved r t k → (k ≡ j → ⊥) → IsRoleNumber interleaved r t j → ⊥
other r t k j is differs h = differs (one_number interleaved r t k j is h)

abbrev pub first_of_0 : IsRoleNumber interleaved 0 4 1
first_of_0 = (0, refl, refl)

abbrev pub second_of_0 : IsRoleNumber interleaved 0 7 2
second_of_0 = (1, refl, refl)

abbrev pub third_of_0 : IsRoleNumber interleaved 0 2 3
third_of_0 = (2, refl, refl)

abbrev pub second_of_1 : IsRoleNumber interleaved 1 4 2
second_of_1 = (1, refl, refl)

pub returns-clause-first : goal.returns-clause-first
returns-clause-first c = (first_of_0, (0, refl, refl))

pub returns-clause-second : goal.returns-clause-second
returns-clause-second c = (second_of_0, second_of_1)

pub returns-clause-third : goal.returns-clause-third
returns-clause-third c = third_of_0

pub returns-clause-no_number : goal.returns-clause-no_number
returns-clause-no_number c =
    (other 0 4 1 4 first_of_0 (λ e. omega (arith, e)), other 0 7 2 7 second_of_0 (λ e. omega (arith, e)), other 0 4 1 0 first_of_0 (λ e. omega (arith, e)))

pub returns-clause-no_order_of_numbers : goal.returns-clause-no_order_of_numbers
returns-clause-no_order_of_numbers c = (other 0 2 3 1 third_of_0 (λ e. omega (arith, e)), other 1 4 2 1 second_of_1 (λ e. omega (arith, e)))

pub returns-clause-no_count_of_lines : goal.returns-clause-no_count_of_lines
returns-clause-no_count_of_lines c = (other 0 2 3 4 third_of_0 (λ e. omega (arith, e)), other 0 2 3 6 third_of_0 (λ e. omega (arith, e)))

pub returns-clause-no_count_over_roles : goal.returns-clause-no_count_over_roles
returns-clause-no_count_over_roles c = (other 0 7 2 3 second_of_0 (λ e. omega (arith, e)), other 0 2 3 2 third_of_0 (λ e. omega (arith, e)))

pub returns-clause-no_last : goal.returns-clause-no_last
returns-clause-no_last c = (other 0 7 2 1 second_of_0 (λ e. omega (arith, e)), other 0 4 1 2 first_of_0 (λ e. omega (arith, e)))

-- a thread that has done nothing there stands at no index
seven_is_not : (n : ℕ) → (n ≡ 7 → ⊥) → ◌≡◌ {A = Option ℕ} (Some n) (Some 7) → ⊥
seven_is_not n other e = other (cc (e))

no_seventh : (j : ℕ) → slice_get {X = ℕ} (2 ∷ 4 ∷ []) j ≡ Some 7 → ⊥
no_seventh zero e = seven_is_not 2 (λ is. omega (arith, is)) e
no_seventh (suc zero) e = seven_is_not 4 (λ is. omega (arith, is)) e
no_seventh (suc (suc j)) e = cc (e)

none_there : (j t : ℕ) → slice_get {X = ℕ} [] j ≡ Some t → ⊥
none_there j t e = cc (e)

pub returns-clause-nothing_done : goal.returns-clause-nothing_done
returns-clause-nothing_done c = λ k. ((λ h. no_seventh h.0 h.2), (λ h. none_there h.0 4 h.2), (λ h. none_there h.0 4 h.2))
