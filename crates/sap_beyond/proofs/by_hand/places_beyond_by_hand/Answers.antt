use Rattle.std.proofs.Common.{◌≡◌, ◌<◌, ℕ, List, [], ◌∷◌, refl, arith}
use Rattle.sap_beyond.specs.Examples.{both, small}
use Rattle.sap_beyond.specs.Numbered.{IsFirstDeep, IsNumbered}
use Rattle.sap_beyond.specs.code.Shapes.{Shape, leaf, one, two}
use Rattle.sap_beyond.specs.code.Steps.{first_here, first_later}
use Rattle.sap_beyond.proofs.Numbered.{HasShape, deep_only, is_deep, numbered_only, one_deep, one_number}
use Rattle.sap_beyond.proofs.by_hand.places_beyond_by_hand.Goals as goal

-- what P and Q stand for, and the whole
abbrev p_shape : Shape
p_shape = one (two leaf (one leaf))

abbrev small_shape : Shape
small_shape = two p_shape (one p_shape)

has_shape : HasShape both small small_shape
has_shape identifiers = refl

within : IsNumbered both small 5 (1 ∷ 1 ∷ 2 ∷ 1 ∷ [])
within identifiers = refl

first_three : IsFirstDeep both small 3 (1 ∷ 1 ∷ 1 ∷ [])
first_three = is_deep both small small_shape has_shape 3 (1 ∷ 1 ∷ 1 ∷ []) (first_later (λ e. omega (arith, e)) (first_later (λ e. omega (arith, e)) (first_later (λ e. omega (arith, e)) (first_here refl))))

first_four : IsFirstDeep both small 4 (1 ∷ 1 ∷ 2 ∷ 1 ∷ [])
first_four = is_deep both small small_shape has_shape 4 (1 ∷ 1 ∷ 2 ∷ 1 ∷ []) (first_later (λ e. omega (arith, e)) (first_later (λ e. omega (arith, e)) (first_later (λ e. omega (arith, e)) (first_later (λ e. omega (arith, e)) (first_later (λ e. omega (arith, e)) (first_here refl))))))

first_five : IsFirstDeep both small 5 (2 ∷ 1 ∷ 1 ∷ 2 ∷ 1 ∷ [])
first_five = is_deep both small small_shape has_shape 5 (2 ∷ 1 ∷ 1 ∷ 2 ∷ 1 ∷ []) (first_later (λ e. omega (arith, e)) (first_later (λ e. omega (arith, e)) (first_later (λ e. omega (arith, e)) (first_later (λ e. omega (arith, e)) (first_later (λ e. omega (arith, e)) (first_later (λ e. omega (arith, e)) (first_later (λ e. omega (arith, e)) (first_later (λ e. omega (arith, e)) (first_later (λ e. omega (arith, e)) (first_later (λ e. omega (arith, e)) (first_later (λ e. omega (arith, e)) (first_here refl))))))))))))

other_path : (k : ℕ) (v w : List ℕ) → IsNumbered both small k v → (v ≡ w → ⊥) → IsNumbered both small k w → ⊥
other_path k v w e other g = other (one_number both small k v w e g)

other_deep : (n : ℕ) (v w : List ℕ) → IsFirstDeep both small n v → (v ≡ w → ⊥) → IsFirstDeep both small n w → ⊥
other_deep n v w e other g = other (one_deep both small n v w e g)

pub returns-clause-none_behind : goal.returns-clause-none_behind
returns-clause-none_behind c = λ path e.
    let less : 12 < 12 = numbered_only both small 12 path [] e in
    omega (arith, less)

pub returns-clause-not_before : goal.returns-clause-not_before
returns-clause-not_before c = other_path 5 (1 ∷ 1 ∷ 2 ∷ 1 ∷ []) (1 ∷ 1 ∷ 2 ∷ []) within (λ e. cc (e))

pub returns-clause-not_behind : goal.returns-clause-not_behind
returns-clause-not_behind c = other_path 5 (1 ∷ 1 ∷ 2 ∷ 1 ∷ []) (2 ∷ []) within (λ e. cc (e))

pub returns-clause-not_other : goal.returns-clause-not_other
returns-clause-not_other c = other_path 5 (1 ∷ 1 ∷ 2 ∷ 1 ∷ []) (2 ∷ 1 ∷ 1 ∷ []) within (λ e. cc (e))

pub returns-clause-no_use : goal.returns-clause-no_use
returns-clause-no_use c = (other_path 1 (1 ∷ []) [] (λ identifiers. refl) (λ e. cc (e)), other_path 2 (1 ∷ 1 ∷ []) (1 ∷ []) (λ identifiers. refl) (λ e. cc (e)))

pub returns-clause-deep : goal.returns-clause-deep
returns-clause-deep c = first_three

pub returns-clause-deeper : goal.returns-clause-deeper
returns-clause-deeper c = first_four

pub returns-clause-deepest : goal.returns-clause-deepest
returns-clause-deepest c = first_five

pub returns-clause-none_deeper : goal.returns-clause-none_deeper
returns-clause-none_deeper c = λ path e.
    let less : 6 < 6 = deep_only both small 6 path [] e in
    omega (arith, less)

pub returns-clause-not_second : goal.returns-clause-not_second
returns-clause-not_second c = other_deep 3 (1 ∷ 1 ∷ 1 ∷ []) (1 ∷ 1 ∷ 2 ∷ []) first_three (λ e. cc (e))

pub returns-clause-not_last : goal.returns-clause-not_last
returns-clause-not_last c = (
  other_deep 3 (1 ∷ 1 ∷ 1 ∷ []) (2 ∷ 1 ∷ 1 ∷ []) first_three (λ e. cc (e)),
  other_deep 4 (1 ∷ 1 ∷ 2 ∷ 1 ∷ []) (2 ∷ 1 ∷ 1 ∷ 2 ∷ []) first_four (λ e. cc (e)),
)
