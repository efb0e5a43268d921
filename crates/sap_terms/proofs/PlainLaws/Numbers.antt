-- Numbers of which none is before the other.
use Rattle.std.proofs.Common.{◌≡◌, ◌<◌, ℕ, ⊎_elim}
use Rattle.std.proofs.lemmas.Bool.{cases_order}

-- of two numbers that are not one before the other they are the same
pub same_number : (a b : ℕ) → ¬ (a < b) → ¬ (b < a) → a ≡ b
same_number a b h k = ⊎_elim (λ e. e) (λ o. ⊎_elim (λ l. absurd (h l)) (λ l. absurd (k l)) o) (cases_order a b)
