-- What was taken out of a box.
use Rattle.std.proofs.Common.{◌≡◌, Result, Box, Ok, Err, IfOk, box_value, sym, subst}
use Rattle.std.specs.Result.{result_map_both}

-- what holds of what was in the box holds of what was taken out
pub holds_of_value : {X Z E : Type 0} (made : Result (Box X Z) E) (r : Result X E) (P : X → Type 0)
    → r ≡ result_map_both box_value (λ e. e) made → IfOk made (λ b. P b.value) → IfOk r P
holds_of_value (Ok b) r P is holds = subst (λ s. IfOk s P) (sym is) holds
holds_of_value (Err e) r P is holds = subst (λ s. IfOk s P) (sym is) tt
