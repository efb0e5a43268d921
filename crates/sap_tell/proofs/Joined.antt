-- Texts that are pushed one behind the other.
use Rattle.std.proofs.Common.{◌≡◌, ℕ, Result, List, ◌++◌, append_assoc, OnOk, subst, ap, ◌∙◌}

-- behind a that was pushed on z, b is pushed
pub two_pushed : {V E : Type 0} (r : Result V E) (z a b y w : List ℕ) → y ≡ z ++ a → OnOk r (w ≡ y ++ b) → OnOk r (w ≡ z ++ (a ++ b))
two_pushed r z a b y w e h = subst (λ q. OnOk r (w ≡ q)) (ap (λ q. q ++ b) e ∙ append_assoc z a b) h
