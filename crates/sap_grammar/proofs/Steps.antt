-- What reading does at each depth.
use Rattle.std.proofs.Common.{◌≡◌, ◌<◌, ◌-◌, ℕ, zero, suc, List, None, refl, arith}
use Rattle.sap_terms.specs.Signature.{Sig}
use Rattle.sap_grammar.specs.Words.{Word}
use Rattle.sap_grammar.specs.TermReading.{term, term_at, rest, rest_at}

pub term_zero : (g : Sig) (ws : List Word) → term g 0 ws ≡ None
unfolding term rest
term_zero g ws = refl

pub rest_zero : (g : Sig) (ws : List Word) → rest g 0 ws ≡ None
unfolding term rest
rest_zero g ws = refl

pub term_step : (g : Sig) (d : ℕ) (ws : List Word) → 0 < d → term g d ws ≡ term_at g (term g (d - 1)) (rest g (d - 1)) ws
unfolding term rest
term_step g zero ws lt = absurd (omega (arith, lt))
term_step g (suc d) ws lt = let e : suc d - 1 ≡ d = omega arith in rw e refl

pub rest_step : (g : Sig) (d : ℕ) (ws : List Word) → 0 < d → rest g d ws ≡ rest_at (term g d) (rest g (d - 1)) ws
unfolding term rest
rest_step g zero ws lt = absurd (omega (arith, lt))
rest_step g (suc d) ws lt = let e : suc d - 1 ≡ d = omega arith in rw e refl
