-- What taking does at each number of calls.
use Rattle.std.proofs.Common.{◌≡◌, ◌<◌, ◌-◌, ℕ, zero, suc, List, None, refl, arith}
use Rattle.sap_terms.specs.Tree.{Tree}
use Rattle.sap_run_lines.specs.code.TermTaking.{term, term_at, rest, rest_at, terms, terms_at}

pub term_zero : (z : List ℕ) → term 0 z ≡ None
unfolding term rest terms
term_zero z = refl

pub rest_zero : (z : List ℕ) → rest 0 z ≡ None
unfolding term rest terms
rest_zero z = refl

pub terms_zero : (ts : List Tree) (z : List ℕ) → terms 0 ts z ≡ None
unfolding term rest terms
terms_zero ts z = refl

pub term_step : (d : ℕ) (z : List ℕ) → 0 < d → term d z ≡ term_at (term (d - 1)) (rest (d - 1)) (terms (d - 1)) z
unfolding term rest terms
term_step zero z lt = absurd (omega (arith, lt))
term_step (suc d) z lt = let e : suc d - 1 ≡ d = omega arith in rw e refl

pub rest_step : (d : ℕ) (z : List ℕ) → 0 < d → rest d z ≡ rest_at (term (d - 1)) (rest (d - 1)) z
unfolding term rest terms
rest_step zero z lt = absurd (omega (arith, lt))
rest_step (suc d) z lt = let e : suc d - 1 ≡ d = omega arith in rw e refl

pub terms_step : (d : ℕ) (ts : List Tree) (z : List ℕ) → 0 < d → terms d ts z ≡ terms_at (term (d - 1)) (terms (d - 1)) ts z
unfolding term rest terms
terms_step zero ts z lt = absurd (omega (arith, lt))
terms_step (suc d) ts z lt = let e : suc d - 1 ≡ d = omega arith in rw e refl
