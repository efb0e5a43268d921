-- What reading processes does at each depth.
use Rattle.std.proofs.Common.{◌≡◌, ◌<◌, ◌-◌, ℕ, zero, suc, List, None, refl, arith}
use Rattle.sap_terms.specs.Signature.{Sig}
use Rattle.sap_grammar.specs.declared.limits.Limits.{Limits}
use Rattle.sap_grammar.specs.Words.{Word}
use Rattle.sap_draft.specs.code.ProcessReading.{seq, par, seq_at, par_at}
use Rattle.sap_grammar.proofs.ReadingLaws.Limits.{fits, over}
use Rattle.sap_grammar.proofs.ReadingLaws.Tokens.{words-drop, length-words}

pub seq_zero : (g : Sig) (m : Limits) (ws : List Word) → seq g m 0 ws ≡ None
unfolding seq par
seq_zero g m ws = refl

pub par_zero : (g : Sig) (m : Limits) (ws : List Word) → par g m 0 ws ≡ None
unfolding seq par
par_zero g m ws = refl

pub seq_step : (g : Sig) (m : Limits) (d : ℕ) (ws : List Word) → 0 < d → seq g m d ws ≡ seq_at g m (seq g m (d - 1)) (par g m (d - 1)) (d - 1) ws
unfolding seq par
seq_step g m zero ws lt = absurd (omega (arith, lt))
seq_step g m (suc d) ws lt = let e : suc d - 1 ≡ d = omega arith in rw e refl

pub par_step : (g : Sig) (m : Limits) (d : ℕ) (ws : List Word) → 0 < d → par g m d ws ≡ par_at (seq g m d) (par g m (d - 1)) (d - 1) ws
unfolding seq par
par_step g m zero ws lt = absurd (omega (arith, lt))
par_step g m (suc d) ws lt = let e : suc d - 1 ≡ d = omega arith in rw e refl

pub ruleset tokens = (words-drop, length-words)

pub ruleset limits = (words-drop, fits, over)

pub ruleset seq_steps = (words-drop, length-words, seq_zero, seq_step)

pub ruleset par_steps = (words-drop, length-words, par_zero, par_step)
