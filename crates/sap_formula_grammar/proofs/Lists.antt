-- How bound variables are read, turn by turn.
use Rattle.std.proofs.Common.{◌≡◌, ◌<◌, ◌-◌, ℕ, zero, suc, List, [], ◌∷◌, drop, Some, if◌then◌else◌, refl, arith}
use Rattle.std.specs.Prelude.{codes}
use Rattle.sap_grammar.specs.Words.{Word, starts}
use Rattle.sap_grammar.specs.Reading.{after, behind}
use Rattle.sap_formula_grammar.specs.FormulaReading.{binder, binders}
use Rattle.sap_grammar.proofs.ReadingLaws.Tokens.{words-drop}
use Rattle.sap_grammar.proofs.ReadingLaws.Turns.{behind_behind}

pub binders_step : (n : ℕ) (ws : List Word) → 0 < n
    → binders n ws ≡ after (binder ws) (λ v r. if starts (codes ".") r then Some (v ∷ [], drop 1 r) else behind (v ∷ []) (binders (n - 1) r))
binders_step zero ws lt = absurd (omega (arith, lt))
binders_step (suc n) ws lt = let same : suc n - 1 ≡ n = omega arith in rw same refl

pub ruleset binder_turns = (words-drop, behind_behind, binders_step)
