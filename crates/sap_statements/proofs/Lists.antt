-- How lists are read, turn by turn.
use Rattle.std.proofs.Common.{◌≡◌, ◌<◌, ◌-◌, ℕ, zero, suc, List, [], ◌∷◌, drop, Some, None, if◌then◌else◌, refl, arith}
use Rattle.std.specs.Prelude.{codes}
use Rattle.sap_grammar.specs.Words.{Word, starts}
use Rattle.sap_grammar.specs.Reading.{after, behind, list_of}
use Rattle.sap_statements.specs.code.StatementReading.{attribute}
use Rattle.sap_grammar.proofs.ReadingLaws.Tokens.{words-drop}
use Rattle.sap_grammar.proofs.ReadingLaws.Turns.{behind_behind}

pub attributes_step : (n : ℕ) (ws : List Word) → 0 < n
    → list_of (codes "]") attribute n ws ≡ after (attribute ws) (λ v r.
    if starts (codes "]") r then Some (v ∷ [], drop 1 r)
    else if starts (codes ",") r then behind (v ∷ []) (list_of (codes "]") attribute (n - 1) (drop 1 r))
    else None)
attributes_step zero ws lt = absurd (omega (arith, lt))
attributes_step (suc n) ws lt = let same : suc n - 1 ≡ n = omega arith in rw same refl

pub ruleset attribute_turns = (words-drop, behind_behind, attributes_step)
