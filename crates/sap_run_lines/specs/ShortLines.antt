-- The lines of steps of short runs. A term stands last in its line, behind words as all lines have them.
-- Byte 32 is a space.
use Rattle.std.specs.Prelude.{ℕ, codes, List, [], ◌∷◌}
use Rattle.sap_terms.specs.Tree.{Tree}
use Rattle.sap_terms.specs.View.{tree}
use Rattle.sap_runs.specs.Short.{MayStand}
use Rattle.sap_runs.specs.declared.short_step.SStep.{SStep}
use Rattle.sap_runs.specs.declared.short_step.SStep.TheVariants as short
use Rattle.sap_run_lines.specs.LineWords.{LineWord, IsLineWord, AreLineWords}
use Rattle.sap_run_lines.specs.StepLines.{plain, IsProcessStepLine}
use Rattle.sap_run_lines.specs.WholeWords.{IsWholeTerm}

-- all of the bytes are these words and then this term, which has at most 256 nodes, with one blank behind each word
pub data AreWordsAndTerm (t : Tree) : List LineWord → List ℕ → Type 0 where
  term_last : {z : List ℕ} → IsWholeTerm t z → AreWordsAndTerm t [] z
  word_before : {w : LineWord} {ws : List LineWord} {x z : List ℕ} → IsLineWord w x (32 ∷ z) → AreWordsAndTerm t ws z → AreWordsAndTerm t (w ∷ ws) x

-- the bytes are the line of this step of a short run, without the line feed
abbrev pub IsShortStepLine : SStep → List ℕ → Type 0
IsShortStepLine (short.Act step) z = MayStand step × IsProcessStepLine step z
IsShortStepLine (short.In t term) z = AreWordsAndTerm (tree term) (plain (codes "in") (t ∷ [])) z
IsShortStepLine (short.Send t) z = AreLineWords (plain (codes "send") (t ∷ [])) z
IsShortStepLine (short.Know term) z = AreWordsAndTerm (tree term) (plain (codes "know") []) z
