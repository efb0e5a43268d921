-- A run and the one that it is converted to are opposite.
use Rattle.std.proofs.Common.{List, refl, subst}
use Rattle.std.specs.Prelude.{Contains}
use Rattle.sap_back.specs.Converted as back
use Rattle.sap_formula.specs.Hide.{hide}
use Rattle.sap_forward.specs.Converted as forward
use Rattle.sap_gen.specs.Kept.{file_theory}
use Rattle.sap_read.specs.Files.{FileContent}
use Rattle.sap_runs.specs.declared.process_step.PStep.{PStep}
use Rattle.sap_runs.specs.declared.rule_step.RStep.{RStep}
use Rattle.sap_steps.specs.Marks.{marks}
use Rattle.sap_terms.specs.Tree.{Tree}
use Rattle.sap_replay.specs.Replays.{AreOpposite}

-- a run of the process and the one of rules that it is converted to
pub forward_is_opposite : (f : FileContent) (lines : List PStep) (rule_lines : List RStep) → forward.IsConvertedToRules f.signature f.process lines rule_lines → AreOpposite f lines rule_lines
forward_is_opposite f lines rule_lines c = record {
  theory = file_theory f;
  compiled = refl;
  config = c.config;
  entries = c.entries;
  trace = c.trace;
  marks_of_both = c.marks;
  legal = c.legal;
  state = c.opposite.state;
  full = c.opposite.full;
  legal_rules = c.opposite.legal;
  admitted = c.opposite.admitted;
  shows = c.opposite.shows;
  marked = c.opposite.marked;
  known = λ t k. subst (λ (ts : List Tree). Contains ts t) c.opposite.entries k;
}

-- and the other way about
pub back_is_opposite : (f : FileContent) (rule_lines : List RStep) (lines : List PStep) → back.IsConvertedToProcess f.signature f.process rule_lines lines → AreOpposite f lines rule_lines
back_is_opposite f rule_lines lines c = record {
  theory = file_theory f;
  compiled = refl;
  config = c.opposite.config;
  entries = c.opposite.entries;
  trace = hide c.full;
  marks_of_both = marks c.full;
  legal = c.opposite.legal;
  state = c.state;
  full = c.full;
  legal_rules = c.counted.legal;
  admitted = c.counted.admitted;
  shows = refl;
  marked = refl;
  known = c.opposite.known;
}
