-- A run of rules as it is converted: lines of the process go along with it, and the tables are theirs.
use Rattle.std.proofs.Common.{◌≡◌, ◌+◌, ℕ, List, [], ◌∷◌, ◌++◌, Option, Some, None, refl, sym, subst, ap, ◌∙◌, arith, length, length-append, slice_get, take}
use Rattle.sap_terms.specs.Signature.{Sig}
use Rattle.sap_terms.specs.Trace.{Trace}
use Rattle.sap_terms.specs.Tree.{Tree}
use Rattle.sap_terms.proofs.PlainLaws.Lists.{take_got}
use Rattle.sap_formula.specs.Hide.{hide}
use Rattle.sap_process.specs.Configuration.{Config, initial}
use Rattle.sap_process.specs.Proc.{Proc}
use Rattle.sap_restrict.specs.Stands.{Machine}
use Rattle.sap_rule.specs.RuleSteps.{RuleState, empty_state}
use Rattle.sap_runs.specs.Limits.{HasFewNodes}
use Rattle.sap_runs.specs.declared.process_step.PStep.{PStep}
use Rattle.sap_runs.specs.declared.rule_step.RStep.{RStep}
use Rattle.sap_lines.specs.Runs.{IsLegalProcessRun}
use Rattle.sap_steps.specs.Marks.{marks}
use Rattle.sap_steps.specs.Runs.{IsLegalRun}
use Rattle.sap_steps.specs.State.{State}
use Rattle.sap_translate.specs.LineCounts.{back_count}
use Rattle.sap_templates.specs.Templates.{rules_of}
use Rattle.sap_translate.specs.relation.Agents.{Agent, unborn}
use Rattle.sap_back.specs.Along.{BeginsAlong, IsAlong, count_pending}
use Rattle.sap_back.specs.Converted.{IsConvertedToProcess}
use Rattle.sap_back.specs.Followed.{BeginsTabled, LinesAreFollowed, EndsTabled, pending_lines}
use Rattle.sap_back.specs.LinesFor.{AreProcessLinesForAll, facts_added, no_lines}
use Rattle.sap_process_lines.specs.Tables.{ProcessTables, first_process_tables}
use Rattle.sap_back.specs.Tables.{AreProcessTables}
use Rattle.sap_back.specs.code.Replayed.{IsReplayed}
use Rattle.sap_back.specs.code.Taken.{IsConvertedLine}
use Rattle.sap_back.proofs.AddedFacts.{line_adds}
use Rattle.sap_back.proofs.Counting.{back_count_next, pending_count, written_count}
use Rattle.sap_back.proofs.Turns.{one_more_is, written_lines}
use Rattle.sap_back.proofs.Replaying.{replayed_next, taken_line}

-- these lines of rules are replayed, lines of the process go along with them, and the tables are theirs
pub record IsConverting (g : Sig) (q : Proc) (s : State) (m : Machine) (tables : ProcessTables) (before : List RStep) (lines : List PStep) : Type 0 where
  pub full : Trace
  pub replayed : IsReplayed g q s m before full
  pub agents : List (Option Agent)
  pub pending : Option Tree
  pub config : Config
  pub entries : List Tree
  pub trace : Trace
  pub along : IsAlong g HasFewNodes q agents pending lines config entries trace s.at full
  pub tabled : AreProcessTables agents pending config entries s.at tables
  -- they are as many as are counted, without the one for what is pending
  pub count : length lines + count_pending pending ≡ back_count before
  -- they stand in turn, without what is pending
  pub turns : AreProcessLinesForAll (rules_of q) first_process_tables before full lines tables

module _ (g : Sig) (q : Proc) where
  -- before the first line
  pub converting_first : BeginsAlong g q → BeginsTabled q → (s : State) (m : Machine) (tables : ProcessTables) → s.at ≡ empty_state → tables ≡ first_process_tables → IsReplayed g q s m [] [] → IsConverting g q s m tables [] []
  converting_first begins begins_tabled s m tables at first r = record {
    full = [];
    replayed = r;
    agents = Some (unborn q) ∷ [];
    pending = None;
    config = initial q;
    entries = [];
    trace = [];
    along = subst (λ z. IsAlong g HasFewNodes q (Some (unborn q) ∷ []) None [] (initial q) [] [] z []) (sym at) begins;
    tabled = subst (λ z. AreProcessTables (Some (unborn q) ∷ []) None (initial q) [] z tables) (sym at) (subst (AreProcessTables (Some (unborn q) ∷ []) None (initial q) [] empty_state) (sym first) begins_tabled);
    count = refl;
    turns = subst (λ (z : ProcessTables). AreProcessLinesForAll (rules_of q) first_process_tables [] [] [] z) (sym first) no_lines;
  }

  -- behind one more line
  pub converting_next : LinesAreFollowed g q → (s t : State) (m n : Machine) (tables after : ProcessTables) (before : List RStep) (step : RStep) (lines longer : List PStep) → IsConverting g q s m tables before lines
      → IsConvertedLine s t m n tables after step lines longer → IsConverting g q t n after (before ++ step ∷ []) longer
  converting_next followed s t m n tables after before step lines longer w k =
      let r = replayed_next g q s m before w.full w.replayed t n step k.acts k.taken in
      let is = taken_line g q s m before w.full w.replayed t n step k.acts k.taken in
      let f = followed w.agents w.pending lines w.config w.entries w.trace s.at t.at w.full tables step k.acts w.along w.tabled is r.counted.admitted in
      let written = k.written g w.agents w.pending s.at f.more f.next f.later f.behind f.written f.tabled.all_facts in
      let sum = written_count w.entries w.tabled.waits f.written in
      let next = back_count_next before step in
      let many = ap length written.0 ∙ length-append lines f.more in
      let so_far = w.count in
      let come : length f.behind.facts ≡ length tables.facts + facts_added (rules_of q) step =
      f.tabled.all_facts ∙ line_adds g (rules_of q) HasFewNodes s.at step k.acts t.at is ∙ ap (λ (i : ℕ). i + facts_added (rules_of q) step) (sym w.tabled.all_facts)
      in
      record {
        full = w.full ++ k.acts ∷ [];
        replayed = r;
        agents = f.next;
        pending = f.later;
        config = f.config;
        entries = f.entries;
        trace = f.trace;
        along = subst (λ z. IsAlong g HasFewNodes q f.next f.later z f.config f.entries f.trace t.at (w.full ++ k.acts ∷ [])) (sym written.0) f.is;
        tabled = subst (AreProcessTables f.next f.later f.config f.entries t.at) (sym written.1) f.tabled;
        count = omega arith;
        turns = subst (λ (z : ProcessTables). AreProcessLinesForAll (rules_of q) first_process_tables (before ++ step ∷ []) (w.full ++ k.acts ∷ []) longer z) (sym written.1)
            (one_more_is (rules_of q) first_process_tables tables f.behind before w.full step k.acts lines f.more longer written.0 w.turns (written_lines (length tables.facts + facts_added (rules_of q) step) f.written come));
      }

  -- each line shows one time
  one_each : (rule_lines : List RStep) (s : RuleState) (full : Trace) → IsLegalRun g (rules_of q) HasFewNodes rule_lines s full → length full ≡ length rule_lines
  one_each rule_lines s full IsLegalRun.starts = refl
  one_each rule_lines s full (IsLegalRun.further {lines = before} {s = y} {full = seen} l acts run is) =
      let e = one_each before y seen run in
      let a = length-append before (l ∷ []) in
      let b = length-append seen (acts ∷ []) in
      omega arith

  -- behind the last line, once what is pending is written
  pub converted : EndsTabled g q → (s : State) (m : Machine) (tables : ProcessTables) (rule_lines : List RStep) (lines all : List PStep) → IsConverting g q s m tables rule_lines lines → all ≡ lines ++ pending_lines tables.pending
      → IsConvertedToProcess g q rule_lines all
  converted ends s m tables rule_lines lines all w written =
      let legal = ends w.agents w.pending lines w.config w.entries w.trace s.at w.full tables w.along w.tabled.waits in
      let last = pending_count w.entries w.pending tables.pending w.tabled.waits in
      let many = ap length written ∙ length-append lines (pending_lines tables.pending) in
      let each = one_each rule_lines s.at w.full w.replayed.counted.legal in
      let short = w.along.short in
      let so_far = w.count in
      record {
        state = s.at;
        full = w.full;
        counted = w.replayed.counted;
        opposite = record {
          config = w.config;
          entries = w.entries;
          legal = subst (λ z. IsLegalProcessRun g HasFewNodes q z w.config w.entries (hide w.full) (marks w.full)) (sym written) legal;
          known = w.along.known;
          short = omega arith;
        };
        count = omega arith;
        turns = record { own = lines; last = tables; each = w.turns; is = written };
      }

-- one more line, where a loop over the lines has reached the one with number k
module _ (g : Sig) (q : Proc) (run : List RStep) (k : ℕ) (line : RStep) (there : slice_get run k ≡ Some line) where
  pub looped_converting : LinesAreFollowed g q → (s t : State) (m n : Machine) (tables after : ProcessTables) (lines longer : List PStep) → IsConverting g q s m tables (take k run) lines
      → IsConvertedLine s t m n tables after line lines longer → IsConverting g q t n after (take (k + 1) run) longer
  looped_converting followed s t m n tables after lines longer w h =
      subst (λ b. IsConverting g q t n after b longer) (sym (take_got run k line there)) (converting_next g q followed s t m n tables after (take k run) line lines longer w h)
