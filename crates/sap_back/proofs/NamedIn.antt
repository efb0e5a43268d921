-- What lines of the process name that stand in turn stands in the lines of rules.
use Rattle.std.proofs.Common.{ℕ, suc, List, [], ◌∷◌, ◌++◌, Option, Some, None, slice_index_or, sym, subst, refl, arith}
use Rattle.std.specs.Prelude.{All, Contains, codes}
use Rattle.std.proofs.lemmas.List.Elements.{All-nil, All-cons, All-append}
use Rattle.sap_place.specs.StateFacts.{digits}
use Rattle.sap_terms.specs.Trace.{Trace}
use Rattle.sap_terms.specs.declared.fact.Fact.{Fact}
use Rattle.sap_rule.specs.declared.rule.Rule.{Rule}
use Rattle.sap_runs.specs.declared.process_step.PStep.{PStep}
use Rattle.sap_runs.specs.declared.process_step.PStep.TheVariants as line
use Rattle.sap_runs.specs.declared.rule_step.RStep.{RStep}
use Rattle.sap_runs.specs.declared.rule_step.RStep.TheVariants as rule_line
use Rattle.sap_back.specs.LinesFor.{pending_lines, lines_before, AreProcessLinesFor, AreProcessLinesForAll, no_lines, more, ProcessLinesStandInTurn}
use Rattle.sap_back.specs.NamedIn.{IsNamedIn}
use Rattle.sap_process_lines.specs.Tables.{ProcessTables, first_process_tables}

module _ (xs ys : List RStep) (within : (s : RStep) → Contains xs s → Contains ys s) where
  -- what is named in lines is named in any that contain these
  named_more : (l : PStep) → IsNamedIn xs l → IsNamedIn ys l
  named_more (line.Public a) h = within (rule_line.Public a) h
  named_more (line.Apply f ks) h = (h.0, within (rule_line.Apply f h.0) h.1)
  named_more (line.Embedded t ks b) h = (h.0, h.1, within (rule_line.Rule h.0 h.1 b) h.2)
  named_more _ h = tt

  -- and so is what each of these lines names
  all_named_more : (lines : List PStep) → All (IsNamedIn xs) lines → All (IsNamedIn ys) lines
  all_named_more lines h k d lt = named_more (slice_index_or lines k d) (h k d lt)

module _ (xs : List RStep) where
  one_named : (l : PStep) → IsNamedIn xs l → All (IsNamedIn xs) (l ∷ [])
  one_named l h = All-cons (IsNamedIn xs) l [] h (All-nil (IsNamedIn xs))

  -- what is pending is written by its number
  pending_named : (k : Option ℕ) → All (IsNamedIn xs) (pending_lines k)
  pending_named None = All-nil (IsNamedIn xs)
  pending_named (Some e) = one_named (line.Know e) tt

  -- and so is what is written for it before a line
  behind_named : (k : Option ℕ) (l : PStep) → IsNamedIn xs l → All (IsNamedIn xs) (pending_lines k ++ l ∷ [])
  behind_named k l h = All-append (IsNamedIn xs) (pending_lines k) (l ∷ []) (pending_named k) (one_named l h)

  embedded_named : (acts : List Fact) (k : Option ℕ) (l : PStep) → IsNamedIn xs l → All (IsNamedIn xs) (lines_before acts k ++ l ∷ [])
  embedded_named [] k l h = one_named l h
  embedded_named (f ∷ fs) k l h = behind_named k l h

  -- what is named in the lines for a line of rules stands in that line
  lines_named : {tables next : ProcessTables} {count : ℕ} {step : RStep} {acts : List Fact} {own : List PStep} → Contains xs step → AreProcessLinesFor tables count step acts own next → All (IsNamedIn xs) own
  lines_named m (AreProcessLinesFor.starts b) = All-nil (IsNamedIn xs)
  lines_named m (AreProcessLinesFor.starts_copies t k path ks b number) = All-nil (IsNamedIn xs)
  lines_named m (AreProcessLinesFor.sends t k path ks b number) = All-nil (IsNamedIn xs)
  lines_named m (AreProcessLinesFor.goes_on t k path ks b number) = All-nil (IsNamedIn xs)
  lines_named m (AreProcessLinesFor.ends t k path ks b number) = one_named (line.Nil t) tt
  lines_named m (AreProcessLinesFor.splits t k path ks b number) = one_named (line.Par t) tt
  lines_named m (AreProcessLinesFor.copies t k path ks b number) = one_named (line.Rep t) tt
  lines_named m (AreProcessLinesFor.makes_name t k n j path ks b number made) = one_named (line.New t n) tt
  lines_named m (AreProcessLinesFor.outputs t k path ks b number) = one_named (line.Out t) tt
  lines_named m (AreProcessLinesFor.outputs_on t k e path ks b number is) = one_named (line.Send t e) tt
  lines_named m (AreProcessLinesFor.inputs t k e path ks b number is) = one_named (line.In t e) tt
  lines_named m (AreProcessLinesFor.inputs_on t k e path ks b number is) = one_named (line.In t e) tt
  lines_named m (AreProcessLinesFor.meets a t k j path ks b number sender) = one_named (line.Sync a t) tt
  lines_named {tables = tables} m (AreProcessLinesFor.shows t k path ks b number) = behind_named tables.pending (line.Event t) tt
  lines_named m (AreProcessLinesFor.inserts t k path ks b number) = one_named (line.Insert t) tt
  lines_named m (AreProcessLinesFor.deletes t k path ks b number) = one_named (line.Delete t) tt
  lines_named m (AreProcessLinesFor.locks t k path ks b number) = one_named (line.Lock t) tt
  lines_named m (AreProcessLinesFor.unlocks t k path ks b number) = one_named (line.Unlock t) tt
  lines_named m (AreProcessLinesFor.agrees t k path ks b number) = one_named (line.Then t) tt
  lines_named m (AreProcessLinesFor.differs t k path ks b number) = one_named (line.Else t) tt
  lines_named m (AreProcessLinesFor.finds t k path ks b number) = one_named (line.Found t) tt
  lines_named m (AreProcessLinesFor.misses t k path ks b number) = one_named (line.Missing t) tt
  lines_named {tables = tables} {acts = acts} m (AreProcessLinesFor.embeds t k many js taken path b number all counts) = embedded_named acts tables.pending (line.Embedded t taken b) (codes "Rule_" ++ digits path, k ∷ js, m)
  lines_named m (AreProcessLinesFor.makes n) = All-nil (IsNamedIn xs)
  lines_named m (AreProcessLinesFor.learns k e number) = All-nil (IsNamedIn xs)
  lines_named m (AreProcessLinesFor.owns k n number) = one_named (line.Name n) tt
  lines_named m (AreProcessLinesFor.writes a) = one_named (line.Public a) m
  lines_named m (AreProcessLinesFor.applies f ks js all) = one_named (line.Apply f js) (ks, m)
  lines_named {tables = tables} m (AreProcessLinesFor.knows k e number) = pending_named tables.pending

-- what stands in a list stands behind one more
behind_one : (x : RStep) (xs : List RStep) (s : RStep) → Contains xs s → Contains (x ∷ xs) s
behind_one x xs s (k, within, is) = (suc k, omega (arith, within), is)

-- so it is with all lines that stand in turn
all_named : (rules : List Rule) (tables last : ProcessTables) (rule_lines : List RStep) (full : Trace) (lines : List PStep) → AreProcessLinesForAll rules tables rule_lines full lines last → All (IsNamedIn rule_lines) lines
all_named _ _ _ _ _ _ no_lines = All-nil (IsNamedIn [])
all_named rules tables last _ _ _ (more {next = next} {step = step} {own = own} {rule_lines = others} {full = full} {rest = rest} here all) =
    All-append (IsNamedIn (step ∷ others)) own rest (lines_named (step ∷ others) (0, omega arith, refl) here)
    (all_named_more others (step ∷ others) (behind_one step others) rest (all_named rules next last others full rest all))

pub turns_named : (rules : List Rule) (rule_lines : List RStep) (full : Trace) (lines : List PStep) → ProcessLinesStandInTurn rules rule_lines full lines → All (IsNamedIn rule_lines) lines
turns_named rules rule_lines full lines h =
    subst (All (IsNamedIn rule_lines)) (sym h.is)
    (All-append (IsNamedIn rule_lines) h.own (pending_lines h.last.pending) (all_named rules first_process_tables h.last rule_lines full h.own h.each) (pending_named rule_lines h.last.pending))
