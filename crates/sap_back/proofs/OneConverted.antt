-- At most one run of the process is that which lines of rules are converted to.
use Rattle.std.proofs.Common.{◌≡◌, ◌<◌, ◌+◌, ◌↔◌, ℕ, Bool, true, false, List, [], ◌∷◌, ◌++◌, Option, Some, refl, sym, ap, subst, ◌∙◌, arith, length}
use Rattle.std.specs.Prelude.{IsTrue}
use Rattle.sap_terms.specs.Signature.{Sig}
use Rattle.sap_terms.specs.Trace.{Trace}
use Rattle.sap_terms.specs.declared.fact.Fact.{Fact}
use Rattle.sap_process.specs.Proc.{Proc}
use Rattle.sap_rule.specs.RuleSteps.{RuleState}
use Rattle.sap_rule.specs.declared.rule.Rule.{Rule}
use Rattle.sap_runs.specs.declared.process_step.PStep.{PStep}
use Rattle.sap_runs.specs.declared.rule_step.RStep.{RStep}
use Rattle.sap_process_lines.specs.Pending.{pending_lines}
use Rattle.sap_process_lines.specs.Tables.{ProcessTables, first_process_tables}
use Rattle.sap_process_lines.specs.Told.{told}
use Rattle.sap_templates.specs.Templates.{rules_of}
use Rattle.sap_back.specs.Converted.{IsAdmittedRun, IsConvertedToProcess}
use Rattle.sap_back.specs.LinesFor.{AreProcessLinesFor, AreProcessLinesForAll, facts_added, no_lines, more, ProcessLinesStandInTurn}
use Rattle.sap_back.proofs.DeskLines.{told_lines}

-- whether facts are shown
abbrev shows_some : List Fact → Bool
shows_some [] = false
shows_some (f ∷ fs) = true

some_shown : (acts : List Fact) → IsTrue (shows_some acts) ↔ (0 < length acts)
some_shown [] = (λ e. let none : false ≡ true = e in cc, λ e. absurd (omega arith))
some_shown (f ∷ fs) = (λ e. omega arith, λ e. refl)

-- what two are told as is the same
one_told : (o : Option (List PStep × ProcessTables)) (own these : List PStep) (next last : ProcessTables) → o ≡ Some (own, next) → o ≡ Some (these, last) → (own ≡ these) × (next ≡ last)
one_told o own these next last e i =
    let same : Some (own, next) ≡ Some (these, last) = sym e ∙ i in
    let pair : (own, next) ≡ (these, last) = cc in
    (ap (λ (p : List PStep × ProcessTables). p.0) pair, ap (λ (p : List PStep × ProcessTables). p.1) pair)

-- for a line of rules stand one list of lines, with one behind
one_for : (tables : ProcessTables) (count : ℕ) (step : RStep) (acts : List Fact) (own these : List PStep) (next last : ProcessTables) → AreProcessLinesFor tables count step acts own next → AreProcessLinesFor tables count step acts these last
    → (own ≡ these) × (next ≡ last)
one_for tables count step acts own these next last a b =
    one_told (told tables step (shows_some acts) count) own these next last (told_lines tables step (shows_some acts) count acts own next a (some_shown acts)) (told_lines tables step (shows_some acts) count acts these last b (some_shown acts))

-- and so for all in turn
one_for_all : (rules : List Rule) (tables middle last : ProcessTables) (rule_lines : List RStep) (full : Trace) (lines others : List PStep) → AreProcessLinesForAll rules tables rule_lines full lines middle
    → AreProcessLinesForAll rules tables rule_lines full others last → (lines ≡ others) × (middle ≡ last)
one_for_all rules tables _ _ _ _ _ _ no_lines no_lines = (refl, refl)
one_for_all rules tables middle last _ _ _ _ (more {next = n} {step = step} {acts = acts} {own = own} {rule_lines = steps} {full = full} {rest = rest} here all) (more {next = m} {own = these} {rest = others} there each) =
    let first = one_for tables (length tables.facts + facts_added rules step) step acts own these n m here there in
    let later = one_for_all rules n middle last steps full rest others all (subst (λ (t : ProcessTables). AreProcessLinesForAll rules t steps full others last) (sym first.1) each) in
    (ap (λ (x : List PStep). x ++ rest) first.0 ∙ ap (λ (x : List PStep). these ++ x) later.0, later.1)

-- lines that stand in turn are one list
pub one_in_turn : (rules : List Rule) (rule_lines : List RStep) (full : Trace) (lines others : List PStep) → ProcessLinesStandInTurn rules rule_lines full lines → ProcessLinesStandInTurn rules rule_lines full others → lines ≡ others
one_in_turn rules rule_lines full lines others a b =
    let one = one_for_all rules first_process_tables a.last b.last rule_lines full a.own b.own a.each b.each in
    a.is ∙ ap (λ (x : List PStep). x ++ pending_lines a.last.pending) one.0 ∙ ap (λ (t : ProcessTables). b.own ++ pending_lines t.pending) one.1 ∙ sym b.is

-- so lines of rules with one full trace are converted to one run
pub one_converted : (g : Sig) (q : Proc) (rule_lines : List RStep)
    → ((s z : RuleState) (full tr : Trace) → IsAdmittedRun g q rule_lines s full → IsAdmittedRun g q rule_lines z tr → (s ≡ z) × (full ≡ tr))
    → (lines others : List PStep) → IsConvertedToProcess g q rule_lines lines → IsConvertedToProcess g q rule_lines others → lines ≡ others
one_converted g q rule_lines one lines others a b =
    let same = (one a.state b.state a.full b.full a.counted b.counted).1 in
    one_in_turn (rules_of q) rule_lines b.full lines others (subst (λ (tr : Trace). ProcessLinesStandInTurn (rules_of q) rule_lines tr lines) same a.turns) b.turns
