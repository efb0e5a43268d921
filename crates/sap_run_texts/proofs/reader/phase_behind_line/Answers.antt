use Rattle.std.proofs.Common.{ℕ, List, [], ◌∷◌, ◌++◌, Err, subst}
use Rattle.std.specs.Prelude.{Result, Ok, IfOk}
use Rattle.sap_runs.specs.declared.process_step.PStep.{PStep}
use Rattle.sap_runs.specs.declared.rule_step.RStep.{RStep}
use Rattle.sap_run_texts.specs.declared.run.Kinds.{Kinds}
use Rattle.sap_run_texts.specs.declared.phase.Phase.{Phase}
use Rattle.sap_terms.specs.declared.mem.Mem.{Mem}
use Rattle.sap_run_texts.specs.RunReading.{HoldsFor, in_process, in_rules}
use Rattle.sap_run_texts.specs.code.ReaderView.{held_of, EmptyAtHead}
use Rattle.sap_run_texts.proofs.reader.phase_behind_line.Goals as goal

if_ok_on : (r : Result Phase Mem) (P Q : Phase → Type 0) → ((p : Phase) → P p → Q p) → IfOk r P → IfOk r Q
if_ok_on (Ok p) P Q h g = h p g
if_ok_on (Err e) P Q h g = tt

pub returns-in-Process-clause-holds : goal.returns-in-Process-clause-holds
returns-in-Process-clause-holds c =
    if_ok_on c.end_process.result
    (λ p. (k : Kinds) (rules : List RStep) (z : List ℕ) → HoldsFor k (in_process c.args.process.now c.args.line.now.items) z
    → HoldsFor k (held_of p c.end_process.new.line.items c.end_process.new.steps rules) (z ++ 10 ∷ []))
    (λ p. EmptyAtHead c.args.phase c.args.process.now c.args.rules.now
    → (z : List ℕ) → HoldsFor c.args.kinds (held_of c.args.phase c.args.line.now.items c.args.process.now c.args.rules.now) z
    → HoldsFor c.args.kinds (held_of p c.end_process.new.line.items c.end_process.new.steps c.args.rules.now) (z ++ 10 ∷ []))
    (λ p f e z h. f c.args.kinds c.args.rules.now z
    (subst (λ (q : Phase). HoldsFor c.args.kinds (held_of q c.args.line.now.items c.args.process.now c.args.rules.now) z) c.in-Process.is h))
    c.end_process.ensures.holds

pub returns-in-Rules-clause-holds : goal.returns-in-Rules-clause-holds
returns-in-Rules-clause-holds c =
    if_ok_on c.end_rules.result
    (λ p. (k : Kinds) (process : List PStep) (z : List ℕ) → HoldsFor k (in_rules c.args.rules.now c.args.line.now.items) z
    → HoldsFor k (held_of p c.end_rules.new.line.items process c.end_rules.new.steps) (z ++ 10 ∷ []))
    (λ p. EmptyAtHead c.args.phase c.args.process.now c.args.rules.now
    → (z : List ℕ) → HoldsFor c.args.kinds (held_of c.args.phase c.args.line.now.items c.args.process.now c.args.rules.now) z
    → HoldsFor c.args.kinds (held_of p c.end_rules.new.line.items c.args.process.now c.end_rules.new.steps) (z ++ 10 ∷ []))
    (λ p f e z h. f c.args.kinds c.args.process.now z
    (subst (λ (q : Phase). HoldsFor c.args.kinds (held_of q c.args.line.now.items c.args.process.now c.args.rules.now) z) c.in-Rules.is h))
    c.end_rules.ensures.holds
