use Rattle.std.proofs.Common.{◌≡◌, ◌≤◌, ◌<◌, ◌+◌, ◌^◌, [], length, Err, sym, ap, subst, ◌∙◌, arith}
use Rattle.std.proofs.lemmas.Grind.{common_steps}
use Rattle.sap_run_texts.specs.declared.phase.Phase.{Phase}
use Rattle.sap_run_texts.specs.declared.run_fault.RunFault.{RunFault}
use Rattle.sap_run_texts.specs.declared.run_fault.RunFault.TheVariants as fault
use Rattle.sap_run_texts.specs.declared.limits.TheConstants.{MOST_PROCESS_STEPS, MOST_RULE_STEPS}
use Rattle.sap_run_texts.specs.RunTexts.{IsRunRead}
use Rattle.sap_run_texts.specs.RunReading.{HoldsFor}
use Rattle.sap_run_texts.specs.code.ReaderView.{held_of}
use Rattle.sap_run_texts.proofs.Begun as begun
use Rattle.sap_run_texts.proofs.reader.answer.Goals as goal

pub returns-in-Faulty-clause-told : goal.returns-in-Faulty-clause-told
returns-in-Faulty-clause-told c k z h =
    begun.fault_told k c.in-Faulty.fault z
    (subst (λ (p : Phase). HoldsFor k (held_of p c.args.line.now c.args.process c.args.rules) z) c.in-Faulty.is h)

pub returns-in-Head-clause-told : goal.returns-in-Head-clause-told
returns-in-Head-clause-told c k z h =
    begun.head_open k c.args.line.now z
    (subst (λ (p : Phase). HoldsFor k (held_of p c.args.line.now c.args.process c.args.rules) z) c.in-Head.is h)

pub returns-then-is_empty-clause-told : goal.returns-then-is_empty-clause-told
returns-then-is_empty-clause-told c k z h =
    let none : c.args.line.now ≡ [] = grind (arith, common_steps) in
    begun.end_process k c.args.process c.args.line.now z none
    (subst (λ (p : Phase). HoldsFor k (held_of p c.args.line.now c.args.process c.args.rules) z) c.in-Process.is h)

pub returns-in-Process-clause-told : goal.returns-in-Process-clause-told
returns-in-Process-clause-told c k z h =
    let some : 0 < length c.args.line.now = grind (arith, common_steps) in
    let told = begun.open_process k c.args.process c.args.line.now z some
    (subst (λ (p : Phase). HoldsFor k (held_of p c.args.line.now c.args.process c.args.rules) z) c.in-Process.is h) in
    let few : length c.args.process ≤ MOST_PROCESS_STEPS = told.0 in
    let fits : c.len.result + 2 < 2 ^ 64 = omega (arith, few, c.len.ensures) in
    let is : c.bad_line.result ≡ fault.BadLine (length c.args.process + 2) = c.bad_line.ensures fits ∙ ap (λ n. fault.BadLine (n + 2)) c.len.ensures in
    subst (λ (e : RunFault). IsRunRead k z (Err e)) (sym is) told.1

pub returns-then-is_empty-2-clause-told : goal.returns-then-is_empty-2-clause-told
returns-then-is_empty-2-clause-told c k z h =
    let none : c.args.line.now ≡ [] = grind (arith, common_steps) in
    begun.end_rules k c.args.rules c.args.line.now z none
    (subst (λ (p : Phase). HoldsFor k (held_of p c.args.line.now c.args.process c.args.rules) z) c.in-Rules.is h)

pub returns-clause-told : goal.returns-clause-told
returns-clause-told c k z h =
    let some : 0 < length c.args.line.now = grind (arith, common_steps) in
    let told = begun.open_rules k c.args.rules c.args.line.now z some
    (subst (λ (p : Phase). HoldsFor k (held_of p c.args.line.now c.args.process c.args.rules) z) c.in-Rules.is h) in
    let few : length c.args.rules ≤ MOST_RULE_STEPS = told.0 in
    let fits : c.len-else-is_empty-2.result + 2 < 2 ^ 64 = omega (arith, few, c.len-else-is_empty-2.ensures) in
    let is : c.bad_line-else-is_empty-2.result ≡ fault.BadLine (length c.args.rules + 2) = c.bad_line-else-is_empty-2.ensures fits ∙ ap (λ n. fault.BadLine (n + 2)) c.len-else-is_empty-2.ensures in
    subst (λ (e : RunFault). IsRunRead k z (Err e)) (sym is) told.1
