use Rattle.std.proofs.Common.{◌≡◌, Some, map, sym, subst}
use Rattle.serde_json.specs.View.{view}
use Rattle.sap_run_lines.specs.WholeWords.{IsReadAs}
use Rattle.sap_json.specs.Arrays.{IsRuleArray}
use Rattle.sap_json.specs.code.Reading.{first_in}
use Rattle.sap_json.proofs.OneOperands.{one_operands}
use Rattle.sap_json.proofs.StepsRead.{no_rule_operands, rule_read}
use Rattle.sap_json.proofs.read_steps.rule_step.Goals as goal

pub returns-in-None-2 : goal.returns-in-None-2
returns-in-None-2 c =
    let first : Some (c.in-Some.word.now, map view c.in-Some.rest.now) ≡ first_in (view c.args.value.now) = rw c.in-Some.is at c.word_first.ensures in
    no_rule_operands (view c.args.value.now) c.in-Some.word.now (map view c.in-Some.rest.now) first (rw c.in-None-2.is at c.in_ok-read_operands-in-Some.ensures)

pub returns-in-Some-2 : goal.returns-in-Some-2
returns-in-Some-2 c =
    let first : Some (c.in-Some.word.now, map view c.in-Some.rest.now) ≡ first_in (view c.args.value.now) = rw c.in-Some.is at c.word_first.ensures in
    let one = one_operands c.one_run_term.ensures c.one_run_word.ensures.fresh c.one_run_word.ensures.public c.one_run_word.ensures.variable in
    subst (IsReadAs IsRuleArray (view c.args.value.now)) (sym c.rule_of.ensures)
    (rule_read one (view c.args.value.now) c.in-Some.word.now (map view c.in-Some.rest.now) c.in-Some-2.operands first (rw c.in-Some-2.is at c.in_ok-read_operands-in-Some.ensures))
