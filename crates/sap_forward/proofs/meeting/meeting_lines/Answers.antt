use Rattle.std.proofs.lemmas.Result.{on_ok_weaker}
use Rattle.sap_forward.proofs.Lists.{two_last, lists_last}
use Rattle.sap_forward.proofs.meeting.meeting_lines.Goals as goal

pub returns : goal.returns
returns c =
    let old = c.args.lines.now in
    let two = two_last old c.push.new.self c.push_rule_on_two.new.lines _ _ c.in_ok-push.ensures.ok c.in_ok-push_rule_on_two.ensures in
    let three = lists_last old c.push_rule_on_two.new.lines c.push_rule_on_two-2.new.lines _ _ two c.in_ok-push_rule_on_two-2.ensures in
    on_ok_weaker c.push_rule_on_two-3.result (λ put. lists_last old c.push_rule_on_two-2.new.lines c.push_rule_on_two-3.new.lines _ _ three put) c.push_rule_on_two-3.ensures
