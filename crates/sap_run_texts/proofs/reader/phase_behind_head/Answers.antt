use Rattle.std.proofs.Common.{◌≡◌, ◌↔◌, Bool, true, false, IsTrue}
use Rattle.sap_run_texts.proofs.Begun.{head_process, head_rules, head_other}
use Rattle.sap_run_texts.proofs.reader.phase_behind_head.Goals as goal

refused : {P : Type 0} (b : Bool) → (IsTrue b ↔ P) → b ≡ false → P → ⊥
refused b h e p = let t : b ≡ true = h.1 p in absurd (cc)

pub returns-then-is_process_head : goal.returns-then-is_process_head
returns-then-is_process_head c z h =
    let is = c.is_process_head.ensures.0 c.if-is_process_head.true in head_process c.args.kinds c.args.line.now z is.1 is.0 h

pub returns-then-is_rule_head : goal.returns-then-is_rule_head
returns-then-is_rule_head c z h =
    let is = c.is_rule_head.ensures.0 c.if-is_rule_head.true in head_rules c.args.kinds c.args.line.now z is.1 is.0 h

pub returns : goal.returns
returns c z h =
    head_other c.args.kinds c.args.line.now z (refused c.is_process_head.result c.is_process_head.ensures c.if-is_process_head.false)
    (refused c.is_rule_head.result c.is_rule_head.ensures c.if-is_rule_head.false) h
