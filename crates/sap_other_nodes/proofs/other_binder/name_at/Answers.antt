use Rattle.std.proofs.Common.{arith, ap, ◌∙◌}
use Rattle.sap_process.specs.Proc.{proc}
use Rattle.sap_nodes.specs.HeadNodes.{head_nodes}
use Rattle.sap_other_nodes.specs.declared.seek.Seek.{Seek}
use Rattle.sap_other_nodes.proofs.SeekOutcomes.{numbered}
use Rattle.sap_other_nodes.proofs.other_binder.name_at.Goals as goal

pub returns : goal.returns
returns c = ap (λ (s : Seek). s.name) c.in_ok-in_head.ensures ∙ numbered c.args.node c.args.node (head_nodes (proc c.args.p.now)) 0 (omega arith) c.requires
