use Rattle.sap_process.specs.Proc.{proc}
use Rattle.sap_read.proofs.Sizes.{small_sorted}
use Rattle.sap_read.proofs.file.judge.Goals as goal

pub label-requires : goal.label-requires
label-requires c =
    small_sorted (proc c.args.p.now) (proc c.in_ok-sorted.sorted.value) c.in_ok-sorted.ensures.accepted.1 c.requires
