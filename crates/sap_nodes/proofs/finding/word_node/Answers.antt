use Rattle.std.proofs.Common.{subst, sym, ap, ◌∙◌}
use Rattle.sap_process.specs.Proc.{proc}
use Rattle.sap_nodes.specs.FlawNodes.{IsTold}
use Rattle.sap_nodes.specs.code.Searches.{found_at}
use Rattle.sap_nodes.proofs.SearchLemmas.{told_node}
use Rattle.sap_nodes.proofs.finding.word_node.Goals as goal

pub returns : goal.returns
returns c = λ before s e.
    subst (IsTold c.args.sig.now before s c.args.which) (sym (c.told.ensures ∙ ap found_at c.in_head.ensures))
    (told_node c.args.sig.now before s (proc c.args.p.now) c.args.which c.requires e)
