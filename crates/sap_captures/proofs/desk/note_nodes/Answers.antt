use Rattle.std.proofs.Common.{◌∙◌, refl, arith}
use Rattle.sap_captures.proofs.Growing.{all_nodes, more_nodes, no_nodes}
use Rattle.sap_captures.proofs.desk.note_nodes.Goals as goal

pub loop-k-init : goal.loop-k-init
loop-k-init c = (refl, λ path trail. no_nodes c.args.desk.now c.args.kind path c.args.flags.now)

pub loop-k-preserved : goal.loop-k-preserved
loop-k-preserved c = (
  c.in_ok-note_node.ensures.same ∙ c.loop-k.invariant.0,
  λ path trail. more_nodes c.args.desk.now c.args.kind path c.args.nodes.now c.loop-k.k c.at.result.now c.args.flags.now c.loop-k.flags c.note_node.new.flags c.at.ensures (c.loop-k.invariant.1 path trail) (c.in_ok-note_node.ensures.grown path trail),
)

pub returns-clause-grown : goal.returns-clause-grown
returns-clause-grown c = λ path trail.
    all_nodes c.args.desk.now c.args.kind path c.args.nodes.now c.loop-k.k c.args.flags.now c.loop-k.flags (omega arith) (c.loop-k.invariant.1 path trail)
