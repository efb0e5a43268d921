use Rattle.std.proofs.Common.{sym}
use Rattle.sap_terms.specs.View.{tree}
use Rattle.sap_grammar.specs.Sizes.{is_small}
use Rattle.sap_grammar.proofs.Small.{all-take, all-miss}
use Rattle.sap_grammar.proofs.fact.are_small.Goals as goal

pub loop-k-preserved : goal.loop-k-preserved
loop-k-preserved c = all-take (is_small c.args.limits) c.args.args.now c.loop-k.k (tree c.at.result.now) c.at.ensures.got c.loop-k.invariant (cc)

pub returns-then-not-is_small : goal.returns-then-not-is_small
returns-then-not-is_small c = sym (all-miss (is_small c.args.limits) c.args.args.now c.loop-k.k (tree c.at.result.now) c.at.ensures.got (cc))
