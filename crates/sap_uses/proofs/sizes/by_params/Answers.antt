use Rattle.std.proofs.Common.{arith}
use Rattle.sap_terms.specs.View.{tree}
use Rattle.sap_uses.specs.Sizes.{size_in}
use Rattle.sap_uses.proofs.Fitting.{first_sizes, next_sizes}
use Rattle.sap_uses.proofs.sizes.by_params.Goals as goal

pub loop-k-init : goal.loop-k-init
loop-k-init c = record {
  params = omega arith;
  args = omega arith;
  same = first_sizes c.args.params.now c.args.args.now (size_in c.args.sizes.now) c.min-k.result c.new-inner.result c.new-inner.ensures (omega arith);
}

pub loop-k-preserved : goal.loop-k-preserved
loop-k-preserved c =
    let params = c.loop-k.invariant.params in
    let args = c.loop-k.invariant.args in
    record {
      params = omega (arith, params);
      args = omega (arith, args);
      same =
          next_sizes c.args.params.now c.args.args.now (size_in c.args.sizes.now) c.loop-k.k c.in_ok-name.name c.at.result.now (tree c.at-in-loop-k.result.now) c.size.result
          c.loop-k.inner c.insert.new.self c.loop-k-test.true c.at.ensures c.in_ok-name.ensures c.at-in-loop-k.ensures.got c.loop-k.invariant.same c.in_ok-insert.ensures.ok
          c.size.ensures;
    }
