use Rattle.std.proofs.Common.{sym, ◌∙◌, arith}
use Rattle.sap_where.proofs.SecondParameter.{next_can, none_next}
use Rattle.sap_where.proofs.parameters.next.Goals as goal

pub loop-n-preserved : goal.loop-n-preserved
loop-n-preserved c =
    let can = c.loop-n.invariant.can in
    let far = c.loop-n.invariant.on in record {
      can = next_can c.args.bytes.now c.args.tokens.now c.args.i c.loop-n.n can (sym c.goes_on.ensures ∙ c.if-not-goes_on.false);
      on = omega (arith, far);
      none = none_next c.args.bytes.now c.args.tokens.now c.args.i c.args.name.now c.args.from c.loop-n.n can
          (sym (rw c.beyond.ensures at c.has_name.ensures) ∙ c.if-has_name.false) c.loop-n.invariant.none;
    }
