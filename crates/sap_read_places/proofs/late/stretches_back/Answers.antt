use Rattle.std.proofs.Common.{List, arith, sym, subst}
use Rattle.std.specs.List.{All}
use Rattle.std.proofs.lemmas.List.Elements.{All-push}
use Rattle.sap_stretches.specs.declared.stretch.Stretch.{Stretch}
use Rattle.sap_stretches.specs.Stretches.{IsInBytes}
use Rattle.sap_read_places.proofs.PathTold.{back_step}
use Rattle.sap_read_places.proofs.late.stretches_back.Goals as goal

pub loop-k-preserved : goal.loop-k-preserved
loop-k-preserved c =
    let low = c.loop-k-test.true in
    let high = c.loop-k.invariant.on in record {
      on = omega (arith, low, high);
      are = back_step c.args.tokens.now c.args.uses.now c.loop-k.k c.loop-k.stretches c.push.new.self c.stretch_before.result _ low high c.loop-k.invariant.are c.in_ok-push.ensures.ok
          c.stretch_before.ensures.is;
      inside = λ size all.
          subst (λ (us : List Stretch). All (IsInBytes size) us) (sym c.in_ok-push.ensures.ok)
          (All-push (IsInBytes size) c.loop-k.stretches c.stretch_before.result (c.loop-k.invariant.inside size all) (c.stretch_before.ensures.inside size all));
    }
