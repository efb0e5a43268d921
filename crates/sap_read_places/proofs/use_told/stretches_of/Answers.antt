use Rattle.std.proofs.Common.{List, arith, sym, subst}
use Rattle.std.specs.List.{All}
use Rattle.std.proofs.lemmas.List.Elements.{All-push}
use Rattle.sap_stretches.specs.declared.stretch.Stretch.{Stretch}
use Rattle.sap_stretches.specs.Stretches.{IsInBytes}
use Rattle.sap_read_places.proofs.UseTold.{front_step}
use Rattle.sap_read_places.proofs.use_told.stretches_of.Goals as goal

pub loop-k-preserved : goal.loop-k-preserved
loop-k-preserved c =
    let lt = c.loop-k-test.true in record {
      on = omega (arith, lt);
      are = front_step c.args.tokens.now c.args.words.now c.loop-k.k c.loop-k.stretches c.push.new.self c.stretch_before.result _ lt c.loop-k.invariant.are c.in_ok-push.ensures.ok
          c.stretch_before.ensures.is;
      inside = λ size all.
          subst (λ (us : List Stretch). All (IsInBytes size) us) (sym c.in_ok-push.ensures.ok)
          (All-push (IsInBytes size) c.loop-k.stretches c.stretch_before.result (c.loop-k.invariant.inside size all) (c.stretch_before.ensures.inside size all));
    }
