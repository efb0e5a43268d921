use Rattle.std.proofs.Common.{◌≡◌, ◌+◌, ℕ, List, ◌++◌, append_assoc, length-drop, take, drop, sym, ap, subst, ◌∙◌, arith}
use Rattle.std.proofs.lemmas.List.{take_rest}
use Rattle.std.proofs.Math.Seq.{take-add}
use Rattle.sap_run_texts.specs.RunReading.{StandsFor}
use Rattle.sap_run_texts.proofs.reader.RunReader.feed.Goals as goal

pub loop-taken-preserved : goal.loop-taken-preserved
loop-taken-preserved c = record {
  within = omega (arith, c.in_ok-taken.ensures.taken.1, c.loop-taken.invariant.within, length-drop c.loop-taken.taken c.args.piece.now);
  kinds = c.take.ensures.kinds ∙ c.loop-taken.invariant.kinds;
  stands = λ z h.
      let taken = c.loop-taken.taken in
      let more = c.in_ok-taken.field-0 in
      let whole : (z ++ take taken c.args.piece.now) ++ take more (drop taken c.args.piece.now) ≡ z ++ take (taken + more) c.args.piece.now =
      append_assoc z _ _ ∙ ap (λ y. z ++ y) (sym (take-add taken more c.args.piece.now)) in
      let stands : StandsFor c.take.new.self ((z ++ take taken c.args.piece.now) ++ take more (drop taken c.args.piece.now)) =
      rw (take_rest c.args.piece.now taken) at c.in_ok-taken.ensures.stands _ (c.loop-taken.invariant.stands z h) in
      subst (λ (y : List ℕ). StandsFor c.take.new.self y) whole stands;
}
