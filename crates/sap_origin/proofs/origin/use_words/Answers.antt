use Rattle.std.proofs.Common.{refl}
use Rattle.sap_terms.proofs.PlainLaws.Lists.{map_got}
use Rattle.sap_origin.specs.Trails.{use_word}
use Rattle.sap_origin.proofs.origin.use_words.Goals as goal

pub loop-k-preserved : goal.loop-k-preserved
loop-k-preserved c =
    rw (
      c.in_ok-push.ensures.ok,
      c.loop-k.invariant,
      c.number_of.ensures,
      map_got use_word c.args.uses.now c.loop-k.k c.at-used.result.now c.at-used.ensures,
    )
    refl
