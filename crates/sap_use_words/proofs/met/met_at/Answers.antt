use Rattle.std.proofs.Common.{◌≡◌, List, [], ◌∷◌, ◌++◌, length, take, sym, subst}
use Rattle.sap_terms.proofs.PlainLaws.Lists.{front_kept, front_self}
use Rattle.sap_macro.specs.Sources.{definitions}
use Rattle.sap_origin.specs.Definitions.{located_definitions}
use Rattle.sap_origin.specs.declared.origin.FileWord.{FileWord}
use Rattle.sap_use_words.specs.code.Walk.{IsFurther, IsMet}
use Rattle.sap_use_words.proofs.Walking.{IsOn, on_further, on_met, on_start}
use Rattle.sap_use_words.proofs.met.met_at.Goals as goal

pub loop-word-init : goal.loop-word-init
loop-word-init c = record {
  on = on_start (located_definitions c.args.defs.now c.args.behind.now) (definitions c.args.defs.now) c.args.here c.args.uses.now.items;
  front = front_self c.args.uses.now.items;
}

pub loop-word-preserved : goal.loop-word-preserved
loop-word-preserved c =
    let ds = located_definitions c.args.defs.now c.args.behind.now in
    let es = definitions c.args.defs.now in
    let us = c.args.uses.now.items in
    let at = c.loop-word.at in
    let vs = c.loop-word.uses.items in
    let zs = vs ++ c.in-Plain.word ∷ [] in
    let step : IsFurther ds es at.behind vs at.source.now c.in-Plain.body zs = rw c.in-Plain.is at (c.first_at.ensures vs) in
    record {
      on = subst (λ (l : List FileWord). IsOn ds es c.args.here.behind us c.args.here.source.now c.in-Plain.body l) (sym c.in_ok-push-in-Plain.ensures.items)
          (on_further ds es c.args.here.behind us vs zs c.args.here.source.now at c.in-Plain.body c.loop-word.invariant.on step);
      front = subst (λ (l : List FileWord). take (length us) l ≡ us) (sym c.in_ok-push-in-Plain.ensures.items) (front_kept us vs (c.in-Plain.word ∷ []) c.loop-word.invariant.front);
    }

pub loop-word-smaller : goal.loop-word-smaller
loop-word-smaller c =
    let vs = c.loop-word.uses.items in
    let step : IsFurther (located_definitions c.args.defs.now c.args.behind.now) (definitions c.args.defs.now) c.loop-word.at.behind vs c.loop-word.at.source.now c.in-Plain.body
    (vs ++ c.in-Plain.word ∷ []) = rw c.in-Plain.is at (c.first_at.ensures vs) in
    step.fewer

pub returns-in-Else-clause-met : goal.returns-in-Else-clause-met
returns-in-Else-clause-met c =
    let ds = located_definitions c.args.defs.now c.args.behind.now in
    let es = definitions c.args.defs.now in
    let at = c.loop-word.at in
    let vs = c.loop-word.uses.items in
    let met : IsMet ds es at.behind vs at.source.now c.in-Else.met vs = rw c.in-Else.is at (c.first_at.ensures vs) in
    on_met ds es c.args.here.behind c.args.uses.now.items vs vs c.args.here.source.now at c.in-Else.met c.loop-word.invariant.on met
