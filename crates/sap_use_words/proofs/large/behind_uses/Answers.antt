use Rattle.std.proofs.Common.{◌<◌, ◌≤◌, arith}
use Rattle.sap_terms.proofs.PlainLaws.Lists.{front_of_front}
use Rattle.sap_macro.specs.Sources.{definitions}
use Rattle.sap_origin.specs.Definitions.{located_definitions}
use Rattle.sap_use_words.specs.code.Walk.{IsInside, IsMet, found_by, steps_by, steps_from, steps_there}
use Rattle.sap_use_words.specs.declared.met.Met.TheVariants.{Use}
use Rattle.sap_use_words.proofs.Walking.{reached_on}
use Rattle.sap_use_words.proofs.large.behind_uses.Goals as goal

pub loop-r-preserved : goal.loop-r-preserved
loop-r-preserved c =
    let ds = located_definitions c.args.defs.now c.args.behind.now in
    let es = definitions c.args.defs.now in
    let us = c.args.uses.now.items in
    let vs = c.loop-r.uses.items in
    let ws = c.met_at.new.uses.items in
    let zs = c.entered-in-Use.new.uses.items in
    let here = c.in-Body.here in
    let next = c.in-Use.next in
    let y = c.in_ok-r-in-Use.r in
    let met : IsMet ds es here.behind vs here.source.now (Use next) ws = rw c.in-Use.is at c.in_ok-next.ensures.met in
    let most : steps_from es here ≤ steps_by es c.args.e = rw c.in-Body.is at c.loop-r.invariant.fewer in
    let less : steps_by es next < steps_from es here = met.fewer in
    let step : steps_there es y ≤ steps_by es next = c.in_ok-r-in-Use.ensures.fewer es in
    record {
      reached = λ r h.
          let before : IsInside ds (found_by ds us r c.args.e) c.in-Body.inner here vs = rw c.in-Body.is at (c.loop-r.invariant.reached r h) in
          reached_on ds es (found_by ds us r c.args.e) c.in-Body.inner here vs ws zs next y before met (λ q k. c.in_ok-r-in-Use.ensures.reached ds q k);
      fewer = omega (arith, most, less, step);
      front = front_of_front us ws zs (front_of_front us vs ws c.loop-r.invariant.front c.in_ok-next.ensures.front) c.in_ok-r-in-Use.ensures.front;
    }
