use Rattle.std.proofs.Common.{rules, ◌-◌, ◌^◌, min, sym, ap, ◌∙◌}
use Rattle.sap_macro.specs.Sources.{written}
use Rattle.sap_beyond.specs.code.Shapes.{shaped}
use Rattle.sap_beyond.specs.code.Steps.{IsOver, IsOverBoth, extent}
use Rattle.sap_beyond.proofs.Indices.{over_kept}
use Rattle.sap_beyond.proofs.extents.+extent_in.Goals as goal

pub returns-in-Par : goal.returns-in-Par
returns-in-Par t c = λ shapes names kept uses.
    let over : IsOverBoth (written c.args.source.now) (written c.deref.result.now) (written c.deref-in-Par.result.now) = search rules in
    c.over_both.ensures (shaped shapes (written c.deref.result.now)) (shaped shapes (written c.deref-in-Par.result.now)) (c.extent_in-first.ensures shapes names kept (over.uses names uses).0)
    (c.extent_in.ensures shapes names kept (over.uses names uses).1)
    ∙ ap (λ s. min (extent c.args.by s) (2 ^ 64 - 1)) (sym (over.shape shapes))

pub returns-in-Rep : goal.returns-in-Rep
returns-in-Rep t c = λ shapes names kept uses.
    let over : IsOver (written c.args.source.now) (written c.deref-in-Rep.result.now) = search rules in
    over_kept c.args.by shapes (written c.args.source.now) (written c.deref-in-Rep.result.now) c.extent_in-in-Rep.result c.saturating_add.result over
    (c.extent_in-in-Rep.ensures shapes names kept (over.uses names uses)) c.saturating_add.ensures
