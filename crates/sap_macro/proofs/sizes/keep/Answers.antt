use Rattle.std.proofs.Common.{ap, ◌∙◌, min}
use Rattle.sap_macro.specs.Sources.{definition_of, written}
use Rattle.sap_macro.specs.code.Sizes.{levels_in}
use Rattle.sap_macro.proofs.PutSizes.{levels_put}
use Rattle.sap_macro.proofs.sizes.keep.Goals as goal

pub returns-clause-levels : goal.returns-clause-levels
returns-clause-levels c f =
    levels_put (definition_of c.args.d.now) c.args.sizes.now c.insert.new.self c.in_ok-name.name c.measured-size.result c.in_ok-insert.ensures.ok c.in_ok-name.ensures
    (c.measured-size.ensures.levels ∙ ap (λ s. min (levels_in c.args.sizes.now (written s)) 18446744073709551615) c.deref.ensures) f
