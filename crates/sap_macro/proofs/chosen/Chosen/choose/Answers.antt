use Rattle.std.proofs.Common.{◌∷◌, ap, ◌∙◌}
use Rattle.sap_macro.proofs.Choices.{first_is_new}
use Rattle.sap_macro.proofs.chosen.Chosen.choose.Goals as goal

pub returns-clause-name : goal.returns-clause-name
returns-clause-name c = first_is_new c.args.self.now c.args.x.now c.in_ok-name.name c.in_ok-name.number c.in_ok-name.ensures

pub returns-clause-taken : goal.returns-clause-taken
returns-clause-taken c =
    c.in_ok-keep.ensures ∙ ap (λ n. n ∷ c.args.self.now) (first_is_new c.args.self.now c.args.x.now c.in_ok-name.name c.in_ok-name.number c.in_ok-name.ensures)
