use Rattle.std.proofs.Common.{◌||◌, ap, sym, ◌∙◌}
use Rattle.std.specs.List.{list_any}
use Rattle.std.specs.Str.{bytes_eq}
use Rattle.sap_terms.specs.Variables.{is_known}
use Rattle.sap_macro.proofs.Choices.{taken_is}
use Rattle.sap_macro.proofs.chosen.Chosen.is_taken.Goals as goal

pub returns-then-contains : goal.returns-then-contains
returns-then-contains c =
    let s = c.self.inside in
    c.if-contains.true
    ∙ ap (λ b. b || list_any (bytes_eq c.args.name.now) s.chosen) (sym c.if-contains.true ∙ c.contains.ensures)
    ∙ taken_is s.identifiers s.known s.chosen s.begins c.self.invariant c.args.name.now
    ∙ ap (λ ns. is_known ns c.args.name.now) c.self.view_is

pub returns-else-contains : goal.returns-else-contains
returns-else-contains c =
    let s = c.self.inside in
    c.contains-else-contains.ensures
    ∙ ap (λ b. b || list_any (bytes_eq c.args.name.now) s.chosen) (sym c.if-contains.false ∙ c.contains.ensures)
    ∙ taken_is s.identifiers s.known s.chosen s.begins c.self.invariant c.args.name.now
    ∙ ap (λ ns. is_known ns c.args.name.now) c.self.view_is
