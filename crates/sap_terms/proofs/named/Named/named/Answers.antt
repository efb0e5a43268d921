use Rattle.std.proofs.Common.{ap, sym, ◌∙◌}
use Rattle.std.specs.Option.{option_copied}
use Rattle.sap_terms.proofs.NamedLemmas.{find-none, find-some}
use Rattle.sap_terms.proofs.named.Named.named.Goals as goal

pub returns-in_err-place : goal.returns-in_err-place
returns-in_err-place g c =
    let none = sym (c.self.invariant c.args.name.now) ∙ sym c.get.ensures ∙ ap option_copied c.in_err-place.was in
    rw (c.from_residual.ensures, ← c.self.view_is) (sym (find-none g.T.HasName.name_of c.self.inside.items c.args.name.now none))

pub returns : goal.returns
returns g c =
    let at = sym (c.self.invariant c.args.name.now) ∙ sym c.get.ensures ∙ ap option_copied c.in_ok-place.was in
    rw (← c.self.view_is) (c.get-2.ensures ∙ find-some g.T.HasName.name_of c.self.inside.items c.args.name.now c.in_ok-place.place.now at)
