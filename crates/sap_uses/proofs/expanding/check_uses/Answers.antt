use Rattle.std.proofs.Common.{◌≡◌, sym, subst, ◌∙◌}
use Rattle.sap_macro.specs.Sources.{definitions, written}
use Rattle.sap_uses.specs.code.Checked.{IsCauseFrom}
use Rattle.sap_uses.specs.declared.fault.MacroFault.TheVariants.{Flawed}
use Rattle.sap_uses.proofs.Causes.{flawed_holds, uses_absent}
use Rattle.sap_uses.proofs.FirstFlawed.{none_there, value_there}
use Rattle.sap_uses.proofs.expanding.check_uses.Goals as goal

pub returns-in-Some-2-clause-refused : goal.returns-in-Some-2-clause-refused
returns-in-Some-2-clause-refused c = λ g e is other.
    let same : Flawed c.in-Some-2.name c.in-Some-2.which c.in-Some-2.path ≡ e = cc in
    subst (IsCauseFrom g (definitions c.args.defs.now) (written c.args.main.now) 5) same
    (flawed_holds g (definitions c.args.defs.now) (written c.args.main.now) c.in-Some-2.name c.in-Some-2.which c.in-Some-2.path
    (sym c.in_ok-name.ensures ∙ c.in_default.is)
    (value_there _ _ _ c.in-Some-2.is (c.in_ok-name-2.ensures.found g)))

pub returns-clause-fine : goal.returns-clause-fine
returns-clause-fine c = λ g.
    uses_absent g (definitions c.args.defs.now) (written c.args.main.now) (sym c.in_ok-name.ensures ∙ c.in_default.is) (none_there _ c.in_default-2.is (c.in_ok-name-2.ensures.none g))
