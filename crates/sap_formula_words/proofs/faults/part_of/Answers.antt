use Rattle.std.proofs.Common.{sym, ap, Some, ◌∙◌, ◌≡◌}
use Rattle.std.specs.Prelude.{min, ◌-◌, ◌^◌}
use Rattle.sap_formula.specs.View.{form}
use Rattle.sap_formula_words.proofs.Faulty.{first_is}
use Rattle.sap_formula_words.proofs.faults.part_of.Goals as goal

pub returns-in-Ok : goal.returns-in-Ok
returns-in-Ok c = λ r first.
    let a = c.args.aim.now in
    absurd (let e = sym c.in-Ok.is ∙ c.in_form.ensures ∙ first_is a.sig.now r (form c.args.f.now) a.which a.name.now first in cc (e))

pub returns-in-Err : goal.returns-in-Err
returns-in-Err c = λ r first.
    let a = c.args.aim.now in
    let e = sym c.in-Err.is ∙ c.in_form.ensures ∙ first_is a.sig.now r (form c.args.f.now) a.which a.name.now first in
    let same : c.in-Err.before ≡ min first.at (2 ^ 64 - 1) = cc (e) in
    ap Some same
