use Rattle.std.proofs.Common.{[], sym, subst, ◌∙◌}
use Rattle.sap_formula.specs.View.{form}
use Rattle.sap_formula.specs.Checked.{IsChecked}
use Rattle.sap_formula.specs.Laws.{Allowed}
use Rattle.sap_formula.proofs.Checks.{check_law}
use Rattle.sap_formula.proofs.Counting.{faultless, first-counts}
use Rattle.sap_formula.proofs.checking.check.Goals as goal

pub returns-in-Some-clause-refused : goal.returns-in-Some-clause-refused
returns-in-Some-clause-refused c = λ w n h. first-counts c.args.sig.now c.args.reserved (form c.args.f.now) c.in-Some.which w c.in-Some.name n c.fault.result (sym c.in_ok-which.ensures ∙ c.in-Some.is) c.fault.ensures h

pub returns-in_ok-sorted-in-None-clause-sound : goal.returns-in_ok-sorted-in-None-clause-sound
returns-in_ok-sorted-in-None-clause-sound c = faultless c.args.sig.now c.args.reserved (form c.args.f.now) (sym c.in_ok-which.ensures ∙ c.in-None.is)

pub returns-in_ok-sorted-in-None-clause-checked : goal.returns-in_ok-sorted-in-None-clause-checked
returns-in_ok-sorted-in-None-clause-checked c =
    subst (IsChecked c.args.sig.now (Allowed c.args.reserved) []) (sym c.in_ok-sorted-in-None.ensures) (check_law c.args.sig.now c.args.reserved (form c.args.f.now) (faultless c.args.sig.now c.args.reserved (form c.args.f.now) (sym c.in_ok-which.ensures ∙ c.in-None.is)))
