use Rattle.std.proofs.Common.{◌≡◌, drop}
use Rattle.sap_formula.specs.View.{form}
use Rattle.sap_formula_words.specs.code.Faulty.{bounds, is_faulty, first_of_all}
use Rattle.sap_formula_words.proofs.faults.in_binders.Given as goal

abbrev pub invariant-loop-k : goal.invariant-loop-k
invariant-loop-k l =
    first_of_all (is_faulty l.aim.sig.now l.aim.which l.aim.name.now) (bounds (form l.f) l.bs) l.initial.before ≡ first_of_all (is_faulty l.aim.sig.now l.aim.which l.aim.name.now) (bounds (form l.f) (drop l.k l.bs)) l.before
