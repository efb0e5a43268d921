use Rattle.std.proofs.Common.{◌≡◌, ap, Err, List, ℕ, Some, arith, length, refl, subst}
use Rattle.std.specs.Prelude.{slice_get}
use Rattle.std.proofs.lemmas.Grind.{common_steps}
use Rattle.std.proofs.lemmas.Option.{slice_get_read}
use Rattle.sap_formula.specs.Faults.{told}
use Rattle.sap_formula.specs.declared.fault.FormulaFault.{FormulaFault}
use Rattle.sap_statements.specs.Statements.{Statement, name_of}
use Rattle.sap_statements.specs.declared.checking.Unchecked.TheVariants.{Formula}
use Rattle.sap_statements.specs.Stated.{AreFaultless, IsFirstFaulty}
use Rattle.sap_statements.proofs.Faults.{refused_here, checked_here, faultless_to_the_end}
use Rattle.sap_statements.proofs.checking.check_statements.Goals as goal

pub returns-in_err-check_statement-clause-refused : goal.returns-in_err-check_statement-clause-refused
returns-in_err-check_statement-clause-refused c = λ x f is.
    let g = c.args.sig.now in
    let r = c.args.reserved in
    let items = c.as_slice-statement-items.result.now in
    let k = c.loop-statement.statement-index in
    let s = c.statement-item.result in
    let there : slice_get items k ≡ Some s = slice_get_read items (length items) k s refl (omega arith) c.statement-item.is in
    let same : c.in_err-check_statement.field-0.0 ≡ Formula x f = grind (arith, common_steps, is, c.from_residual.ensures) in
    let fault = c.in_err-check_statement.ensures.refused (Formula x f) (ap Err same) (λ m. cc (m)) in
    let names : name_of s ≡ x = cc (fault.is) in
    let faults : told fault.which fault.part ≡ f = cc (fault.is) in
    let here = refused_here g r items k s c.loop-statement.checked.restrictions c.loop-statement.checked.lemmas there c.loop-statement.invariant fault.which fault.part fault.fault in
    subst (λ (xs : List Statement). IsFirstFaulty g r xs x f) c.as_slice-statement-items.ensures
    (subst (λ (y : List ℕ). IsFirstFaulty g r items y f) names
    (subst (λ (h : FormulaFault). IsFirstFaulty g r items (name_of s) h) faults here))

pub loop-statement-preserved : goal.loop-statement-preserved
loop-statement-preserved c =
    let items = c.as_slice-statement-items.result.now in
    let k = c.loop-statement.statement-index in
    let there : slice_get items k ≡ Some c.statement-item.result = slice_get_read items (length items) k c.statement-item.result refl (omega arith) c.statement-item.is in
    let more = c.in_ok-check_statement.ensures in
    checked_here c.args.sig.now c.args.reserved items k c.statement-item.result c.loop-statement.checked.restrictions c.loop-statement.checked.lemmas there c.loop-statement.invariant
    c.check_statement.new.checked.restrictions c.check_statement.new.checked.lemmas more.sound more.restrictions more.lemmas

pub returns-clause-faultless : goal.returns-clause-faultless
returns-clause-faultless c =
    let items = c.as_slice-statement-items.result.now in
    subst (AreFaultless c.args.sig.now c.args.reserved) c.as_slice-statement-items.ensures
    (faultless_to_the_end c.args.sig.now c.args.reserved items c.loop-statement.statement-index c.loop-statement.checked.restrictions c.loop-statement.checked.lemmas
    (omega (arith, c.loop-statement-test.false, c.loop-statement.auto)) c.loop-statement.invariant)
