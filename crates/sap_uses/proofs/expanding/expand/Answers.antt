use Rattle.std.proofs.Common.{◌≡◌, Err, ap, arith}
use Rattle.std.proofs.lemmas.Grind.{common_steps}
use Rattle.sap_macro.specs.Sources.{definitions, written}
use Rattle.sap_uses.proofs.Causes.{cause_is, joined, none_below, size_absent}
use Rattle.sap_uses.proofs.expanding.expand.Goals as goal

pub returns-in_err-check_counts-clause-refused : goal.returns-in_err-check_counts-clause-refused
returns-in_err-check_counts-clause-refused c = λ g e is other.
    let same : c.in_err-check_counts.field-0.0 ≡ e = grind (arith, common_steps, is, c.from_residual.ensures) in
    cause_is g (definitions c.args.defs.now) (written c.args.main.now) 1 e (none_below g (definitions c.args.defs.now) (written c.args.main.now) 1)
    (c.in_err-check_counts.ensures.refused g e (ap Err same) other)

pub returns-in_err-check_size-clause-refused : goal.returns-in_err-check_size-clause-refused
returns-in_err-check_size-clause-refused c = λ g e is other.
    let same : c.in_err-check_size.field-0.0 ≡ e = grind (arith, common_steps, is, c.from_residual-in_err-check_size.ensures) in
    cause_is g (definitions c.args.defs.now) (written c.args.main.now) 3 e (c.in_ok-check_counts.ensures.fine g) (c.in_err-check_size.ensures.refused g e (ap Err same) other)

pub returns-in_err-check_uses-clause-refused : goal.returns-in_err-check_uses-clause-refused
returns-in_err-check_uses-clause-refused c = λ g e is other.
    let same : c.in_err-check_uses.field-0.0 ≡ e = grind (arith, common_steps, is, c.from_residual-in_err-check_uses.ensures) in
    cause_is g (definitions c.args.defs.now) (written c.args.main.now) 5 e
    (joined g (definitions c.args.defs.now) (written c.args.main.now) 1 3 5 (c.in_ok-check_counts.ensures.fine g)
    (size_absent g (definitions c.args.defs.now) (written c.args.main.now) c.in_ok-check_size.ensures.small))
    (c.in_err-check_uses.ensures.refused g e (ap Err same) other)
