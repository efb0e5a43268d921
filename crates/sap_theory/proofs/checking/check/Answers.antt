use Rattle.std.proofs.Common.{rules, sym, subst}
use Rattle.std.proofs.lemmas.Result.{err_from_is_err_and}
use Rattle.sap_theory.specs.declared.fault.TheoryFault.{TheoryFault}
use Rattle.sap_theory.specs.TheoryCauses.{IsRefused, of_names, of_clash, of_symbols, of_shapes, of_formulas}
use Rattle.sap_theory.proofs.checking.check.Goals as goal

pub returns-in_err-check_names-clause-refused : goal.returns-in_err-check_names-clause-refused
returns-in_err-check_names-clause-refused c = λ e h n.
    let p = err_from_is_err_and c.from_residual.result c.from_residual.ensures.1 in
    let r = c.in_err-check_names.ensures.refused e (search (rules, p, h)) n in
    subst (λ (q : TheoryFault). IsRefused c.args.sig.now c.args.clash.now c.args.rules.now c.args.statements.now q) (sym r.1) (of_names r.2)

pub returns-in_err-check_clash-clause-refused : goal.returns-in_err-check_clash-clause-refused
returns-in_err-check_clash-clause-refused c = λ e h n.
    let p = err_from_is_err_and c.from_residual-in_err-check_clash.result c.from_residual-in_err-check_clash.ensures.1 in
    let r = c.in_err-check_clash.ensures.refused e (search (rules, p, h)) n in
    subst (λ (q : TheoryFault). IsRefused c.args.sig.now c.args.clash.now c.args.rules.now c.args.statements.now q) (sym r.1)
    (of_clash c.in_ok-check_names.ensures.none r.2)

pub returns-in_err-check_symbols-clause-refused : goal.returns-in_err-check_symbols-clause-refused
returns-in_err-check_symbols-clause-refused c = λ e h n.
    let p = err_from_is_err_and c.from_residual-in_err-check_symbols.result c.from_residual-in_err-check_symbols.ensures.1 in
    of_symbols c.in_ok-check_names.ensures.none c.in_ok-check_clash.ensures.none (c.in_err-check_symbols.ensures.refused e (search (rules, p, h)) n)

pub returns-in_err-check_shapes-clause-refused : goal.returns-in_err-check_shapes-clause-refused
returns-in_err-check_shapes-clause-refused c = λ e h n.
    let p = err_from_is_err_and c.from_residual-in_err-check_shapes.result c.from_residual-in_err-check_shapes.ensures.1 in
    of_shapes c.in_ok-check_names.ensures.none c.in_ok-check_clash.ensures.none c.in_ok-check_symbols.ensures.sound
    (c.in_err-check_shapes.ensures.refused e (search (rules, p, h)) n)

pub returns-clause-refused : goal.returns-clause-refused
returns-clause-refused c = λ e h n.
    let r = c.check_formulas.ensures.refused e h n in
    subst (λ (q : TheoryFault). IsRefused c.args.sig.now c.args.clash.now c.args.rules.now c.args.statements.now q) (sym r.is)
    (of_formulas c.in_ok-check_names.ensures.none c.in_ok-check_clash.ensures.none c.in_ok-check_symbols.ensures.sound c.in_ok-check_shapes.ensures.sound r.faulty)
