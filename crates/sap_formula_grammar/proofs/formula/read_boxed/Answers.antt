use Rattle.std.proofs.Common.{◌≡◌, true, false, drop, Some, None}
use Rattle.std.specs.Prelude.{codes}
use Rattle.sap_formula.specs.View.{form}
use Rattle.sap_grammar.specs.Words.{starts, words_of}
use Rattle.sap_formula_grammar.specs.FormulaReading.{short_formula}
use Rattle.sap_formula_grammar.proofs.FormulaPlaces.{no_formula_at, no_other_formula, formula_is_at, formula_within}
use Rattle.sap_formula_grammar.proofs.formula.read_boxed.Goals as goal

pub returns-in-None-clause-none : goal.returns-in-None-clause-none
returns-in-None-clause-none c =
    let none : short_formula c.args.sig.now c.args.limits (words_of c.args.bytes.now (drop c.args.at c.args.tokens.now)) ≡ None = rw (c.in-None.is, c.beyond.ensures) at c.in_ok-read_short_formula.ensures in
    no_formula_at c.formulas_are_read.ensures.complete c.args.limits c.args.sig.now _ _ c.args.at none

pub overflow_sub-result : goal.overflow_sub-result
overflow_sub-result c =
    let is : short_formula c.args.sig.now c.args.limits (words_of c.args.bytes.now (drop c.args.at c.args.tokens.now)) ≡ Some (form c.in-Some.formula.value, words_of c.args.bytes.now c.in-Some.rest.now) =
    rw (c.in-Some.is, c.beyond.ensures) at c.in_ok-read_short_formula.ensures in
    formula_within c.formulas_are_read.ensures.complete c.args.limits c.args.sig.now _ _ c.args.at c.formulas_are_read.ensures.sound _ _ is

pub returns-then-starts-clause-found : goal.returns-then-starts-clause-found
returns-then-starts-clause-found c =
    let is : short_formula c.args.sig.now c.args.limits (words_of c.args.bytes.now (drop c.args.at c.args.tokens.now)) ≡ Some (form c.in-Some.formula.value, words_of c.args.bytes.now c.in-Some.rest.now) =
    rw (c.in-Some.is, c.beyond.ensures) at c.in_ok-read_short_formula.ensures in
    let ends : starts (codes "\"") (words_of c.args.bytes.now c.in-Some.rest.now) ≡ true = cc in
    formula_is_at c.formulas_are_read.ensures.complete c.args.limits c.args.sig.now _ _ c.args.at c.formulas_are_read.ensures.sound _ _ is ends

pub returns-else-starts-clause-none : goal.returns-else-starts-clause-none
returns-else-starts-clause-none c =
    let is : short_formula c.args.sig.now c.args.limits (words_of c.args.bytes.now (drop c.args.at c.args.tokens.now)) ≡ Some (form c.in-Some.formula.value, words_of c.args.bytes.now c.in-Some.rest.now) =
    rw (c.in-Some.is, c.beyond.ensures) at c.in_ok-read_short_formula.ensures in
    let bad : starts (codes "\"") (words_of c.args.bytes.now c.in-Some.rest.now) ≡ false = cc in
    no_other_formula c.formulas_are_read.ensures.complete c.args.limits c.args.sig.now _ _ c.args.at c.formulas_are_read.ensures.sound _ _ is bad
