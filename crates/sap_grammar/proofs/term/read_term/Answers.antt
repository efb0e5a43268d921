use Rattle.std.proofs.Common.{◌≡◌, true, false, drop, Some, None}
use Rattle.std.specs.Prelude.{codes}
use Rattle.sap_terms.specs.View.{tree}
use Rattle.sap_grammar.specs.Words.{starts, words_of}
use Rattle.sap_grammar.specs.TermReading.{short_term}
use Rattle.sap_grammar.proofs.Places.{term_reader, nothing_at, no_other_at, it_is_at, rest_within}
use Rattle.sap_grammar.proofs.term.read_term.Goals as goal

pub returns-in-Ok-None-clause-none : goal.returns-in-Ok-None-clause-none
returns-in-Ok-None-clause-none c =
    let none : short_term c.args.sig.now c.args.limits (words_of c.args.bytes.now (drop c.args.at c.args.tokens.now.items)) ≡ None = rw (c.in-Ok-None.field-0-is, c.beyond-tokens.ensures, c.as_slice-all.ensures.value) at c.in-Ok-None.ensures in
    nothing_at (term_reader c.args.sig.now c.args.limits) _ _ c.args.at none

pub overflow_sub-result : goal.overflow_sub-result
overflow_sub-result c =
    let is : short_term c.args.sig.now c.args.limits (words_of c.args.bytes.now (drop c.args.at c.args.tokens.now.items)) ≡ Some (tree c.in-Ok-Some.term, words_of c.args.bytes.now c.in-Ok-Some.rest.now) =
    rw (c.in-Ok-Some.field-0-is, c.beyond-tokens.ensures, c.as_slice-all.ensures.value) at c.in-Ok-Some.ensures in
    rw c.as_slice-all.ensures.value (rest_within (term_reader c.args.sig.now c.args.limits) _ _ c.args.at _ _ is)

pub returns-then-starts-clause-none : goal.returns-then-starts-clause-none
returns-then-starts-clause-none c =
    let is : short_term c.args.sig.now c.args.limits (words_of c.args.bytes.now (drop c.args.at c.args.tokens.now.items)) ≡ Some (tree c.in-Ok-Some.term, words_of c.args.bytes.now c.in-Ok-Some.rest.now) =
    rw (c.in-Ok-Some.field-0-is, c.beyond-tokens.ensures, c.as_slice-all.ensures.value) at c.in-Ok-Some.ensures in
    let opened : starts (codes "(") (words_of c.args.bytes.now c.in-Ok-Some.rest.now) ≡ true = cc in
    no_other_at (term_reader c.args.sig.now c.args.limits) _ _ c.args.at _ _ is opened

pub returns-else-starts-clause-found : goal.returns-else-starts-clause-found
returns-else-starts-clause-found c =
    let is : short_term c.args.sig.now c.args.limits (words_of c.args.bytes.now (drop c.args.at c.args.tokens.now.items)) ≡ Some (tree c.in-Ok-Some.term, words_of c.args.bytes.now c.in-Ok-Some.rest.now) =
    rw (c.in-Ok-Some.field-0-is, c.beyond-tokens.ensures, c.as_slice-all.ensures.value) at c.in-Ok-Some.ensures in
    let ends : starts (codes "(") (words_of c.args.bytes.now c.in-Ok-Some.rest.now) ≡ false = cc in
    rw c.as_slice-all.ensures.value (it_is_at (term_reader c.args.sig.now c.args.limits) _ _ c.args.at _ _ is ends)
