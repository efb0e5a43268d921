use Rattle.std.proofs.Common.{◌≡◌, [], Some, None, arith}
use Rattle.std.proofs.lemmas.Grind.{common_steps}
use Rattle.sap_grammar.specs.Words.{words_of}
use Rattle.sap_theory.specs.code.RuleReading.{a_rule}
use Rattle.sap_theory.proofs.RulesRead.{no_rule, no_other_rule, rule_is}
use Rattle.sap_grammar.proofs.ReadingLaws.Tokens.{no_words}
use Rattle.sap_theory.proofs.reading.rule.read_rule.Goals as goal

pub returns-in-None-clause-none : goal.returns-in-None-clause-none
returns-in-None-clause-none c =
    let none : a_rule c.args.sig.now c.args.limits (words_of c.args.bytes.now c.args.item.now) ≡ None = rw c.in-None.is at c.in_ok-read_any.ensures in
    no_rule c.term_laws.ensures.read c.term_laws.ensures.spelled c.args.sig.now c.args.limits _ none

pub returns-then-is_empty-clause-found : goal.returns-then-is_empty-clause-found
returns-then-is_empty-clause-found c =
    let is : a_rule c.args.sig.now c.args.limits (words_of c.args.bytes.now c.args.item.now) ≡ Some (c.in-Some.rule.value, words_of c.args.bytes.now c.in-Some.rest.now) = rw c.in-Some.is at c.in_ok-read_any.ensures in
    let last : c.in-Some.rest.now ≡ [] = grind (arith, common_steps) in
    let whole : a_rule c.args.sig.now c.args.limits (words_of c.args.bytes.now c.args.item.now) ≡ Some (c.in-Some.rule.value, []) = rw last at is in
    rule_is c.term_laws.ensures.read c.args.sig.now c.args.limits _ _ whole

pub returns-else-is_empty-clause-none : goal.returns-else-is_empty-clause-none
returns-else-is_empty-clause-none c =
    let is : a_rule c.args.sig.now c.args.limits (words_of c.args.bytes.now c.args.item.now) ≡ Some (c.in-Some.rule.value, words_of c.args.bytes.now c.in-Some.rest.now) = rw c.in-Some.is at c.in_ok-read_any.ensures in
    let more : c.in-Some.rest.now ≡ [] → ⊥ = λ e. absurd (grind (arith, common_steps)) in
    no_other_rule c.term_laws.ensures.read c.term_laws.ensures.spelled c.args.sig.now c.args.limits _ _ _ is (λ e. more (no_words c.args.bytes.now c.in-Some.rest.now e))
