use Rattle.std.proofs.Common.{◌≡◌, [], Some, None, subst, arith}
use Rattle.std.proofs.lemmas.Grind.{common_steps}
use Rattle.sap_grammar.specs.Words.{words_of}
use Rattle.sap_draft.specs.ProcessGrammar.{IsProcess}
use Rattle.sap_draft.specs.code.ProcessReading.{par}
use Rattle.sap_macro.specs.Sources.{located, written}
use Rattle.sap_macro.specs.Written.{Written}
use Rattle.sap_draft.proofs.WholeProcesses.{no_words, no_other_whole, nothing_whole, whole_is, whole_places}
use Rattle.sap_draft.proofs.process.read_process.Goals as goal
use Rattle.sap_terms.specs.declared.limits.TheConstants.{MOST_PROCESS_LEVELS}
use Rattle.sap_draft.specs.declared.limits.TheConstants.{FILE_LIMITS}

pub returns-in-None-clause-none : goal.returns-in-None-clause-none
returns-in-None-clause-none c =
    let none : par c.args.sig.now FILE_LIMITS MOST_PROCESS_LEVELS (words_of c.args.bytes.now c.args.tokens.now) ≡ None = rw c.in-None.is at c.in_ok-read_par.ensures.gives in
    nothing_whole c.term_laws.ensures.read c.term_laws.ensures.spelled c.args.sig.now _ none

pub returns-then-is_empty-clause-found : goal.returns-then-is_empty-clause-found
returns-then-is_empty-clause-found c =
    let is : par c.args.sig.now FILE_LIMITS MOST_PROCESS_LEVELS (words_of c.args.bytes.now c.args.tokens.now) ≡ Some ((located c.in-Some.process.source.value, c.in-Some.process.levels), words_of c.args.bytes.now c.in-Some.rest.now) = rw c.in-Some.is at c.in_ok-read_par.ensures.gives in
    let last : c.in-Some.rest.now ≡ [] = grind (arith, common_steps) in
    let whole : par c.args.sig.now FILE_LIMITS MOST_PROCESS_LEVELS (words_of c.args.bytes.now c.args.tokens.now) ≡ Some ((located c.in-Some.process.source.value, c.in-Some.process.levels), []) = rw last at is in
    subst (λ (p : Written). IsProcess c.args.sig.now p (words_of c.args.bytes.now c.args.tokens.now)) (c.located_is_written.ensures c.in-Some.process.source.value)
    (whole_is c.term_laws.ensures.read c.term_laws.ensures.spelled c.args.sig.now _ _ _ whole)

pub returns-then-is_empty-clause-places : goal.returns-then-is_empty-clause-places
returns-then-is_empty-clause-places c =
    let is : par c.args.sig.now FILE_LIMITS MOST_PROCESS_LEVELS (words_of c.args.bytes.now c.args.tokens.now) ≡ Some ((located c.in-Some.process.source.value, c.in-Some.process.levels), words_of c.args.bytes.now c.in-Some.rest.now) = rw c.in-Some.is at c.in_ok-read_par.ensures.gives in
    let last : c.in-Some.rest.now ≡ [] = grind (arith, common_steps) in
    let whole : par c.args.sig.now FILE_LIMITS MOST_PROCESS_LEVELS (words_of c.args.bytes.now c.args.tokens.now) ≡ Some ((located c.in-Some.process.source.value, c.in-Some.process.levels), []) = rw last at is in
    λ n r. whole_places c.term_laws.ensures.read c.term_laws.ensures.spelled c.args.sig.now _ _ _ whole (written c.in-Some.process.source.value) n r

pub returns-else-is_empty-clause-none : goal.returns-else-is_empty-clause-none
returns-else-is_empty-clause-none c =
    let is : par c.args.sig.now FILE_LIMITS MOST_PROCESS_LEVELS (words_of c.args.bytes.now c.args.tokens.now) ≡ Some ((located c.in-Some.process.source.value, c.in-Some.process.levels), words_of c.args.bytes.now c.in-Some.rest.now) = rw c.in-Some.is at c.in_ok-read_par.ensures.gives in
    let more : c.in-Some.rest.now ≡ [] → ⊥ = λ e. absurd (grind (arith, common_steps)) in
    no_other_whole c.term_laws.ensures.read c.term_laws.ensures.spelled c.args.sig.now _ _ _ is (λ e. more (no_words c.args.bytes.now c.in-Some.rest.now e))
