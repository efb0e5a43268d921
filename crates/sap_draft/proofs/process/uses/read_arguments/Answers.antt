use Rattle.std.proofs.Common.{◌≡◌, [], ◌∷◌, ◌++◌, Some, None, arith}
use Rattle.std.proofs.lemmas.Grind.{common_steps}
use Rattle.sap_terms.specs.View.{tree}
use Rattle.sap_grammar.specs.Words.{words_of}
use Rattle.sap_grammar.specs.TermReading.{short_term}
use Rattle.sap_draft.specs.declared.limits.TheConstants.{FILE_LIMITS}
use Rattle.sap_grammar.proofs.ReadingLaws.Turns.{shorter_still, turn_bad, turn_go, turn_last, turn_stop}
use Rattle.sap_draft.proofs.Arguments.{argument_shrinks, no_argument}
use Rattle.sap_draft.proofs.process.uses.read_arguments.Goals as goal

pub returns-then-starts : goal.returns-then-starts
returns-then-starts c =
    let is : short_term c.args.sig.now FILE_LIMITS (words_of c.args.bytes.now c.loop-rest.rest.now) ≡ Some (tree c.in-Some.term, words_of c.args.bytes.now c.in-Some.next.now) = rw c.in-Some.is at c.in_ok-term.ensures in
    let pushed : c.push.new.self ≡ c.loop-rest.terms ++ (tree c.in-Some.term ∷ []) = grind (arith, common_steps) in
    turn_last _ (argument_shrinks c.term_laws.ensures.read c.args.sig.now FILE_LIMITS) c.args.bytes.now c.loop-rest.rest.now c.loop-rest.terms c.loop-rest.invariant.0 _ c.loop-rest.invariant.1 c.loop-rest.invariant.2 _ _ is _ _ pushed c.beyond.ensures (cc)

pub returns-then-not-starts : goal.returns-then-not-starts
returns-then-not-starts c =
    let is : short_term c.args.sig.now FILE_LIMITS (words_of c.args.bytes.now c.loop-rest.rest.now) ≡ Some (tree c.in-Some.term, words_of c.args.bytes.now c.in-Some.next.now) = rw c.in-Some.is at c.in_ok-term.ensures in
    turn_bad _ (argument_shrinks c.term_laws.ensures.read c.args.sig.now FILE_LIMITS) c.args.bytes.now c.loop-rest.rest.now c.loop-rest.terms c.loop-rest.invariant.0 _ c.loop-rest.invariant.1 c.loop-rest.invariant.2 _ _ is (cc) (cc)

pub loop-rest-smaller : goal.loop-rest-smaller
loop-rest-smaller c =
    let is : short_term c.args.sig.now FILE_LIMITS (words_of c.args.bytes.now c.loop-rest.rest.now) ≡ Some (tree c.in-Some.term, words_of c.args.bytes.now c.in-Some.next.now) = rw c.in-Some.is at c.in_ok-term.ensures in
    shorter_still (argument_shrinks c.term_laws.ensures.read c.args.sig.now FILE_LIMITS) _ _ _ _ _ is c.beyond-rest.ensures

pub loop-rest-preserved : goal.loop-rest-preserved
loop-rest-preserved c =
    let is : short_term c.args.sig.now FILE_LIMITS (words_of c.args.bytes.now c.loop-rest.rest.now) ≡ Some (tree c.in-Some.term, words_of c.args.bytes.now c.in-Some.next.now) = rw c.in-Some.is at c.in_ok-term.ensures in
    let pushed : c.push.new.self ≡ c.loop-rest.terms ++ (tree c.in-Some.term ∷ []) = grind (arith, common_steps) in
    turn_go _ (argument_shrinks c.term_laws.ensures.read c.args.sig.now FILE_LIMITS) c.args.bytes.now c.loop-rest.rest.now c.loop-rest.terms c.loop-rest.invariant.0 _ c.loop-rest.invariant.1 c.loop-rest.invariant.2 _ _ is _ _ pushed c.beyond-rest.ensures (cc) (cc)

pub returns : goal.returns
returns c =
    let none : c.loop-rest.rest.now ≡ [] = grind (arith, common_steps) in
    let stops : short_term c.args.sig.now FILE_LIMITS (words_of c.args.bytes.now c.loop-rest.rest.now) ≡ None = rw none (no_argument c.args.sig.now FILE_LIMITS) in
    turn_stop _ (argument_shrinks c.term_laws.ensures.read c.args.sig.now FILE_LIMITS) c.args.bytes.now c.loop-rest.rest.now c.loop-rest.terms c.loop-rest.invariant.0 _ c.loop-rest.invariant.1 c.loop-rest.invariant.2 stops
