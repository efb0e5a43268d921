use Rattle.std.proofs.Common.{◌≡◌, [], ◌∷◌, ◌++◌, Some, None, arith}
use Rattle.std.proofs.lemmas.Grind.{common_steps}
use Rattle.sap_grammar.specs.Words.{words_of}
use Rattle.sap_grammar.specs.TermReading.{short_fact}
use Rattle.sap_grammar.proofs.ReadingLaws.Turns.{shorter_still, turn_bad, turn_go, turn_last, turn_stop}
use Rattle.sap_grammar.proofs.Short.{short_fact_nothing, short_fact_shrinks}
use Rattle.sap_grammar.proofs.fact.read_fact_list.Goals as goal

pub returns-then-starts : goal.returns-then-starts
returns-then-starts c =
    let is : short_fact c.args.sig.now c.args.limits c.args.allowed (words_of c.args.bytes.now c.loop-rest.rest.now) ≡ Some (c.in-Ok-Some.fact, words_of c.args.bytes.now c.in-Ok-Some.next.now) = rw c.in-Ok-Some.field-0-is at c.in-Ok-Some.ensures in
    let pushed : c.push.new.self ≡ c.loop-rest.facts ++ (c.in-Ok-Some.fact ∷ []) = grind (arith, common_steps) in
    turn_last _ (short_fact_shrinks c.args.sig.now c.args.limits c.args.allowed) c.args.bytes.now c.loop-rest.rest.now c.loop-rest.facts c.loop-rest.invariant.0 _ c.loop-rest.invariant.1 c.loop-rest.invariant.2 _ _ is _ _ pushed c.beyond.ensures (cc)

pub returns-then-not-starts : goal.returns-then-not-starts
returns-then-not-starts c =
    let is : short_fact c.args.sig.now c.args.limits c.args.allowed (words_of c.args.bytes.now c.loop-rest.rest.now) ≡ Some (c.in-Ok-Some.fact, words_of c.args.bytes.now c.in-Ok-Some.next.now) = rw c.in-Ok-Some.field-0-is at c.in-Ok-Some.ensures in
    turn_bad _ (short_fact_shrinks c.args.sig.now c.args.limits c.args.allowed) c.args.bytes.now c.loop-rest.rest.now c.loop-rest.facts c.loop-rest.invariant.0 _ c.loop-rest.invariant.1 c.loop-rest.invariant.2 _ _ is (cc) (cc)

pub loop-rest-smaller : goal.loop-rest-smaller
loop-rest-smaller c =
    let is : short_fact c.args.sig.now c.args.limits c.args.allowed (words_of c.args.bytes.now c.loop-rest.rest.now) ≡ Some (c.in-Ok-Some.fact, words_of c.args.bytes.now c.in-Ok-Some.next.now) = rw c.in-Ok-Some.field-0-is at c.in-Ok-Some.ensures in
    shorter_still (short_fact_shrinks c.args.sig.now c.args.limits c.args.allowed) _ _ _ _ _ is c.beyond-rest.ensures

pub loop-rest-preserved : goal.loop-rest-preserved
loop-rest-preserved c =
    let is : short_fact c.args.sig.now c.args.limits c.args.allowed (words_of c.args.bytes.now c.loop-rest.rest.now) ≡ Some (c.in-Ok-Some.fact, words_of c.args.bytes.now c.in-Ok-Some.next.now) = rw c.in-Ok-Some.field-0-is at c.in-Ok-Some.ensures in
    let pushed : c.push.new.self ≡ c.loop-rest.facts ++ (c.in-Ok-Some.fact ∷ []) = grind (arith, common_steps) in
    turn_go _ (short_fact_shrinks c.args.sig.now c.args.limits c.args.allowed) c.args.bytes.now c.loop-rest.rest.now c.loop-rest.facts c.loop-rest.invariant.0 _ c.loop-rest.invariant.1 c.loop-rest.invariant.2 _ _ is _ _ pushed c.beyond-rest.ensures (cc) (cc)

pub returns : goal.returns
returns c =
    let none : c.loop-rest.rest.now ≡ [] = grind (arith, common_steps) in
    let stops : short_fact c.args.sig.now c.args.limits c.args.allowed (words_of c.args.bytes.now c.loop-rest.rest.now) ≡ None = rw none (short_fact_nothing c.args.sig.now c.args.limits c.args.allowed) in
    turn_stop _ (short_fact_shrinks c.args.sig.now c.args.limits c.args.allowed) c.args.bytes.now c.loop-rest.rest.now c.loop-rest.facts c.loop-rest.invariant.0 _ c.loop-rest.invariant.1 c.loop-rest.invariant.2 stops
