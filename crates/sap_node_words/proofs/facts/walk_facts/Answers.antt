use Rattle.std.proofs.Common.{rules, ◌≡◌, ◌<◌, length, Err, Ok, ◌∙◌, arith}
use Rattle.sap_grammar.specs.Words.{words_of}
use Rattle.sap_node_words.specs.code.Walk.{past_word, fact_walk}
use Rattle.sap_node_words.proofs.FactSteps.{facts_are, facts_found, facts_go_on}
use Rattle.sap_node_words.proofs.facts.walk_facts.Goals as goal

pub returns-in_err-next : goal.returns-in_err-next
returns-in_err-next c =
    let some : 0 < length c.args.facts.now = omega (arith, c.len.ensures, c.if-len-eq0.false) in
    let walked : past_word (fact_walk c.at.result.now.args c.loop-k.before (words_of c.args.bytes.now c.loop-k.tokens.now)) ≡ Err c.in_err-next.field-0.0 =
    rw c.in_err-next.was at (c.past_word.ensures c.args.bytes.now (fact_walk c.at.result.now.args c.loop-k.before (words_of c.args.bytes.now c.loop-k.tokens.now)) c.walk_fact.ensures) in
    rw (facts_are c.args.facts.now c.args.before (words_of c.args.bytes.now c.args.tokens.now) some ∙ (c.loop-k.invariant ∙ facts_found c.args.facts.now c.loop-k.k c.loop-k.before c.in_err-next.field-0.0 (words_of c.args.bytes.now c.loop-k.tokens.now) c.at.result.now c.at.ensures walked)) (search rules)

pub loop-k-preserved : goal.loop-k-preserved
loop-k-preserved c =
    let walked : past_word (fact_walk c.at.result.now.args c.loop-k.before (words_of c.args.bytes.now c.loop-k.tokens.now)) ≡ Ok (c.in_ok-next.next, words_of c.args.bytes.now c.in_ok-next.behind.now) =
    rw c.in_ok-next.was at (c.past_word.ensures c.args.bytes.now (fact_walk c.at.result.now.args c.loop-k.before (words_of c.args.bytes.now c.loop-k.tokens.now)) c.walk_fact.ensures) in
    c.loop-k.invariant ∙ facts_go_on c.args.facts.now c.loop-k.k c.loop-k.before c.in_ok-next.next (words_of c.args.bytes.now c.loop-k.tokens.now) (words_of c.args.bytes.now c.in_ok-next.behind.now) c.at.result.now c.at.ensures walked
