use Rattle.std.proofs.Common.{subst}
use Rattle.sap_node_words.specs.Past.{IsPast}
use Rattle.sap_head_words.proofs.facts.fact_word.Goals as goal

pub returns : goal.returns
returns c = λ g ns h.
    c.found.ensures c.args.bytes.now ns c.args.node h.behind
    (subst (λ z. IsPast c.args.bytes.now z c.args.node h.behind c.past_fact.result) h.numbers (c.past_fact.ensures g h.behind h.spelled))
