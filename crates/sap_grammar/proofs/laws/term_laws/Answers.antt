use Rattle.sap_grammar.proofs.laws.term_laws.Goals as goal

pub returns-clause-read : goal.returns-clause-read
returns-clause-read c =
    let terms = c.terms_are_read.ensures in
    let facts = c.facts_are_read.ensures in
    record {
      term_is = terms.sound;
      term_read = terms.complete;
      fact_is = facts.sound;
      fact_read = facts.complete;
      facts_are = facts.lists_sound;
      facts_read = facts.lists_complete;
    }

pub returns-clause-spelled : goal.returns-clause-spelled
returns-clause-spelled c =
    let same = c.same_grammar.ensures in
    record { term_too = same.short_terms; fact_too = same.short_facts; facts_too = same.lists }
