use Rattle.sap_judge.proofs.OneReason.{one_reason, reasons_suit, some_reason}
use Rattle.sap_judge.proofs.laws.there_is_a_reason.Goals as goal

pub returns-clause-some : goal.returns-clause-some
returns-clause-some c =
    some_reason (record {
      decide = c.normal_terms_decide.ensures;
      leaves = c.leaves_are_normal.ensures;
      terms = c.checked_terms_are_normal.ensures.terms;
      args = c.checked_terms_are_normal.ensures.args;
      facts = c.checked_terms_are_normal.ensures.facts;
      own = c.binders_are_found.ensures.own;
      other = c.binders_are_found.ensures.other;
      closed = c.binders_are_found.ensures.closed;
      once = c.binders_are_found.ensures.once;
      binders = c.variables_range_over_subterms.ensures.binders;
    })

pub returns-clause-one : goal.returns-clause-one
returns-clause-one c =
    one_reason (record {
      decide = c.normal_terms_decide.ensures;
      leaves = c.leaves_are_normal.ensures;
      terms = c.checked_terms_are_normal.ensures.terms;
      args = c.checked_terms_are_normal.ensures.args;
      facts = c.checked_terms_are_normal.ensures.facts;
      own = c.binders_are_found.ensures.own;
      other = c.binders_are_found.ensures.other;
      closed = c.binders_are_found.ensures.closed;
      once = c.binders_are_found.ensures.once;
      binders = c.variables_range_over_subterms.ensures.binders;
    })

pub returns-clause-suits : goal.returns-clause-suits
returns-clause-suits c =
    reasons_suit (record {
      decide = c.normal_terms_decide.ensures;
      leaves = c.leaves_are_normal.ensures;
      terms = c.checked_terms_are_normal.ensures.terms;
      args = c.checked_terms_are_normal.ensures.args;
      facts = c.checked_terms_are_normal.ensures.facts;
      own = c.binders_are_found.ensures.own;
      other = c.binders_are_found.ensures.other;
      closed = c.binders_are_found.ensures.closed;
      once = c.binders_are_found.ensures.once;
      binders = c.variables_range_over_subterms.ensures.binders;
    })
