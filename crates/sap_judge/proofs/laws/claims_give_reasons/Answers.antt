use Rattle.sap_judge.proofs.SlimClaims.{claim_law}
use Rattle.sap_judge.proofs.laws.claims_give_reasons.Goals as goal

pub returns : goal.returns
returns c =
    claim_law (record {
      decide = c.normal_terms_decide.ensures;
      leaves = c.leaves_are_normal.ensures;
      terms = c.checked_terms_are_normal.ensures.terms;
      args = c.checked_terms_are_normal.ensures.args;
      facts = c.checked_terms_are_normal.ensures.facts;
      own = c.binders_are_found.ensures.own;
      other = c.binders_are_found.ensures.other;
      closed = c.binders_are_found.ensures.closed;
      once = c.binders_are_found.ensures.once;
      binders = c.variables_range_over_subterms.ensures.binders;
    })
