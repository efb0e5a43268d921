use Rattle.std.proofs.Common.{subst, sym}
use Rattle.sap_rewrite.specs.Match.{HaveOneSort}
use Rattle.sap_rule.proofs.well_made.is_well_shaped.Goals as goal

pub returns : goal.returns
returns c = (
  λ h. record {
    left = c.are_left_facts.ensures.0 c.if-not-are_left_facts.false;
    acts = c.are_act_facts.ensures.0 c.if-not-are_act_facts.false;
    right = c.are_right_facts.ensures.0 c.if-not-are_right_facts.false;
    sorts = subst HaveOneSort c.in_ok-all.ensures (c.in_ok-one_sort.ensures.0 h);
  },
  λ m. c.in_ok-one_sort.ensures.1 (subst HaveOneSort (sym c.in_ok-all.ensures) m.sorts),
)
