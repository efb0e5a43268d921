use Rattle.sap_facts.specs.Facts.{slots_without}
use Rattle.std.proofs.lemmas.Option.{MatchOption-at_some}
use Rattle.sap_steps.proofs.Left.{take_one}
use Rattle.sap_steps.proofs.Tied.{tied_knows, tied_without, knows_more}
use Rattle.sap_steps.proofs.state.RuleState.own.Goals as goal

pub invariant_of-self-2 : goal.invariant_of-self-2
invariant_of-self-2 c =
    let knows = tied_knows c.self.inside.rules c.self.inside.facts c.know_name.new.self c.self.inside.knowledge _ _ _ c.self.invariant c.in_ok-know_name.ensures.ok c.know_name.ensures.slots c.know_name.ensures.numbered in
    tied_without c.self.inside.rules c.know_name.new.self _ _ _ knows c.remove.ensures.sig c.remove.ensures.trees c.remove.ensures.slots

pub returns-clause-ok : goal.returns-clause-ok
returns-clause-ok c = rw (← c.self.view_is, c.remove.ensures.slots, c.know_name.ensures.slots) (
  c.in-Some.n,
  record {
    rest = slots_without c.self.inside.facts.slots c.args.k;
    takes = take_one _ _ _ (MatchOption-at_some _ _ c.in-Some.n c.in-Some.is c.name_made.ensures);
    silent = c.new.ensures;
    becomes = knows_more _ _ _ _ _ _ c.in_ok-know_name.ensures.ok;
  },
)
