use Rattle.sap_derive.proofs.States.{state-grows, stays-then}
use Rattle.sap_derive.proofs.state.State.settle.Goals as goal

pub returns-clause-state : goal.returns-clause-state
returns-clause-state c =
    let t = c.give_all.new.self in
    state-grows t.table t.entries t.terms t.brought t.given t.closure t.openers c.give_all.ensures.state c.close.new.self c.close.ensures.closure c.close.ensures.grows

pub returns-in_err-give_all-clause-stays : goal.returns-in_err-give_all-clause-stays
returns-in_err-give_all-clause-stays c = stays-then c.args.self.now c.bring_all.new.self c.give_all.new.self c.bring_all.ensures.stays c.give_all.ensures.stays

pub returns-clause-stays : goal.returns-clause-stays
returns-clause-stays c =
    let s = stays-then c.args.self.now c.bring_all.new.self c.give_all.new.self c.bring_all.ensures.stays c.give_all.ensures.stays in
    record { table = s.table; entries = s.entries; terms = s.terms }
