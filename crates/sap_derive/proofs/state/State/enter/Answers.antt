use Rattle.sap_derive.proofs.States.{state-pushed}
use Rattle.sap_derive.proofs.state.State.enter.Goals as goal

pub returns-clause-state : goal.returns-clause-state
returns-clause-state c =
    let s = c.args.self.now in
    state-pushed c.push.result s.table s.entries c.push.new.self s.terms s.brought s.given s.closure s.openers c.args.n c.requires.state c.requires.listed c.push.ensures.ok c.push.ensures.err
