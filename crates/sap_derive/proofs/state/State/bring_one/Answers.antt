use Rattle.sap_derive.proofs.States.{state-listed, state-added}
use Rattle.sap_derive.proofs.state.State.bring_one.Goals as goal

pub list_parts-requires : goal.list_parts-requires
list_parts-requires c = c.requires.state.terms_are c.requires.listed.0 c.args.n c.requires.listed.1

pub returns-in_err-list_parts-clause-state : goal.returns-in_err-list_parts-clause-state
returns-in_err-list_parts-clause-state c =
    let s = c.args.self.now in
    state-listed s.table s.entries s.terms s.brought s.given s.closure s.openers c.requires.state c.list_parts.new.terms c.list_parts.ensures.places c.list_parts.ensures.only

pub bring-requires-clause-number : goal.bring-requires-clause-number
bring-requires-clause-number c = (c.requires.state.terms_are c.requires.listed.0 c.args.n c.requires.listed.1).below

pub returns-clause-state : goal.returns-clause-state
returns-clause-state c =
    let s = c.args.self.now in
    let listed = state-listed s.table s.entries s.terms s.brought s.given s.closure s.openers c.requires.state c.list_parts.new.terms c.list_parts.ensures.places c.list_parts.ensures.only in
    state-added s.table s.entries c.list_parts.new.terms s.brought s.given s.closure s.openers listed c.bring.new.closure c.bring.ensures.closure c.bring.ensures.numbered c.bring.ensures.adds
