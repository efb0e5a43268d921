use Rattle.sap_where.proofs.OtherNowhere.{declared_first_is, declared_nowhere, declared_somewhere, no_clash}
use Rattle.sap_where.proofs.first_declared.declared_first.Goals as goal

pub returns-in-Some-clause-first : goal.returns-in-Some-clause-first
returns-in-Some-clause-first c = declared_first_is c.args.bytes.now c.args.tokens.now c.args.name.now c.in-Some.k (rw c.in-Some.is at c.in_ok-k.ensures) c.first_before.result c.first_before.ensures

pub returns-in-Some-clause-none : goal.returns-in-Some-clause-none
returns-in-Some-clause-none c = declared_nowhere c.args.bytes.now c.args.tokens.now c.args.name.now c.in-Some.k (rw c.in-Some.is at c.in_ok-k.ensures) c.first_before.result c.first_before.ensures

pub returns-in-Some-clause-declared : goal.returns-in-Some-clause-declared
returns-in-Some-clause-declared c = declared_somewhere c.args.bytes.now c.args.tokens.now c.args.name.now c.in-Some.k (rw c.in-Some.is at c.in_ok-k.ensures) c.first_before.result c.first_before.ensures

pub returns-in-None-clause-none : goal.returns-in-None-clause-none
returns-in-None-clause-none c = λ e. no_clash c.args.bytes.now c.args.tokens.now c.args.name.now (rw c.in-None.is at c.in_ok-k.ensures)
