use Rattle.std.proofs.Common.{length, sym, ◌∙◌}
use Rattle.sap_share.proofs.Fitting.{found_below, fit_found, fit_unfit, fit_new}
use Rattle.sap_share.proofs.table.Table.fit_variable.Goals as goal

pub same-requires-clause-i_below : goal.same-requires-clause-i_below
same-requires-clause-i_below c = found_below (length c.args.self.now.trees) c.args.env.now c.args.v.now.name c.in-Some.k c.requires.env c.in-Some.ensures

pub returns-then-not-may_stand-clause-not : goal.returns-then-not-may_stand-clause-not
returns-then-not-may_stand-clause-not c = λ _. fit_unfit c.args.self.now.trees c.args.env.now c.args.v.now c.args.id c.in-None.ensures (sym c.may_stand.ensures ∙ c.if-not-may_stand.true)

pub returns-in-Some-clause-yes : goal.returns-in-Some-clause-yes
returns-in-Some-clause-yes c = (fit_found c.args.self.now.trees c.args.env.now c.args.v.now c.in-Some.k c.args.id c.same.result c.in-Some.ensures c.same.ensures).0

pub returns-in-Some-clause-not : goal.returns-in-Some-clause-not
returns-in-Some-clause-not c = (fit_found c.args.self.now.trees c.args.env.now c.args.v.now c.in-Some.k c.args.id c.same.result c.in-Some.ensures c.same.ensures).1

pub returns-in_ok-push-in-None-clause-yes : goal.returns-in_ok-push-in-None-clause-yes
returns-in_ok-push-in-None-clause-yes c = λ _.
    fit_new c.args.self.now.trees c.args.env.now c.push.new.self c.args.v.now c.in_ok-var-in-None.var c.args.id c.in-None.ensures (sym c.may_stand.ensures ∙ c.if-not-may_stand.false) c.in_ok-var-in-None.ensures c.in_ok-push-in-None.ensures.ok
