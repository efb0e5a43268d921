use Rattle.sap_share.proofs.Rows.{row_form}
use Rattle.sap_share.proofs.table.Table.normal_of.Goals as goal

pub returns-clause-below : goal.returns-clause-below
returns-clause-below c =
    let a = c.self.inside in
    (row_form a.sig a.nodes a.rows.items c.self.invariant c.args.self.now c.self.view_is c.args.id c.index.result.now c.requires c.index.ensures).0

pub returns-clause-form : goal.returns-clause-form
returns-clause-form c =
    let a = c.self.inside in
    (row_form a.sig a.nodes a.rows.items c.self.invariant c.args.self.now c.self.view_is c.args.id c.index.result.now c.requires c.index.ensures).1
