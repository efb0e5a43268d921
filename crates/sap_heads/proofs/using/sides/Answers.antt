use Rattle.std.proofs.Common.{ap, Err}
use Rattle.sap_share.specs.Env.{given}
use Rattle.sap_heads.proofs.FormedSides.{facts_ground, facts_over, side_small, side_large, side_fine}
use Rattle.sap_heads.proofs.using.sides.Goals as goal

pub form_sides-requires-clause-ground_acts : goal.form_sides-requires-clause-ground_acts
form_sides-requires-clause-ground_acts c = facts_ground c.args.table.now c.args.env.now c.args.e.now c.requires.acts

pub form_sides-requires-clause-ground_right : goal.form_sides-requires-clause-ground_right
form_sides-requires-clause-ground_right c = facts_ground c.args.table.now c.args.env.now c.args.r.now c.requires.right

pub form_sides-requires-clause-over_acts : goal.form_sides-requires-clause-over_acts
form_sides-requires-clause-over_acts c = facts_over c.args.table.now c.args.env.now c.args.e.now c.requires.acts

pub form_sides-requires-clause-over_right : goal.form_sides-requires-clause-over_right
form_sides-requires-clause-over_right c = facts_over c.args.table.now c.args.env.now c.args.r.now c.requires.right

pub returns-in-Err-Large-clause-refused : goal.returns-in-Err-Large-clause-refused
returns-in-Err-Large-clause-refused c = side_large c.args.table.now.sig (given c.args.table.now.trees c.args.env.now) c.args.e.now c.args.r.now (c.in-Err-Large.ensures.large (ap Err c.in-Err-Large.field-0-is))

pub returns-in-Ok-clause-acts : goal.returns-in-Ok-clause-acts
returns-in-Ok-clause-acts c = record {
  forms = c.in-Ok.ensures.sides.acts_forms;
  small = side_small c.args.table.now.sig (given c.args.table.now.trees c.args.env.now) c.args.e.now c.in-Ok.ensures.sides.within_acts;
}

pub returns-in-Ok-clause-right : goal.returns-in-Ok-clause-right
returns-in-Ok-clause-right c = record {
  forms = c.in-Ok.ensures.sides.right_forms;
  small = side_small c.args.table.now.sig (given c.args.table.now.trees c.args.env.now) c.args.r.now c.in-Ok.ensures.sides.within_right;
}

pub returns-in-Ok-clause-fine : goal.returns-in-Ok-clause-fine
returns-in-Ok-clause-fine c =
    let s = c.args.table.now in
    let u = c.form_sides.new.table in
    side_fine s u c.form_sides.ensures.keeps c.each_is_ground.ensures c.each_is_over.ensures (given s.trees c.args.env.now) c.args.r.now c.in-Ok.sides.right.items c.in-Ok.ensures.sides.below c.in-Ok.ensures.sides.right_forms c.in-Ok.ensures.sides.within_right
