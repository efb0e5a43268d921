use Rattle.std.proofs.Common.{Some, inr, refl}
use Rattle.sap_terms.specs.View.{tree}
use Rattle.sap_share.specs.Shared.{tree_at}
use Rattle.sap_heads.specs.code.Matches.{IsMatched}
use Rattle.sap_heads.proofs.Patterns.{number_message, untaken, taken_is}
use Rattle.sap_heads.proofs.Stays.{small_bound}
use Rattle.sap_heads.proofs.taking.fitted.Goals as goal

pub match_of-requires-clause-env : goal.match_of-requires-clause-env
match_of-requires-clause-env c = small_bound c.args.table.now c.args.env.now c.requires.env

pub returns-in-Ok-None-clause-refused : goal.returns-in-Ok-None-clause-refused
returns-in-Ok-None-clause-refused c = inr (refl, untaken c.args.table.now c.args.env.now c.requires.env c.each_is_ground.ensures (tree c.args.pattern.now) c.requires.sorts c.matching_is_modulo.ensures c.patterns_stay.ensures c.requires.plain (tree_at c.args.table.now.trees c.args.e) c.requires.number.normal (rw c.in-Ok-None.field-0-is at c.in-Ok-None.ensures))

pub returns-in-Ok-Some-clause-ok : goal.returns-in-Ok-Some-clause-ok
returns-in-Ok-Some-clause-ok c =
    let found : IsMatched c.args.table.now.trees c.args.env.now (tree c.args.pattern.now) (tree_at c.args.table.now.trees c.args.e) (Some c.in-Ok-Some.new) = rw c.in-Ok-Some.field-0-is at c.in-Ok-Some.ensures in
    taken_is c.args.table.now c.args.env.now c.requires.env c.each_is_ground.ensures (tree c.args.pattern.now) c.requires.sorts c.variables_named_once_stay_so.ensures c.bindings_give_choices.ensures c.instances_of_processes.ensures.twice (tree_at c.args.table.now.trees c.args.e) (number_message c.args.table.now c.each_is_ground.ensures c.each_is_over.ensures c.args.e c.requires.number) c.in-Ok-Some.new found.1 found.0
