use Rattle.std.proofs.Common.{refl}
use Rattle.sap_share.specs.Shared.{given}
use Rattle.sap_share.proofs.Came.{came_alone, if_both, at_most_two}
use Rattle.sap_share.proofs.table.Table.intern.Goals as goal

pub returns-in-Some-clause-came : goal.returns-in-Some-clause-came
returns-in-Some-clause-came c = given c.in-Some.ensures.found.0 refl

pub returns-in-Ok-Old-clause-came : goal.returns-in-Ok-Old-clause-came
returns-in-Ok-Old-clause-came c = if_both c.add.result (λ k last is. came_alone c.args.self.now c.add.new.self _ k last is) c.add.ensures.number c.add.ensures.ok

pub returns-in-Ok-Itself-clause-few : goal.returns-in-Ok-Itself-clause-few
returns-in-Ok-Itself-clause-few c = at_most_two c.args.self.now c.add_own.new.self c.add_own.result c.add_own.ensures.came c.add_own.ensures.err

pub returns-in-Ok-Old-clause-few : goal.returns-in-Ok-Old-clause-few
returns-in-Ok-Old-clause-few c =
    at_most_two c.args.self.now c.add.new.self c.add.result (if_both c.add.result (λ k last is. came_alone c.args.self.now c.add.new.self _ k last is) c.add.ensures.number c.add.ensures.ok) c.add.ensures.err

pub returns-in-Ok-Like-clause-few : goal.returns-in-Ok-Like-clause-few
returns-in-Ok-Like-clause-few c = at_most_two c.args.self.now c.add_like.new.self c.add_like.result c.add_like.ensures.came c.add_like.ensures.err
