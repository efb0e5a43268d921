use Rattle.std.proofs.lemmas.Option.{MatchOption-at_none}
use Rattle.sap_steps.specs.Faults.{IsFirstMissing}
use Rattle.sap_facts.specs.Cited.{AreTaken}
use Rattle.sap_steps.proofs.Tied.{taken-live}
use Rattle.sap_steps.proofs.using.use_rule.Goals as goal

pub fire-requires-clause-live : goal.fire-requires-clause-live
fire-requires-clause-live c =
    taken-live (MatchOption-at_none (AreTaken c.args.facts.now.slots c.args.numbers.now) (IsFirstMissing c.args.facts.now.slots c.args.numbers.now) c.in_default.is c.in_ok-index.ensures)
