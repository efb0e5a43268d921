use Rattle.sap_process.specs.Proc.{proc}
use Rattle.sap_templates.proofs.generation.push_init.Goals as goal

pub returns : goal.returns
returns c =
    rw (c.requires.path, c.requires.scope, c.init.ensures c.new-terms.result (proc c.args.p.now)) at c.push_rule.ensures
