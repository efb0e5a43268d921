use Rattle.sap_macro.specs.Sources.{definitions, written}
use Rattle.sap_macro.proofs.Endings.{comes_less, comes_same, last_formed}
use Rattle.sap_macro.proofs.ends.form_of.Goals as goal

pub returns-clause-same : goal.returns-clause-same
returns-clause-same c = comes_same (definitions c.args.defs.now) (written c.args.source.now) (written c.end_of.result.now) c.requires.order c.end_of.ensures.comes

pub returns-clause-steps : goal.returns-clause-steps
returns-clause-steps c = comes_less (definitions c.args.defs.now) (written c.args.source.now) (written c.end_of.result.now) c.requires.order c.end_of.ensures.comes

pub returns-clause-formed : goal.returns-clause-formed
returns-clause-formed c = last_formed (definitions c.args.defs.now) (written c.end_of.result.now) c.requires.order c.end_of.ensures.last
