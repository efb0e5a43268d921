use Rattle.std.proofs.Common.{◌∙◌, ap, is_some}
use Rattle.sap_judge.proofs.Marks.{copied-is, found-bound}
use Rattle.sap_judge.proofs.laying.binds.Goals as goal

pub returns : goal.returns
returns c = c.is_some.ensures ∙ copied-is c.named.result ∙ ap is_some c.named.ensures ∙ found-bound c.args.bs.now c.args.n.now
