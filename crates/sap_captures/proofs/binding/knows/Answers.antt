use Rattle.std.proofs.Common.{ap, ◌∙◌, is_some}
use Rattle.sap_captures.proofs.BoundNodes.{copied_is, named_known}
use Rattle.sap_captures.proofs.binding.knows.Goals as goal

pub returns : goal.returns
returns c =
    c.is_some.ensures ∙ copied_is c.named.result ∙ ap is_some c.named.ensures ∙ named_known c.args.scope.now c.args.name.now
