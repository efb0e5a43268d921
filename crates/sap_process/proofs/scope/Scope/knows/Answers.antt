use Rattle.std.proofs.Common.{List, ap, ◌∙◌, is_some}
use Rattle.sap_terms.specs.declared.var.Var.{Var}
use Rattle.sap_terms.specs.Variables.{is_known}
use Rattle.sap_process.specs.Sites.{var_names}
use Rattle.sap_process.proofs.Scoping.{binder-known, copied-is}
use Rattle.sap_process.proofs.scope.Scope.knows.Goals as goal

pub returns : goal.returns
returns c =
    c.is_some.ensures ∙ copied-is c.named.result ∙ ap is_some c.named.ensures ∙ binder-known c.self.inside.vars c.args.name.now
    ∙ ap (λ (vs : List Var). is_known (var_names vs) c.args.name.now) c.self.view_is
