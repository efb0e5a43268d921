use Rattle.std.proofs.Common.{◌∙◌, ap, not, ◌++◌, ◌∷◌, []}
use Rattle.std.specs.Prelude.{if◌then◌else◌}
use Rattle.sap_rule.proofs.Known.{any_known}
use Rattle.sap_rule.proofs.variables.note.Goals as goal

pub returns-clause-new : goal.returns-clause-new
returns-clause-new c = c.in_ok-new.ensures.new ∙ ap not (any_known c.args.known.now c.args.name.now)

pub returns-clause-keys : goal.returns-clause-keys
returns-clause-keys c =
    let ks = c.args.known.now in
    c.in_ok-new.ensures.ok ∙ ap (λ t. if t then ks else ks ++ c.args.name.now ∷ []) (any_known ks c.args.name.now)
