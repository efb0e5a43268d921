use Rattle.std.proofs.Common.{◌∙◌, ap, ◌++◌, ◌∷◌, []}
use Rattle.std.specs.Prelude.{if◌then◌else◌}
use Rattle.sap_judge.proofs.laying.note.Goals as goal

pub returns : goal.returns
returns c =
    let ks = c.args.seen.now in
    c.in_ok-insert.ensures.ok ∙ ap (λ t. if t then ks else ks ++ c.args.n.now ∷ []) c.requires
