use Rattle.std.proofs.Common.{◌≡◌, [], ◌∷◌, ◌++◌, ap, subst, ◌∙◌}
use Rattle.std.specs.Prelude.{Contains}
use Rattle.sap_share.specs.code.Keys.{key_sought}
use Rattle.sap_share.specs.code.Numbered.{nodes_in}
use Rattle.sap_share.proofs.NodeKeys.{nodes_in-push, node-Contains, numbered_push, numbered_kept}
use Rattle.sap_share.proofs.nodes.Nodes.push.Goals as goal

pub put_key-requires-clause-new : goal.put_key-requires-clause-new
put_key-requires-clause-new c there =
    let nodes = ap nodes_in c.ready.ensures.keys ∙ c.self.view_is in
    c.requires (subst (λ ns. Contains ns c.args.node) nodes (node-Contains c.ready.new.keys.keys (key_sought c.in-Ok.name c.args.node) there))

pub invariant_of-self : goal.invariant_of-self
invariant_of-self c =
    let keys = c.self.inside.keys.keys in
    let names = c.ready.new.names in
    let kept = numbered_kept c.self.inside.names names keys c.ready.ensures.keeps c.self.invariant in
    rw (c.put_key.ensures.keys, c.ready.ensures.keys) (numbered_push names keys kept c.in-Ok.name c.args.node c.in-Ok.ensures.number)

pub returns-in-Ok : goal.returns-in-Ok
returns-in-Ok c =
    let keys = c.self.inside.keys.keys in
    let key = key_sought c.in-Ok.name c.args.node in
    let one : c.put_key.new.keys.keys ≡ keys ++ key ∷ [] = c.put_key.ensures.keys ∙ ap (λ ks. ks ++ key ∷ []) c.ready.ensures.keys in
    record { ok = ap nodes_in one ∙ nodes_in-push keys key ∙ ap (λ ns. ns ++ c.args.node ∷ []) c.self.view_is; err = tt }
