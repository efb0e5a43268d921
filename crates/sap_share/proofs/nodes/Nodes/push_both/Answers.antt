use Rattle.std.proofs.Common.{◌≡◌, [], ◌∷◌, ◌++◌, ap, subst, ◌∙◌}
use Rattle.std.specs.Prelude.{Contains}
use Rattle.sap_share.specs.code.Keys.{key_sought}
use Rattle.sap_share.specs.code.Numbered.{nodes_in}
use Rattle.sap_share.proofs.NodeKeys.{nodes_in-push, node-Contains, numbered_push, numbered_kept}
use Rattle.sap_share.proofs.nodes.Nodes.push_both.Goals as goal

pub put_key-requires-in-Ok-clause-new : goal.put_key-requires-in-Ok-clause-new
put_key-requires-in-Ok-clause-new c there =
    let keys = c.self.inside.keys.keys in
    let first = key_sought c.in-Ok.name c.args.first in
    let second = key_sought c.in-Ok.other c.args.second in
    let one : c.put_key.new.keys.keys ≡ keys ++ first ∷ [] = c.put_key.ensures.keys ∙ ap (λ ks. ks ++ first ∷ []) c.ready_both.ensures.keys in
    let nodes = ap nodes_in one ∙ nodes_in-push keys first ∙ ap (λ ns. ns ++ c.args.first ∷ []) c.self.view_is in
    c.requires.second (subst (λ ns. Contains ns c.args.second) nodes (node-Contains c.put_key.new.keys.keys second there))

pub invariant_of-self : goal.invariant_of-self
invariant_of-self c =
    let keys = c.self.inside.keys.keys in
    let names = c.ready_both.new.names in
    let first = key_sought c.in-Ok.name c.args.first in
    let kept = numbered_kept c.self.inside.names names keys c.ready_both.ensures.keeps c.self.invariant in
    let one = numbered_push names keys kept c.in-Ok.name c.args.first c.in-Ok.ensures.first in
    rw (c.put_key-in-Ok.ensures.keys, c.put_key.ensures.keys, c.ready_both.ensures.keys)
    (numbered_push names (keys ++ first ∷ []) one c.in-Ok.other c.args.second c.in-Ok.ensures.second)

pub returns-in-Ok : goal.returns-in-Ok
returns-in-Ok c =
    let keys = c.self.inside.keys.keys in
    let first = key_sought c.in-Ok.name c.args.first in
    let second = key_sought c.in-Ok.other c.args.second in
    let one : c.put_key.new.keys.keys ≡ keys ++ first ∷ [] = c.put_key.ensures.keys ∙ ap (λ ks. ks ++ first ∷ []) c.ready_both.ensures.keys in
    let both : c.put_key-in-Ok.new.keys.keys ≡ c.put_key.new.keys.keys ++ second ∷ [] = c.put_key-in-Ok.ensures.keys in
    let nodes = ap nodes_in one ∙ nodes_in-push keys first ∙ ap (λ ns. ns ++ c.args.first ∷ []) c.self.view_is in
    record { ok = ap nodes_in both ∙ nodes_in-push c.put_key.new.keys.keys second ∙ ap (λ ns. ns ++ c.args.second ∷ []) nodes; err = tt }
