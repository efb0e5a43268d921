use Rattle.std.proofs.Common.{◌≡◌, subst, sym, refl, Some}
use Rattle.std.specs.Prelude.{slice_get, Contains}
use Rattle.sap_share.specs.code.Keys.{key_eq, key_decides, key_sought}
use Rattle.sap_share.proofs.Keys.{stands_at, none-Contains}
use Rattle.sap_share.proofs.NodeKeys.{key-Contains, unnumbered_new, node_stands}
use Rattle.sap_share.proofs.nodes.Nodes.find.Goals as goal

pub returns-in-Some-get_index_of-clause-found : goal.returns-in-Some-get_index_of-clause-found
returns-in-Some-get_index_of-clause-found c =
    let ks = c.self.inside.keys.keys in
    let i = c.in-Some-get_index_of.k in
    subst (λ ns. slice_get ns i ≡ Some c.args.node.now) c.self.view_is
    (node_stands ks i c.in-Some.name c.args.node.now (stands_at key_eq key_decides ks (key_sought c.in-Some.name c.args.node.now) i c.in-Some-get_index_of.ensures.index))

pub returns-in-None-get_index_of-clause-none : goal.returns-in-None-get_index_of-clause-none
returns-in-None-get_index_of-clause-none c =
    let a = c.self.inside in
    let key = key_sought c.in-Some.name c.args.node.now in
    subst (λ ns. ¬ Contains ns c.args.node.now) c.self.view_is
    (λ there. none-Contains key_eq key_decides a.keys.keys key _ c.in-None-get_index_of.ensures.found refl (key-Contains a.names a.keys.keys c.self.invariant c.in-Some.name c.args.node.now (sym c.in-Some.ensures) there))

pub returns-in-None-clause-none : goal.returns-in-None-clause-none
returns-in-None-clause-none c =
    let a = c.self.inside in
    subst (λ ns. ¬ Contains ns c.args.node.now) c.self.view_is (unnumbered_new a.names a.keys.keys c.self.invariant c.args.node.now (sym c.in-None.ensures))
