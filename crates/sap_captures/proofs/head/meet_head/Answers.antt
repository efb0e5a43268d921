use Rattle.std.proofs.Common.{◌≡◌, ◌↔◌, ◌∙◌, ℕ, List, ap, subst, sym}
use Rattle.std.proofs.lemmas.Result.{on_ok_weaker}
use Rattle.std.specs.Option.{option_to_list}
use Rattle.std.specs.Prelude.{Contains}
use Rattle.sap_process.specs.Places.{place}
use Rattle.sap_process.specs.Proc.{Proc, proc}
use Rattle.sap_process.specs.Sites.{Site, above_of}
use Rattle.sap_captures.specs.Patterns.{IsNodeOfKind}
use Rattle.sap_captures.specs.code.Heads.{bound_head, compared_at}
use Rattle.sap_captures.specs.declared.binding.Binding.{Binding}
use Rattle.sap_captures.specs.declared.kind.Kind.{Kind}
use Rattle.sap_captures.specs.declared.kind.Kind.TheVariants.{Captured, Compared}
use Rattle.sap_captures.proofs.BindingNodes.{captured_nodes, compared_nodes, scope_is}
use Rattle.sap_captures.proofs.head.meet_head.Goals as goal

-- the same nodes, the same kind
of_kind : (k v : Kind) (s : Site) (ns ms : List ℕ) → k ≡ v → ns ≡ ms → ((n : ℕ) → Contains ms n ↔ IsNodeOfKind v s n) → (n : ℕ) → Contains ns n ↔ IsNodeOfKind k s n
of_kind k v s ns ms e h told n =
    subst (λ (w : Kind). Contains ns n ↔ IsNodeOfKind w s n) (sym e) (subst (λ (js : List ℕ). Contains js n ↔ IsNodeOfKind v s n) (sym h) (told n))

pub returns-in-Captured-clause-scope : goal.returns-in-Captured-clause-scope
returns-in-Captured-clause-scope c =
    on_ok_weaker c.bind_head.result (λ e. ap (λ (b : Binding). b.scope) e ∙ scope_is c.args.binding.now (proc c.args.p.now)) c.bind_head.ensures

pub returns-in-Captured-clause-nodes : goal.returns-in-Captured-clause-nodes
returns-in-Captured-clause-nodes c =
    let b : Binding = c.args.binding.now in
    let p : Proc = proc c.args.p.now in
    on_ok_weaker c.bind_head.result
    (λ e path locks k. of_kind c.args.kind Captured (place path (above_of b.scope locks) p) c.bind_head.new.binding.nodes (bound_head b p).nodes c.in-Captured.is (ap (λ (x : Binding). x.nodes) e) (captured_nodes path locks b p) k)
    c.bind_head.ensures

pub returns-in-Compared-clause-scope : goal.returns-in-Compared-clause-scope
returns-in-Compared-clause-scope c =
    on_ok_weaker c.compare_head.result (λ e. e ∙ scope_is c.args.binding.now (proc c.args.p.now)) c.compare_head.ensures.scope

pub returns-in-Compared-clause-nodes : goal.returns-in-Compared-clause-nodes
returns-in-Compared-clause-nodes c =
    let b : Binding = c.args.binding.now in
    let p : Proc = proc c.args.p.now in
    on_ok_weaker c.compare_head.result
    (λ e path locks k. of_kind c.args.kind Compared (place path (above_of b.scope locks) p) c.compare_head.new.binding.nodes (option_to_list (compared_at b.scope p)) c.in-Compared.is e (compared_nodes path locks b p) k)
    c.compare_head.ensures.nodes
