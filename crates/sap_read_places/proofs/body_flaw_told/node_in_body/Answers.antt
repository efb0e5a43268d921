use Rattle.std.proofs.Common.{Option, sym, subst, take}
use Rattle.sap_process.specs.Sites.{sites_in}
use Rattle.sap_macro.specs.Expansion.{plain}
use Rattle.sap_macro.specs.Seen.{seen}
use Rattle.sap_macro.specs.Sources.{definition_of, definitions}
use Rattle.sap_uses.specs.ScopeFlaws.{params_in_scope}
use Rattle.sap_nodes.specs.FlawNodes.{IsTold}
use Rattle.std.proofs.Common.{ℕ}
use Rattle.sap_read_places.proofs.BodyFlawTold.{node_told}
use Rattle.sap_read_places.proofs.body_flaw_told.node_in_body.Goals as goal

pub returns-in_ok-spoken-in_default : goal.returns-in_ok-spoken-in_default
returns-in_ok-spoken-in_default c = λ k s stands is.
    let scope = params_in_scope (definition_of c.args.d.now) in
    let body = seen (plain (definitions c.args.defs.now) (definition_of c.args.d.now).body) in
    let before = take k (sites_in scope body) in
    subst (λ (r : Option ℕ). IsTold c.args.sig.now before s c.args.which r) (sym c.node_of.ensures)
    (node_told c.args.sig.now scope body before s c.args.which c.in_ok-spoken-in_default.spoken c.in_default.not-ScopeFull (c.in_ok-spoken-in_default.ensures k s stands is))
