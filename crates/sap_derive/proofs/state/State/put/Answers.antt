use Rattle.std.proofs.Common.{ℕ, inl, inr, sym, ap, subst, arith}
use Rattle.sap_terms.specs.Tree.{Tree, node_count}
use Rattle.sap_terms.specs.Equations.{equations}
use Rattle.sap_terms.specs.Normal.{IsNormal}
use Rattle.sap_terms.specs.Signature.{Sig}
use Rattle.sap_terms.specs.View.{tree}
use Rattle.sap_derive.specs.code.States.{IsTerm}
use Rattle.sap_derive.proofs.States.{state-grown, state-listed}
use Rattle.sap_derive.proofs.state.State.put.Goals as goal

pub returns-in_err-n-clause-state : goal.returns-in_err-n-clause-state
returns-in_err-n-clause-state c =
    let s = c.args.self.now in
    state-grown s.table s.entries s.terms s.brought s.given s.closure s.openers c.requires.state c.put.new.self c.put.ensures.keeps

pub returns-in_err-list-clause-state : goal.returns-in_err-list-clause-state
returns-in_err-list-clause-state c =
    let s = c.args.self.now in
    let table = c.put.new.self in
    let grown = state-grown s.table s.entries s.terms s.brought s.given s.closure s.openers c.requires.state table c.put.ensures.keeps in
    let gives = c.in_ok-n.ensures.gives in
    let term : IsTerm table.sig table.trees c.in_ok-n.n = record {
      below = gives.below;
      normal = subst (λ (t : Tree). IsNormal (equations table.sig) t) (sym gives.tree) (subst (λ (g : Sig). IsNormal (equations g) (tree c.args.t.now)) (sym c.put.ensures.keeps.sig) c.requires.message.normal);
      within = (let q = ap node_count gives.tree in let w = c.requires.within in omega arith);
    } in
    state-listed table s.entries s.terms s.brought s.given s.closure s.openers grown c.list.new.items c.list.ensures.places
    (λ m l. elim (c.list.ensures.only m l) [ inl x ↦ inl x | inr x ↦ inr (subst (λ (i : ℕ). IsTerm table.sig table.trees i) (sym x) term) ])

pub returns-clause-state : goal.returns-clause-state
returns-clause-state c =
    let s = c.args.self.now in
    let table = c.put.new.self in
    let grown = state-grown s.table s.entries s.terms s.brought s.given s.closure s.openers c.requires.state table c.put.ensures.keeps in
    let gives = c.in_ok-n.ensures.gives in
    let term : IsTerm table.sig table.trees c.in_ok-n.n = record {
      below = gives.below;
      normal = subst (λ (t : Tree). IsNormal (equations table.sig) t) (sym gives.tree) (subst (λ (g : Sig). IsNormal (equations g) (tree c.args.t.now)) (sym c.put.ensures.keeps.sig) c.requires.message.normal);
      within = (let q = ap node_count gives.tree in let w = c.requires.within in omega arith);
    } in
    state-listed table s.entries s.terms s.brought s.given s.closure s.openers grown c.list.new.items c.list.ensures.places
    (λ m l. elim (c.list.ensures.only m l) [ inl x ↦ inl x | inr x ↦ inr (subst (λ (i : ℕ). IsTerm table.sig table.trees i) (sym x) term) ])
