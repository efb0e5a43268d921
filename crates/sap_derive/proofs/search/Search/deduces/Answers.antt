use Rattle.std.proofs.Common.{◌≡◌, [], ◌∙◌, subst, IsTrue}
use Rattle.sap_terms.specs.Deduce.{IsDeducible}
use Rattle.sap_terms.specs.Tree.{Tree}
use Rattle.sap_terms.specs.View.{tree}
use Rattle.sap_share.specs.Shared.{tree_at}
use Rattle.sap_derive.specs.Searched.{Searched}
use Rattle.sap_derive.specs.code.States.{seen}
use Rattle.sap_derive.proofs.States.{seen-stays, tree-kept}
use Rattle.sap_derive.proofs.search.Search.deduces.Goals as goal

pub returns-in_err-n-clause-kept : goal.returns-in_err-n-clause-kept
returns-in_err-n-clause-kept c = seen-stays c.self.inside.state c.put.new.self c.self.invariant c.put.ensures.stays ∙ c.self.view_is

pub returns-in_err-settle-clause-kept : goal.returns-in_err-settle-clause-kept
returns-in_err-settle-clause-kept c =
    seen-stays c.put.new.self c.settle.new.self c.put.ensures.state c.settle.ensures.stays ∙ seen-stays c.self.inside.state c.put.new.self c.self.invariant c.put.ensures.stays ∙ c.self.view_is

pub returns-clause-kept : goal.returns-clause-kept
returns-clause-kept c =
    seen-stays c.put.new.self c.settle.new.self c.put.ensures.state c.settle.ensures.stays ∙ seen-stays c.self.inside.state c.put.new.self c.self.invariant c.put.ensures.stays ∙ c.self.view_is

pub returns-clause-answer : goal.returns-clause-answer
returns-clause-answer c =
    let s = c.settle.new.self in
    let n = c.in_ok-n.n in
    let kept : seen s ≡ c.args.self.now =
    seen-stays c.put.new.self s c.put.ensures.state c.settle.ensures.stays ∙ seen-stays c.self.inside.state c.put.new.self c.self.invariant c.put.ensures.stays ∙ c.self.view_is in
    let term : tree_at s.table.trees n ≡ tree c.args.goal.now = tree-kept c.put.new.self.table s.table n c.settle.ensures.stays.table c.in_ok-n.ensures.below ∙ c.in_ok-n.ensures.tree in
    subst (λ (t : Tree). (IsTrue c.is_known.result → IsDeducible c.args.self.now.sig [] c.args.self.now.entries t) × (IsDeducible c.args.self.now.sig [] c.args.self.now.entries t → IsTrue c.is_known.result)) term
    (subst (λ (v : Searched). (IsTrue c.is_known.result → IsDeducible v.sig [] v.entries (tree_at s.table.trees n)) × (IsDeducible v.sig [] v.entries (tree_at s.table.trees n) → IsTrue c.is_known.result)) kept c.is_known.ensures.deducible)
