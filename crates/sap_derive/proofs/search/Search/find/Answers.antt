use Rattle.std.proofs.Common.{◌≡◌, [], ◌∙◌, sym, true, subst}
use Rattle.sap_terms.specs.Deduce.{IsDeducible}
use Rattle.sap_terms.specs.Tree.{Tree}
use Rattle.sap_terms.specs.View.{tree}
use Rattle.sap_share.specs.Shared.{tree_at}
use Rattle.sap_derive.specs.Found.{IsFoundIn}
use Rattle.sap_derive.specs.Searched.{Searched}
use Rattle.sap_derive.specs.code.States.{seen}
use Rattle.sap_derive.proofs.Options.{at-err}
use Rattle.sap_derive.proofs.States.{seen-stays, tree-kept}
use Rattle.sap_derive.proofs.search.Search.find.Goals as goal

pub returns-in_err-n-clause-err : goal.returns-in_err-n-clause-err
returns-in_err-n-clause-err c = at-err _ (seen-stays c.self.inside.state c.put.new.self c.self.invariant c.put.ensures.stays ∙ c.self.view_is)

pub returns-in_err-settle-clause-err : goal.returns-in_err-settle-clause-err
returns-in_err-settle-clause-err c =
    at-err _
    (seen-stays c.put.new.self c.settle.new.self c.put.ensures.state c.settle.ensures.stays ∙ seen-stays c.self.inside.state c.put.new.self c.self.invariant c.put.ensures.stays ∙ c.self.view_is)

pub returns-then-not-is_known-clause-none : goal.returns-then-not-is_known-clause-none
returns-then-not-is_known-clause-none c d =
    let s = c.settle.new.self in
    let n = c.in_ok-n.n in
    let kept : seen s ≡ c.args.self.now =
    seen-stays c.put.new.self s c.put.ensures.state c.settle.ensures.stays ∙ seen-stays c.self.inside.state c.put.new.self c.self.invariant c.put.ensures.stays ∙ c.self.view_is in
    let term : tree_at s.table.trees n ≡ tree c.args.goal.now = tree-kept c.put.new.self.table s.table n c.settle.ensures.stays.table c.in_ok-n.ensures.below ∙ c.in_ok-n.ensures.tree in
    let there = subst (λ (v : Searched). IsDeducible v.sig [] v.entries (tree_at s.table.trees n)) (sym kept) (subst (λ (t : Tree). IsDeducible c.args.self.now.sig [] c.args.self.now.entries t) (sym term) d) in
    let known : c.is_known.result ≡ true = c.is_known.ensures.deducible.1 there in
    let test = c.if-not-is_known.true in
    absurd (cc)

pub returns-then-not-is_known-clause-stays : goal.returns-then-not-is_known-clause-stays
returns-then-not-is_known-clause-stays c =
    seen-stays c.put.new.self c.settle.new.self c.put.ensures.state c.settle.ensures.stays ∙ seen-stays c.self.inside.state c.put.new.self c.self.invariant c.put.ensures.stays ∙ c.self.view_is

pub returns-in_err-found-clause-err : goal.returns-in_err-found-clause-err
returns-in_err-found-clause-err c =
    at-err _
    (c.in_err-found.ensures.err ∙ seen-stays c.put.new.self c.settle.new.self c.put.ensures.state c.settle.ensures.stays ∙ seen-stays c.self.inside.state c.put.new.self c.self.invariant c.put.ensures.stays ∙ c.self.view_is)

pub returns-clause-some : goal.returns-clause-some
returns-clause-some c =
    let s = c.settle.new.self in
    let n = c.in_ok-n.n in
    let kept : seen s ≡ c.args.self.now =
    seen-stays c.put.new.self s c.put.ensures.state c.settle.ensures.stays ∙ seen-stays c.self.inside.state c.put.new.self c.self.invariant c.put.ensures.stays ∙ c.self.view_is in
    let term : tree_at s.table.trees n ≡ tree c.args.goal.now = tree-kept c.put.new.self.table s.table n c.settle.ensures.stays.table c.in_ok-n.ensures.below ∙ c.in_ok-n.ensures.tree in
    let d = c.in_ok-found.found in
    subst (λ (v : Searched). IsFoundIn v (tree c.args.goal.now) d (seen c.write.new.self)) kept
    (subst (λ (t : Tree). IsFoundIn (seen s) t d (seen c.write.new.self)) term c.in_ok-found.ensures.found)
