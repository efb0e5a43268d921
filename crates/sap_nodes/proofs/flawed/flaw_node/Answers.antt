use Rattle.std.proofs.Common.{◌≡◌, ℕ, Some, subst, sym, ap, ◌∙◌}
use Rattle.std.specs.Prelude.{slice_get, take}
use Rattle.std.proofs.lemmas.Result.{IfOk-weaker}
use Rattle.sap_process.specs.Proc.{proc}
use Rattle.sap_process.specs.Sites.{Site, above_of, sites_in}
use Rattle.sap_process.specs.declared.flaw.Flaw.{Flaw}
use Rattle.sap_nodes.specs.FullScope.{IsFillingTold}
use Rattle.sap_nodes.specs.SpokenOf.{of_itself, IsSpoken}
use Rattle.sap_nodes.proofs.flawed.flaw_node.Goals as goal

pub returns-in-BadFunction : goal.returns-in-BadFunction
returns-in-BadFunction c = λ k s e d b u.
    subst (λ (w : Flaw). IsSpoken c.args.sig.now c.args.outer.now (proc c.args.whole.now) (take k (sites_in c.args.outer.now (proc c.args.whole.now))) s w c.of_itself.result)
    (sym c.in-BadFunction.is) ((c.word_node.result, c.word_node.ensures _ s b, c.of_itself.ensures ∙ ap (λ v. of_itself v c.word_node.result) (sym d)))

pub returns-in-ReservedVar : goal.returns-in-ReservedVar
returns-in-ReservedVar c = λ k s e d b u.
    subst (λ (w : Flaw). IsSpoken c.args.sig.now c.args.outer.now (proc c.args.whole.now) (take k (sites_in c.args.outer.now (proc c.args.whole.now))) s w c.of_itself-in-ReservedVar.result)
    (sym c.in-ReservedVar.is) ((c.word_node-in-ReservedVar.result, c.word_node-in-ReservedVar.ensures _ s b, c.of_itself-in-ReservedVar.ensures ∙ ap (λ v. of_itself v c.word_node-in-ReservedVar.result) (sym d)))

pub returns-in-ReservedFact : goal.returns-in-ReservedFact
returns-in-ReservedFact c = λ k s e d b u.
    subst (λ (w : Flaw). IsSpoken c.args.sig.now c.args.outer.now (proc c.args.whole.now) (take k (sites_in c.args.outer.now (proc c.args.whole.now))) s w c.of_itself-in-ReservedFact.result)
    (sym c.in-ReservedFact.is) ((c.word_node-in-ReservedFact.result, c.word_node-in-ReservedFact.ensures _ s b, c.of_itself-in-ReservedFact.ensures ∙ ap (λ v. of_itself v c.word_node-in-ReservedFact.result) (sym d)))

pub returns-in-PatternDestructor : goal.returns-in-PatternDestructor
returns-in-PatternDestructor c = λ k s e d b u.
    subst (λ (w : Flaw). IsSpoken c.args.sig.now c.args.outer.now (proc c.args.whole.now) (take k (sites_in c.args.outer.now (proc c.args.whole.now))) s w c.of_itself-in-PatternDestructor.result)
    (sym c.in-PatternDestructor.is) ((c.word_node-in-PatternDestructor.result, c.word_node-in-PatternDestructor.ensures _ s b, c.of_itself-in-PatternDestructor.ensures ∙ ap (λ v. of_itself v c.word_node-in-PatternDestructor.result) (sym d)))

pub returns-in-Rebound : goal.returns-in-Rebound
returns-in-Rebound c = λ k s e d b u.
    subst (λ (w : Flaw). IsSpoken c.args.sig.now c.args.outer.now (proc c.args.whole.now) (take k (sites_in c.args.outer.now (proc c.args.whole.now))) s w c.of_itself-in-Rebound.result)
    (sym c.in-Rebound.is) ((c.rebound_node.result, c.rebound_node.ensures c.args.sig.now _ s b u, c.of_itself-in-Rebound.ensures ∙ ap (λ v. of_itself v c.rebound_node.result) (sym d)))

pub returns-in_ok-clash-in-FactClash : goal.returns-in_ok-clash-in-FactClash
returns-in_ok-clash-in-FactClash c = λ k s e d b u.
    subst (λ (w : Flaw). IsSpoken c.args.sig.now c.args.outer.now (proc c.args.whole.now) (take k (sites_in c.args.outer.now (proc c.args.whole.now))) s w c.of_itself-in-FactClash.result)
    (sym c.in-FactClash.is) ((c.in_ok-clash-in-FactClash.clash, c.in_ok-clash-in-FactClash.ensures c.args.outer.now k s e d c.args.sig.now, c.of_itself-in-FactClash.ensures ∙ ap (λ v. of_itself v c.in_ok-clash-in-FactClash.clash) (sym d)))

pub returns-in_ok-unbound-in-Unbound : goal.returns-in_ok-unbound-in-Unbound
returns-in_ok-unbound-in-Unbound c = λ k s e d b u.
    subst (λ (w : Flaw). IsSpoken c.args.sig.now c.args.outer.now (proc c.args.whole.now) (take k (sites_in c.args.outer.now (proc c.args.whole.now))) s w c.of_itself-in-Unbound.result)
    (sym c.in-Unbound.is) ((c.in_ok-unbound-in-Unbound.unbound, c.in_ok-unbound-in-Unbound.ensures c.args.sig.now _ s b u, c.of_itself-in-Unbound.ensures ∙ ap (λ v. of_itself v c.in_ok-unbound-in-Unbound.unbound) (sym d)))

pub returns-in_ok-signed-in-SortClash : goal.returns-in_ok-signed-in-SortClash
returns-in_ok-signed-in-SortClash c = λ k s e d b u.
    subst (λ (w : Flaw). IsSpoken c.args.sig.now c.args.outer.now (proc c.args.whole.now) (take k (sites_in c.args.outer.now (proc c.args.whole.now))) s w c.of_itself-in-SortClash.result)
    (sym c.in-SortClash.is) ((c.in_ok-signed-in-SortClash.signed, c.in_ok-signed-in-SortClash.ensures c.args.sig.now _ s b u, c.of_itself-in-SortClash.ensures ∙ ap (λ v. of_itself v c.in_ok-signed-in-SortClash.signed) (sym d)))

pub returns-in-ScopeFull : goal.returns-in-ScopeFull
returns-in-ScopeFull c =
    IfOk-weaker c.full_node.result (IsFillingTold (above_of c.args.outer.now 0) (proc c.args.whole.now) c.args.path.now)
    (λ o. (k : ℕ) (s : Site) → slice_get (sites_in c.args.outer.now (proc c.args.whole.now)) k ≡ Some s → s.path ≡ c.args.path.now → s.body ≡ proc c.args.p.now
    → s.above.scope ≡ c.args.scope.now
    → IsSpoken c.args.sig.now c.args.outer.now (proc c.args.whole.now) (take k (sites_in c.args.outer.now (proc c.args.whole.now))) s c.args.which o)
    (λ o h k s e d b u.
    subst (λ (w : Flaw). IsSpoken c.args.sig.now c.args.outer.now (proc c.args.whole.now) (take k (sites_in c.args.outer.now (proc c.args.whole.now))) s w o)
    (sym c.in-ScopeFull.is) (subst (λ v. IsFillingTold (above_of c.args.outer.now 0) (proc c.args.whole.now) v o) (sym d) h))
    c.full_node.ensures
