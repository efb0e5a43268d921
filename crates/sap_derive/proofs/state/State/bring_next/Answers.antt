use Rattle.std.proofs.Common.{◌≡◌, ◌+◌, ℕ, Some, sym, subst}
use Rattle.std.specs.Prelude.{slice_get}
use Rattle.sap_derive.specs.code.States.{IsStateOf}
use Rattle.sap_derive.proofs.States.{state-brought}
use Rattle.sap_derive.proofs.state.State.bring_next.Goals as goal

pub returns-clause-state : goal.returns-clause-state
returns-clause-state c =
    let t = c.bring_one.new.self in
    let e = c.bring_one.ensures in
    let old = c.args.self.now in
    let at : slice_get t.terms t.brought ≡ Some c.at-n.result = subst (λ (i : ℕ). slice_get t.terms i ≡ Some c.at-n.result) (sym e.brought) (e.places old.brought c.at-n.result c.at-n.ensures) in
    subst (λ (i : ℕ). IsStateOf t.table t.entries t.terms (i + 1) t.given t.closure t.openers) e.brought
    (state-brought t.table t.entries t.terms t.brought t.given t.closure t.openers e.state c.at-n.result at c.in_ok-bring_one.ensures.ok)
