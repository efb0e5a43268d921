use Rattle.std.proofs.Common.{◌≡◌, ℕ, List, Some, inl, inr, sym, subst}
use Rattle.std.specs.Prelude.{slice_get}
use Rattle.sap_derive.specs.code.Clauses.{AreNumbered}
use Rattle.sap_derive.specs.declared.clause.Clause.{Clause}
use Rattle.sap_derive.proofs.States.{state-closure, state-given}
use Rattle.sap_derive.proofs.state.State.give_next.Goals as goal

pub returns-in_err-give-clause-state : goal.returns-in_err-give-clause-state
returns-in_err-give-clause-state c =
    let s = c.args.self.now in
    let e = c.give.ensures in
    state-closure s.table s.entries s.terms s.brought s.given s.closure s.openers c.requires.state c.give.new.self e.closure
    (subst (λ (cs : List Clause). AreNumbered s.table.sig s.table.trees cs) (sym e.clauses) c.requires.state.numbered)
    (λ i k h. subst (λ (cs : List Clause). slice_get cs i ≡ Some k) (sym e.clauses) h) (λ n l. (l.0, e.known l.0 n l.1))
    (λ n x. elim (e.given n x) [ inl y ↦ c.requires.state.given_are n y | inr y ↦ (s.given, subst (λ (i : ℕ). slice_get s.entries s.given ≡ Some i) (sym y) c.at-n.ensures) ])

pub returns-clause-state : goal.returns-clause-state
returns-clause-state c =
    let s = c.args.self.now in
    let e = c.give.ensures in
    let state = state-closure s.table s.entries s.terms s.brought s.given s.closure s.openers c.requires.state c.give.new.self e.closure
    (subst (λ (cs : List Clause). AreNumbered s.table.sig s.table.trees cs) (sym e.clauses) c.requires.state.numbered)
    (λ i k h. subst (λ (cs : List Clause). slice_get cs i ≡ Some k) (sym e.clauses) h) (λ n l. (l.0, e.known l.0 n l.1))
    (λ n x. elim (e.given n x) [ inl y ↦ c.requires.state.given_are n y | inr y ↦ (s.given, subst (λ (i : ℕ). slice_get s.entries s.given ≡ Some i) (sym y) c.at-n.ensures) ]) in
    state-given s.table s.entries s.terms s.brought s.given c.give.new.self s.openers state c.at-n.result c.at-n.ensures c.in_ok-give.ensures.ok
