use Rattle.std.proofs.Common.{◌<◌, ℕ, List, [], length, drop, ◌+◌, refl, sym, subst, arith}
use Rattle.std.specs.Prelude.{slice_index_or}
use Rattle.sap_macro.specs.Located.{Located}
use Rattle.sap_macro.specs.Order.{UsesOnly}
use Rattle.sap_macro.specs.Sources.{located, written}
use Rattle.sap_origin.specs.Reached.{ReachesBy, Standing}
use Rattle.sap_origin.specs.code.Steps.{AreSame, IsBelow}
use Rattle.sap_origin.proofs.Walked.{form_ends, next_digit, no_digit, nothing_below, same_below}
use Rattle.sap_origin.proofs.trail.go_below.Goals as goal

pub returns-then-path-here : goal.returns-then-path-here
returns-then-path-here c = λ es ds v s so within. (form_ends ds v (located c.args.here.source.now) c.requires, no_digit c.args.path.now c.args.here.at c.if-path-here.true, refl)

pub returns-in-None : goal.returns-in-None
returns-in-None c = λ es ds v s so within.
    let p = located c.args.here.source.now in
    let digit = slice_index_or c.args.path.now c.args.here.at 0 in
    let none : (q : Located) → IsBelow p digit q → ⊥ = rw c.in-None.is at c.below.ensures in
    subst (λ (rest : List ℕ). (z : Standing) (w : Located) → ReachesBy ds v s p rest z w → ⊥) (sym (next_digit c.args.path.now c.args.here.at c.if-path-here.false))
    (nothing_below ds v s p digit (drop (c.args.here.at + 1) c.args.path.now) c.requires none)

pub returns-in-Some : goal.returns-in-Some
returns-in-Some c = λ es ds v s so within.
    let p = located c.args.here.source.now in
    let q = located c.in-Some.source.now in
    let at = c.args.here.at in
    let path = c.args.path.now in
    let digit = slice_index_or path at 0 in
    let inside : at < length path = c.if-path-here.false in
    let found : IsBelow p digit q × ((names : List (List ℕ)) → UsesOnly names (written c.args.here.source.now) → UsesOnly names (written c.in-Some.source.now)) = rw c.in-Some.is at c.below.ensures in
    record {
      standing = s;
      behind_is = so;
      within = record { uses = found.1 _ within.uses; bounded = within.bounded; at_most = omega (arith, inside) };
      same = subst (λ (rest : List ℕ). AreSame ds v s p rest [] s q (drop (at + 1) path)) (sym (next_digit path at inside)) (same_below ds v s p q digit (drop (at + 1) path) c.requires found.0);
      less = omega (arith, inside);
    }
