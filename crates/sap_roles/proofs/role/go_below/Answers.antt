use Rattle.std.proofs.Common.{◌<◌, ℕ, List, length, drop, ◌+◌, sym, subst, arith}
use Rattle.std.specs.Prelude.{slice_index_or, Option}
use Rattle.sap_macro.specs.Located.{Located}
use Rattle.sap_macro.specs.Order.{UsesOnly}
use Rattle.sap_macro.specs.Sources.{located, written}
use Rattle.sap_origin.specs.Reached.{Reaches, Standing}
use Rattle.std.specs.Option.{option_or}
use Rattle.sap_roles.specs.Roles.{given}
use Rattle.sap_roles.specs.PlacesAlong.{acts, begins_threads, place_in}
use Rattle.sap_roles.specs.code.Going.{AreOne, role_below}
use Rattle.sap_roles.specs.code.Steps.{AreSame, IsBelow}
use Rattle.sap_roles.proofs.Given.{below_is_one, here_is_one}
use Rattle.sap_roles.proofs.Walked.{next_digit, no_digit, nothing_below, same_below}
use Rattle.sap_roles.proofs.role.go_below.Goals as goal

pub returns-in-None : goal.returns-in-None
returns-in-None c = λ es ds s within l r so.
    let p = located c.args.here.source.now in
    let digit = slice_index_or c.args.path.now c.args.here.at 0 in
    let none : (q : Located) → IsBelow p digit q → ⊥ = rw c.in-None.is at c.below.ensures in
    subst (λ (rest : List ℕ). (z : Standing) (w : Located) → Reaches ds s p rest z w → ⊥) (sym (next_digit c.args.path.now c.args.here.at c.if-path-here.false))
    (nothing_below ds s p digit (drop (c.args.here.at + 1) c.args.path.now) c.requires none)

pub returns-in-Some : goal.returns-in-Some
returns-in-Some c = λ es ds s within l r so.
    let p = located c.args.here.source.now in
    let q = located c.in-Some.source.now in
    let at = c.args.here.at in
    let path = c.args.path.now in
    let digit = slice_index_or path at 0 in
    let inside : at < length path = c.if-path-here.false in
    let found : IsBelow p digit q × ((names : List (List ℕ)) → UsesOnly names (written c.args.here.source.now) → UsesOnly names (written c.in-Some.source.now)) = rw c.in-Some.is at c.below.ensures in
    record {
      standing = s;
      inside = l;
      role = role_below r (place_in p l);
      stands = record {
        inside_is = so.inside_is;
        role_is = subst (λ (o : Option ℕ). AreOne es o (role_below r (place_in p l))) (sym c.role_below-role.ensures)
            (below_is_one es (begins_threads p) (acts p) c.args.here.inside c.args.here.role l r so.inside_is so.role_is);
      };
      within = record { uses = found.1 _ within.uses; bounded = within.bounded; at_most = omega (arith, inside) };
      same = subst (λ (rest : List ℕ). AreSame ds s l r p rest s l (role_below r (place_in p l)) q (drop (at + 1) path)) (sym (next_digit path at inside))
          (same_below ds s l r p q digit (drop (at + 1) path) c.requires found.0);
      less = omega (arith, inside);
    }

pub returns-then-path-here : goal.returns-then-path-here
returns-then-path-here c = λ es ds s within l r so.
    let p = located c.args.here.source.now in (
      c.requires,
      no_digit c.args.path.now c.args.here.at c.if-path-here.true,
      subst (λ (o : Option ℕ). AreOne es o (option_or r (given (place_in p l)))) (sym c.role_here.ensures)
          (here_is_one es (acts p) c.args.here.inside c.args.here.role l r so.inside_is so.role_is),
    )
