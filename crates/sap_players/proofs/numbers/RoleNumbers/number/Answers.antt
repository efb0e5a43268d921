use Rattle.std.proofs.Common.{◌≡◌, ◌<◌, ◌+◌, ◌^◌, ℕ, suc, List, [], Option, Some, None, length, position, sym, ap, ◌∙◌, subst, nat_eq, arith}
use Rattle.std.specs.Prelude.{IfSome, slice_index_or}
use Rattle.std.proofs.lemmas.List.{get_or_read}
use Rattle.sap_players.specs.Numbers.{AreRoleNumbers, IsRoleNumber}
use Rattle.sap_players.proofs.Placed.{its_number, no_number, same_number}
use Rattle.sap_players.proofs.numbers.RoleNumbers.number.Goals as goal

pub overflow_add-result : goal.overflow_add-result
overflow_add-result c =
    let small : c.in-Some.k < 2 ^ 63 = subst (λ (o : Option ℕ). IfSome o (λ k. k < 2 ^ 63)) c.in-Some.is c.index_of.ensures.small in
    omega (arith, small)

pub returns-in-Some-clause-is : goal.returns-in-Some-clause-is
returns-in-Some-clause-is c = λ ds are.
    let xs = c.self.inside.roles.items in
    let role = c.args.role in
    let thread = c.args.thread in
    let inside : role < length xs = subst (λ (ys : List (List ℕ)). role < length ys) (sym c.self.view_is) c.requires in
    let here : c.index.result.now ≡ slice_index_or xs role [] = get_or_read xs role c.index.result.now inside c.index.ensures [] in
    let at : position (nat_eq thread) (slice_index_or xs role []) ≡ Some c.in-Some.k = ap (position (nat_eq thread)) (sym here) ∙ sym c.index_of.ensures.index ∙ c.in-Some.is in
    let one : c.in-Some.k + 1 ≡ suc c.in-Some.k = omega arith in
    subst (IsRoleNumber ds role thread) (sym one) (its_number ds xs thread role inside (subst (AreRoleNumbers ds) (sym c.self.view_is) are) c.in-Some.k at)

pub returns-in-None-clause-is : goal.returns-in-None-clause-is
returns-in-None-clause-is c = λ ds are.
    let xs = c.self.inside.roles.items in
    let role = c.args.role in
    let thread = c.args.thread in
    let inside : role < length xs = subst (λ (ys : List (List ℕ)). role < length ys) (sym c.self.view_is) c.requires in
    let here : c.index.result.now ≡ slice_index_or xs role [] = get_or_read xs role c.index.result.now inside c.index.ensures [] in
    let at : position (nat_eq thread) (slice_index_or xs role []) ≡ None = ap (position (nat_eq thread)) (sym here) ∙ sym c.index_of.ensures.index ∙ c.in-None.is in
    no_number ds xs thread role inside (subst (AreRoleNumbers ds) (sym c.self.view_is) are) at

pub returns-in-Some-clause-exact : goal.returns-in-Some-clause-exact
returns-in-Some-clause-exact c = λ ds are.
    let xs = c.self.inside.roles.items in
    let role = c.args.role in
    let thread = c.args.thread in
    let inside : role < length xs = subst (λ (ys : List (List ℕ)). role < length ys) (sym c.self.view_is) c.requires in
    let here : c.index.result.now ≡ slice_index_or xs role [] = get_or_read xs role c.index.result.now inside c.index.ensures [] in
    let at : position (nat_eq thread) (slice_index_or xs role []) ≡ Some c.in-Some.k = ap (position (nat_eq thread)) (sym here) ∙ sym c.index_of.ensures.index ∙ c.in-Some.is in
    let one : c.in-Some.k + 1 ≡ suc c.in-Some.k = omega arith in
    ap Some one ∙ same_number ds xs thread role inside (subst (AreRoleNumbers ds) (sym c.self.view_is) are) (Some c.in-Some.k) at

pub returns-in-None-clause-exact : goal.returns-in-None-clause-exact
returns-in-None-clause-exact c = λ ds are.
    let xs = c.self.inside.roles.items in
    let role = c.args.role in
    let thread = c.args.thread in
    let inside : role < length xs = subst (λ (ys : List (List ℕ)). role < length ys) (sym c.self.view_is) c.requires in
    let here : c.index.result.now ≡ slice_index_or xs role [] = get_or_read xs role c.index.result.now inside c.index.ensures [] in
    let at : position (nat_eq thread) (slice_index_or xs role []) ≡ None = ap (position (nat_eq thread)) (sym here) ∙ sym c.index_of.ensures.index ∙ c.in-None.is in
    same_number ds xs thread role inside (subst (AreRoleNumbers ds) (sym c.self.view_is) are) None at
