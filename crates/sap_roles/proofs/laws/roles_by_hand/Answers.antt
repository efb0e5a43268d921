use Rattle.std.proofs.Common.{◌≡◌, ℕ, Bool, true, false, List, [], ◌∷◌, Option, Some, None, refl, sym, ap, ◌∙◌}
use Rattle.std.specs.Str.{bytes_eq}
use Rattle.sap_macro.specs.Located.{Located}
use Rattle.sap_origin.specs.Definitions.{LocatedDefinition}
use Rattle.sap_origin.specs.Reached.{Reaches, Standing, reaches_here, reaches_use, reaches_left, reaches_right, reaches_copy, reaches_behind, reaches_then, reaches_else, reaches_found, reaches_missing}
use Rattle.sap_roles.specs.RoleExamples.{HasNoRole, HasRole, a, alias, answer, copying, inner, let_be, nested, out_then, outer, server, serving, system, systems, use_of, with_alias, with_nothing}
use Rattle.sap_roles.specs.Roles.{IsRoleAt}
use Rattle.sap_roles.proofs.OneWay.{one_role, role_by}
use Rattle.sap_roles.proofs.Walked.{through}
use Rattle.sap_roles.proofs.laws.roles_by_hand.Goals as goal

-- one role, and no other
no_other_role : {ds : List LocatedDefinition} {p : Located} {path : List ℕ} {a b : Option (List ℕ)} → IsRoleAt ds p 0 path a → (a ≡ b → ⊥) → IsRoleAt ds p 0 path b → ⊥
no_other_role is differs other = differs (one_role is other)

abbrev same_as : List ℕ → Option (List ℕ) → Bool
same_as f None = false
same_as f (Some g) = bytes_eq f g

-- names that a test tells apart
differs : (f : List ℕ) (b : Option (List ℕ)) → same_as f (Some f) ≡ true → same_as f b ≡ false → Some f ≡ b → ⊥
differs f b itself other e = let never : true ≡ false = sym itself ∙ ap (same_as f) e ∙ other in cc (never)

server_first : HasRole serving (use_of server) [] server
server_first = role_by (reaches_use refl tt (reaches_here tt))

server_on : HasRole serving (use_of server) (1 ∷ []) server
server_on = role_by (reaches_use refl tt (reaches_behind (reaches_use refl tt (reaches_here tt))))

server_end : HasRole serving (use_of server) (1 ∷ 1 ∷ []) server
server_end = role_by (reaches_use refl tt (reaches_behind (reaches_use refl tt (reaches_behind (reaches_here tt)))))

pub returns-clause-goes_on : goal.returns-clause-goes_on
returns-clause-goes_on c = (server_first, server_on, server_end)

pub returns-clause-no_other : goal.returns-clause-no_other
returns-clause-no_other c =
    (no_other_role server_on (differs server (Some answer) refl refl), no_other_role server_on (λ e. cc (e)), no_other_role server_end (differs server (Some answer) refl refl))

pub returns-clause-new_first : goal.returns-clause-new_first
returns-clause-new_first c = (
  role_by (reaches_here tt),
  role_by (reaches_behind (reaches_here tt)),
  role_by (reaches_behind (reaches_left (reaches_use refl tt (reaches_here tt)))),
  role_by (reaches_behind (reaches_right (reaches_use refl tt (reaches_here tt)))),
)

pub returns-clause-later : goal.returns-clause-later
returns-clause-later c = (role_by (reaches_here tt), role_by (reaches_behind (reaches_use refl tt (reaches_here tt))))

no_one : HasNoRole systems (use_of system) []
no_one = role_by (reaches_use refl tt (reaches_here tt))

left_server : HasRole systems (use_of system) (1 ∷ []) server
left_server = role_by (reaches_use refl tt (reaches_left (reaches_use refl tt (reaches_here tt))))

right_answer : HasRole systems (use_of system) (2 ∷ []) answer
right_answer = role_by (reaches_use refl tt (reaches_right (reaches_use refl tt (reaches_here tt))))

pub returns-clause-nobody : goal.returns-clause-nobody
returns-clause-nobody c = (no_one, left_server, right_answer)

pub returns-clause-no_system : goal.returns-clause-no_system
returns-clause-no_system c =
    (no_other_role no_one (λ e. cc (e)), no_other_role left_server (differs server (Some system) refl refl), no_other_role right_answer (differs answer (Some server) refl refl))

pub returns-clause-copies : goal.returns-clause-copies
returns-clause-copies c = (role_by (reaches_here tt), role_by (reaches_copy (reaches_use refl tt (reaches_here tt))))

inner_left : HasRole nested (use_of outer) (1 ∷ 1 ∷ []) inner
inner_left = role_by (reaches_use refl tt (reaches_behind (reaches_left (reaches_use refl tt (reaches_here tt)))))

outer_anew : HasRole nested (use_of outer) (1 ∷ 2 ∷ []) outer
outer_anew = role_by (reaches_use refl tt (reaches_behind (reaches_right (reaches_here tt))))

pub returns-clause-within : goal.returns-clause-within
returns-clause-within c = (role_by (reaches_use refl tt (reaches_here tt)), role_by (reaches_use refl tt (reaches_behind (reaches_here tt))), inner_left, outer_anew)

pub returns-clause-no_caller : goal.returns-clause-no_caller
returns-clause-no_caller c = (no_other_role inner_left (differs inner (Some outer) refl refl), no_other_role outer_anew (λ e. cc (e)))

copy_inner : HasRole copying (use_of outer) (1 ∷ 1 ∷ []) inner
copy_inner = role_by (reaches_use refl tt (reaches_behind (reaches_copy (reaches_use refl tt (reaches_here tt)))))

pub returns-clause-behind_copy : goal.returns-clause-behind_copy
returns-clause-behind_copy c = (
  role_by (reaches_use refl tt (reaches_behind (reaches_here tt))),
  copy_inner,
  role_by (reaches_use refl tt (reaches_here tt)),
  role_by (reaches_use refl tt (reaches_copy (reaches_here tt))),
)

pub returns-clause-no_role_behind_copy : goal.returns-clause-no_role_behind_copy
returns-clause-no_role_behind_copy c = no_other_role copy_inner (differs inner (Some outer) refl refl)

pub returns-clause-decides : goal.returns-clause-decides
returns-clause-decides c = (
  role_by (reaches_use refl tt (reaches_here tt)),
  role_by (reaches_use refl tt (reaches_then (reaches_here tt))),
  role_by (reaches_use refl tt (reaches_else (reaches_here tt))),
  role_by (reaches_use refl tt (reaches_here tt)),
  role_by (reaches_use refl tt (reaches_found (reaches_here tt))),
  role_by (reaches_use refl tt (reaches_missing (reaches_here tt))),
)

pub returns-clause-parameter : goal.returns-clause-parameter
returns-clause-parameter c =
    (role_by (reaches_here tt), role_by (reaches_left (reaches_use refl tt (reaches_here tt))), role_by (reaches_right (reaches_use refl tt (reaches_here tt))))

by_alias : HasRole with_alias (use_of alias) [] answer
by_alias = role_by (reaches_use refl tt (reaches_use refl tt (reaches_here tt)))

pub returns-clause-other_name : goal.returns-clause-other_name
returns-clause-other_name c = (by_alias, no_other_role by_alias (differs answer (Some alias) refl refl))

pub returns-clause-main : goal.returns-clause-main
returns-clause-main c = (role_by (reaches_use refl tt (reaches_here tt)), role_by (reaches_use refl tt (reaches_behind (reaches_here tt))))

at_nothing : HasNoRole with_nothing (use_of answer) []
at_nothing = role_by (reaches_use refl tt (reaches_here tt))

pub returns-clause-zero : goal.returns-clause-zero
returns-clause-zero c = (at_nothing, no_other_role at_nothing (λ e. cc (e)))

pub returns-clause-no_let : goal.returns-clause-no_let
returns-clause-no_let c = (role_by (reaches_here tt), role_by (reaches_left (reaches_here tt)), role_by (reaches_right (reaches_behind (reaches_here tt))))

no_second_below : {s z : Standing} {q : Located} → Reaches serving s (out_then a (use_of answer)) (2 ∷ []) z q → ⊥
no_second_below r = elim r [ ]

no_second : {s z : Standing} {q : Located} → Reaches serving s (use_of server) (2 ∷ []) z q → ⊥
no_second r = no_second_below (through serving (let_be server (out_then a (use_of answer))) refl r)

pub returns-clause-nowhere : goal.returns-clause-nowhere
returns-clause-nowhere c = λ role h. no_second h.reaches
