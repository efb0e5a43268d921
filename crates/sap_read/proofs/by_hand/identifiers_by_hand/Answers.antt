use Rattle.std.proofs.Common.{◌≡◌, ℕ, true, false, List, [], ◌∷◌, refl}
use Rattle.std.specs.Prelude.{codes}
use Rattle.std.proofs.lemmas.List.Elements.{All-from_recursion, All-head, All-tail}
use Rattle.sap_terms.specs.Variables.{is_known}
use Rattle.sap_macro.specs.Written.{Definition}
use Rattle.sap_read.specs.CauseExamples.{p_name}
use Rattle.sap_read.specs.HeldVariables.{IsAmong, HoldsDefinitionVariables, HoldsFileVariables, HoldsProcessVariables}
use Rattle.sap_read.specs.Identifiers.{identifiers_of}
use Rattle.sap_read.specs.VariableExamples.{file_words, names_without, other_names, small_bodies, small_body, small_main, variable_names}
use Rattle.sap_read.proofs.HeldVariables.{bodies_hold}
use Rattle.sap_read.proofs.by_hand.identifiers_by_hand.Goals as goal

pub returns-clause-are : goal.returns-clause-are
returns-clause-are c = refl

pub returns-clause-are_not : goal.returns-clause-are_not
returns-clause-are_not c = All-from_recursion (λ (n : List ℕ). is_known (identifiers_of file_words) n ≡ false) other_names (refl, (refl, tt))

pub returns-clause-held : goal.returns-clause-held
returns-clause-held c = bodies_hold variable_names small_bodies (
  ((refl, (refl, tt)), (refl, ((refl, (refl, tt)), tt))),
  ((tt, (refl, (refl, refl, ((refl, (refl, tt)), tt), tt))), tt),
)

-- the definition, and what is said of it and of the process
abbrev small : Definition
small = record { name = p_name; params = codes "x" ∷ codes "w" ∷ []; body = small_body }

of_definition : (names : List (List ℕ)) → HoldsFileVariables names small_bodies → HoldsDefinitionVariables names small
of_definition names h = All-head (HoldsDefinitionVariables names) small [] h.definitions

of_process : (names : List (List ℕ)) → HoldsFileVariables names small_bodies → HoldsProcessVariables names small_main
of_process names h = h.process small_main refl

abbrev IsWanting : List ℕ → Type 0
IsWanting n = ¬ HoldsFileVariables (names_without n) small_bodies

no_x : IsWanting (codes "x")
no_x h =
    let names = names_without (codes "x") in
    let z : false ≡ true = All-head (IsAmong names) (codes "x") (codes "w" ∷ []) (of_definition names h).params in cc

no_w : IsWanting (codes "w")
no_w h =
    let names = names_without (codes "w") in
    let rest = All-tail (IsAmong names) (codes "x") (codes "w" ∷ []) (of_definition names h).params in
    let z : false ≡ true = All-head (IsAmong names) (codes "w") [] rest in cc

no_y : IsWanting (codes "y")
no_y h = let z : false ≡ true = (of_definition (names_without (codes "y")) h).body.0 in cc

no_n : IsWanting (codes "n")
no_n h = let z : false ≡ true = (of_process (names_without (codes "n")) h).0 in cc

no_z : IsWanting (codes "z")
no_z h = let z : false ≡ true = (of_process (names_without (codes "z")) h).1.1 in cc

no_u : IsWanting (codes "u")
no_u h = let z : false ≡ true = (of_process (names_without (codes "u")) h).1.2.0.0 in cc

pub returns-clause-wanting : goal.returns-clause-wanting
returns-clause-wanting c = All-from_recursion IsWanting variable_names (no_x, (no_w, (no_y, (no_n, (no_z, (no_u, tt))))))
