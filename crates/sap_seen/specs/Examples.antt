-- A small file, to try by hand which written places are seen in the body of B:
-- theory T begin let A(x) = out(x) let R = A(r) let Q = R let B(y) = Q | in(y); A(q) process: B('a') end
use Rattle.std.specs.Prelude.{ℕ, codes, List, [], ◌∷◌, ◌≡◌}
use Rattle.sap_terms.specs.Tree.{Tree, variable}
use Rattle.sap_terms.specs.declared.var.Sort.TheVariants.{Msg}
use Rattle.sap_process.specs.Action.{input, out}
use Rattle.sap_macro.specs.Located.{Located, nil_at, call_at, parallel_at, act_at}
use Rattle.sap_macro.specs.UpToNames.{named}
use Rattle.sap_origin.specs.Definitions.{LocatedDefinition}
use Rattle.sap_origin.specs.Origins.{start}
use Rattle.sap_origin.specs.Reached.{Standing}
use Rattle.sap_seen.specs.SeenPlaces.{ComesSeen}

-- a plain identifier
abbrev pub var : List ℕ → Tree
var n = variable (named n Msg)

-- a definition behind whose item so many words of the file are
abbrev pub defines : List ℕ → List (List ℕ) → Located → ℕ → LocatedDefinition
defines f xs p n = record { name = f; params = xs; body = p; behind = n }

-- behind the item of A are 35 words, behind that of R 28, of Q 24, and of B seven
abbrev pub a_body : Located
a_body = act_at 4 (out (var (codes "x"))) (nil_at 4)

abbrev pub r_body : Located
r_body = call_at 4 (codes "A") (var (codes "r") ∷ [])

abbrev pub q_body : Located
q_body = call_at 1 (codes "R") []

abbrev pub b_left : Located
b_left = call_at 11 (codes "Q") []

abbrev pub b_use : Located
b_use = call_at 4 (codes "A") (var (codes "q") ∷ [])

abbrev pub b_right : Located
b_right = act_at 9 (input (var (codes "y"))) b_use

abbrev pub b_body : Located
b_body = parallel_at 10 b_left b_right

abbrev pub a_is : LocatedDefinition
a_is = defines (codes "A") (codes "x" ∷ []) a_body 35

abbrev pub r_is : LocatedDefinition
r_is = defines (codes "R") [] r_body 28

abbrev pub q_is : LocatedDefinition
q_is = defines (codes "Q") [] q_body 24

abbrev pub all_four : List LocatedDefinition
all_four = a_is ∷ r_is ∷ q_is ∷ defines (codes "B") (codes "y" ∷ []) b_body 7 ∷ []

-- along this path of what is seen of the body of B one comes to this place, behind whose item so many words of the file are, through uses
-- from whose names so many are left, the innermost first
pub record SeesAt (path : List ℕ) (place : Located) (behind : ℕ) (uses : List ℕ) : Type 0 where
  pub standing : Standing
  pub comes : ComesSeen all_four (start 7) b_body path standing place
  pub behind_is : behind ≡ standing.behind
  pub uses_are : uses ≡ standing.uses
