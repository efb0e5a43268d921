-- Small files with definitions, to try causes by hand.
use Rattle.std.specs.Prelude.{ℕ, zero, suc, codes, List, [], ◌∷◌, ◌++◌}
use Rattle.sap_terms.specs.Equations.{app1}
use Rattle.sap_terms.specs.Tree.{Tree, variable}
use Rattle.sap_terms.specs.declared.var.Sort.{Sort}
use Rattle.sap_macro.specs.ExpansionExamples.{a, giving, news, of_name, with_x}
use Rattle.sap_macro.specs.NameExamples.{both}
use Rattle.sap_macro.specs.UpToNames.{named}
use Rattle.sap_macro.specs.Written.{Written, nil, call, Definition}
use Rattle.sap_macro.specs.declared.sizes.Size.{Size}

-- x and y
abbrev pub x : Tree
x = of_name (codes "x")

abbrev pub y : Tree
y = of_name (codes "y")

-- A, AA, AAA and so on
abbrev pub rung_name : ℕ → List ℕ
rung_name zero = codes "A"
rung_name (suc k) = codes "A" ++ rung_name k

-- let A(x) = out(x), let AA(x) = A(<x,x>), let AAA(x) = AA(<x,x>) and so on
abbrev pub rung : ℕ → Definition
rung zero = with_x (giving x)
rung (suc k) = record {
  name = rung_name (suc k);
  params = codes "x" ∷ [];
  body = call (rung_name k) (both x x ∷ []);
}

-- the first so many
abbrev pub ladder : ℕ → List Definition
ladder zero = []
ladder (suc k) = ladder k ++ rung k ∷ []

-- a use of the one of this number
abbrev pub use_of : ℕ → Tree → Written
use_of k t = call (rung_name k) (t ∷ [])

-- 'a', <'a','a'>, <<'a','a'>,<'a','a'>> and so on, of 1, 3, 7 nodes
abbrev pub twofold : ℕ → Tree
twofold zero = a
twofold (suc k) = both (twofold k) (twofold k)

-- h(t)
abbrev pub hashed : Tree → Tree
hashed t = app1 (codes "h") t

-- 256 and 257 nodes
abbrev pub most : Tree
most = hashed (twofold 7)

abbrev pub beyond : Tree
beyond = hashed most

-- let C(x,y) = AA(y), or a name without parameters
abbrev pub swapping : Definition
swapping = record {
  name = codes "C";
  params = codes "x" ∷ codes "y" ∷ [];
  body = use_of 1 y;
}

-- let P = A(<y,y>), let C(x,y) = P
abbrev pub plain_use : Definition
plain_use = record { name = codes "P"; params = []; body = use_of 0 (both y y) }

abbrev pub through_plain : Definition
through_plain = record swapping { body = call (codes "P") [] }

-- let A(x) = out(y), let A(x) = new x, let A(x) = out(~x) or out($x), let A(x) = out(x)
abbrev pub open_one : Definition
open_one = with_x (giving y)

abbrev pub binding_again : Definition
binding_again = with_x (news (codes "x") nil)

abbrev pub signing_as : Sort → Definition
signing_as s = with_x (giving (variable (named (codes "x") s)))

abbrev pub right_one : Definition
right_one = with_x (giving x)

-- let B(x) = 0, let A(x) = B(y)
abbrev pub empty_one : Definition
empty_one = record { name = codes "B"; params = codes "x" ∷ []; body = nil }

abbrev pub using_open : Definition
using_open = with_x (call (codes "B") (y ∷ []))

-- let B(x) = out(y)
abbrev pub open_other : Definition
open_other = record { name = codes "B"; params = codes "x" ∷ []; body = giving y }

-- let A(x) = new ~n; out(y)
abbrev pub open_below : Definition
open_below = with_x (news (codes "n") (giving y))

-- let A(x) = C
abbrev pub using_c : Definition
using_c = with_x (call (codes "C") [])

-- out('a')
abbrev pub apart : Written
apart = giving a

-- x has this size
abbrev pub x_of : ℕ → List (List ℕ × ℕ)
x_of n = (codes "x", n) ∷ []

-- eight places on five levels
abbrev pub eight_and_five : Size
eight_and_five = record { nodes = 8; levels = 5 }
