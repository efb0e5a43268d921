-- From which written nodes those of a place of an expansion stem.
use Rattle.std.specs.Prelude.{◌≡◌, ℕ, List, [], ◌∷◌}
use Rattle.sap_terms.specs.Tree.{Tree}
use Rattle.sap_macro.specs.Located.{Located, nil_at, call_at, parallel_at, replicated_at, act_at, test_at, lookup_at}
use Rattle.sap_origin.specs.Definitions.{LocatedDefinition}
use Rattle.sap_origin.specs.Origins.{start}
use Rattle.sap_origin.specs.Reached.{Reaches, Standing}
use Rattle.sap_stems.specs.Stems.{Stem, Put, put_in, own_stems, behind_use}
use Rattle.sap_origin.specs.UsesAlong.{UseAt, uses_along}

-- the arguments of a use
abbrev pub arguments : Located → List Tree
arguments (nil_at k) = []
arguments (call_at k f ts) = ts
arguments (parallel_at k p q) = []
arguments (replicated_at k p) = []
arguments (act_at k a p) = []
arguments (test_at k t u p q) = []
arguments (lookup_at k t x p q) = []

-- what stands for parameters behind these uses, the outermost first, where these do in front of them
abbrev pub puts_by : List UseAt → List Put → List Put
puts_by [] ps = ps
puts_by (u ∷ us) ps =
    puts_by us (behind_use u.standing u.place ps u.definition.params (arguments u.place))

-- what does at the place to which one comes so
abbrev pub puts_along : {ds : List LocatedDefinition} {s z : Standing} {p q : Located} {path : List ℕ}
    → Reaches ds s p path z q → List Put → List Put
puts_along r ps = puts_by (uses_along r) ps

-- Along this path one comes, from a process behind whose item so many words of the file are, to a place whose nodes, once arguments are
-- put in, stem from these: node by node from what is written there, where the nodes of its argument stand for a parameter.
pub record AreStems (ds : List LocatedDefinition) (p : Located) (behind : ℕ) (path : List ℕ) (ss : List Stem)
    : Type 0 where
  pub standing : Standing
  pub place : Located
  pub reaches : Reaches ds (start behind) p path standing place
  pub stems_are : ss ≡ put_in (puts_along reaches []) (own_stems standing place)
