-- Small files, to try by hand from which written nodes those of their expansions stem.
use Rattle.std.specs.Prelude.{◌≡◌, ℕ, codes, List, [], ◌∷◌, Some, slice_get}
use Rattle.sap_terms.specs.Equations.{app1, app2, fst_name, snd_name, pair_name}
use Rattle.sap_terms.specs.Tree.{Tree, public, variable}
use Rattle.sap_terms.specs.declared.var.Sort.TheVariants.{Msg}
use Rattle.sap_process.specs.Action.{input, out}
use Rattle.sap_macro.specs.Located.{Located, nil_at, call_at, parallel_at, act_at}
use Rattle.sap_macro.specs.Sources.{located}
use Rattle.sap_macro.specs.UpToNames.{named}
use Rattle.sap_origin.specs.Definitions.{LocatedDefinition}
use Rattle.sap_stems.specs.Stems.{Stem}
use Rattle.sap_stems.specs.StemsAt.{AreStems}
use Rattle.sap_stems.specs.declared.making.WrittenNode.{WrittenNode}

-- node k of the place to which the path leads stems from this node of this place, through uses from whose names so many words are left
pub record StemsFrom (ds : List LocatedDefinition) (p : Located) (path : List ℕ) (k : ℕ) (place : Located)
    (index : ℕ) (uses : List ℕ) : Type 0 where
  pub stems : List Stem
  pub are : AreStems ds p 1 path stems
  pub stem : Stem
  pub stands : slice_get stems k ≡ Some stem
  pub place_is : place ≡ stem.place
  pub index_is : index ≡ stem.index
  pub uses_are : uses ≡ stem.standing.uses

-- plain identifiers, and 'a'
abbrev pub var : List ℕ → Tree
var n = variable (named n Msg)

abbrev pub a : Tree
a = public (codes "a")

-- a definition behind whose item so many words of the file are
abbrev pub defines : List ℕ → List (List ℕ) → Located → ℕ → LocatedDefinition
defines f xs p n = record { name = f; params = xs; body = p; behind = n }

-- theory T begin let A(x, z) = in(z); out(x) process: in(y); A(fst(y), snd(y)) end
abbrev pub two_inner : Located
two_inner = act_at 9 (input (var (codes "z"))) (act_at 4 (out (var (codes "x"))) (nil_at 4))

abbrev pub two_use : Located
two_use =
    call_at 12 (codes "A") (app1 fst_name (var (codes "y")) ∷ app1 snd_name (var (codes "y")) ∷ [])

abbrev pub two_defs : List LocatedDefinition
two_defs = defines (codes "A") (codes "x" ∷ codes "z" ∷ []) two_inner 20 ∷ []

abbrev pub two : Located
two = act_at 17 (input (var (codes "y"))) two_use

-- theory T begin let A(k) = in(<k, fst(q)>) process: A('a') | A(snd(w)) end
abbrev pub twice_inner : Located
twice_inner =
    act_at 11 (input (app2 pair_name (var (codes "k")) (app1 fst_name (var (codes "q"))))) (nil_at 11)

abbrev pub twice_left : Located
twice_left = call_at 12 (codes "A") (a ∷ [])

abbrev pub twice_right : Located
twice_right = call_at 7 (codes "A") (app1 snd_name (var (codes "w")) ∷ [])

abbrev pub twice_defs : List LocatedDefinition
twice_defs = defines (codes "A") (codes "k" ∷ []) twice_inner 15 ∷ []

abbrev pub twice : Located
twice = parallel_at 8 twice_left twice_right

-- theory T begin let Q = out(k) let A(k) = Q process: A('a') end
abbrev pub plain_inner : Located
plain_inner = act_at 4 (out (var (codes "k"))) (nil_at 4)

abbrev pub plain_defs : List LocatedDefinition
plain_defs =
    defines (codes "Q") [] plain_inner 14
    ∷ defines (codes "A") (codes "k" ∷ []) (call_at 1 (codes "Q") []) 7 ∷ []

-- theory T begin let B(x) = out(<x, y>) let A(y) = B(h(y)) process: A('a') end
abbrev pub chain_inner : Located
chain_inner = act_at 8 (out (app2 pair_name (var (codes "x")) (var (codes "y")))) (nil_at 8)

abbrev pub chain_use : Located
chain_use = call_at 7 (codes "B") (app1 (codes "h") (var (codes "y")) ∷ [])

abbrev pub chain_defs : List LocatedDefinition
chain_defs =
    defines (codes "B") (codes "x" ∷ []) chain_inner 20
    ∷ defines (codes "A") (codes "y" ∷ []) chain_use 7 ∷ []

-- the process of the last two
abbrev pub with_a : Located
with_a = call_at 4 (codes "A") (a ∷ [])

-- the program has it as this node of this place, in an item behind which so many words of the file are, below so many uses
abbrev pub IsWritten : WrittenNode → Located → (index behind uses : ℕ) → Type 0
IsWritten w q index behind uses =
    (located w.source.now ≡ q) × (w.index ≡ index) × (w.behind ≡ behind) × (w.uses ≡ uses)
