-- A small file, to try by hand which word tells a place, and through which uses one comes there:
-- theory T begin let P(x) = out(x) let Q = P('a') process: Q | out('a') end
use Rattle.std.specs.Prelude.{◌≡◌, ℕ, ◌+◌, codes, List, [], ◌∷◌}
use Rattle.sap_terms.specs.Tree.{Tree, public, variable}
use Rattle.sap_terms.specs.declared.var.Sort.TheVariants.{Msg}
use Rattle.sap_process.specs.Action.{out}
use Rattle.sap_macro.specs.Located.{Located, nil_at, call_at, parallel_at, act_at}
use Rattle.sap_macro.specs.UpToNames.{named}
use Rattle.sap_origin.specs.Definitions.{LocatedDefinition}
use Rattle.sap_origin.specs.Origins.{start}
use Rattle.sap_origin.specs.Reached.{Reaches, Standing, number_of}
use Rattle.sap_origin.specs.declared.origin.FileWord.{FileWord}
use Rattle.sap_origin.specs.declared.origin.Origin.{Origin}

-- 'a', and the names P and Q
abbrev pub a : Tree
a = public (codes "a")

abbrev pub p_name : List ℕ
p_name = codes "P"

abbrev pub q_name : List ℕ
q_name = codes "Q"

-- behind the item of P are 16 words, behind that of Q nine, and behind the process one
abbrev pub p_body : Located
p_body = act_at 4 (out (variable (named (codes "x") Msg))) (nil_at 4)

abbrev pub p_is : LocatedDefinition
p_is = record { name = p_name; params = codes "x" ∷ []; body = p_body; behind = 16 }

abbrev pub q_is : LocatedDefinition
q_is = record { name = q_name; params = []; body = call_at 4 p_name (a ∷ []); behind = 9 }

abbrev pub both : List LocatedDefinition
both = p_is ∷ q_is ∷ []

abbrev pub small : Located
small = parallel_at 5 (call_at 6 q_name []) (act_at 4 (out a) (nil_at 4))

-- along this path one comes to a place of the file that is told by the word from which so many words are left, through uses from whose
-- names so many are, the innermost first
pub record ComesTo (path : List ℕ) (word : ℕ) (uses : List ℕ) : Type 0 where
  pub standing : Standing
  pub place : Located
  pub reaches : Reaches both (start 1) small path standing place
  pub word_is : word ≡ number_of place + standing.behind
  pub uses_are : uses ≡ standing.uses

-- the names of the uses of Q and of P, and the word of `out` in P through uses
abbrev pub q_use : FileWord
q_use = record { left = 6; behind = 1 }

abbrev pub p_use : FileWord
p_use = record { left = 4; behind = 9 }

abbrev pub out_in_p : List FileWord → Origin
out_in_p us = record { word = record { left = 4; behind = 16 }; uses = us }
