-- Written nodes, and what stands for those that are parameters.
use Rattle.std.specs.Prelude.{ℕ, suc, ◌+◌, List, [], ◌∷◌, Option, Some, None, if◌then◌else◌}
use Rattle.std.specs.List.{flat_map}
use Rattle.std.specs.Str.{bytes_eq}
use Rattle.sap_terms.specs.Tree.{Tree, node_count}
use Rattle.sap_macro.specs.Located.{Located}
use Rattle.sap_nodes.specs.HeadNodes.{Node, binder, variable, public, fresh, symbol, fact, tree_nodes}
use Rattle.sap_nodes.specs.declared.part.Part.TheVariants.{Given}
use Rattle.sap_origin.specs.Reached.{Standing}
use Rattle.sap_stems.specs.WrittenNodes.{written_nodes}

-- a written node: what it is, where one stands when one comes to it, at which place it is written, and its number among the nodes there
pub record Stem : Type 0 where
  pub node : Node
  pub standing : Standing
  pub place : Located
  pub index : ℕ

-- these nodes of the place, from this number on, where one stands so
abbrev pub stems_from : Standing → Located → ℕ → List Node → List Stem
stems_from s q i [] = []
stems_from s q i (n ∷ ns) =
    record { node = n; standing = s; place = q; index = i } ∷ stems_from s q (suc i) ns

-- all nodes that are written there
abbrev pub own_stems : Standing → Located → List Stem
own_stems s q = stems_from s q 0 (written_nodes q)

-- what stands for a parameter: the nodes of its argument
pub record Put : Type 0 where
  pub param : List ℕ
  pub stems : List Stem

-- those that stand for the name, where it is a parameter
abbrev pub put_for : List Put → List ℕ → Option (List Stem)
put_for [] x = None
put_for (p ∷ ps) x = if bytes_eq p.param x then Some p.stems else put_for ps x

abbrev pub or_itself : Stem → Option (List Stem) → List Stem
or_itself s None = s ∷ []
or_itself s (Some ss) = ss

-- what stands for a written node: of a variable that is a parameter the nodes of its argument, else it itself
abbrev pub stems_for : List Put → Stem → Node → List Stem
stems_for ps s (variable v) = or_itself s (put_for ps v.name)
stems_for ps s (binder v) = s ∷ []
stems_for ps s (public n) = s ∷ []
stems_for ps s (fresh k) = s ∷ []
stems_for ps s (symbol a f k) = s ∷ []
stems_for ps s (fact a f) = s ∷ []

-- what stands for these, one after another
abbrev pub put_in : List Put → List Stem → List Stem
put_in ps ss = flat_map (λ (s : Stem). stems_for ps s s.node) ss

-- of parameters the arguments, in order, of a use where one stands so, from this number of its nodes on; what stood for parameters before
-- is put in
abbrev pub puts_of : Standing → Located → List Put → List (List ℕ) → ℕ → List Tree → List Put
puts_of s q ps [] i ts = []
puts_of s q ps (x ∷ xs) i [] = []
puts_of s q ps (x ∷ xs) i (t ∷ ts) =
    record { param = x; stems = put_in ps (stems_from s q i (tree_nodes Given t)) }
    ∷ puts_of s q ps xs (i + node_count t) ts

-- what stands for parameters behind a use of a definition with these: its arguments; a name without parameters is replaced before anything
-- else, so what stood for parameters stays
abbrev pub behind_use : Standing → Located → List Put → List (List ℕ) → List Tree → List Put
behind_use s q ps [] ts = ps
behind_use s q ps (x ∷ xs) ts = puts_of s q ps (x ∷ xs) 0 ts
