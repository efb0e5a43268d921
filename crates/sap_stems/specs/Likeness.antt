-- What a node of an expansion has in common with the written node from which it stems.
use Rattle.std.specs.Prelude.{◌≡◌, List, [], length}
use Rattle.std.specs.List.{AllZip}
use Rattle.sap_nodes.specs.HeadNodes.{Node, binder, variable, public, fresh, symbol, fact}
use Rattle.sap_stems.specs.Stems.{Stem}

-- The written node, the first, is of the kind of the second, with its name, sign and number of terms. Of variables the sort is the same,
-- since a new name may stand for the one that is written; a parameter without an argument is ''.
abbrev pub IsLike : Node → Node → Type 0
IsLike (binder v) (binder w) = v.sort ≡ w.sort
IsLike (variable v) (variable w) = v.sort ≡ w.sort
IsLike (variable v) (public n) = n ≡ []
IsLike (public m) (public n) = m ≡ n
IsLike (fresh j) (fresh k) = j ≡ k
IsLike (symbol a f j) (symbol b g k) = (f ≡ g) × (j ≡ k)
IsLike (fact a f) (fact b g) =
    (a ≡ b) × (f.name ≡ g.name) × (f.persistent ≡ g.persistent) × (length f.args ≡ length g.args)
IsLike _ _ = ⊥

-- they are like these nodes, one by one
abbrev pub AreLike : List Stem → List Node → Type 0
AreLike ss ns = AllZip (λ (s : Stem) n. IsLike s.node n) ss ns
