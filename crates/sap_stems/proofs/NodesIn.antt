-- What stands for parameters, whatever the words are.
use Rattle.std.proofs.Common.{◌≡◌, ℕ, suc, ◌+◌, Bool, true, false, List, [], ◌∷◌, ◌++◌, map, Option, Some, None, refl, ap, ◌∙◌}
use Rattle.std.proofs.lemmas.List.{map-append}
use Rattle.std.specs.Prelude.{if◌then◌else◌}
use Rattle.std.specs.List.{flat_map}
use Rattle.std.specs.Str.{bytes_eq}
use Rattle.sap_terms.specs.Tree.{Tree, node_count}
use Rattle.sap_macro.specs.Located.{Located}
use Rattle.sap_nodes.specs.HeadNodes.{Node, binder, variable, public, fresh, symbol, fact, tree_nodes}
use Rattle.sap_nodes.specs.declared.part.Part.TheVariants.{Given}
use Rattle.sap_origin.specs.Reached.{Standing}
use Rattle.sap_stems.specs.Stems.{Stem, Put, put_for, or_itself, stems_for, put_in, stems_from, puts_of, behind_use}

-- the nodes that stand for a parameter
pub record NodesPut : Type 0 where
  pub param : List ℕ
  pub nodes : List Node

abbrev pub one_put : List ℕ → List Node → NodesPut
one_put x ns = record { param = x; nodes = ns }

abbrev pub nodes_for : List NodesPut → List ℕ → Option (List Node)
nodes_for [] x = None
nodes_for (p ∷ ps) x = if bytes_eq p.param x then Some p.nodes else nodes_for ps x

abbrev pub or_node : Node → Option (List Node) → List Node
or_node n None = n ∷ []
or_node n (Some ns) = ns

abbrev pub node_for : List NodesPut → Node → List Node
node_for ps (variable v) = or_node (variable v) (nodes_for ps v.name)
node_for ps (binder v) = binder v ∷ []
node_for ps (public n) = public n ∷ []
node_for ps (fresh k) = fresh k ∷ []
node_for ps (symbol a f k) = symbol a f k ∷ []
node_for ps (fact a f) = fact a f ∷ []

abbrev pub nodes_in : List NodesPut → List Node → List Node
nodes_in ps ns = flat_map (node_for ps) ns

abbrev pub nodes_put : List NodesPut → List (List ℕ) → List Tree → List NodesPut
nodes_put ps [] ts = []
nodes_put ps (x ∷ xs) [] = []
nodes_put ps (x ∷ xs) (t ∷ ts) = record { param = x; nodes = nodes_in ps (tree_nodes Given t) } ∷ nodes_put ps xs ts

abbrev pub nodes_behind : List NodesPut → List (List ℕ) → List Tree → List NodesPut
nodes_behind ps [] ts = ps
nodes_behind ps (x ∷ xs) ts = nodes_put ps (x ∷ xs) ts

-- without the words
abbrev pub node_of : Stem → Node
node_of s = s.node

abbrev pub bare : List Put → List NodesPut
bare ps = map (λ (p : Put). record { param = p.param; nodes = map node_of p.stems }) ps

abbrev nodes_or : Option (List Stem) → Option (List Node)
nodes_or None = None
nodes_or (Some ss) = Some (map node_of ss)

bare_for : (ps : List Put) (x : List ℕ) → nodes_or (put_for ps x) ≡ nodes_for (bare ps) x
bare_for [] x = refl
bare_for (p ∷ ps) x = by (bare_for ps x) (bytes_eq p.param x)
  where
    by : nodes_or (put_for ps x) ≡ nodes_for (bare ps) x → (b : Bool) → nodes_or (if b then Some p.stems else put_for ps x) ≡ (if b then Some (map node_of p.stems) else nodes_for (bare ps) x)
    by rest true = refl
    by rest false = rest

bare_or : (s : Stem) (o : Option (List Stem)) → map node_of (or_itself s o) ≡ or_node s.node (nodes_or o)
bare_or s None = refl
bare_or s (Some ss) = refl

bare_stem : (ps : List Put) (s : Stem) (n : Node) → s.node ≡ n → map node_of (stems_for ps s n) ≡ node_for (bare ps) n
bare_stem ps s (variable v) e = bare_or s (put_for ps v.name) ∙ ap (λ (n : Node). or_node n (nodes_or (put_for ps v.name))) e ∙ ap (λ (o : Option (List Node)). or_node (variable v) o) (bare_for ps v.name)
bare_stem ps s (binder v) e = ap (λ (n : Node). n ∷ []) e
bare_stem ps s (public m) e = ap (λ (n : Node). n ∷ []) e
bare_stem ps s (fresh k) e = ap (λ (n : Node). n ∷ []) e
bare_stem ps s (symbol a f k) e = ap (λ (n : Node). n ∷ []) e
bare_stem ps s (fact a f) e = ap (λ (n : Node). n ∷ []) e

pub bare_in : (ps : List Put) (ss : List Stem) → map node_of (put_in ps ss) ≡ nodes_in (bare ps) (map node_of ss)
bare_in ps [] = refl
bare_in ps (s ∷ ss) =
    map-append node_of (stems_for ps s s.node) (put_in ps ss)
    ∙ ap (λ (ns : List Node). ns ++ map node_of (put_in ps ss)) (bare_stem ps s s.node refl)
    ∙ ap (λ (ns : List Node). node_for (bare ps) s.node ++ ns) (bare_in ps ss)

pub bare_from : (s : Standing) (q : Located) (i : ℕ) (ns : List Node) → map node_of (stems_from s q i ns) ≡ ns
bare_from s q i [] = refl
bare_from s q i (n ∷ ns) = ap (λ (ms : List Node). n ∷ ms) (bare_from s q (suc i) ns)

bare_put : (s : Standing) (q : Located) (ps : List Put) (xs : List (List ℕ)) (i : ℕ) (ts : List Tree) → bare (puts_of s q ps xs i ts) ≡ nodes_put (bare ps) xs ts
bare_put s q ps [] i ts = refl
bare_put s q ps (x ∷ xs) i [] = refl
bare_put s q ps (x ∷ xs) i (t ∷ ts) =
    let nodes : map node_of (put_in ps (stems_from s q i (tree_nodes Given t))) ≡ nodes_in (bare ps) (tree_nodes Given t) =
    bare_in ps (stems_from s q i (tree_nodes Given t)) ∙ ap (λ (ns : List Node). nodes_in (bare ps) ns) (bare_from s q i (tree_nodes Given t)) in
    ap (λ (ns : List Node). one_put x ns ∷ bare (puts_of s q ps xs (i + node_count t) ts)) nodes
    ∙ ap (λ (qs : List NodesPut). one_put x (nodes_in (bare ps) (tree_nodes Given t)) ∷ qs) (bare_put s q ps xs (i + node_count t) ts)

pub bare_behind : (s : Standing) (q : Located) (ps : List Put) (xs : List (List ℕ)) (ts : List Tree) → bare (behind_use s q ps xs ts) ≡ nodes_behind (bare ps) xs ts
bare_behind s q ps [] ts = refl
bare_behind s q ps (x ∷ xs) ts = bare_put s q ps (x ∷ xs) 0 ts
