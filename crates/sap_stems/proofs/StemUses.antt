-- The uses above a stem are the outermost of those above the place.
use Rattle.std.proofs.Common.{◌≡◌, ℕ, zero, suc, ◌+◌, Bool, true, false, List, [], ◌∷◌, ◌++◌, Option, Some, None, refl, ap, subst}
use Rattle.std.specs.Prelude.{if◌then◌else◌, slice_get}
use Rattle.std.specs.Str.{bytes_eq}
use Rattle.sap_terms.specs.Tree.{Tree, node_count}
use Rattle.sap_macro.specs.Located.{Located, call_at}
use Rattle.sap_nodes.specs.HeadNodes.{Node, binder, variable, public, fresh, symbol, fact, tree_nodes}
use Rattle.sap_nodes.specs.declared.part.Part.TheVariants.{Given}
use Rattle.sap_origin.specs.Definitions.{LocatedDefinition}
use Rattle.sap_origin.specs.Reached.{Standing, Reaches, reaches_here, reaches_use, reaches_left, reaches_right, reaches_copy, reaches_behind, reaches_then, reaches_else, reaches_found, reaches_missing}
use Rattle.sap_stems.specs.Stems.{Stem, Put, put_for, or_itself, stems_for, put_in, stems_from, puts_of, behind_use}
use Rattle.sap_stems.specs.StemsAt.{AreStems, puts_along}
use Rattle.sap_stems.specs.WrittenNodes.{written_nodes}

-- its uses are the last of these
abbrev pub IsAbove : List ℕ → Stem → Type 0
IsAbove us s = (xs : List ℕ) × (us ≡ xs ++ s.standing.uses)

abbrev AreAll : List ℕ → List Stem → Type 0
AreAll us [] = Unit {0}
AreAll us (s ∷ ss) = IsAbove us s × AreAll us ss

abbrev IfThere : List ℕ → Option (List Stem) → Type 0
IfThere us None = Unit {0}
IfThere us (Some ss) = AreAll us ss

abbrev ArePut : List ℕ → List Put → Type 0
ArePut us [] = Unit {0}
ArePut us (a ∷ ps) = AreAll us a.stems × ArePut us ps

module _ (us : List ℕ) where
  both : (xs ys : List Stem) → AreAll us xs → AreAll us ys → AreAll us (xs ++ ys)
  both [] ys a b = b
  both (x ∷ xs) ys a b = (a.0, both xs ys a.1 b)

  one_of : (ss : List Stem) (k : ℕ) (s : Stem) → AreAll us ss → slice_get ss k ≡ Some s → IsAbove us s
  one_of [] k s a e = absurd (cc (e))
  one_of (x ∷ ss) zero s a e = let is : x ≡ s = cc (e) in subst (λ (y : Stem). IsAbove us y) is a.0
  one_of (x ∷ ss) (suc k) s a e = one_of ss k s a.1 e

  put_there : (ps : List Put) (x : List ℕ) → ArePut us ps → IfThere us (put_for ps x)
  put_there [] x a = tt
  put_there (b ∷ ps) x a = by (put_there ps x a.1) (bytes_eq b.param x)
    where
      by : IfThere us (put_for ps x) → (t : Bool) → IfThere us (if t then Some b.stems else put_for ps x)
      by rest true = a.0
      by rest false = rest

  itself_or : (s : Stem) (o : Option (List Stem)) → IsAbove us s → IfThere us o → AreAll us (or_itself s o)
  itself_or s None a b = (a, tt)
  itself_or s (Some ss) a b = b

  for_one : (ps : List Put) (s : Stem) (n : Node) → ArePut us ps → IsAbove us s → AreAll us (stems_for ps s n)
  for_one ps s (variable v) a b = itself_or s (put_for ps v.name) b (put_there ps v.name a)
  for_one ps s (binder v) a b = (b, tt)
  for_one ps s (public m) a b = (b, tt)
  for_one ps s (fresh k) a b = (b, tt)
  for_one ps s (symbol c f k) a b = (b, tt)
  for_one ps s (fact c f) a b = (b, tt)

  for_all : (ps : List Put) (ss : List Stem) → ArePut us ps → AreAll us ss → AreAll us (put_in ps ss)
  for_all ps [] a b = tt
  for_all ps (s ∷ ss) a b = both (stems_for ps s s.node) (put_in ps ss) (for_one ps s s.node a b.0) (for_all ps ss a b.1)

  more_all : (k : ℕ) (ss : List Stem) → AreAll us ss → AreAll (k ∷ us) ss
  more_all k [] a = tt
  more_all k (s ∷ ss) a = ((k ∷ a.0.0, ap (λ (xs : List ℕ). k ∷ xs) a.0.1), more_all k ss a.1)

  more_put : (k : ℕ) (ps : List Put) → ArePut us ps → ArePut (k ∷ us) ps
  more_put k [] a = tt
  more_put k (p ∷ ps) a = (more_all k p.stems a.0, more_put k ps a.1)

all_from : (s : Standing) (q : Located) (i : ℕ) (ns : List Node) → AreAll s.uses (stems_from s q i ns)
all_from s q i [] = tt
all_from s q i (n ∷ ns) = (([], refl), all_from s q (suc i) ns)

all_put : (s : Standing) (q : Located) (ps : List Put) (xs : List (List ℕ)) (i : ℕ) (ts : List Tree) → ArePut s.uses ps → ArePut s.uses (puts_of s q ps xs i ts)
all_put s q ps [] i ts a = tt
all_put s q ps (x ∷ xs) i [] a = tt
all_put s q ps (x ∷ xs) i (t ∷ ts) a = (for_all s.uses ps (stems_from s q i (tree_nodes Given t)) a (all_from s q i (tree_nodes Given t)), all_put s q ps xs (i + node_count t) ts a)

all_behind : (s : Standing) (q : Located) (ps : List Put) (xs : List (List ℕ)) (ts : List Tree) → ArePut s.uses ps → ArePut s.uses (behind_use s q ps xs ts)
all_behind s q ps [] ts a = a
all_behind s q ps (x ∷ xs) ts a = all_put s q ps (x ∷ xs) 0 ts a

all_along : (ds : List LocatedDefinition) {s z : Standing} {q r : Located} {path : List ℕ} (ps : List Put) (m : Reaches ds s q path z r) → ArePut s.uses ps → ArePut z.uses (puts_along m ps)
all_along ds ps (reaches_here f) a = a
all_along ds ps (reaches_use {s = s} {k = k} {f = f} {ts = ts} {d = d} e every m) a =
    all_along ds (behind_use s (call_at k f ts) ps d.params ts) m (more_put s.uses (k + s.behind) (behind_use s (call_at k f ts) ps d.params ts) (all_behind s (call_at k f ts) ps d.params ts a))
all_along ds ps (reaches_left m) a = all_along ds ps m a
all_along ds ps (reaches_right m) a = all_along ds ps m a
all_along ds ps (reaches_copy m) a = all_along ds ps m a
all_along ds ps (reaches_behind m) a = all_along ds ps m a
all_along ds ps (reaches_then m) a = all_along ds ps m a
all_along ds ps (reaches_else m) a = all_along ds ps m a
all_along ds ps (reaches_found m) a = all_along ds ps m a
all_along ds ps (reaches_missing m) a = all_along ds ps m a

pub stem_above : (ds : List LocatedDefinition) (p : Located) (behind : ℕ) (path : List ℕ) (ss : List Stem) (k : ℕ) (s : Stem) (a : AreStems ds p behind path ss) → slice_get ss k ≡ Some s
    → (xs : List ℕ) × (a.standing.uses ≡ xs ++ s.standing.uses)
stem_above ds p behind path ss k s a e =
    let own = stems_from a.standing a.place 0 (written_nodes a.place) in
    one_of a.standing.uses (put_in (puts_along a.reaches []) own) k s
    (for_all a.standing.uses (puts_along a.reaches []) own (all_along ds [] a.reaches tt) (all_from a.standing a.place 0 (written_nodes a.place)))
    (subst (λ (xs : List Stem). slice_get xs k ≡ Some s) a.stems_are e)
