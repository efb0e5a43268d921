-- Stems are written nodes of the file.
use Rattle.std.proofs.Common.{◌≡◌, ℕ, zero, suc, ◌+◌, Bool, true, false, List, [], ◌∷◌, ◌++◌, length, Option, Some, None, refl, ap, ◌∙◌, subst, arith}
use Rattle.std.specs.Prelude.{Contains, if◌then◌else◌, slice_get}
use Rattle.std.specs.Str.{bytes_eq}
use Rattle.sap_terms.specs.Tree as tree
use Rattle.sap_terms.specs.Tree.{Tree, Trees, none, more, trees_of, node_count, trees_count}
use Rattle.sap_terms.proofs.PlainLaws.Items.{first_item, later_item}
use Rattle.sap_macro.specs.Located.{Located, call_at}
use Rattle.sap_nodes.specs.HeadNodes.{Node, binder, variable, public, fresh, symbol, fact, tree_nodes, trees_nodes}
use Rattle.sap_nodes.specs.declared.part.Part.{Part}
use Rattle.sap_nodes.specs.declared.part.Part.TheVariants.{Given}
use Rattle.sap_origin.specs.Definitions.{LocatedDefinition}
use Rattle.sap_origin.specs.Meant.{definition_of}
use Rattle.sap_origin.specs.Reached.{Standing, Reaches, ReachesBy, reaches_here, reaches_use, reaches_left, reaches_right, reaches_copy, reaches_behind, reaches_then, reaches_else, reaches_found, reaches_missing}
use Rattle.sap_origin.specs.declared.trail.Replaced.{Replaced}
use Rattle.sap_stems.specs.Stems.{Stem, Put, put_for, or_itself, stems_for, put_in, stems_from, puts_of, behind_use}
use Rattle.sap_stems.specs.StemsAt.{AreStems, puts_along}
use Rattle.sap_stems.specs.WrittenNodes.{written_nodes}
use Rattle.sap_stems.specs.WrittenPlaces.{IsPlaceIn, place_itself, place_left, place_right, place_copy, place_behind, place_then, place_else, place_found, place_missing, IsPlaceOf, of_process, of_definition, IsWrittenNode}

-- ---- items of joined lists

in_front : {A : Type 0} (xs ys : List A) (j : ℕ) (a : A) → slice_get xs j ≡ Some a → slice_get (xs ++ ys) j ≡ Some a
in_front [] ys j a e = absurd (cc (e))
in_front (x ∷ xs) ys zero a e = e
in_front (x ∷ xs) ys (suc j) a e = in_front xs ys j a e

behind_it : {A : Type 0} (xs ys : List A) (n j : ℕ) → length xs ≡ n → slice_get (xs ++ ys) (n + j) ≡ slice_get ys j
behind_it [] ys n j e = ap (λ (k : ℕ). slice_get ys k) (omega (arith, e))
behind_it (x ∷ xs) ys zero j e = absurd (omega (arith, e))
behind_it (x ∷ xs) ys (suc n) j e =
    let is : suc n + j ≡ suc (n + j) = omega arith in
    ap (λ (k : ℕ). slice_get (x ∷ (xs ++ ys)) k) is ∙ behind_it xs ys n j (omega (arith, e))

joined_length : (xs ys : List Node) → length (xs ++ ys) ≡ length xs + length ys
joined_length [] ys = omega arith
joined_length (x ∷ xs) ys = let rest = joined_length xs ys in omega (arith, rest)

mutual
  pub tree_length : (a : Part) (t : Tree) → length (tree_nodes a t) ≡ node_count t
  tree_length a (tree.variable v) = refl
  tree_length a (tree.public n) = refl
  tree_length a (tree.fresh k) = refl
  tree_length a (tree.apply f ts) = let rest = trees_length a ts in omega (arith, rest)

  trees_length : (a : Part) (ts : Trees) → length (trees_nodes a ts) ≡ trees_count ts
  trees_length a none = refl
  trees_length a (more t ts) =
      let first = tree_length a t in
      let rest = trees_length a ts in
      let both = joined_length (tree_nodes a t) (trees_nodes a ts) in
      omega (arith, first, rest, both)

-- ---- places

inside : {x q p : Located} → IsPlaceIn x q → IsPlaceIn q p → IsPlaceIn x p
inside a place_itself = a
inside a (place_left b) = place_left (inside a b)
inside a (place_right b) = place_right (inside a b)
inside a (place_copy b) = place_copy (inside a b)
inside a (place_behind b) = place_behind (inside a b)
inside a (place_then b) = place_then (inside a b)
inside a (place_else b) = place_else (inside a b)
inside a (place_found b) = place_found (inside a b)
inside a (place_missing b) = place_missing (inside a b)

among : (ds : List LocatedDefinition) (f : List ℕ) (d : LocatedDefinition) → definition_of ds f ≡ Some d → Contains ds d
among [] f d e = absurd (cc (e))
among (c ∷ ds) f d e = by (among ds f d) (bytes_eq c.name f) e
  where
    by : (definition_of ds f ≡ Some d → Contains ds d) → (t : Bool) → (if t then Some c else definition_of ds f) ≡ Some d → Contains (c ∷ ds) d
    by rest true h = let is : c ≡ d = cc (h) in subst (λ (a : LocatedDefinition). Contains (c ∷ ds) a) is (first_item c ds)
    by rest false h = later_item c ds d (rest h)

module _ (ds : List LocatedDefinition) (p : Located) (behind : ℕ) where
  abbrev Is : Stem → Type 0
  Is s = IsWrittenNode ds p behind s

  abbrev IsOf : ℕ → Located → Type 0
  IsOf n q = IsPlaceOf ds p behind n q

  deeper : {n : ℕ} {x q : Located} → IsPlaceIn x q → IsOf n q → IsOf n x
  deeper a (of_process b) = of_process (inside a b)
  deeper a (of_definition c b) = of_definition c (inside a b)

  -- to a place of these one comes along each path
  pub place_along : (v : Replaced) {s z : Standing} {q r : Located} {path : List ℕ} → ReachesBy ds v s q path z r → IsOf s.behind q → IsOf z.behind r
  place_along v (reaches_here f) place = place
  place_along v (reaches_use {f = f} {d = d} e g m) place = place_along v m (of_definition (among ds f d e) place_itself)
  place_along v (reaches_left m) place = place_along v m (deeper (place_left place_itself) place)
  place_along v (reaches_right m) place = place_along v m (deeper (place_right place_itself) place)
  place_along v (reaches_copy m) place = place_along v m (deeper (place_copy place_itself) place)
  place_along v (reaches_behind m) place = place_along v m (deeper (place_behind place_itself) place)
  place_along v (reaches_then m) place = place_along v m (deeper (place_then place_itself) place)
  place_along v (reaches_else m) place = place_along v m (deeper (place_else place_itself) place)
  place_along v (reaches_found m) place = place_along v m (deeper (place_found place_itself) place)
  place_along v (reaches_missing m) place = place_along v m (deeper (place_missing place_itself) place)

  -- all of these are
  abbrev AreAll : List Stem → Type 0
  AreAll [] = Unit {0}
  AreAll (s ∷ ss) = Is s × AreAll ss

  abbrev IfThere : Option (List Stem) → Type 0
  IfThere None = Unit {0}
  IfThere (Some ss) = AreAll ss

  abbrev ArePut : List Put → Type 0
  ArePut [] = Unit {0}
  ArePut (a ∷ ps) = AreAll a.stems × ArePut ps

  both : (xs ys : List Stem) → AreAll xs → AreAll ys → AreAll (xs ++ ys)
  both [] ys a b = b
  both (x ∷ xs) ys a b = (a.0, both xs ys a.1 b)

  one_of : (ss : List Stem) (k : ℕ) (s : Stem) → AreAll ss → slice_get ss k ≡ Some s → Is s
  one_of [] k s a e = absurd (cc (e))
  one_of (x ∷ ss) zero s a e = let is : x ≡ s = cc (e) in subst (λ (y : Stem). Is y) is a.0
  one_of (x ∷ ss) (suc k) s a e = one_of ss k s a.1 e

  put_there : (ps : List Put) (x : List ℕ) → ArePut ps → IfThere (put_for ps x)
  put_there [] x a = tt
  put_there (b ∷ ps) x a = by (put_there ps x a.1) (bytes_eq b.param x)
    where
      by : IfThere (put_for ps x) → (t : Bool) → IfThere (if t then Some b.stems else put_for ps x)
      by rest true = a.0
      by rest false = rest

  itself_or : (s : Stem) (o : Option (List Stem)) → Is s → IfThere o → AreAll (or_itself s o)
  itself_or s None a b = (a, tt)
  itself_or s (Some ss) a b = b

  for_one : (ps : List Put) (s : Stem) (n : Node) → ArePut ps → Is s → AreAll (stems_for ps s n)
  for_one ps s (variable v) a b = itself_or s (put_for ps v.name) b (put_there ps v.name a)
  for_one ps s (binder v) a b = (b, tt)
  for_one ps s (public m) a b = (b, tt)
  for_one ps s (fresh k) a b = (b, tt)
  for_one ps s (symbol c f k) a b = (b, tt)
  for_one ps s (fact c f) a b = (b, tt)

  for_all : (ps : List Put) (ss : List Stem) → ArePut ps → AreAll ss → AreAll (put_in ps ss)
  for_all ps [] a b = tt
  for_all ps (s ∷ ss) a b = both (stems_for ps s s.node) (put_in ps ss) (for_one ps s s.node a b.0) (for_all ps ss a b.1)

  -- these nodes stand at the place, from this number on
  abbrev StandAt : Located → ℕ → List Node → Type 0
  StandAt q i ns = (j : ℕ) (n : Node) → slice_get ns j ≡ Some n → slice_get (written_nodes q) (i + j) ≡ Some n

  all_from : (s : Standing) (q : Located) (i : ℕ) (ns : List Node) → IsOf s.behind q → StandAt q i ns → AreAll (stems_from s q i ns)
  all_from s q i [] place stand = tt
  all_from s q i (n ∷ ns) place stand = (
    record { place = place; node = subst (λ (k : ℕ). slice_get (written_nodes q) k ≡ Some n) (omega arith) (stand 0 n refl) },
    all_from s q (suc i) ns place (λ j m e. subst (λ (k : ℕ). slice_get (written_nodes q) k ≡ Some m) (omega arith) (stand (suc j) m e)),
  )

  all_put : (s : Standing) (q : Located) (ps : List Put) (xs : List (List ℕ)) (i : ℕ) (ts : List Tree) → IsOf s.behind q → ArePut ps → StandAt q i (trees_nodes Given (trees_of ts)) → ArePut (puts_of s q ps xs i ts)
  all_put s q ps [] i ts place a stand = tt
  all_put s q ps (x ∷ xs) i [] place a stand = tt
  all_put s q ps (x ∷ xs) i (t ∷ ts) place a stand = (
    for_all ps (stems_from s q i (tree_nodes Given t)) a (all_from s q i (tree_nodes Given t) place (λ j n e. stand j n (in_front (tree_nodes Given t) (trees_nodes Given (trees_of ts)) j n e))),
    all_put s q ps xs (i + node_count t) ts place a (λ j n e.
        subst (λ (k : ℕ). slice_get (written_nodes q) k ≡ Some n) (omega arith)
        (stand (node_count t + j) n (behind_it (tree_nodes Given t) (trees_nodes Given (trees_of ts)) (node_count t) j (tree_length Given t) ∙ e))),
  )

  all_behind : (s : Standing) (k : ℕ) (f : List ℕ) (ps : List Put) (xs : List (List ℕ)) (ts : List Tree) → IsOf s.behind (call_at k f ts) → ArePut ps → ArePut (behind_use s (call_at k f ts) ps xs ts)
  all_behind s k f ps [] ts place a = a
  all_behind s k f ps (x ∷ xs) ts place a = all_put s (call_at k f ts) ps (x ∷ xs) 0 ts place a (λ j n e. subst (λ (m : ℕ). slice_get (trees_nodes Given (trees_of ts)) m ≡ Some n) (omega arith) e)

  all_along : {s z : Standing} {q r : Located} {path : List ℕ} (ps : List Put) (m : Reaches ds s q path z r) → IsOf s.behind q → ArePut ps → IsOf z.behind r × ArePut (puts_along m ps)
  all_along ps (reaches_here f) place a = (place, a)
  all_along ps (reaches_use {s = s} {k = k} {f = f} {ts = ts} {d = d} e every m) place a =
      all_along (behind_use s (call_at k f ts) ps d.params ts) m (of_definition (among ds f d e) place_itself) (all_behind s k f ps d.params ts place a)
  all_along ps (reaches_left m) place a = all_along ps m (deeper (place_left place_itself) place) a
  all_along ps (reaches_right m) place a = all_along ps m (deeper (place_right place_itself) place) a
  all_along ps (reaches_copy m) place a = all_along ps m (deeper (place_copy place_itself) place) a
  all_along ps (reaches_behind m) place a = all_along ps m (deeper (place_behind place_itself) place) a
  all_along ps (reaches_then m) place a = all_along ps m (deeper (place_then place_itself) place) a
  all_along ps (reaches_else m) place a = all_along ps m (deeper (place_else place_itself) place) a
  all_along ps (reaches_found m) place a = all_along ps m (deeper (place_found place_itself) place) a
  all_along ps (reaches_missing m) place a = all_along ps m (deeper (place_missing place_itself) place) a

  pub stem_written : {path : List ℕ} {ss : List Stem} (k : ℕ) (s : Stem) → AreStems ds p behind path ss → slice_get ss k ≡ Some s → IsWrittenNode ds p behind s
  stem_written {ss = ss} k s a e =
      let come = all_along [] a.reaches (of_process place_itself) tt in
      let own : AreAll (stems_from a.standing a.place 0 (written_nodes a.place)) =
      all_from a.standing a.place 0 (written_nodes a.place) come.0 (λ j n g. subst (λ (m : ℕ). slice_get (written_nodes a.place) m ≡ Some n) (omega arith) g) in
      one_of (put_in (puts_along a.reaches []) (stems_from a.standing a.place 0 (written_nodes a.place))) k s (for_all (puts_along a.reaches []) (stems_from a.standing a.place 0 (written_nodes a.place)) come.1 own)
      (subst (λ (xs : List Stem). slice_get xs k ≡ Some s) a.stems_are e)
