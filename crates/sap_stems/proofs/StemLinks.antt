-- What the code makes of written nodes is what stands for them.
use Rattle.std.proofs.Common.{◌≡◌, ℕ, zero, suc, ◌+◌, ◌-◌, ◌^◌, min, Bool, true, false, List, [], ◌∷◌, ◌++◌, length, Option, Some, None, refl, sym, ap, ◌∙◌, subst, arith}
use Rattle.std.proofs.lemmas.Slice.Zip.{AllZip-long}
use Rattle.std.specs.Prelude.{if◌then◌else◌, slice_get}
use Rattle.std.specs.List.{AllZip}
use Rattle.std.specs.Str.{bytes_eq}
use Rattle.sap_terms.specs.Tree.{Tree, node_count}
use Rattle.sap_macro.specs.Located.{Located}
use Rattle.sap_macro.specs.Sources.{located}
use Rattle.sap_macro.specs.declared.definition.Definition as code
use Rattle.sap_nodes.specs.HeadNodes.{Node, binder, variable, public, fresh, symbol, fact, tree_nodes}
use Rattle.sap_nodes.specs.declared.part.Part.TheVariants.{Given}
use Rattle.sap_origin.specs.Definitions.{LocatedDefinition, located_definitions}
use Rattle.sap_origin.specs.Reached.{Standing, Reaches, reaches_here, reaches_use, reaches_left, reaches_right, reaches_copy, reaches_behind, reaches_then, reaches_else, reaches_found, reaches_missing}
use Rattle.sap_stems.specs.StemOf.{IsNodeOf, IsSome, IsStemAt}
use Rattle.sap_stems.specs.Stems.{Stem, put_for, stems_for, or_itself, put_in, stems_from, own_stems, puts_of, behind_use}
use Rattle.sap_stems.specs.Stems as stems
use Rattle.sap_stems.specs.StemsAt.{arguments, puts_by}
use Rattle.sap_origin.specs.Trails.{AreUses, IsTrail, IsUse}
use Rattle.sap_origin.specs.UsesAlong.{UseAt, uses_along}
use Rattle.sap_stems.specs.WrittenNodes.{written_nodes}
use Rattle.sap_stems.specs.code.Makings.{added_or, all_put, behind_put, from_node, made, made_all, next_node, node_at, nodes_put, params_at, placed, puts_made}
use Rattle.sap_stems.specs.declared.making.Making.{Making}
use Rattle.sap_stems.specs.declared.making.Put as made_put
use Rattle.sap_stems.specs.declared.making.WrittenNode.{WrittenNode}
use Rattle.sap_origin.specs.declared.trail.Trail.{Trail}
use Rattle.sap_origin.specs.declared.trail.Use.{Use}
use Rattle.sap_stems.proofs.Pieces.{join_zip}
use Rattle.sap_stems.proofs.WrittenStems.{tree_length}

-- they are these written nodes, one by one
abbrev AreNodes : List Stem → List WrittenNode → Type 0
AreNodes ss ws = AllZip IsNodeOf ss ws

record IsPut (p : stems.Put) (c : made_put.Put) : Type 0 where
  pub param : p.param ≡ c.param
  pub nodes : AreNodes p.stems c.nodes

abbrev ArePuts : List stems.Put → List made_put.Put → Type 0
ArePuts ps cs = AllZip IsPut ps cs

-- both lists are there, or neither
abbrev AreSome : Option (List Stem) → Option (List WrittenNode) → Type 0
AreSome None None = Unit {0}
AreSome None (Some ws) = ⊥
AreSome (Some ss) None = ⊥
AreSome (Some ss) (Some ws) = AreNodes ss ws

-- it is the node of this number
record IsFrom (s : Standing) (q : Located) (i : ℕ) (w : WrittenNode) : Type 0 where
  pub place_is : q ≡ located w.source.now
  pub index_is : w.index ≡ min i (2 ^ 64 - 1)
  pub behind_is : s.behind ≡ w.behind
  pub uses_are : w.uses ≡ length s.uses

next_from : {s : Standing} {q : Located} {i : ℕ} {w : WrittenNode} → IsFrom s q i w → IsFrom s q (suc i) (next_node w)
next_from {i = i} {w = w} h = record {
  place_is = h.place_is;
  index_is = let e = h.index_is in omega (arith, e);
  behind_is = h.behind_is;
  uses_are = h.uses_are;
}

same_puts : (ps : List stems.Put) (cs : List made_put.Put) (x : List ℕ) → ArePuts ps cs → AreSome (put_for ps x) (nodes_put cs x)
same_puts [] [] x a = tt
same_puts [] (c ∷ cs) x a = absurd a
same_puts (p ∷ ps) [] x a = absurd a
same_puts (p ∷ ps) (c ∷ cs) x a =
    subst (λ (y : List ℕ). AreSome (if bytes_eq p.param x then Some p.stems else put_for ps x) (if bytes_eq y x then Some c.nodes else nodes_put cs x)) a.0.param
    (by (same_puts ps cs x a.1) (bytes_eq p.param x))
  where
    by : AreSome (put_for ps x) (nodes_put cs x) → (t : Bool) → AreSome (if t then Some p.stems else put_for ps x) (if t then Some c.nodes else nodes_put cs x)
    by rest true = a.0.nodes
    by rest false = rest

-- what is made behind some nodes
record IsMade (s : Standing) (q : Located) (i : ℕ) (m r : Making) (ss : List Stem) : Type 0 where
  pub more : List WrittenNode
  pub nodes_are : r.nodes ≡ m.nodes ++ more
  pub are : AreNodes ss more
  pub at : IsFrom s q i r.at

module _ (ps : List stems.Put) (cs : List made_put.Put) (same : ArePuts ps cs) (s : Standing) (q : Located) where
  itself : (i : ℕ) (n : Node) (m : Making) → IsFrom s q i m.at → IsMade s q (suc i) m (placed m) (record { node = n; standing = s; place = q; index = i } ∷ [])
  itself i n m h = record {
    more = m.at ∷ [];
    nodes_are = refl;
    are = (record { place_is = h.place_is; index_is = h.index_is; behind_is = h.behind_is; uses_are = h.uses_are }, tt);
    at = next_from h;
  }

  by_some : (i : ℕ) (n : Node) (m : Making) (a : Option (List Stem)) (b : Option (List WrittenNode)) → AreSome a b → IsFrom s q i m.at
      → IsMade s q (suc i) m (added_or m b) (or_itself (record { node = n; standing = s; place = q; index = i }) a)
  by_some i n m None None e h = itself i n m h
  by_some i n m None (Some ws) e h = absurd e
  by_some i n m (Some ss) None e h = absurd e
  by_some i n m (Some ss) (Some ws) e h = record { more = ws; nodes_are = refl; are = e; at = next_from h }

  one_made : (i : ℕ) (n : Node) (m : Making) → IsFrom s q i m.at → IsMade s q (suc i) m (made cs m n) (stems_for ps (record { node = n; standing = s; place = q; index = i }) n)
  one_made i (variable v) m h = by_some i (variable v) m (put_for ps v.name) (nodes_put cs v.name) (same_puts ps cs v.name same) h
  one_made i (binder v) m h = itself i (binder v) m h
  one_made i (public x) m h = itself i (public x) m h
  one_made i (fresh k) m h = itself i (fresh k) m h
  one_made i (symbol a f k) m h = itself i (symbol a f k) m h
  one_made i (fact a f) m h = itself i (fact a f) m h

  assoc : (xs ys zs : List WrittenNode) → (xs ++ ys) ++ zs ≡ xs ++ (ys ++ zs)
  assoc [] ys zs = refl
  assoc (x ∷ xs) ys zs = ap (λ ws. x ∷ ws) (assoc xs ys zs)

  nodes_end : (xs : List WrittenNode) → xs ≡ xs ++ []
  nodes_end [] = refl
  nodes_end (x ∷ xs) = ap (λ ws. x ∷ ws) (nodes_end xs)

  all_made : (i : ℕ) (ns : List Node) (m : Making) → IsFrom s q i m.at → IsMade s q (i + length ns) m (made_all cs m ns) (put_in ps (stems_from s q i ns))
  all_made i [] m h = record { more = []; nodes_are = nodes_end m.nodes; are = tt; at = subst (λ (k : ℕ). IsFrom s q k m.at) (let is : i ≡ i + 0 = omega arith in is) h }
  all_made i (n ∷ ns) m h =
      let first = one_made i n m h in
      let rest = all_made (suc i) ns (made cs m n) first.at in
      record {
        more = first.more ++ rest.more;
        nodes_are = rest.nodes_are ∙ ap (λ (ws : List WrittenNode). ws ++ rest.more) first.nodes_are ∙ assoc m.nodes first.more rest.more;
        are = join_zip IsNodeOf (stems_for ps (record { node = n; standing = s; place = q; index = i }) n) (put_in ps (stems_from s q (suc i) ns)) first.more rest.more first.are rest.are;
        at = subst (λ (k : ℕ). IsFrom s q k (made_all cs (made cs m n) ns).at) (let is : suc i + length ns ≡ i + suc (length ns) = omega arith in is) rest.at;
      }

  puts_are : (xs : List (List ℕ)) (i : ℕ) (ts : List Tree) (w : WrittenNode) → IsFrom s q i w → ArePuts (puts_of s q ps xs i ts) (puts_made cs w xs ts)
  puts_are [] i ts w h = tt
  puts_are (x ∷ xs) i [] w h = tt
  puts_are (x ∷ xs) i (t ∷ ts) w h =
      let one = all_made i (tree_nodes Given t) (from_node w) h in
      let length_is = tree_length Given t in (
        record { param = refl; nodes = subst (λ (ws : List WrittenNode). AreNodes (put_in ps (stems_from s q i (tree_nodes Given t))) ws) (sym one.nodes_are) one.are },
        puts_are xs (i + node_count t) ts (made_all cs (from_node w) (tree_nodes Given t)).at
            (subst (λ (k : ℕ). IsFrom s q (i + k) (made_all cs (from_node w) (tree_nodes Given t)).at) length_is one.at),
      )

  behind_are : (xs : List (List ℕ)) (n : ℕ) (u : Use) → IsFrom s q 0 (node_at n u) → ArePuts (behind_use s q ps xs (arguments (located u.source.now))) (behind_put cs n u xs)
  behind_are [] n u h = same
  behind_are (x ∷ xs) n u h = puts_are (x ∷ xs) 0 (arguments (located u.source.now)) (node_at n u) h

-- so many uses are above the first, one more above the next
abbrev AreBelow : ℕ → List UseAt → Type 0
AreBelow n [] = Unit {0}
AreBelow n (u ∷ us) = (n ≡ length u.standing.uses) × AreBelow (n + 1) us

record Lengths (n : ℕ) (z : Standing) (us : List UseAt) : Type 0 where
  pub below : AreBelow n us
  pub all : length z.uses ≡ n + length us

lengths : (ds : List LocatedDefinition) {s z : Standing} {p q : Located} {path : List ℕ} (n : ℕ) → n ≡ length s.uses → (r : Reaches ds s p path z q) → Lengths n z (uses_along r)
lengths ds {s = s} n e (reaches_here f) = let is : length s.uses ≡ n + 0 = omega (arith, e) in record { below = tt; all = is }
lengths ds {z = z} n e (reaches_use {s = s} g every r) =
    let one : n + 1 ≡ suc (length s.uses) = omega (arith, e) in
    let rest = lengths ds (n + 1) one r in
    let all = rest.all in
    let is : length z.uses ≡ n + suc (length (uses_along r)) = omega (arith, all) in
    record { below = (e, rest.below); all = is }
lengths ds n e (reaches_left r) = lengths ds n e r
lengths ds n e (reaches_right r) = lengths ds n e r
lengths ds n e (reaches_copy r) = lengths ds n e r
lengths ds n e (reaches_behind r) = lengths ds n e r
lengths ds n e (reaches_then r) = lengths ds n e r
lengths ds n e (reaches_else r) = lengths ds n e r
lengths ds n e (reaches_found r) = lengths ds n e r
lengths ds n e (reaches_missing r) = lengths ds n e r

params_are : (defs : List code.Definition) (ns : List ℕ) (k : ℕ) (d : LocatedDefinition) → slice_get (located_definitions defs ns) k ≡ Some d → d.params ≡ params_at defs k
params_are [] ns k d e = absurd (cc (e))
params_are (c ∷ defs) [] k d e = absurd (cc (e))
params_are (c ∷ defs) (n ∷ ns) zero d e =
    let same : ◌≡◌ {A = Option LocatedDefinition} (Some (record { name = c.name; params = c.params; body = located c.body.value; behind = n })) (Some d) = e in
    let is : record { name = c.name; params = c.params; body = located c.body.value; behind = n } ≡ d = cc (same) in
    ap (λ (a : LocatedDefinition). a.params) (sym is)
params_are (c ∷ defs) (n ∷ ns) (suc k) d e = params_are defs ns k d e

module _ (defs : List code.Definition) (ns : List ℕ) where
  abbrev ds : List LocatedDefinition
  ds = located_definitions defs ns

  all_are : (ps : List stems.Put) (cs : List made_put.Put) → ArePuts ps cs → (n : ℕ) (us : List UseAt) (vs : List Use) → AreBelow n us → AreUses ds us vs → ArePuts (puts_by us ps) (all_put defs cs n vs)
  all_are ps cs same n [] [] b a = same
  all_are ps cs same n [] (v ∷ vs) b a = absurd a
  all_are ps cs same n (u ∷ us) [] b a = absurd a
  all_are ps cs same n (u ∷ us) (v ∷ vs) b a =
      let from : IsFrom u.standing u.place 0 (node_at n v) = record { place_is = a.0.place_is; index_is = refl; behind_is = a.0.behind_is; uses_are = b.0 } in
      let one : ArePuts (behind_use u.standing u.place ps (params_at defs v.definition) (arguments (located v.source.now))) (behind_put cs n v (params_at defs v.definition)) =
      behind_are ps cs same u.standing u.place (params_at defs v.definition) n v from in
      let here : ArePuts (behind_use u.standing u.place ps u.definition.params (arguments u.place)) (behind_put cs n v (params_at defs v.definition)) =
      subst (λ (xs : List (List ℕ)). ArePuts (behind_use u.standing u.place ps xs (arguments u.place)) (behind_put cs n v (params_at defs v.definition))) (sym (params_are defs ns v.definition u.definition a.0.definition_is))
      (subst (λ (q : Located). ArePuts (behind_use u.standing u.place ps (params_at defs v.definition) (arguments q)) (behind_put cs n v (params_at defs v.definition))) (sym a.0.place_is) one) in
      all_are (behind_use u.standing u.place ps u.definition.params (arguments u.place)) (behind_put cs n v (params_at defs v.definition)) here (n + 1) us vs b.1 a.1

  got_some : (ss : List Stem) (ws : List WrittenNode) (k : ℕ) → AreNodes ss ws → IsSome (slice_get ss k) (slice_get ws k)
  got_some [] [] k a = tt
  got_some [] (w ∷ ws) k a = absurd a
  got_some (s ∷ ss) [] k a = absurd a
  got_some (s ∷ ss) (w ∷ ws) zero a = a.0
  got_some (s ∷ ss) (w ∷ ws) (suc k) a = got_some ss ws k a.1

  -- the answer of the code
  pub stem_is : (p : Located) (behind : ℕ) (path : List ℕ) (t : Trail) (k : ℕ) → IsTrail ds p behind path t
      → IsStemAt ds p behind path k (slice_get (made_all (all_put defs [] 0 t.uses) (from_node (record { source = t.source; index = 0; behind = t.behind; uses = length t.uses })) (written_nodes (located t.source.now))).nodes k)
  stem_is p behind path t k h =
      let z = h.standing in
      let place = located t.source.now in
      let us = uses_along h.reaches in
      let counted = lengths ds 0 refl h.reaches in
      let puts = puts_by us [] in
      let same : ArePuts puts (all_put defs [] 0 t.uses) = all_are [] [] tt 0 us t.uses counted.below h.uses in
      let as_many = sym (AllZip-long (IsUse ds) us t.uses h.uses) in
      let all = counted.all in
      let w : WrittenNode = record { source = t.source; index = 0; behind = t.behind; uses = length t.uses } in
      let from : IsFrom z place 0 w = record { place_is = refl; index_is = refl; behind_is = h.behind_is; uses_are = (let is : length t.uses ≡ length z.uses = omega (arith, all, as_many) in is) } in
      let one = all_made puts (all_put defs [] 0 t.uses) same z place 0 (written_nodes place) (from_node w) from in
      let ss = put_in puts (own_stems z place) in (
        ss,
        record { standing = z; place = place; reaches = h.reaches; stems_are = refl },
        subst (λ (ws : List WrittenNode). IsSome (slice_get ss k) (slice_get ws k)) (sym one.nodes_are) (got_some ss one.more k one.are),
      )

  -- the same, as the code has it
  pub stem_told : (p : Located) (behind : ℕ) (path : List ℕ) (t : Trail) (k : ℕ) (cs : List made_put.Put) (old : List WrittenNode) (n : ℕ) (m : Making) (r : Option WrittenNode)
      → cs ≡ all_put defs [] 0 t.uses → old ≡ [] → n ≡ length t.uses
      → m ≡ made_all cs (record { at = record { source = t.source; index = 0; behind = t.behind; uses = n }; nodes = old }) (written_nodes (located t.source.now))
      → slice_get m.nodes k ≡ r → IsTrail ds p behind path t → IsStemAt ds p behind path k r
  stem_told p behind path t k cs old n m r a b c e g h =
      let ns = written_nodes (located t.source.now) in
      let is : m ≡ made_all (all_put defs [] 0 t.uses) (from_node (record { source = t.source; index = 0; behind = t.behind; uses = length t.uses })) ns =
      e
      ∙ ap (λ (xs : List made_put.Put). made_all xs (record { at = record { source = t.source; index = 0; behind = t.behind; uses = n }; nodes = old }) ns) a
      ∙ ap (λ (ws : List WrittenNode). made_all (all_put defs [] 0 t.uses) (record { at = record { source = t.source; index = 0; behind = t.behind; uses = n }; nodes = ws }) ns) b
      ∙ ap (λ (j : ℕ). made_all (all_put defs [] 0 t.uses) (from_node (record { source = t.source; index = 0; behind = t.behind; uses = j })) ns) c in
      subst (λ (o : Option WrittenNode). IsStemAt ds p behind path k o) (ap (λ (x : Making). slice_get x.nodes k) (sym is) ∙ g) (stem_is p behind path t k h)
