-- Each flaw of a definition's body has its place.
use Rattle.std.proofs.Common.{◌≡◌, ◌<◌, ◌+◌, ◌-◌, ◌^◌, ℕ, zero, suc, List, [], ◌∷◌, length, map, take, refl, sym, ap, ◌∙◌, subst, arith, Some, None, min}
use Rattle.std.proofs.lemmas.Option.{slice_get-map, slice_get_within}
use Rattle.std.specs.Prelude.{Bool, true, false, Err, Contains, option_map, slice_get}
use Rattle.sap_terms.proofs.PlainLaws.Items.{contains_got}
use Rattle.sap_terms.specs.Signature.{Sig}
use Rattle.sap_text.specs.declared.token.Token.{Token}
use Rattle.sap_grammar.specs.Cut.{Placed}
use Rattle.sap_grammar.specs.Words.{words_of}
use Rattle.sap_locks.specs.Annotation.{LockFlaw, without, over}
use Rattle.sap_macro.specs.Expansion.{plain_bodies, with_plain_body}
use Rattle.sap_macro.specs.Indexed.{defined}
use Rattle.sap_macro.specs.Located.{Located, without_numbers}
use Rattle.sap_macro.specs.Order.{AreInOrder, UsesOnly}
use Rattle.sap_macro.specs.Seen as whole_seen
use Rattle.sap_macro.specs.Written as written
use Rattle.sap_macro.specs.Written.{Definition, Written}
use Rattle.sap_process.specs.Flaws.{IsFirstScopeFlaw, IsOfScope}
use Rattle.sap_process.specs.Places.{Place, place, place_at, places}
use Rattle.sap_process.specs.Proc as whole
use Rattle.sap_process.specs.Proc.{Proc}
use Rattle.sap_process.specs.Sites.{Above, above_of, scope_below}
use Rattle.sap_process.specs.declared.flaw.Flaw.{Flaw}
use Rattle.sap_process.specs.declared.flaw.Flaw.TheVariants.{BadFunction, ReservedVar, ReservedFact, FactClash, PatternDestructor, Unbound, Rebound, SortClash, ScopeFull}
use Rattle.sap_uses.specs.ScopeFlaws.{IsFirstFlawedBehind, params_in_scope}
use Rattle.sap_uses.specs.declared.fault.MacroFault.{MacroFault}
use Rattle.sap_uses.specs.declared.fault.MacroFault.TheVariants as by
use Rattle.sap_nodes.specs.FlawNodes.{IsOfHead}
use Rattle.sap_nodes.specs.HeadNodes.{Node, head_nodes}
use Rattle.sap_origin.specs.Definitions.{LocatedDefinition, plain_definition}
use Rattle.sap_origin.specs.Meant.{definition_of}
use Rattle.sap_origin.specs.Origins.{start}
use Rattle.sap_origin.specs.Reached.{process_at}
use Rattle.sap_origin.specs.Reached as reached
use Rattle.sap_seen.specs.SeenNodes.{seen_nodes, seen_numbers}
use Rattle.sap_seen.specs.SeenPlaces.{ComesSeen, seen_of}
use Rattle.sap_stems.specs.WrittenNodes.{written_nodes}
use Rattle.sap_stems.specs.WrittenPlaces.{IsPlaceOf, of_process, of_definition}
use Rattle.sap_read.specs.Causes.{cause_of, fault_of_uses, lock_fault}
use Rattle.sap_read.specs.FileProcess.{IsUnexpanded, definitions_of, main_of}
use Rattle.sap_read.specs.Files.{IsParted, IsRead, no_tokens, no_header, no_item, refused, unexpanded, ill, locked, unchecked}
use Rattle.sap_read.specs.Item.{Standing, bodies, signature_of}
use Rattle.sap_read.specs.ItemGrammar.{AreItems}
use Rattle.sap_read.specs.LocatedItems.{LocatedBody, LocatedMain, definitions_at, located_bodies, main_at}
use Rattle.sap_read.specs.declared.fault.ReadFault.{ReadFault}
use Rattle.sap_read.specs.declared.fault.ReadFault.TheVariants.{Flawed}
use Rattle.sap_read_places.specs.declared.told.Told.{Told}
use Rattle.sap_read_places.specs.BodyFlawPlaces.{IsBodyFlawPlace, IsSeenNodeTold, body_sites}
use Rattle.sap_read_places.specs.Placed.{IsPlaced, stretch_before}
use Rattle.sap_read_places.proofs.Along.{Ordered, PlainBodies, at_place}
use Rattle.sap_read_places.proofs.FlawSome.{AreSpelled, HasNumbers, SomeHead, SomeNode, defined_body, got, numbers_in}
use Rattle.sap_read_places.proofs.FirstCauses.{of_cause}
use Rattle.sap_read_places.proofs.PlacedFiles.{has_main, plain_definitions_at}

-- what the laws of definitions in order say: a name stands for its definition, and a body uses what is defined alone
abbrev pub NamesStand : Type 0
NamesStand = (ds : List LocatedDefinition) (k : ℕ) (d : LocatedDefinition) → AreInOrder [] (map plain_definition ds) → slice_get ds k ≡ Some d → definition_of ds d.name ≡ Some d

abbrev pub BodiesUse : Type 0
BodiesUse = (ds : List Definition) (k : ℕ) (d : Definition) → AreInOrder [] ds → slice_get ds k ≡ Some d → UsesOnly (defined ds) d.body

-- what stands among those with plain bodies stands among them
record IsMapped (f : Definition → Definition) (ds : List LocatedDefinition) (k : ℕ) (c : Definition) : Type 0 where
  pub definition : LocatedDefinition
  pub stands : slice_get ds k ≡ Some definition
  pub is : f (plain_definition definition) ≡ c

mapped : (f : Definition → Definition) (ds : List LocatedDefinition) (k : ℕ) (c : Definition) → slice_get (map f (map plain_definition ds)) k ≡ Some c → IsMapped f ds k c
mapped f [] k c e = absurd (cc (e))
mapped f (d ∷ ds) zero c e = record { definition = d; stands = refl; is = cc (e) }
mapped f (d ∷ ds) (suc k) c e = let r = mapped f ds k c e in record { definition = r.definition; stands = r.stands; is = r.is }

-- ---- the node of which a flaw of scope speaks

of_head : (w : Flaw) → IsOfScope w → IsOfHead w
of_head BadFunction s = absurd s
of_head ReservedVar s = absurd s
of_head ReservedFact s = absurd s
of_head FactClash s = absurd s
of_head PatternDestructor s = absurd s
of_head Unbound s = tt
of_head Rebound s = tt
of_head SortClash s = tt
of_head ScopeFull s = absurd s

no_more : (k n : ℕ) → k < n → min k (2 ^ 64 - 1) < n
no_more k n low = omega (arith, low)

-- a `0` has no nodes
has_nodes : (y : Proc) (k : ℕ) (n : Node) → slice_get (head_nodes y) k ≡ Some n → ¬ (y ≡ whole.nil)
has_nodes y k n e none = let never : slice_get (head_nodes whole.nil) k ≡ Some n = subst (λ (x : Proc). slice_get (head_nodes x) k ≡ Some n) none e in absurd (cc (never))

abbrev pub SomeSeen : Type 0
SomeSeen = (ds : List LocatedDefinition) (s : reached.Standing) (p : Located) (path : List ℕ) (y : Proc) → AreInOrder [] (map plain_definition ds)
    → UsesOnly (defined (map plain_definition ds)) (without_numbers p) → process_at (seen_of ds p) path ≡ Some y → ¬ (y ≡ whole.nil)
    → (z : reached.Standing) × (q : Located) × ComesSeen ds s p path z q × (head_nodes y ≡ seen_nodes q)

abbrev pub WrittenSeen : Type 0
WrittenSeen = (ds : List LocatedDefinition) (p q : Located) (behind : ℕ) (path : List ℕ) (z : reached.Standing) → ComesSeen ds (start behind) p path z q → IsPlaceOf ds p behind z.behind q

abbrev pub AsManyNumbers : Type 0
AsManyNumbers = (q : Located) (ns : List ℕ) → length ns ≡ length (written_nodes q) → length (seen_numbers q ns) ≡ length (seen_nodes q)

abbrev pub BodiesArePlain : Type 0
BodiesArePlain = (es : List Definition) → AreInOrder [] es → plain_bodies written.call es ≡ map (with_plain_body es) es

abbrev pub PlacesAtPaths : Type 0
PlacesAtPaths = (p : Proc) (s : Above) (x : Place Above) → Contains (places scope_below s p) x → place_at scope_below s p x.path ≡ Some x

-- a flaw of a definition's body has its place
abbrev pub HasBodyFlawPlace : List ℕ → List ℕ → Flaw → List ℕ → Type 0
HasBodyFlawPlace z name w path = (t : Told) × IsBodyFlawPlace z name w path t

module _ (spelled : AreSpelled) (heads : SomeHead) (nodes : SomeNode) (plain : PlainBodies) (ordered : Ordered) (seen : SomeSeen) (written_seen : WrittenSeen) (as_many : AsManyNumbers)
    (plain_law : BodiesArePlain) (stand : NamesStand) (bodies_use : BodiesUse) (at_paths : PlacesAtPaths) (z : List ℕ) (ts : List Token) (x : List ℕ) (cut : List (List Placed)) (is : List Standing) (parted : IsParted z ts x cut)
    (items : AreItems (signature_of is) cut is) (nothing : cause_of is ≡ None) where
  abbrev g : Sig
  g = signature_of is

  abbrev bs : List LocatedBody
  bs = located_bodies items

  abbrev ds : List LocatedDefinition
  ds = definitions_at bs

  plain_ds : map plain_definition ds ≡ definitions_of (bodies is)
  plain_ds = plain_definitions_at bs ∙ ap definitions_of (plain (signature_of is) cut is items)

  order : AreInOrder [] (map plain_definition ds)
  order = subst (λ (es : List Definition). AreInOrder [] es) (sym plain_ds) (ordered is nothing)

  -- the numbers of what is written at a place
  place_numbers : (d : LocatedDefinition) → Contains ds d → (behind : ℕ) (q : Located) → IsPlaceOf ds d.body d.behind behind q → HasNumbers g (words_of z ts) q behind
  place_numbers d c _ q (of_process i) = numbers_in spelled heads g z ts x cut is parted items d.body d.behind q (defined_body bs d c) i
  place_numbers d c _ q (of_definition {d = e} among i) = numbers_in spelled heads g z ts x cut is parted items e.body e.behind q (defined_body bs e among) i

  node_told : (k : ℕ) (d : LocatedDefinition) → slice_get ds k ≡ Some d → (path : List ℕ) (y : Proc) → process_at (seen_of ds d.body) path ≡ Some y → ¬ (y ≡ whole.nil) → (n : ℕ) → n < length (head_nodes y)
      → (t : Told) × IsSeenNodeTold g z ts ds d path n t
  node_told k d stands path y at some n low =
      let uses = bodies_use (map plain_definition ds) k (plain_definition d) order (slice_get-map plain_definition ds k ∙ ap (option_map plain_definition) stands) in
      let r = seen ds (start d.behind) d.body path y order uses at some in
      let h = place_numbers d (contains_got ds d k stands) r.0.behind r.1 (written_seen ds d.body r.1 d.behind path r.0 r.2) in
      let many : length (seen_numbers r.1 h.0) ≡ length (head_nodes y) = as_many r.1 h.0 h.2 ∙ ap (λ (ns : List Node). length ns) (sym r.3) in
      let number = got (seen_numbers r.1 h.0) n (subst (λ (m : ℕ). n < m) (sym many) low) in (
        record { word = stretch_before ts (number.0 + r.0.behind); uses = map (stretch_before ts) r.0.uses },
        record { standing = r.0; place = r.1; comes = r.2; numbers = h.0; head = h.1; number = number.0; stands = number.1; word_is = refl; uses_are = refl },
      )

  module _ (main : LocatedMain) (is_main : main_at bs ≡ Some main) where
    placed : IsPlaced z ts ds main
    placed = record { name = x; cut = cut; standing = is; parted = parted; items = items; nothing = nothing; definitions_are = refl; main_is = is_main }

    scope_flaw_told : (k : ℕ) (d : LocatedDefinition) → slice_get ds k ≡ Some d → (w : Flaw) (path : List ℕ) → IsFirstScopeFlaw g (params_in_scope (plain_definition d)) (seen_of ds d.body) w path
        → HasBodyFlawPlace z d.name w path
    unfolding placed
    scope_flaw_told k d stands w path first =
        let s = first.at.site in
        let root = above_of (params_in_scope (plain_definition d)) 0 in
        let before = take first.place (body_sites ds d) in
        let at : process_at (seen_of ds d.body) s.path ≡ Some s.body =
        at_place scope_below (Some (place [] root (seen_of ds d.body))) s.path s (at_paths (seen_of ds d.body) root s (contains_got (body_sites ds d) s first.place first.at.stands)) in
        let n = nodes g before s w (of_head w first.of_scope) first.at.flaw in
        let low = no_more n.0 (length (head_nodes s.body)) (slice_get_within (head_nodes s.body) n.0 n.1.here.node n.1.here.stands) in
        let t = node_told k d stands s.path s.body at (has_nodes s.body n.0 n.1.here.node n.1.here.stands) (min n.0 (2 ^ 64 - 1)) low in (
          t.0,
          record {
            tokens = ts;
            definitions = ds;
            main = main;
            placed = placed;
            definition = d;
            defines = stand ds k d order stands;
            number = first.place;
            site = s;
            stands = first.at.stands;
            path_is = first.path_is;
            node = min n.0 (2 ^ 64 - 1);
            speaks = (n.0, n.1, refl);
            told = subst (λ (q : List ℕ). IsSeenNodeTold g z ts ds d q (min n.0 (2 ^ 64 - 1)) t.0) first.path_is t.1;
          },
        )

    pub body_flaw_told : (p : Written) (name : List ℕ) (w : Flaw) (path : List ℕ) → IsFirstFlawedBehind g (definitions_of (bodies is)) p name w path → HasBodyFlawPlace z name w path
    body_flaw_told p name w path first =
        let es = map plain_definition ds in
        let f : IsFirstFlawedBehind g es p name w path = subst (λ (fs : List Definition). IsFirstFlawedBehind g fs p name w path) (sym plain_ds) first in
        let m = mapped (with_plain_body es) ds f.at f.definition (subst (λ (fs : List Definition). slice_get fs f.at ≡ Some f.definition) (plain_law es order) f.stands) in
        let flaw : IsFirstScopeFlaw g (params_in_scope (plain_definition m.definition)) (seen_of ds m.definition.body) w path =
        scope_of m.definition f.definition m.is w path f.flawed.flaw in
        let named : m.definition.name ≡ name = ap (λ (c : Definition). c.name) m.is ∙ f.name_is in
        subst (λ (y : List ℕ). HasBodyFlawPlace z y w path) named (scope_flaw_told f.at m.definition m.stands w path flaw)
      where
        scope_of : (d : LocatedDefinition) (c : Definition) → with_plain_body (map plain_definition ds) (plain_definition d) ≡ c → (w : Flaw) (path : List ℕ)
            → IsFirstScopeFlaw g (params_in_scope c) (whole_seen.seen c.body) w path → IsFirstScopeFlaw g (params_in_scope (plain_definition d)) (seen_of ds d.body) w path
        scope_of d c e w path f = subst (λ (b : Definition). IsFirstScopeFlaw g (params_in_scope b) (whole_seen.seen b.body) w path) (sym e) f

-- ---- no other refusal has this cause

-- a flaw of a definition's body, if it is one
abbrev is_flawed : ReadFault → Bool
is_flawed (Flawed x w path) = true
is_flawed _ = false

early_has_none : (is : List Standing) (e : ReadFault) → cause_of is ≡ Some e → is_flawed e ≡ false
early_has_none = of_cause (λ (e : ReadFault). is_flawed e ≡ false) refl (λ n. refl) (λ x. refl) (λ x. refl) (λ x. refl)

lock_has_none : (w : LockFlaw) (path : List ℕ) → is_flawed (lock_fault w path) ≡ false
lock_has_none without path = refl
lock_has_none over path = refl

not_flawed : {A : Type 0} {e : ReadFault} {name : List ℕ} {w : Flaw} {path : List ℕ} → e ≡ Flawed name w path → is_flawed e ≡ false → A
not_flawed h n = let clash : true ≡ false = sym (ap is_flawed h) ∙ n in absurd (cc (clash))

-- a place of each flaw that a definition's body has first
abbrev BodyFlawsStand : List ℕ → Type 0
BodyFlawsStand z = (ts : List Token) (x : List ℕ) (cut : List (List Placed)) (is : List Standing) → IsParted z ts x cut → (items : AreItems (signature_of is) cut is) → cause_of is ≡ None
    → (m : LocatedMain) → main_at (located_bodies items) ≡ Some m → (p : Written) (name : List ℕ) (w : Flaw) (path : List ℕ)
    → IsFirstFlawedBehind (signature_of is) (definitions_of (bodies is)) p name w path → HasBodyFlawPlace z name w path

module _ (plain : PlainBodies) (z : List ℕ) (stands : BodyFlawsStand z) (name : List ℕ) (w : Flaw) (path : List ℕ) where
  unexpanded_flawed : (ts : List Token) (x : List ℕ) (cut : List (List Placed)) (is : List Standing) → IsParted z ts x cut → AreItems (signature_of is) cut is → cause_of is ≡ None → (f : MacroFault)
      → IsUnexpanded (signature_of is) (bodies is) f → fault_of_uses f ≡ Flawed name w path → HasBodyFlawPlace z name w path
  unexpanded_flawed ts x cut is p i c by.Mem u h = not_flawed h refl
  unexpanded_flawed ts x cut is p i c (by.Parameters y) u h = not_flawed h refl
  unexpanded_flawed ts x cut is p i c (by.Arguments y) u h = not_flawed h refl
  unexpanded_flawed ts x cut is p i c by.TooMany u h = not_flawed h refl
  unexpanded_flawed ts x cut is p i c by.TooDeep u h = not_flawed h refl
  unexpanded_flawed ts x cut is p i c (by.Large y) u h = not_flawed h refl
  unexpanded_flawed ts x cut is p i c (by.Flawed y v other) u h =
      let named : y ≡ name = cc (h) in
      let same : v ≡ w = cc (h) in
      let there : other ≡ path = cc (h) in
      let main = has_main (located_bodies i) u.main (ap main_of (plain (signature_of is) cut is i) ∙ u.is_main) in
      subst (λ (n : List ℕ). HasBodyFlawPlace z n w path) named (subst (λ (e : Flaw). HasBodyFlawPlace z y e path) same (subst (λ (r : List ℕ). HasBodyFlawPlace z y v r) there
      (stands ts x cut is p i c main.0 main.1 u.main y v other u.cause.holds)))

  pub refused_flawed : {e : ReadFault} → e ≡ Flawed name w path → IsRead z (Err e) → HasBodyFlawPlace z name w path
  refused_flawed h (no_tokens l) = not_flawed h refl
  refused_flawed h (no_header t n) = not_flawed h refl
  refused_flawed h (no_item p f) = not_flawed h refl
  refused_flawed h (refused {is = is} {e = e} p i c) = not_flawed h (early_has_none is e c)
  refused_flawed h (unexpanded {ts = ts} {x = x} {cut = cut} {is = is} {f = f} p i c u) = unexpanded_flawed ts x cut is p i c f u h
  refused_flawed h (ill p i c f first) = not_flawed h refl
  refused_flawed h (locked {w = v} {path = other} p i c f good l) = not_flawed h (lock_has_none v other)
  refused_flawed h (unchecked p i c f good a u) = not_flawed h refl
