-- Each flaw of the process of a file has its place.
use Rattle.std.proofs.Common.{◌≡◌, ◌<◌, ◌≤◌, ◌+◌, ◌-◌, ◌^◌, ◌⊎◌, inl, inr, ℕ, zero, suc, List, [], ◌∷◌, ◌++◌, length, map, take, refl, sym, ap, ◌∙◌, subst, arith, Option, Some, None, min}
use Rattle.std.proofs.lemmas.List.{length-append, take_all}
use Rattle.std.proofs.lemmas.List.Elements.{Contains-append_cases, Contains-append_right}
use Rattle.std.proofs.lemmas.Option.{slice_get_within}
use Rattle.std.specs.Prelude.{Bool, true, false, Err, Contains, if◌then◌else◌, is_none, slice_get, ⊤}
use Rattle.sap_terms.proofs.PlainLaws.Items.{contains_got}
use Rattle.sap_terms.specs.Signature.{Sig}
use Rattle.sap_terms.specs.declared.limits.TheConstants.{MOST_SCOPE_NAMES}
use Rattle.sap_terms.specs.declared.var.Var.{Var}
use Rattle.sap_text.specs.declared.token.Token.{Token}
use Rattle.sap_grammar.specs.Cut.{Placed}
use Rattle.sap_grammar.specs.Words.{Word, words_of}
use Rattle.sap_grammar.specs.declared.limits.Limits.{Limits}
use Rattle.sap_draft.specs.LocatedProcesses.{par_located}
use Rattle.sap_draft.specs.ProcessGrammar.{IsPar}
use Rattle.sap_draft.specs.declared.limits.TheConstants.{FILE_LIMITS}
use Rattle.sap_locks.specs.Annotation.{LockFlaw, without, over}
use Rattle.sap_macro.specs.Expansion.{expansion}
use Rattle.sap_macro.specs.Indexed.{defined}
use Rattle.sap_macro.specs.Located.{Located, without_numbers}
use Rattle.sap_macro.specs.Order.{AreInOrder, UsesOnly}
use Rattle.sap_macro.specs.Written.{Definition, Written}
use Rattle.sap_process.specs.Action.{new, out, send, input, receive, event, insert, delete, lock, unlock, embedded}
use Rattle.sap_process.specs.Flaws.{HasFlaw, IsFirstFlaw}
use Rattle.sap_process.specs.Places.{place, place_at}
use Rattle.sap_process.specs.Proc.{Proc, nil, parallel, replicated, act, test, lookup}
use Rattle.sap_process.specs.Sites.{Above, Site, above_of, scope_below, sites, sites_in}
use Rattle.sap_process.specs.declared.flaw.Flaw.{Flaw}
use Rattle.sap_process.specs.declared.flaw.Flaw.TheVariants.{BadFunction, ReservedVar, ReservedFact, FactClash, PatternDestructor, Unbound, Rebound, SortClash, ScopeFull}
use Rattle.sap_nodes.specs.FlawNodes.{IsNodeOf, IsOfHead}
use Rattle.sap_nodes.specs.FullScope.{Fills, here, further, IsFilling, IsLast, action_binding, action_front, binding_nodes, front_nodes, told_node}
use Rattle.sap_nodes.specs.HeadNodes.{Node, action_nodes, head_nodes}
use Rattle.sap_nodes.specs.SpokenOf.{IsSpoken}
use Rattle.sap_nodes.specs.declared.full.Spoken.{Spoken}
use Rattle.sap_origin.specs.Definitions.{LocatedDefinition, plain_definition}
use Rattle.sap_origin.specs.Reached.{number_of, process_at, process_below}
use Rattle.sap_stems.specs.Likeness.{AreLike}
use Rattle.sap_stems.specs.Stems.{Stem}
use Rattle.sap_stems.specs.StemsAt.{AreStems}
use Rattle.sap_stems.specs.WrittenNodes.{written_nodes}
use Rattle.sap_stems.specs.WrittenPlaces.{IsPlaceIn, IsPlaceOf, IsWrittenNode, of_process, of_definition}
use Rattle.sap_head_words.specs.HasHead.{HasHead}
use Rattle.sap_head_words.specs.HeadWords.{HeadWords}
use Rattle.sap_read.specs.Causes.{cause_of, fault_of_uses, lock_fault}
use Rattle.sap_read.specs.FileProcess.{definitions_of, main_of}
use Rattle.sap_read.specs.Files.{IsFileProcess, IsParted, IsRead, no_tokens, no_header, no_item, refused, unexpanded, ill, locked, unchecked}
use Rattle.sap_read.specs.Identifiers.{identifiers_of}
use Rattle.sap_read.specs.Item.{Standing, bodies, signature_of}
use Rattle.sap_read.specs.ItemGrammar.{AreItems}
use Rattle.sap_read.specs.LocatedItems.{LocatedBody, LocatedMain, defined_at, definitions_at, located_bodies, main_at}
use Rattle.sap_read.specs.SpelledBodies.{IsSpelledIn, item_end}
use Rattle.sap_read.specs.declared.fault.ReadFault.{ReadFault}
use Rattle.sap_read.specs.declared.fault.ReadFault.TheVariants.{Ill}
use Rattle.sap_uses.specs.declared.fault.MacroFault.{MacroFault}
use Rattle.sap_uses.specs.declared.fault.MacroFault.TheVariants as by
use Rattle.sap_read_places.specs.declared.told.Told.{Told}
use Rattle.sap_read_places.specs.FlawPlaces.{IsFlawPlace, IsNodeTold, IsSpokenTold, IsStemTold}
use Rattle.sap_read_places.specs.Placed.{IsPlaced, stretch_before}
use Rattle.sap_read_places.proofs.Along.{Ordered, PlacesStand, PlainBodies, Used, at_place}
use Rattle.sap_read_places.proofs.FirstCauses.{of_cause}
use Rattle.sap_read_places.proofs.PlacedFiles.{has_main, plain_definitions_at}

some_same : {A : Type 0} {a b : A} → ◌≡◌ {A = Option A} (Some a) (Some b) → a ≡ b
some_same e = cc (e)

-- what stands at a number within
pub got : {A : Type 0} (xs : List A) (k : ℕ) → k < length xs → (x : A) × (slice_get xs k ≡ Some x)
got [] k low = absurd (omega (arith, low))
got (x ∷ xs) zero low = (x, refl)
got (x ∷ xs) (suc k) low = got xs k (omega (arith, low))

-- ---- a written node has its word

-- one of what the items say is this, with so many words behind
abbrev pub HasBody : List LocatedBody → Located → ℕ → Type 0
HasBody bs p behind = (b : LocatedBody) × Contains bs b × (b.content ≡ p) × (b.behind ≡ behind)

more_bodies : (b : LocatedBody) (bs : List LocatedBody) (p : Located) (behind : ℕ) → HasBody bs p behind → HasBody (b ∷ bs) p behind
more_bodies b bs p behind h = (h.0, Contains-append_right (b ∷ []) bs h.0 h.1, h.2, h.3)

first_body : (b : LocatedBody) (bs : List LocatedBody) → HasBody (b ∷ bs) b.content b.behind
first_body b bs = (b, contains_got (b ∷ bs) b 0 refl, refl, refl)

main_among : (n : Bool) (b : LocatedBody) (bs : List LocatedBody) (m : LocatedMain)
    → (if n then Some (record { process = b.content; behind = b.behind }) else main_at bs) ≡ Some m → (main_at bs ≡ Some m → HasBody bs m.process m.behind)
    → HasBody (b ∷ bs) m.process m.behind
main_among true b bs m e rest =
    let same : ◌≡◌ {A = LocatedMain} (record { process = b.content; behind = b.behind }) m = some_same e in
    subst (λ (n : LocatedMain). HasBody (b ∷ bs) n.process n.behind) same (first_body b bs)
main_among false b bs m e rest = more_bodies b bs m.process m.behind (rest e)

main_body : (bs : List LocatedBody) (m : LocatedMain) → main_at bs ≡ Some m → HasBody bs m.process m.behind
main_body [] m e = absurd (cc (e))
main_body (b ∷ bs) m e = main_among (is_none b.label) b bs m e (main_body bs m)

one_defined : (o : Option (List ℕ)) (b : LocatedBody) (bs : List LocatedBody) (d : LocatedDefinition) → Contains (defined_at o b) d → HasBody (b ∷ bs) d.body d.behind
one_defined None b bs d c = let low = c.1 in absurd (omega (arith, low))
one_defined (Some x) b bs d (zero, low, e) = subst (λ (f : LocatedDefinition). HasBody (b ∷ bs) f.body f.behind) e (first_body b bs)
one_defined (Some x) b bs d (suc k, low, e) = absurd (omega (arith, low))

defined_or : (b : LocatedBody) (bs : List LocatedBody) (d : LocatedDefinition) → (Contains (definitions_at bs) d → HasBody bs d.body d.behind)
    → Contains (defined_at b.label b) d ⊎ Contains (definitions_at bs) d → HasBody (b ∷ bs) d.body d.behind
defined_or b bs d rest (inl c) = one_defined b.label b bs d c
defined_or b bs d rest (inr c) = more_bodies b bs d.body d.behind (rest c)

pub defined_body : (bs : List LocatedBody) (d : LocatedDefinition) → Contains (definitions_at bs) d → HasBody bs d.body d.behind
defined_body [] d c = let low = c.1 in absurd (omega (arith, low))
defined_body (b ∷ bs) d c = defined_or b bs d (defined_body bs d) (Contains-append_cases (defined_at b.label b) (definitions_at bs) d c)

abbrev pub AreSpelled : Type 0
AreSpelled = (g : Sig) (z : List ℕ) (ts : List Token) (x : List ℕ) (cut : List (List Placed)) (is : List Standing) (b : LocatedBody) → IsParted z ts x cut → (r : AreItems g cut is)
    → Contains (located_bodies r) b → IsSpelledIn g (words_of z ts) b

abbrev pub SomeHead : Type 0
SomeHead = (g : Sig) (m : Limits) (p : Written) (n : ℕ) (a b : List Word) (r : IsPar g m p n a b) (q : Located) → IsPlaceIn q (par_located r) → HasHead g a q

-- its head begins at a word of its item, and its nodes have a number each
abbrev pub HasNumbers : Sig → List Word → Located → ℕ → Type 0
HasNumbers g ws q behind = (ns : List ℕ) × HeadWords g q (item_end ws (number_of q) behind) ns × (length ns ≡ length (written_nodes q))

module _ (spelled : AreSpelled) (heads : SomeHead) (g : Sig) (z : List ℕ) (ts : List Token) (x : List ℕ) (cut : List (List Placed)) (is : List Standing) (parted : IsParted z ts x cut)
    (items : AreItems g cut is) where
  body_numbers : (b : LocatedBody) → Contains (located_bodies items) b → (q : Located) → IsPlaceIn q b.content → HasNumbers g (words_of z ts) q b.behind
  body_numbers b c q i =
      let s = spelled g z ts x cut is b parted items c in
      let h = heads g FILE_LIMITS s.written s.levels s.words [] s.spelled q (subst (λ (p : Located). IsPlaceIn q p) (sym s.places) i) in
      (h.numbers, subst (λ (a : List Word). HeadWords g q a h.numbers) (sym (s.stand (number_of q) h.within)) h.words, h.each)

  pub numbers_in : (p : Located) (behind : ℕ) (q : Located) → HasBody (located_bodies items) p behind → IsPlaceIn q p → HasNumbers g (words_of z ts) q behind
  numbers_in p behind q h i =
      subst (λ (n : ℕ). HasNumbers g (words_of z ts) q n) h.3 (body_numbers h.0 h.1 q (subst (λ (r : Located). IsPlaceIn q r) (sym h.2) i))

  module _ (m : LocatedMain) (is_main : main_at (located_bodies items) ≡ Some m) where
    place_numbers : (behind : ℕ) (q : Located) → IsPlaceOf (definitions_at (located_bodies items)) m.process m.behind behind q → HasNumbers g (words_of z ts) q behind
    place_numbers _ q (of_process i) = numbers_in m.process m.behind q (main_body (located_bodies items) m is_main) i
    place_numbers _ q (of_definition {d = d} c i) = numbers_in d.body d.behind q (defined_body (located_bodies items) d c) i

    -- so is told of it
    pub stem_told : (s : Stem) → IsWrittenNode (definitions_at (located_bodies items)) m.process m.behind s → (t : Told) × IsStemTold g z ts s t
    stem_told s w =
        let h = place_numbers s.standing.behind s.place w.place in
        let within : s.index < length (written_nodes s.place) = slice_get_within (written_nodes s.place) s.index s.node w.node in
        let low : s.index < length h.0 = subst (λ (n : ℕ). s.index < n) (sym h.2) within in
        let n = got h.0 s.index low in (
          record { word = stretch_before ts (n.0 + s.standing.behind); uses = map (stretch_before ts) s.standing.uses },
          record { numbers = h.0; head = h.1; number = n.0; stands = n.1; word_is = refl; uses_are = refl },
        )

-- ---- of a place that has a flaw a node is told, or its lock

abbrev pub SomeNode : Type 0
SomeNode = (g : Sig) (before : List Site) (s : Site) (w : Flaw) → IsOfHead w → HasFlaw g before s w → (k : ℕ) × IsNodeOf g before s w k

abbrev pub SomeFilling : Type 0
SomeFilling = (g : Sig) (before : List Site) (scope : List Var) (p : Proc) (k : ℕ) (s : Site) → slice_get (sites_in scope p) k ≡ Some s → length scope ≤ MOST_SCOPE_NAMES
    → HasFlaw g before s ScopeFull → (d : ℕ) × (o : Option ℕ) × IsFilling scope p s.path d o

-- a node that the head of this place has, or none
abbrev IsThere : Option ℕ → Proc → Type 0
IsThere None y = ⊤
IsThere (Some n) y = n < length (head_nodes y)

-- the flaw speaks of a place of the process on the way, and of a node that is there
abbrev SpeaksThere : Sig → Proc → List Site → Site → Flaw → Type 0
SpeaksThere g p before s w =
    (f : Spoken) × IsSpoken g [] p before s w (Some f) × (y : Proc) × (process_at p (take f.depth s.path) ≡ Some y) × IsThere f.node y

no_more : (k n : ℕ) → k < n → min k (2 ^ 64 - 1) < n
no_more k n low = omega (arith, low)

fits : (a b c : List Node) (i k : ℕ) → length a + length b ≤ length c → i < length b → k ≡ length a + i → k < length c
fits a b c i k le low e = omega (arith, le, low, e)

joined : (a b : List Node) → length a + length b ≤ length (a ++ b)
joined a b = let e = length-append a b in omega (arith, e)

-- the nodes that bind stand behind those in front of them
front_and_binding : (p : Proc) → (i : ℕ) → i < length (binding_nodes p) → length (front_nodes p) + length (binding_nodes p) ≤ length (head_nodes p)
front_and_binding nil i low = absurd (omega (arith, low))
front_and_binding (parallel p q) i low = absurd (omega (arith, low))
front_and_binding (replicated p) i low = absurd (omega (arith, low))
front_and_binding (act (new x) p) i low = omega (arith)
front_and_binding (act (out t) p) i low = absurd (omega (arith, low))
front_and_binding (act (send t u) p) i low = absurd (omega (arith, low))
front_and_binding (act (input t) p) i low = joined [] (action_nodes (input t))
front_and_binding (act (receive t u) p) i low = joined (action_front (receive t u)) (action_binding (receive t u))
front_and_binding (act (event f) p) i low = absurd (omega (arith, low))
front_and_binding (act (insert t u) p) i low = absurd (omega (arith, low))
front_and_binding (act (delete t) p) i low = absurd (omega (arith, low))
front_and_binding (act (lock t n) p) i low = absurd (omega (arith, low))
front_and_binding (act (unlock t n) p) i low = absurd (omega (arith, low))
front_and_binding (act (embedded l e r) p) i low = joined [] (action_nodes (embedded l e r))
front_and_binding (test t u p q) i low = absurd (omega (arith, low))
front_and_binding (lookup t x p q) i low = joined (front_nodes (lookup t x p q)) (binding_nodes (lookup t x p q))

last_there : (u : Above) (p : Proc) (e : ℕ) (o : Option ℕ) → IsLast u p e o → IsThere (told_node o) p
last_there u p e None h = tt
last_there u p e (Some k) h =
    let low = slice_get_within (binding_nodes p) h.index h.node h.stands in
    no_more k (length (head_nodes p)) (fits (front_nodes p) (binding_nodes p) (head_nodes p) h.index k (front_and_binding p h.index low) low h.at)

-- on the way
abbrev OnTheWay : Proc → List ℕ → ℕ → Option ℕ → Type 0
OnTheWay p path d o = (y : Proc) × (process_at p (take d path) ≡ Some y) × IsThere (told_node o) y

filled_there : {u : Above} {p : Proc} {path : List ℕ} {d : ℕ} {o : Option ℕ} → Fills u p path d o → OnTheWay p path d o
filled_there (here {u = u} {p = p} {e = e} {o = o} room full last) = (p, refl, last_there u p e o last)
filled_there (further {q = q} {d = d} {path = path} c f) =
    let r = filled_there f in
    (r.0, subst (λ (v : Option Proc). process_below v (take d path) ≡ Some r.0) (sym c) r.1, r.2)

module _ (nodes : SomeNode) (filling : SomeFilling) (g : Sig) (p : Proc) (k : ℕ) (s : Site) (stands : slice_get (sites p) k ≡ Some s) (there : process_at p s.path ≡ Some s.body) where
  whole_path : process_at p (take (length s.path) s.path) ≡ Some s.body
  whole_path = subst (λ (q : List ℕ). process_at p q ≡ Some s.body) (sym (take_all (length s.path) s.path (omega arith))) there

  -- of a node of the head
  of_head : (before : List Site) (w : Flaw) (n : ℕ) → IsNodeOf g before s w n → IsThere (Some (min n (2 ^ 64 - 1))) s.body
  of_head before w n is = no_more n (length (head_nodes s.body)) (slice_get_within (head_nodes s.body) n is.here.node is.here.stands)

  abbrev spoken_at : ℕ → Spoken
  spoken_at n = record { depth = length s.path; node = Some (min n (2 ^ 64 - 1)) }

  speaks_full : (before : List Site) → HasFlaw g before s ScopeFull → SpeaksThere g p before s ScopeFull
  speaks_full before h =
      let f = filling g before [] p k s stands (omega arith) h in
      let way = filled_there f.2 in
      (record { depth = f.0; node = told_node f.1 }, (f.1, f.2, refl), way.0, way.1, way.2)

  pub speaks_there : (before : List Site) (w : Flaw) → HasFlaw g before s w → SpeaksThere g p before s w
  speaks_there before BadFunction h = let n = nodes g before s BadFunction tt h in (spoken_at n.0, (Some (min n.0 (2 ^ 64 - 1)), (n.0, n.1, refl), refl), s.body, whole_path, of_head before BadFunction n.0 n.1)
  speaks_there before ReservedVar h = let n = nodes g before s ReservedVar tt h in (spoken_at n.0, (Some (min n.0 (2 ^ 64 - 1)), (n.0, n.1, refl), refl), s.body, whole_path, of_head before ReservedVar n.0 n.1)
  speaks_there before ReservedFact h = let n = nodes g before s ReservedFact tt h in (spoken_at n.0, (Some (min n.0 (2 ^ 64 - 1)), (n.0, n.1, refl), refl), s.body, whole_path, of_head before ReservedFact n.0 n.1)
  speaks_there before FactClash h = let n = nodes g before s FactClash tt h in (spoken_at n.0, (Some (min n.0 (2 ^ 64 - 1)), (n.0, n.1, refl), refl), s.body, whole_path, of_head before FactClash n.0 n.1)
  speaks_there before PatternDestructor h = let n = nodes g before s PatternDestructor tt h in (spoken_at n.0, (Some (min n.0 (2 ^ 64 - 1)), (n.0, n.1, refl), refl), s.body, whole_path, of_head before PatternDestructor n.0 n.1)
  speaks_there before Unbound h = let n = nodes g before s Unbound tt h in (spoken_at n.0, (Some (min n.0 (2 ^ 64 - 1)), (n.0, n.1, refl), refl), s.body, whole_path, of_head before Unbound n.0 n.1)
  speaks_there before Rebound h = let n = nodes g before s Rebound tt h in (spoken_at n.0, (Some (min n.0 (2 ^ 64 - 1)), (n.0, n.1, refl), refl), s.body, whole_path, of_head before Rebound n.0 n.1)
  speaks_there before SortClash h = let n = nodes g before s SortClash tt h in (spoken_at n.0, (Some (min n.0 (2 ^ 64 - 1)), (n.0, n.1, refl), refl), s.body, whole_path, of_head before SortClash n.0 n.1)
  speaks_there before ScopeFull h = speaks_full before h

-- ---- a file that is refused for it

abbrev pub SomeStems : Type 0
SomeStems = (ds : List LocatedDefinition) (p : Located) (behind : ℕ) (identifiers : List (List ℕ)) (path : List ℕ) (y : Proc) → AreInOrder [] (map plain_definition ds)
    → UsesOnly (defined (map plain_definition ds)) (without_numbers p) → process_at (expansion (map plain_definition ds) identifiers (without_numbers p)).process path ≡ Some y
    → (ss : List Stem) × AreStems ds p behind path ss × AreLike ss (head_nodes y)

abbrev pub AsMany : Type 0
AsMany = (ds : List LocatedDefinition) (p : Located) (behind : ℕ) (identifiers : List (List ℕ)) (path : List ℕ) (y : Proc) (ss : List Stem) → AreInOrder [] (map plain_definition ds)
    → UsesOnly (defined (map plain_definition ds)) (without_numbers p) → process_at (expansion (map plain_definition ds) identifiers (without_numbers p)).process path ≡ Some y
    → AreStems ds p behind path ss → length ss ≡ length (head_nodes y)

abbrev pub WrittenStems : Type 0
WrittenStems = (ds : List LocatedDefinition) (p : Located) (behind : ℕ) (path : List ℕ) (ss : List Stem) (k : ℕ) (s : Stem) → AreStems ds p behind path ss → slice_get ss k ≡ Some s
    → IsWrittenNode ds p behind s

abbrev pub SitesAtPaths : Type 0
SitesAtPaths = (p : Proc) (s : Site) → Contains (sites p) s → place_at scope_below (above_of [] 0) p s.path ≡ Some s

-- a flaw at a path has its place
abbrev pub HasFlawPlace : List ℕ → Flaw → List ℕ → Type 0
HasFlawPlace z w path = (t : Told) × IsFlawPlace z w path t

module _ (spelled : AreSpelled) (heads : SomeHead) (nodes : SomeNode) (filling : SomeFilling) (plain : PlainBodies) (ordered : Ordered) (used : Used) (some : SomeStems) (as_many : AsMany)
    (written : WrittenStems) (at_paths : SitesAtPaths) (stands_at : PlacesStand) where
  module _ (z : List ℕ) (ts : List Token) (x : List ℕ) (cut : List (List Placed)) (is : List Standing) (parted : IsParted z ts x cut) (items : AreItems (signature_of is) cut is)
      (nothing : cause_of is ≡ None) (p : Proc) (whole : IsFileProcess z ts is p) where
    abbrev g : Sig
    g = signature_of is

    abbrev bs : List LocatedBody
    bs = located_bodies items

    abbrev ds : List LocatedDefinition
    ds = definitions_at bs

    abbrev names : List (List ℕ)
    names = identifiers_of (words_of z ts)

    plain_ds : map plain_definition ds ≡ definitions_of (bodies is)
    plain_ds = plain_definitions_at bs ∙ ap definitions_of (plain (signature_of is) cut is items)

    pub main : (m : LocatedMain) × (main_at bs ≡ Some m) × (without_numbers m.process ≡ whole.main)
    main = has_main bs whole.main (ap main_of (plain (signature_of is) cut is items) ∙ whole.is_main)

    order : AreInOrder [] (map plain_definition ds)
    order = subst (λ (es : List Definition). AreInOrder [] es) (sym plain_ds) (ordered is nothing)

    uses : UsesOnly (defined (map plain_definition ds)) (without_numbers main.0.process)
    uses =
        subst (λ (es : List Definition). UsesOnly (defined es) (without_numbers main.0.process)) (sym plain_ds)
        (subst (λ (w : Written). UsesOnly (defined (definitions_of (bodies is))) w) (sym main.2) (used is whole.main nothing whole.is_main))

    expanded : (expansion (map plain_definition ds) names (without_numbers main.0.process)).process ≡ p
    expanded = (λ i. (expansion (plain_ds i) names (main.2 i)).process) ∙ whole.whole

    placed : IsPlaced z ts ds main.0
    placed = record { name = x; cut = cut; standing = is; parted = parted; items = items; nothing = nothing; definitions_are = refl; main_is = main.1 }

    pub node_told : (path : List ℕ) (y : Proc) (n : ℕ) → process_at p path ≡ Some y → n < length (head_nodes y) → (t : Told) × IsNodeTold g z ts ds main.0 path n t
    node_told path y n at low =
        let there : process_at (expansion (map plain_definition ds) names (without_numbers main.0.process)).process path ≡ Some y =
        subst (λ (q : Proc). process_at q path ≡ Some y) (sym expanded) at in
        let ss = some ds main.0.process main.0.behind names path y order uses there in
        let many : length ss.0 ≡ length (head_nodes y) = as_many ds main.0.process main.0.behind names path y ss.0 order uses there ss.1 in
        let s = got ss.0 n (subst (λ (k : ℕ). n < k) (sym many) low) in
        let t = stem_told spelled heads g z ts x cut is parted items main.0 main.1 s.0 (written ds main.0.process main.0.behind path ss.0 n s.0 ss.1 s.1) in
        (t.0, record { stems = ss.0; are = ss.1; stem = s.0; stands = s.1; told = t.1 })

    spoken_told : (path : List ℕ) (y : Proc) (o : Option ℕ) → process_at p path ≡ Some y → IsThere o y → (t : Told) × IsSpokenTold g z ts ds main.0 path o t
    spoken_told path y (Some n) at low = node_told path y n at low
    spoken_told path y None at h = stands_at z ts x cut is p y path parted items nothing whole at

    pub flaw_told : (w : Flaw) (path : List ℕ) → IsFirstFlaw g p w path → HasFlawPlace z w path
    unfolding placed
    flaw_told w path first =
        let s = first.at.site in
        let at : process_at p s.path ≡ Some s.body = at_place scope_below (Some (place [] (above_of [] 0) p)) s.path s (at_paths p s (contains_got (sites p) s first.place first.at.stands)) in
        let f = speaks_there nodes filling g p first.place s first.at.stands at (take first.place (sites p)) w first.at.flaw in
        let t = spoken_told (take f.0.depth s.path) f.2 f.0.node f.3 f.4 in (
          t.0,
          record {
            tokens = ts;
            definitions = ds;
            main = main.0;
            placed = placed;
            process = p;
            whole = whole;
            number = first.place;
            site = s;
            stands = first.at.stands;
            path_is = first.path_is;
            spoken = f.0;
            speaks = f.1;
            told = subst (λ (q : List ℕ). IsSpokenTold g z ts ds main.0 (take f.0.depth q) f.0.node t.0) first.path_is t.1;
          },
        )

-- ---- no other refusal has this cause

-- a flaw of the process, if it is one
abbrev is_ill : ReadFault → Bool
is_ill (Ill w path) = true
is_ill _ = false

early_has_none : (is : List Standing) (e : ReadFault) → cause_of is ≡ Some e → is_ill e ≡ false
early_has_none = of_cause (λ (e : ReadFault). is_ill e ≡ false) refl (λ n. refl) (λ x. refl) (λ x. refl) (λ x. refl)

use_has_none : (f : MacroFault) → is_ill (fault_of_uses f) ≡ false
use_has_none by.Mem = refl
use_has_none (by.Parameters x) = refl
use_has_none (by.Arguments x) = refl
use_has_none by.TooMany = refl
use_has_none by.TooDeep = refl
use_has_none (by.Large x) = refl
use_has_none (by.Flawed x w path) = refl

lock_has_none : (w : LockFlaw) (path : List ℕ) → is_ill (lock_fault w path) ≡ false
lock_has_none without path = refl
lock_has_none over path = refl

not_ill : {A : Type 0} {e : ReadFault} {w : Flaw} {path : List ℕ} → e ≡ Ill w path → is_ill e ≡ false → A
not_ill h n = let clash : true ≡ false = sym (ap is_ill h) ∙ n in absurd (cc (clash))

-- a place of each flaw that the process of a file has first
abbrev FlawsStand : List ℕ → Type 0
FlawsStand z = (ts : List Token) (x : List ℕ) (cut : List (List Placed)) (is : List Standing) (parted : IsParted z ts x cut) (items : AreItems (signature_of is) cut is) (nothing : cause_of is ≡ None)
    (p : Proc) (whole : IsFileProcess z ts is p) (w : Flaw) (path : List ℕ) → IsFirstFlaw (signature_of is) p w path → HasFlawPlace z w path

module _ (z : List ℕ) (stands : FlawsStand z) (w : Flaw) (path : List ℕ) where
  pub refused_ill : {e : ReadFault} → e ≡ Ill w path → IsRead z (Err e) → HasFlawPlace z w path
  refused_ill h (no_tokens l) = not_ill h refl
  refused_ill h (no_header t n) = not_ill h refl
  refused_ill h (no_item p f) = not_ill h refl
  refused_ill h (refused {is = is} {e = e} p i c) = not_ill h (early_has_none is e c)
  refused_ill h (unexpanded {f = f} p i c u) = not_ill h (use_has_none f)
  refused_ill h (ill {ts = ts} {x = x} {cut = cut} {is = is} {p = q} {w = v} {path = other} p i c f first) =
      let same : v ≡ w = cc (h) in
      let there : other ≡ path = cc (h) in
      stands ts x cut is p i c q f w path
      (subst (λ (u : Flaw). IsFirstFlaw (signature_of is) q u path) same (subst (λ (r : List ℕ). IsFirstFlaw (signature_of is) q v r) there first))
  refused_ill h (locked {w = v} {path = other} p i c f good l) = not_ill h (lock_has_none v other)
  refused_ill h (unchecked p i c f good a u) = not_ill h refl
