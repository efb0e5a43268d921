-- A file has one first place beyond a limit, and has it where it is refused for this limit.
use Rattle.std.proofs.Common.{◌≡◌, ◌<◌, ◌+◌, ℕ, zero, suc, List, [], ◌∷◌, map, Option, Some, None, refl, sym, ap, subst, ◌∙◌}
use Rattle.std.specs.Prelude.{Contains, Err, slice_get, ⊤}
use Rattle.sap_terms.specs.declared.limits.TheConstants.{MOST_PROCESS_LEVELS, MOST_PROCESS_PLACES}
use Rattle.sap_text.specs.declared.token.Token.{Token}
use Rattle.sap_grammar.specs.Cut.{Placed}
use Rattle.sap_locks.specs.Annotation.{LockFlaw, without, over}
use Rattle.sap_macro.specs.Expansion.{expansion}
use Rattle.sap_macro.specs.Indexed.{defined}
use Rattle.sap_macro.specs.Located.{without_numbers}
use Rattle.sap_macro.specs.Order.{AreInOrder, UsesOnly}
use Rattle.sap_macro.specs.Written.{Definition, Written}
use Rattle.sap_origin.specs.Definitions.{LocatedDefinition, plain_definition}
use Rattle.sap_origin.specs.Meant.{Means}
use Rattle.sap_origin.specs.Origins.{start}
use Rattle.sap_origin.specs.Reached.{number_of, process_at}
use Rattle.sap_process.specs.Places.{place, place_at}
use Rattle.sap_process.specs.Proc.{Proc, level_count, node_count}
use Rattle.sap_process.specs.Sites.{Site, above_of, scope_below, sites}
use Rattle.sap_beyond.specs.Numbered.{IsFirstDeep, IsNumbered}
use Rattle.sap_read.specs.Causes.{fault_of_uses, lock_fault}
use Rattle.sap_read.specs.FileProcess.{IsUnexpanded, definitions_of, main_of}
use Rattle.sap_read.specs.Files.{IsParted, IsRead, no_tokens, no_header, no_item, refused, unexpanded, ill, locked, unchecked}
use Rattle.sap_read.specs.Item.{Standing, bodies, signature_of}
use Rattle.sap_read.specs.ItemGrammar.{AreItems}
use Rattle.sap_read.specs.Causes.{cause_of}
use Rattle.sap_read.specs.LocatedItems.{LocatedMain, definitions_at, located_bodies, plain_body}
use Rattle.sap_read.specs.declared.fault.ReadFault.{ReadFault}
use Rattle.sap_read.specs.declared.fault.ReadFault.TheVariants.{TooDeep, TooMany}
use Rattle.sap_uses.specs.declared.fault.MacroFault.{MacroFault}
use Rattle.sap_uses.specs.declared.fault.MacroFault.TheVariants as uses
use Rattle.sap_read_places.specs.LimitPlaces.{IsLevelBeyond, IsPlaceBeyond}
use Rattle.sap_read_places.specs.Placed.{IsAtPath, IsPlaced, stretch_before}
use Rattle.sap_read_places.specs.declared.told.Told.{Told}
use Rattle.sap_read_places.proofs.Along.{AreMeant, HasPlaceAt, Ordered, PlainBodies, SameDefinitions, SameMain, SomeReach, Used, at_place, contained}
use Rattle.sap_read_places.proofs.FirstCauses.{of_cause}
use Rattle.sap_read_places.proofs.PlacedFiles.{has_main, plain_definitions_at}

-- ---- one place

-- what is said of the definitions and the process of a file in one way is said in each
abbrev pub Said : Type 1
Said = List Definition → Written → Type 0

module _ (definitions : SameDefinitions) (mains : SameMain) {z : List ℕ} {ts us : List Token} {ds es : List LocatedDefinition} {m n : LocatedMain} where
  pub said_too : (P : Said) → IsPlaced z ts ds m → IsPlaced z us es n → P (map plain_definition ds) (without_numbers m.process) → P (map plain_definition es) (without_numbers n.process)
  said_too P a b h =
      subst (λ (k : LocatedMain). P (map plain_definition es) (without_numbers k.process)) (mains z ts us ds es m n a b)
      (subst (λ (fs : List LocatedDefinition). P (map plain_definition fs) (without_numbers m.process)) (definitions z ts us ds es m n a b) h)

abbrev pub OneNumbered : Type 0
OneNumbered = (ds : List Definition) (p : Written) (k : ℕ) (v w : List ℕ) → IsNumbered ds p k v → IsNumbered ds p k w → v ≡ w

abbrev pub OneDeep : Type 0
OneDeep = (ds : List Definition) (p : Written) (n : ℕ) (v w : List ℕ) → IsFirstDeep ds p n v → IsFirstDeep ds p n w → v ≡ w

abbrev pub OneAtPath : Type 0
OneAtPath = (z : List ℕ) (path : List ℕ) (s t : Told) → IsAtPath z path s → IsAtPath z path t → s ≡ t

-- places at one path are one
at_one : OneAtPath → {z v w : List ℕ} {s t : Told} → v ≡ w → IsAtPath z v s → IsAtPath z w t → s ≡ t
at_one one {z = z} {v = v} {w = w} {s = s} {t = t} e a b = one z w s t (subst (λ (p : List ℕ). IsAtPath z p s) e a) b

module _ (definitions : SameDefinitions) (mains : SameMain) (one : OneAtPath) where
  pub one_place_beyond : OneNumbered → (z : List ℕ) (s t : Told) → IsPlaceBeyond z s → IsPlaceBeyond z t → s ≡ t
  one_place_beyond numbered z s t a b =
      let there = said_too definitions mains (λ ds p. IsNumbered ds p MOST_PROCESS_PLACES a.path) a.placed b.placed a.numbered in
      at_one one (numbered (map plain_definition b.definitions) (without_numbers b.main.process) MOST_PROCESS_PLACES a.path b.path there b.numbered) a.at b.at

  pub one_level_beyond : OneDeep → (z : List ℕ) (s t : Told) → IsLevelBeyond z s → IsLevelBeyond z t → s ≡ t
  one_level_beyond deep z s t a b =
      let there = said_too definitions mains (λ ds p. IsFirstDeep ds p MOST_PROCESS_LEVELS a.path) a.placed b.placed a.deep in
      at_one one (deep (map plain_definition b.definitions) (without_numbers b.main.process) MOST_PROCESS_LEVELS a.path b.path there b.deep) a.at b.at

-- ---- a place with a number is reached along its path

abbrev pub AtPath : Type 0
AtPath = (p : Proc) (s : Site) → Contains (sites p) s → place_at scope_below (above_of [] 0) p s.path ≡ Some s

some_path : {p q : List ℕ} → ◌≡◌ {A = Option (List ℕ)} (Some p) (Some q) → p ≡ q
some_path e = cc (e)

-- the place with this number has this path
abbrev HasSite : List Site → ℕ → List ℕ → Type 0
HasSite xs k path = (s : Site) × (slice_get xs k ≡ Some s) × (s.path ≡ path)

site_of : (xs : List Site) (k : ℕ) (path : List ℕ) → slice_get (map (λ (s : Site). s.path) xs) k ≡ Some path → HasSite xs k path
site_of [] k path e = absurd (cc (e))
site_of (x ∷ xs) zero path e = (x, refl, some_path e)
site_of (x ∷ xs) (suc k) path e = site_of xs k path e

process_there : AtPath → (p : Proc) (k : ℕ) (path : List ℕ) → slice_get (map (λ (s : Site). s.path) (sites p)) k ≡ Some path → (y : Proc) × (process_at p path ≡ Some y)
process_there at p k path e =
    let s = site_of (sites p) k path e in
    let there : process_at p s.0.path ≡ Some s.0.body = at_place scope_below (Some (place [] (above_of [] 0) p)) s.0.path s.0 (at p s.0 (contained (sites p) k s.0 s.1)) in
    (s.0.body, subst (λ (v : List ℕ). process_at p v ≡ Some s.0.body) s.2 there)

-- a file with these definitions and this process, as they are without numbers
record Found (z : List ℕ) (fs : List Definition) (w : Written) : Type 0 where
  tokens : List Token
  definitions : List LocatedDefinition
  main : LocatedMain
  placed : IsPlaced z tokens definitions main
  definitions_are : map plain_definition definitions ≡ fs
  main_is : without_numbers main.process ≡ w
  order : AreInOrder [] (map plain_definition definitions)
  uses : UsesOnly (defined (map plain_definition definitions)) (without_numbers main.process)

module _ (meant : AreMeant) (some : SomeReach) (at : AtPath) {z : List ℕ} {fs : List Definition} {w : Written} (f : Found z fs w) where
  abbrev plain_ds : List Definition
  plain_ds = map plain_definition f.definitions

  abbrev plain_main : Written
  plain_main = without_numbers f.main.process

  place_with_number : (k : ℕ) (path : List ℕ) → IsNumbered plain_ds plain_main k path → HasPlaceAt z path
  place_with_number k path numbered =
      let whole = (expansion plain_ds [] plain_main).process in
      let there = process_there at whole k path (numbered []) in
      let means : Means f.definitions f.main.process whole = meant f.definitions f.main.process [] f.order f.uses in
      let r = some f.definitions (start f.main.behind) f.main.process whole there.0 path means there.1 in (
        record { word = stretch_before f.tokens (number_of r.1 + r.0.behind); uses = map (stretch_before f.tokens) r.0.uses },
        record {
          tokens = f.tokens;
          definitions = f.definitions;
          main = f.main;
          placed = f.placed;
          standing = r.0;
          place = r.1;
          reaches = r.2;
          word_is = refl;
          uses_are = refl;
        },
      )

  -- what holds of the definitions and the process holds of these
  said_here : (P : Said) → P fs w → P plain_ds plain_main
  said_here P h = subst (λ (v : Written). P plain_ds v) (sym f.main_is) (subst (λ (es : List Definition). P es w) (sym f.definitions_are) h)

-- ---- each refused file has its place

abbrev pub SomeNumbered : Type 0
SomeNumbered = (ds : List Definition) (p : Written) (k : ℕ) (identifiers : List (List ℕ)) → k < node_count (expansion ds identifiers p).process → (path : List ℕ) × IsNumbered ds p k path

abbrev pub SomeDeep : Type 0
SomeDeep = (ds : List Definition) (p : Written) (n : ℕ) (identifiers : List (List ℕ)) → n < level_count (expansion ds identifiers p).process → (path : List ℕ) × IsFirstDeep ds p n path

-- a file that is refused for a limit has its place
abbrev HasLimit : List ℕ → ReadFault → Type 0
HasLimit z TooMany = (t : Told) × IsPlaceBeyond z t
HasLimit z TooDeep = (t : Told) × IsLevelBeyond z t
HasLimit z _ = ⊤

lock_has_limit : (z : List ℕ) (w : LockFlaw) (path : List ℕ) → HasLimit z (lock_fault w path)
lock_has_limit z without path = tt
lock_has_limit z over path = tt

module _ (plain : PlainBodies) (ordered : Ordered) (used : Used) (meant : AreMeant) (some : SomeReach) (at : AtPath) (numbered : SomeNumbered) (deep : SomeDeep) (z : List ℕ) where
  found : (ts : List Token) (x : List ℕ) (cut : List (List Placed)) (is : List Standing) (w : Written) → IsParted z ts x cut → AreItems (signature_of is) cut is → cause_of is ≡ None
      → main_of (bodies is) ≡ Some w → Found z (definitions_of (bodies is)) w
  found ts x cut is w parted items nothing is_main =
      let bs = located_bodies items in
      let ds = definitions_at bs in
      let written : map plain_body bs ≡ bodies is = plain (signature_of is) cut is items in
      let plain_ds : map plain_definition ds ≡ definitions_of (bodies is) = plain_definitions_at bs ∙ ap definitions_of written in
      let main = has_main bs w (ap main_of written ∙ is_main) in record {
        tokens = ts;
        definitions = ds;
        main = main.0;
        placed = record { name = x; cut = cut; standing = is; parted = parted; items = items; nothing = nothing; definitions_are = refl; main_is = main.1 };
        definitions_are = plain_ds;
        main_is = main.2;
        order = subst (λ (es : List Definition). AreInOrder [] es) (sym plain_ds) (ordered is nothing);
        uses =
            subst (λ (es : List Definition). UsesOnly (defined es) (without_numbers main.0.process)) (sym plain_ds)
            (subst (λ (v : Written). UsesOnly (defined (definitions_of (bodies is))) v) (sym main.2) (used is w nothing is_main));
      }

  many_has : {fs : List Definition} {w : Written} → Found z fs w → MOST_PROCESS_PLACES < node_count (expansion fs [] w).process → HasLimit z TooMany
  many_has {fs = fs} {w = w} f more =
      let ds = map plain_definition f.definitions in
      let p = without_numbers f.main.process in
      let k = numbered ds p MOST_PROCESS_PLACES [] (said_here meant some at f (λ es v. MOST_PROCESS_PLACES < node_count (expansion es [] v).process) more) in
      let t = place_with_number meant some at f MOST_PROCESS_PLACES k.0 k.1 in
      (t.0, record { tokens = f.tokens; definitions = f.definitions; main = f.main; placed = f.placed; path = k.0; numbered = k.1; at = t.1 })

  deep_has : {fs : List Definition} {w : Written} → Found z fs w → MOST_PROCESS_LEVELS < level_count (expansion fs [] w).process → HasLimit z TooDeep
  deep_has {fs = fs} {w = w} f more =
      let ds = map plain_definition f.definitions in
      let p = without_numbers f.main.process in
      let k = deep ds p MOST_PROCESS_LEVELS [] (said_here meant some at f (λ es v. MOST_PROCESS_LEVELS < level_count (expansion es [] v).process) more) in
      let t = place_with_number meant some at f k.1.number k.0 k.1.stands in
      (t.0, record { tokens = f.tokens; definitions = f.definitions; main = f.main; placed = f.placed; path = k.0; deep = k.1; at = t.1 })

  use_has_limit : (ts : List Token) (x : List ℕ) (cut : List (List Placed)) (is : List Standing) (f : MacroFault) → IsParted z ts x cut → AreItems (signature_of is) cut is → cause_of is ≡ None
      → IsUnexpanded (signature_of is) (bodies is) f → HasLimit z (fault_of_uses f)
  use_has_limit ts x cut is uses.Mem p i c u = tt
  use_has_limit ts x cut is (uses.Parameters y) p i c u = tt
  use_has_limit ts x cut is (uses.Arguments y) p i c u = tt
  use_has_limit ts x cut is uses.TooMany p i c u = many_has (found ts x cut is u.main p i c u.is_main) (u.cause.holds [])
  use_has_limit ts x cut is uses.TooDeep p i c u = deep_has (found ts x cut is u.main p i c u.is_main) (u.cause.holds [])
  use_has_limit ts x cut is (uses.Large y) p i c u = tt
  use_has_limit ts x cut is (uses.Flawed y w path) p i c u = tt

  pub has_limit : {e : ReadFault} → IsRead z (Err e) → HasLimit z e
  has_limit (no_tokens l) = tt
  has_limit (no_header t n) = tt
  has_limit (no_item p f) = tt
  has_limit (refused {is = is} {e = e} p i c) = of_cause (HasLimit z) tt (λ n. tt) (λ x. tt) (λ x. tt) (λ x. tt) is e c
  has_limit (unexpanded {ts = ts} {x = x} {cut = cut} {is = is} {f = f} p i c u) = use_has_limit ts x cut is f p i c u
  has_limit (ill p i c w f) = tt
  has_limit (locked {w = w} {path = path} p i c f good l) = lock_has_limit z w path
  has_limit (unchecked p i c w f a u) = tt
