-- Of what a flaw speaks that the process of a file has at a path.
use Rattle.std.proofs.Common.{◌≡◌, ◌<◌, ℕ, zero, suc, List, [], ◌∷◌, ◌++◌, Option, Some, None, Ok, Err, length, map, take, refl, sym, ap, ◌∙◌, subst, arith}
use Rattle.std.specs.Prelude.{Contains, IfOk, Result, option_map, slice_get, slice_index_or}
use Rattle.sap_terms.proofs.PlainLaws.Items.{contains_got}
use Rattle.sap_terms.specs.declared.mem.Mem.{Mem}
use Rattle.sap_terms.specs.Signature.{Sig}
use Rattle.sap_terms.specs.declared.var.Var.{Var}
use Rattle.sap_macro.specs.Expansion.{expansion}
use Rattle.sap_macro.specs.Indexed.{defined}
use Rattle.sap_macro.specs.Located.{without_numbers}
use Rattle.sap_macro.specs.Order.{AreInOrder, UsesOnly}
use Rattle.sap_macro.specs.Sources.{definitions, located, written}
use Rattle.sap_macro.specs.Written.{Definition, Written}
use Rattle.sap_process.specs.Places.{Descent, Place, child, place, place_at, place_below, place_from}
use Rattle.sap_process.specs.Proc.{Proc}
use Rattle.sap_process.specs.Sites.{Site, above_of, scope_below, sites, sites_in}
use Rattle.sap_process.specs.declared.flaw.Flaw.{Flaw}
use Rattle.sap_process.specs.declared.flaw.Flaw.TheVariants.{BadFunction, ReservedVar, ReservedFact, FactClash, PatternDestructor, Unbound, Rebound, SortClash, ScopeFull}
use Rattle.sap_nodes.specs.FlawNodes.{IsTold}
use Rattle.sap_nodes.specs.SpokenOf.{IsSpoken, of_itself}
use Rattle.sap_nodes.specs.declared.full.Spoken.{Spoken}
use Rattle.sap_origin.specs.Definitions.{LocatedDefinition, located_definitions, plain_definition}
use Rattle.sap_origin.specs.Meant.{Means}
use Rattle.sap_origin.specs.Origins.{start}
use Rattle.sap_origin.specs.Reached as reached
use Rattle.sap_origin.specs.Reached.{Reaches, process_at, process_below}
use Rattle.sap_macro.specs.Located.{Located}
use Rattle.sap_read.specs.declared.written.WrittenFile.{WrittenFile}
use Rattle.sap_origin.specs.Trails.{IsTrail}
use Rattle.sap_origin.specs.declared.trail.Trail.{Trail}
use Rattle.sap_read_places.specs.code.FlawNodes.{Speaks, SpeaksOf, expansion_in}
use Rattle.sap_read_places.proofs.Along.{AreMeant, SomeReach, at_place}
use Rattle.sap_read_places.proofs.FlawOne.{SitesInOrder, one_number}
use Rattle.sap_read_places.proofs.FlawSome.{SitesAtPaths}
use Rattle.sap_read_places.proofs.UseTold.{AreWritten, IsWrittenSo, file_order}

some_same : {A : Type 0} {a b : A} → ◌≡◌ {A = Option A} (Some a) (Some b) → a ≡ b
some_same e = cc (e)

-- ---- where digits lead a place stands

body_below : {S : Type 0} (path : List ℕ) (s : S) (o : Option Proc) → option_map (λ (a : Place S). a.body) (option_map (place path s) o) ≡ o
body_below path s None = refl
body_below path s (Some p) = refl

nowhere : {A : Type 0} {y : Proc} (path : List ℕ) → process_below None path ≡ Some y → A
nowhere [] e = absurd (cc (e))
nowhere (k ∷ path) e = absurd (cc (e))

placed_at : {S : Type 0} (d : Descent S) (o : Option (Place S)) (path : List ℕ) (y : Proc) → process_below (option_map (λ (a : Place S). a.body) o) path ≡ Some y → (a : Place S) × (place_from d o path ≡ Some a)
placed_at d None path y e = nowhere path e
placed_at d (Some b) [] y e = (b, refl)
placed_at d (Some b) (k ∷ path) y e =
    placed_at d (place_below d b k) path y
    (subst (λ (o : Option Proc). process_below o path ≡ Some y) (sym (body_below (b.path ++ k ∷ []) (d b.above b.body k) (child b.body k))) e)

got_contained : {X : Type 0} (xs : List X) (k : ℕ) (x : X) → k < length xs → slice_index_or xs k x ≡ x → slice_get xs k ≡ Some x
got_contained [] k x low e = absurd (omega (arith, low))
got_contained (y ∷ xs) zero x low e = ap (λ z. Some z) e
got_contained (y ∷ xs) (suc k) x low e = got_contained xs k x (omega (arith, low)) e

abbrev pub SitesListed : Type 0
SitesListed = (p : Proc) (path : List ℕ) (s : Site) → place_at scope_below (above_of [] 0) p path ≡ Some s → Contains (sites p) s × (s.path ≡ path)

abbrev HasSite : Proc → List ℕ → Type 0
HasSite p path = (k : ℕ) × (s : Site) × (slice_get (sites p) k ≡ Some s) × (s.path ≡ path)

site_at : SitesListed → (p y : Proc) (path : List ℕ) → process_at p path ≡ Some y → HasSite p path
site_at listed p y path e =
    let a = placed_at scope_below (Some (place [] (above_of [] 0) p)) path y e in
    let l = listed p path a.0 a.1 in
    (l.0.0, a.0, got_contained (sites p) l.0.0 a.0 l.0.1 l.0.2, l.1)

-- ---- it speaks of nothing or of something

abbrev OfHead : Sig → List Site → Site → Flaw → Option Spoken → Type 0
OfHead g before s w o = (r : Option ℕ) × IsTold g before s w r × (o ≡ of_itself s.path r)

none_of_head : (g : Sig) (before : List Site) (s : Site) (w : Flaw) (f : Spoken) → OfHead g before s w None → OfHead g before s w (Some f) → ⊥
none_of_head g before s w f (Some j, a, e) b = absurd (cc (e))
none_of_head g before s w f (None, a, e) (None, b, i) = absurd (cc (i))
none_of_head g before s w f (None, a, e) (Some k, b, i) = a b.0 b.1

none_spoken : (g : Sig) (p : Proc) (before : List Site) (s : Site) (w : Flaw) (f : Spoken) → IsSpoken g [] p before s w None → IsSpoken g [] p before s w (Some f) → ⊥
none_spoken g p before s BadFunction f a b = none_of_head g before s BadFunction f a b
none_spoken g p before s ReservedVar f a b = none_of_head g before s ReservedVar f a b
none_spoken g p before s ReservedFact f a b = none_of_head g before s ReservedFact f a b
none_spoken g p before s FactClash f a b = none_of_head g before s FactClash f a b
none_spoken g p before s PatternDestructor f a b = none_of_head g before s PatternDestructor f a b
none_spoken g p before s Unbound f a b = none_of_head g before s Unbound f a b
none_spoken g p before s Rebound f a b = none_of_head g before s Rebound f a b
none_spoken g p before s SortClash f a b = none_of_head g before s SortClash f a b
none_spoken g p before s ScopeFull f a b = a f.depth b.0 b.1

module _ (order : SitesInOrder) (g : Sig) (p : Proc) (w : Flaw) (path : List ℕ) where
  -- what it speaks of it speaks of at this number
  pub spoken_too : (k : ℕ) (s : Site) → slice_get (sites p) k ≡ Some s → s.path ≡ path → (f : Spoken) → SpeaksOf g p w path f → IsSpoken g [] p (take k (sites p)) s w (Some f)
  spoken_too k s stands is f a =
      let number : a.number ≡ k = one_number order p a.site s path a.number k a.stands stands a.path_is is in
      let site : a.site ≡ s = some_same (sym a.stands ∙ ap (slice_get (sites p)) number ∙ stands) in
      subst (λ (v : Site). IsSpoken g [] p (take k (sites p)) v w (Some f)) site (subst (λ (n : ℕ). IsSpoken g [] p (take n (sites p)) a.site w (Some f)) number a.speaks)

  speaks_or : (k : ℕ) (s : Site) → slice_get (sites p) k ≡ Some s → s.path ≡ path → (o : Option Spoken) → IsSpoken g [] p (take k (sites p)) s w o → Speaks g p w path o
  speaks_or k s stands is None h = λ f a. none_spoken g p (take k (sites p)) s w f h (spoken_too k s stands is f a)
  speaks_or k s stands is (Some f) h = record { number = k; site = s; stands = stands; path_is = is; speaks = h }

  abbrev AtPath : List Var → Proc → Option Spoken → Type 0
  AtPath scope q o = (k : ℕ) (s : Site) → slice_get (sites_in scope q) k ≡ Some s → s.path ≡ path → IsSpoken g scope q (take k (sites_in scope q)) s w o

  pub speaks_at : HasSite p path → (scope : List Var) → scope ≡ [] → (q : Proc) → q ≡ p → (r : Result (Option Spoken) Mem) → IfOk r (λ o. AtPath scope q o) → IfOk r (λ o. Speaks g p w path o)
  speaks_at site scope e q same (Ok o) h =
      let there : AtPath [] p o = subst (λ (v : List Var). AtPath v p o) e (subst (λ (x : Proc). AtPath scope x o) same h) in
      speaks_or site.0 site.1 site.2 site.3 o (there site.0 site.1 site.2 site.3)
  speaks_at site scope e q same (Err m) h = tt

-- ---- in a file

abbrev pub OnlyReach : Type 0
OnlyReach = (ds : List LocatedDefinition) (s z : reached.Standing) (p q : Located) (x : Proc) (path : List ℕ) → Means ds p x → Reaches ds s p path z q → (y : Proc) × (process_at x path ≡ Some y) × Means ds q y

module _ (plain : AreWritten) (one : IsWrittenSo) (meant : AreMeant) (w : WrittenFile) (count : length w.processes.behind ≡ length w.processes.definitions)
    (order : AreInOrder [] (definitions w.processes.definitions)) (uses : UsesOnly (defined (definitions w.processes.definitions)) (written w.processes.main.value)) where
  abbrev ds : List LocatedDefinition
  ds = located_definitions w.processes.definitions w.processes.behind

  abbrev main : Located
  main = located w.processes.main.value

  plain_ds : map plain_definition ds ≡ definitions w.processes.definitions
  plain_ds = plain w.processes.definitions w.processes.behind count

  uses_plain : UsesOnly (defined (map plain_definition ds)) (without_numbers main)
  uses_plain =
      subst (λ (es : List Definition). UsesOnly (defined es) (without_numbers main)) (sym plain_ds)
      (subst (λ (p : Written). UsesOnly (defined (definitions w.processes.definitions)) p) (sym (one w.processes.main.value)) uses)

  means : Means ds main (expansion_in w)
  means =
      subst (λ (q : Proc). Means ds main q) (λ i. (expansion (plain_ds i) w.identifiers (one w.processes.main.value i)).process)
      (meant ds main w.identifiers (file_order plain w.processes.definitions w.processes.behind count order) uses_plain)

  module _ (g : Sig) (which : Flaw) (path : List ℕ) where
    pub speaks_nowhere : SomeReach → SitesAtPaths → ((z : reached.Standing) (q : Located) → Reaches ds (start w.processes.behind_main) main path z q → ⊥) → (f : Spoken)
        → SpeaksOf g (expansion_in w) which path f → ⊥
    speaks_nowhere some at_paths none f a =
        let p : Proc = expansion_in w in
        let at : process_at p a.site.path ≡ Some a.site.body =
        at_place scope_below (Some (place [] (above_of [] 0) p)) a.site.path a.site (at_paths p a.site (contains_got (sites p) a.site a.number a.stands)) in
        let there : process_at p path ≡ Some a.site.body = subst (λ (q : List ℕ). process_at p q ≡ Some a.site.body) a.path_is at in
        let r = some ds (start w.processes.behind_main) main p a.site.body path means there in
        none r.0 r.1 r.2

    pub has_site : OnlyReach → SitesListed → (r : Trail) → IsTrail ds main w.processes.behind_main path r → HasSite (expansion_in w) path
    has_site only listed r trail =
        let y = only ds (start w.processes.behind_main) trail.standing main (located r.source.now) (expansion_in w) path means trail.reaches in
        site_at listed (expansion_in w) y.0 path y.1
