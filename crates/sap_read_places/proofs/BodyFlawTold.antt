-- What is told of a flaw of a definition's body.
use Rattle.std.proofs.Common.{◌≡◌, ◌<◌, ℕ, zero, suc, List, [], ◌∷◌, ◌++◌, length, map, take, Option, Some, None, Ok, Err, refl, sym, ap, subst, ◌∙◌}
use Rattle.std.proofs.lemmas.List.{length-map}
use Rattle.std.proofs.lemmas.Option.{slice_get_within}
use Rattle.std.specs.Prelude.{Bool, true, false, Contains, IfOk, IfSome, MatchOption, Result, if◌then◌else◌, option_map, slice_get}
use Rattle.std.specs.Str.{bytes_eq}
use Rattle.sap_terms.proofs.PlainLaws.Items.{contains_got, got_contained}
use Rattle.sap_terms.specs.Signature.{Sig}
use Rattle.sap_terms.specs.Variables.{is_known}
use Rattle.sap_terms.specs.declared.mem.Mem.{Mem}
use Rattle.sap_terms.specs.declared.var.Var.{Var}
use Rattle.sap_text.specs.declared.token.Token.{Token}
use Rattle.sap_grammar.specs.Cut.{Placed}
use Rattle.sap_grammar.specs.Words.{words_of}
use Rattle.sap_macro.specs.Expansion.{plain}
use Rattle.sap_macro.specs.Indexed.{IsIndex, defined}
use Rattle.sap_macro.specs.Located.{Located, without_numbers}
use Rattle.sap_macro.specs.Order.{AreInOrder}
use Rattle.sap_macro.specs.Seen as whole_seen
use Rattle.sap_macro.specs.Sources.{definitions, located, written}
use Rattle.sap_macro.specs.Sources as source
use Rattle.sap_macro.specs.Written.{Definition, Written}
use Rattle.sap_macro.specs.declared.definition.Definition as code
use Rattle.sap_macro.specs.declared.source.Source.{Source}
use Rattle.sap_process.specs.Places.{Descent, Place, child, place, place_at, place_below, place_from, places}
use Rattle.sap_process.specs.Proc.{Proc}
use Rattle.sap_process.specs.Sites.{Above, Site, above_of, scope_below}
use Rattle.sap_process.specs.declared.flaw.Flaw.{Flaw}
use Rattle.sap_process.specs.declared.flaw.Flaw.TheVariants.{BadFunction, ReservedVar, ReservedFact, FactClash, PatternDestructor, Unbound, Rebound, SortClash, ScopeFull}
use Rattle.sap_uses.specs.ScopeFlaws.{params_in_scope}
use Rattle.sap_nodes.specs.FlawNodes.{IsTold}
use Rattle.sap_nodes.specs.HeadNodes.{head_nodes}
use Rattle.sap_nodes.specs.SpokenOf.{IsSpoken, of_itself}
use Rattle.sap_nodes.specs.declared.full.Spoken.{Spoken}
use Rattle.sap_origin.specs.Definitions.{LocatedDefinition, located_definitions, plain_definition, with_words}
use Rattle.sap_origin.specs.Meant.{definition_of}
use Rattle.sap_origin.specs.Origins.{start}
use Rattle.sap_origin.specs.Reached.{process_at, process_below}
use Rattle.sap_origin.specs.Reached as reached
use Rattle.sap_seen.specs.SeenNodes.{seen_nodes, seen_numbers}
use Rattle.sap_seen.specs.SeenPlaces.{ComesSeen, seen_of}
use Rattle.sap_stems.specs.WrittenPlaces.{IsPlaceOf, of_process, of_definition}
use Rattle.sap_read.specs.Files.{AreTokens}
use Rattle.sap_read.specs.Item.{Standing, signature_of}
use Rattle.sap_read.specs.ItemGrammar.{AreItems}
use Rattle.sap_read.specs.LocatedItems.{LocatedMain, definitions_at, located_bodies}
use Rattle.sap_read.specs.WrittenFiles.{IsWrittenFile}
use Rattle.sap_read.specs.declared.written.WrittenFile.{WrittenFile}
use Rattle.sap_read_places.specs.declared.told.Told.{Told}
use Rattle.sap_read_places.specs.code.BodyFlaws.{IsNodeAlong, IsOfBody, IsOfName, IsOfNode, node_of}
use Rattle.sap_read_places.specs.code.BodyNodes.{IsInBody}
use Rattle.sap_read_places.specs.BodyFlawPlaces.{IsBodyFlawPlace, IsSeenNodeTold, body_sites}
use Rattle.sap_read_places.specs.Placed.{IsPlaced}
use Rattle.sap_read_places.proofs.Along.{SameDefinitions, SameTokens, body_below, body_of}
use Rattle.sap_read_places.proofs.BodyFlawSome.{NamesStand, WrittenSeen}
use Rattle.sap_read_places.proofs.FlawOne.{OneNode, one_told}
use Rattle.sap_read_places.proofs.FlawSome.{AreSpelled, HasNumbers, SomeHead, defined_body, numbers_in}
use Rattle.sap_read_places.proofs.PathTold.{as_placed}
use Rattle.sap_read_places.proofs.PlacedFiles.{OneCut, OneItems}

-- ---- the node of which the flaw speaks

itself : (g : Sig) (before : List Site) (s : Site) (w : Flaw) (o : Option Spoken) → (r : Option ℕ) × IsTold g before s w r × (o ≡ of_itself s.path r) → IsTold g before s w (node_of o)
itself g before s w o (None, t, e) = subst (λ (q : Option Spoken). IsTold g before s w (node_of q)) (sym e) t
itself g before s w o (Some k, t, e) = subst (λ (q : Option Spoken). IsTold g before s w (node_of q)) (sym e) t

pub node_told : (g : Sig) (scope : List Var) (p : Proc) (before : List Site) (s : Site) (w : Flaw) (o : Option Spoken) → (w ≡ ScopeFull → ⊥) → IsSpoken g scope p before s w o
    → IsTold g before s w (node_of o)
node_told g scope p before s BadFunction o other h = itself g before s BadFunction o h
node_told g scope p before s ReservedVar o other h = itself g before s ReservedVar o h
node_told g scope p before s ReservedFact o other h = itself g before s ReservedFact o h
node_told g scope p before s FactClash o other h = itself g before s FactClash o h
node_told g scope p before s PatternDestructor o other h = itself g before s PatternDestructor o h
node_told g scope p before s Unbound o other h = itself g before s Unbound o h
node_told g scope p before s Rebound o other h = itself g before s Rebound o h
node_told g scope p before s SortClash o other h = itself g before s SortClash o h
node_told g scope p before s ScopeFull o other h = absurd (other refl)

-- of a full scope no node of a head is told
pub full_nowhere : (g : Sig) (before : List Site) (s : Site) → IsTold g before s ScopeFull None
full_nowhere g before s k is = is.here.flaw

-- ---- the definitions that the program keeps

abbrev pub AreWritten : Type 0
AreWritten = (ds : List code.Definition) (ns : List ℕ) → length ns ≡ length ds → map plain_definition (located_definitions ds ns) ≡ definitions ds

abbrev pub IsWritten : Type 0
IsWritten = (s : Source) → without_numbers (located s) ≡ written s

some_is : {d e : LocatedDefinition} → ◌≡◌ {A = Option LocatedDefinition} (Some d) (Some e) → d ≡ e
some_is h = cc (h)

-- ---- of these, the one of a name

abbrev pub NothingStands : Type 0
NothingStands = (es : List LocatedDefinition) (f : List ℕ) → is_known (defined (map plain_definition es)) f ≡ false → definition_of es f ≡ None

unplain : (es : List LocatedDefinition) (k : ℕ) (c : Definition) → slice_get (map plain_definition es) k ≡ Some c → (d : LocatedDefinition) × (slice_get es k ≡ Some d) × (plain_definition d ≡ c)
unplain [] k c e = absurd (cc (e))
unplain (d ∷ es) zero c e = (d, refl, cc (e))
unplain (d ∷ es) (suc k) c e = unplain es k c e

module _ (law : AreWritten) (defs : List code.Definition) (ns : List ℕ) (count : length ns ≡ length defs) where
  abbrev ds : List LocatedDefinition
  ds = located_definitions defs ns

  plain_is : map plain_definition ds ≡ definitions defs
  plain_is = law defs ns count

  module _ (one : IsWritten) (k : ℕ) (d : code.Definition) (n : ℕ) (stands : slice_get ds k ≡ Some (with_words d n)) where
    -- the flaw speaks of this node of what is seen of it
    node_seen : (g : Sig) (w : Flaw) (path : List ℕ) (r : Option ℕ)
        → IsNodeAlong g (params_in_scope (source.definition_of d)) (whole_seen.seen (plain (definitions defs) (written d.body.value))) w path r
        → IsNodeAlong g (params_in_scope (plain_definition (with_words d n))) (seen_of ds (located d.body.value)) w path r
    node_seen g w path r h =
        subst (λ (es : List Definition). IsNodeAlong g (params_in_scope (source.definition_of d)) (whole_seen.seen (plain es (without_numbers (located d.body.value)))) w path r) (sym plain_is)
        (subst (λ (v : Written). IsNodeAlong g (params_in_scope (source.definition_of d)) (whole_seen.seen (plain (definitions defs) v)) w path r) (sym (one d.body.value)) h)

    module _ (g : Sig) (z : List ℕ) (ts : List Token) (w : Flaw) (path : List ℕ) where
      abbrev Speaks : Option ℕ → Type 0
      Speaks r = IsNodeAlong g (params_in_scope (source.definition_of d)) (whole_seen.seen (plain (definitions defs) (written d.body.value))) w path r

      of_body : (r : Option ℕ) (o : Option Told) → Speaks r → IsOfNode z ts ds (with_words d n) path r o → (e : LocatedDefinition) → slice_get ds k ≡ Some e → IsOfBody g z ts ds w path o e
      of_body r o speaks told e is =
          subst (λ (c : LocatedDefinition). IsOfBody g z ts ds w path o c) (some_is (sym stands ∙ is)) (record { node = r; speaks = node_seen g w path r speaks; told = told })

      pub none_of_body : Speaks None → (e : LocatedDefinition) → slice_get ds k ≡ Some e → IsOfBody g z ts ds w path None e
      none_of_body speaks = of_body None None speaks refl

      pub all_of_body : (m : ℕ) (r : Result (Option Told) Mem) → Speaks (Some m) → IfOk r (λ o. IsInBody z ts ds (located d.body.value) n path m o)
          → IfOk r (λ o. (e : LocatedDefinition) → slice_get ds k ≡ Some e → IsOfBody g z ts ds w path o e)
      all_of_body m (Ok o) speaks told = of_body (Some m) o speaks told
      all_of_body m (Err e) speaks told = tt

  -- by its name
  module _ (g : Sig) (z : List ℕ) (ts : List Token) (f : List ℕ) (w : Flaw) (path : List ℕ) where
    pub none_of_name : NothingStands → IsIndex (definitions defs) f None → IsOfName g z ts ds f w path None
    none_of_name nothing unknown =
        let none = nothing ds f (subst (λ (es : List Definition). is_known (defined es) f ≡ false) (sym plain_is) unknown) in
        subst (λ (c : Option LocatedDefinition). MatchOption c (◌≡◌ {A = Option Told} None None) (IsOfBody g z ts ds w path None)) (sym none) refl

    pub all_of_name : NamesStand → AreInOrder [] (definitions defs) → (k : ℕ) → IsIndex (definitions defs) f (Some k) → (r : Result (Option Told) Mem)
        → IfOk r (λ o. (e : LocatedDefinition) → slice_get ds k ≡ Some e → IsOfBody g z ts ds w path o e) → IfOk r (λ o. IsOfName g z ts ds f w path o)
    all_of_name stand order k index (Ok o) h =
        let u = unplain ds k index.0 (subst (λ (es : List Definition). slice_get es k ≡ Some index.0) (sym plain_is) index.1) in
        let named : u.0.name ≡ f = ap (λ (c : Definition). c.name) u.2 ∙ index.2 in
        let own : definition_of ds f ≡ Some u.0 =
        subst (λ (y : List ℕ). definition_of ds y ≡ Some u.0) named (stand ds k u.0 (subst (λ (es : List Definition). AreInOrder [] es) (sym plain_is) order) u.1) in
        subst (λ (c : Option LocatedDefinition). MatchOption c (o ≡ None) (IsOfBody g z ts ds w path o)) (sym own) (h u.0 u.1)
    all_of_name stand order k index (Err e) h = tt

-- the number of a definition is less than how many there are
pub index_within : (defs : List code.Definition) (f : List ℕ) (k : ℕ) → IsIndex (definitions defs) f (Some k) → k < length defs
index_within defs f k index = subst (λ (n : ℕ). k < n) (length-map defs source.definition_of) (slice_get_within (definitions defs) k index.0 index.1)

-- ---- in a file

abbrev pub SeenOnly : Type 0
SeenOnly = (ds : List LocatedDefinition) (s z : reached.Standing) (p q : Located) (path : List ℕ) → AreInOrder [] (map plain_definition ds) → ComesSeen ds s p path z q
    → (process_at (seen_of ds p) path ≡ Some (seen_of ds q)) × (head_nodes (seen_of ds q) ≡ seen_nodes q)

abbrev pub PlacesListed : Type 0
PlacesListed = (p : Proc) (s : Above) (path : List ℕ) (x : Place Above) → place_at scope_below s p path ≡ Some x → Contains (places scope_below s p) x

abbrev pub PathsOfPlaces : Type 0
PathsOfPlaces = (p : Proc) (s : Above) (path : List ℕ) (x : Place Above) → place_at scope_below s p path ≡ Some x → x.path ≡ path

-- the process at a path stands at a place
along : {S : Type 0} (d : Descent S) (o : Option (Place S)) (path : List ℕ) (y : Proc) → process_below (option_map body_of o) path ≡ Some y → (a : Place S) × (place_from d o path ≡ Some a)
along d None [] y e = absurd (cc (e))
along d None (k ∷ path) y e = absurd (cc (e))
along d (Some b) [] y e = (b, refl)
along d (Some b) (k ∷ path) y e =
    along d (place_below d b k) path y (subst (λ (o : Option Proc). process_below o path ≡ Some y) (sym (body_below (b.path ++ k ∷ []) (d b.above b.body k) (child b.body k))) e)

-- the definition of a name stands among the definitions
among : (es : List LocatedDefinition) (f : List ℕ) (d : LocatedDefinition) → definition_of es f ≡ Some d → (k : ℕ) × (slice_get es k ≡ Some d)
among [] f d h = absurd (cc (h))
among (e ∷ es) f d h = by (bytes_eq e.name f) h (among es f d)
  where
    by : (t : Bool) → ◌≡◌ {A = Option LocatedDefinition} (if t then Some e else definition_of es f) (Some d) → (definition_of es f ≡ Some d → (k : ℕ) × (slice_get es k ≡ Some d))
        → (k : ℕ) × (slice_get (e ∷ es) k ≡ Some d)
    by true h more = (0, h)
    by false h more = let r = more h in (suc r.0, r.1)

-- the numbers of the nodes of a place in a file
module _ (spelled : AreSpelled) (heads : SomeHead) {z : List ℕ} {ts : List Token} {ds : List LocatedDefinition} {m : LocatedMain} (p : IsPlaced z ts ds m) where
  stands_in : (d : LocatedDefinition) → Contains ds d → Contains (definitions_at (located_bodies p.items)) d
  stands_in d c = subst (λ (es : List LocatedDefinition). Contains es d) (sym p.definitions_are) c

  numbers_of : (d : LocatedDefinition) → Contains ds d → (behind : ℕ) (q : Located) → IsPlaceOf ds d.body d.behind behind q → HasNumbers (signature_of p.standing) (words_of z ts) q behind
  numbers_of d c _ q (of_process i) =
      numbers_in spelled heads (signature_of p.standing) z ts p.name p.cut p.standing p.parted p.items d.body d.behind q (defined_body (located_bodies p.items) d (stands_in d c)) i
  numbers_of d c _ q (of_definition {d = e} a i) =
      numbers_in spelled heads (signature_of p.standing) z ts p.name p.cut p.standing p.parted p.items e.body e.behind q (defined_body (located_bodies p.items) e (stands_in e a)) i

  module _ (only : SeenOnly) (written_seen : WrittenSeen) (listed : PlacesListed) (paths : PathsOfPlaces) (order : AreInOrder [] (map plain_definition ds)) (name : List ℕ) (w : Flaw) (path : List ℕ)
      (t : Told) where
    -- the place of this path of a body
    site_there : (d : LocatedDefinition) (y : Proc) → process_at (seen_of ds d.body) path ≡ Some y → (i : ℕ) × (s : Site) × (slice_get (body_sites ds d) i ≡ Some s) × (s.path ≡ path)
    site_there d y at =
        let root = above_of (params_in_scope (plain_definition d)) 0 in
        let a = along scope_below (Some (place [] root (seen_of ds d.body))) path y at in
        let g = got_contained (body_sites ds d) a.0 (listed (seen_of ds d.body) root path a.0 a.1) in
        (g.0, a.0, g.1, paths (seen_of ds d.body) root path a.0 a.1)

    node_there : (d : LocatedDefinition) → definition_of ds name ≡ Some d → (r : Option ℕ)
        → IsNodeAlong (signature_of p.standing) (params_in_scope (plain_definition d)) (seen_of ds d.body) w path r → IsOfNode z ts ds d path r (Some t) → IsBodyFlawPlace z name w path t
    node_there d own None speaks told = absurd (cc (told))
    node_there d own (Some k) speaks (s, q, comes, there) =
        let f = site_there d (seen_of ds q) (only ds (start d.behind) s d.body q path order comes).0 in
        let at = among ds name d own in
        let h = numbers_of d (contains_got ds d at.0 at.1) s.behind q (written_seen ds d.body q d.behind path s comes) in
        let n = there (signature_of p.standing) h.0 h.1 in
        record {
          tokens = ts;
          definitions = ds;
          main = m;
          placed = p;
          definition = d;
          defines = own;
          number = f.0;
          site = f.1;
          stands = f.2;
          path_is = f.3;
          node = k;
          speaks = speaks f.0 f.1 f.2 f.3;
          told = record { standing = s; place = q; comes = comes; numbers = h.0; head = h.1; number = n.0; stands = n.1; word_is = n.2; uses_are = n.3 };
        }

    name_there : (c : Option LocatedDefinition) → definition_of ds name ≡ c → MatchOption c (◌≡◌ {A = Option Told} (Some t) None) (IsOfBody (signature_of p.standing) z ts ds w path (Some t))
        → IsBodyFlawPlace z name w path t
    name_there None own h = absurd (cc (h))
    name_there (Some d) own h = node_there d own h.node h.speaks h.told

    place_told : IsOfName (signature_of p.standing) z ts ds name w path (Some t) → IsBodyFlawPlace z name w path t
    place_told h = name_there (definition_of ds name) refl h

-- ---- where nothing is told

-- this is told of the node of which a flaw of the body speaks
record IsClaimed (g : Sig) (z : List ℕ) (w : Flaw) (path : List ℕ) (t : Told) (ts : List Token) (ds : List LocatedDefinition) (d : LocatedDefinition) : Type 0 where
  pub number : ℕ
  pub site : Site
  pub stands : slice_get (body_sites ds d) number ≡ Some site
  pub path_is : site.path ≡ path
  pub node : ℕ
  pub speaks : IsTold g (take number (body_sites ds d)) site w (Some node)
  pub told : IsSeenNodeTold g z ts ds d path node t

module _ (one : OneNode) (g : Sig) (z : List ℕ) (w : Flaw) (path : List ℕ) (t : Told) (ts : List Token) (ds : List LocatedDefinition) (d : LocatedDefinition) (a : IsClaimed g z w path t ts ds d) where
  not_of_node : (r : Option ℕ) → IsNodeAlong g (params_in_scope (plain_definition d)) (seen_of ds d.body) w path r → IsOfNode z ts ds d path r None → ⊥
  not_of_node None speaks told = speaks a.number a.site a.stands a.path_is a.speaks.0 a.speaks.1
  not_of_node (Some k) speaks told =
      let same : a.node ≡ k = one_told one g (take a.number (body_sites ds d)) a.site w a.node k a.speaks (speaks a.number a.site a.stands a.path_is) in
      let u = a.told in
      let none : slice_get (seen_numbers u.place u.numbers) k ≡ None = told u.standing u.place u.comes g u.numbers u.head in
      let clash : ◌≡◌ {A = Option ℕ} (Some u.number) None = sym u.stands ∙ ap (slice_get (seen_numbers u.place u.numbers)) same ∙ none in
      absurd (cc (clash))

  not_of_body : IsOfBody g z ts ds w path None d → ⊥
  not_of_body b = not_of_node b.node b.speaks b.told

module _ (tokens : SameTokens) (definitions : SameDefinitions) (cuts : OneCut) (items : OneItems) (one : OneNode) {z : List ℕ} {ts : List Token} {ds : List LocatedDefinition} {m : LocatedMain}
    (p : IsPlaced z ts ds m) (name : List ℕ) (w : Flaw) (path : List ℕ) (t : Told) (a : IsBodyFlawPlace z name w path t) where
  definitions_same : a.definitions ≡ ds
  definitions_same = definitions z a.tokens ts a.definitions ds a.main m a.placed p

  cut_same : a.placed.cut ≡ p.cut
  cut_same = cuts z a.tokens ts a.placed.name p.name a.placed.cut p.cut a.placed.parted p.parted

  standing_same : a.placed.standing ≡ p.standing
  standing_same = items p.cut a.placed.standing p.standing (subst (λ (c : List (List Placed)). AreItems (signature_of a.placed.standing) c a.placed.standing) cut_same a.placed.items) p.items

  own : definition_of ds name ≡ Some a.definition
  own = subst (λ (es : List LocatedDefinition). definition_of es name ≡ Some a.definition) definitions_same a.defines

  claimed : IsClaimed (signature_of p.standing) z w path t ts ds a.definition
  claimed =
      subst (λ (is : List Standing). IsClaimed (signature_of is) z w path t ts ds a.definition) standing_same
      (subst (λ (es : List LocatedDefinition). IsClaimed (signature_of a.placed.standing) z w path t ts es a.definition) definitions_same
      (subst (λ (us : List Token). IsClaimed (signature_of a.placed.standing) z w path t us a.definitions a.definition) (tokens z a.tokens ts a.definitions ds a.main m a.placed p)
      (record { number = a.number; site = a.site; stands = a.stands; path_is = a.path_is; node = a.node; speaks = a.speaks; told = a.told })))

  not_of_name : (c : Option LocatedDefinition) → definition_of ds name ≡ c → MatchOption c (◌≡◌ {A = Option Told} None None) (IsOfBody (signature_of p.standing) z ts ds w path None) → ⊥
  not_of_name None e h = let clash : ◌≡◌ {A = Option LocatedDefinition} (Some a.definition) None = sym own ∙ e in absurd (cc (clash))
  not_of_name (Some d) e h =
      not_of_body one (signature_of p.standing) z w path t ts ds a.definition claimed
      (subst (λ (c : LocatedDefinition). IsOfBody (signature_of p.standing) z ts ds w path None c) (some_is (sym e ∙ own)) h)

  nothing_told : IsOfName (signature_of p.standing) z ts ds name w path None → ⊥
  nothing_told h = not_of_name (definition_of ds name) refl h

-- ---- of a file that was read

module _ {z : List ℕ} {ts : List Token} {f : WrittenFile} (only : (us : List Token) → AreTokens z us → us ≡ ts) (is : IsWrittenFile z f) (name : List ℕ) (w : Flaw) (path : List ℕ) where
  abbrev kept : List LocatedDefinition
  kept = located_definitions f.processes.definitions f.processes.behind

  abbrev ToldSo : Option Told → Type 0
  ToldSo o = IsOfName f.declared.signature z ts kept name w path o

  told_too : (o : Option Told) → ToldSo o → IsOfName (signature_of is.standing) z is.tokens kept name w path o
  told_too o h =
      subst (λ (g : Sig). IsOfName g z is.tokens kept name w path o) is.signature (subst (λ (us : List Token). IsOfName f.declared.signature z us kept name w path o) (sym (only is.tokens is.parted.tokens)) h)

  pub all_told : AreWritten → AreSpelled → SomeHead → SeenOnly → WrittenSeen → PlacesListed → PathsOfPlaces → (r : Result (Option Told) Mem) → IfOk r ToldSo
      → IfOk r (λ o. IfSome o (λ t. IsBodyFlawPlace z name w path t))
  unfolding as_placed
  all_told law spelled heads seen written_seen listed paths (Ok None) h = tt
  all_told law spelled heads seen written_seen listed paths (Ok (Some t)) h =
      let order : AreInOrder [] (map plain_definition kept) = subst (λ (es : List Definition). AreInOrder [] es) (sym (law f.processes.definitions f.processes.behind is.count)) is.order in
      place_told spelled heads (as_placed only is) seen written_seen listed paths order name w path t (told_too (Some t) h)
  all_told law spelled heads seen written_seen listed paths (Err e) h = tt

  pub none_told : SameTokens → SameDefinitions → OneCut → OneItems → OneNode → (r : Result (Option Told) Mem) → IfOk r ToldSo
      → IfOk r (λ o. o ≡ None → (t : Told) → IsBodyFlawPlace z name w path t → ⊥)
  unfolding as_placed
  none_told tokens definitions cuts items one (Ok None) h = λ e t a. nothing_told tokens definitions cuts items one (as_placed only is) name w path t a (told_too None h)
  none_told tokens definitions cuts items one (Ok (Some u)) h = λ e t a. absurd (cc (e))
  none_told tokens definitions cuts items one (Err m) h = tt
