-- A flaw stands at one place.
use Rattle.std.proofs.Common.{◌≡◌, ◌<◌, ◌+◌, ◌-◌, ◌^◌, inl, inr, ℕ, List, [], ◌∷◌, take, sym, ap, ◌∙◌, subst, arith, Option, Some, None, min}
use Rattle.std.specs.Prelude.{slice_get}
use Rattle.sap_terms.proofs.PlainLaws.Numbers.{same_number}
use Rattle.sap_terms.specs.Signature.{Sig}
use Rattle.sap_terms.specs.declared.var.Var.{Var}
use Rattle.sap_text.specs.declared.token.Token.{Token}
use Rattle.sap_grammar.specs.Cut.{Placed}
use Rattle.sap_grammar.specs.Words.{Word, words_of}
use Rattle.sap_macro.specs.Expansion.{expansion}
use Rattle.sap_macro.specs.Located.{Located}
use Rattle.sap_macro.specs.Written.{Written}
use Rattle.sap_process.specs.Places.{IsBefore}
use Rattle.sap_process.specs.Proc.{Proc}
use Rattle.sap_process.specs.Sites.{Site, sites}
use Rattle.sap_process.specs.declared.flaw.Flaw.{Flaw}
use Rattle.sap_process.specs.declared.flaw.Flaw.TheVariants.{BadFunction, ReservedVar, ReservedFact, FactClash, PatternDestructor, Unbound, Rebound, SortClash, ScopeFull}
use Rattle.sap_nodes.specs.FlawNodes.{IsNodeOf, IsTold}
use Rattle.sap_nodes.specs.FullScope.{IsFilling, told_node}
use Rattle.sap_nodes.specs.SpokenOf.{IsSpoken, of_itself}
use Rattle.sap_nodes.specs.declared.full.Spoken.{Spoken}
use Rattle.sap_origin.specs.Definitions.{LocatedDefinition}
use Rattle.sap_origin.specs.Reached.{number_of}
use Rattle.sap_stems.specs.Stems.{Stem}
use Rattle.sap_stems.specs.StemsAt.{AreStems}
use Rattle.sap_head_words.specs.HeadWords.{HeadWords}
use Rattle.sap_read.specs.FileProcess.{IsExpanded, definitions_of}
use Rattle.sap_read.specs.Identifiers.{identifiers_of}
use Rattle.sap_read.specs.Item.{Body, Standing, bodies, signature_of}
use Rattle.sap_read.specs.ItemGrammar.{AreItems}
use Rattle.sap_read.specs.LocatedItems.{LocatedMain}
use Rattle.sap_read.specs.SpelledBodies.{item_end}
use Rattle.sap_read_places.specs.declared.told.Told.{Told}
use Rattle.sap_read_places.specs.FlawPlaces.{IsFlawPlace, IsNodeTold, IsSpokenTold, IsStemTold}
use Rattle.sap_read_places.specs.Placed.{IsAtPath, stretch_before}
use Rattle.sap_read_places.proofs.Along.{SameDefinitions, SameMain, SameTokens}
use Rattle.sap_read_places.proofs.PlacedFiles.{OneCut, OneItems}

some_same : {A : Type 0} {a b : A} → ◌≡◌ {A = Option A} (Some a) (Some b) → a ≡ b
some_same e = cc (e)

-- ---- one word of a node

abbrev pub OneHead : Type 0
OneHead = (g h : Sig) (q : Located) (a : List Word) (ns ms : List ℕ) → HeadWords g q a ns → HeadWords h q a ms → ns ≡ ms

abbrev pub OneStems : Type 0
OneStems = (ds : List LocatedDefinition) (p : Located) (behind : ℕ) (path : List ℕ) (ss rs : List Stem) → AreStems ds p behind path ss → AreStems ds p behind path rs → ss ≡ rs

abbrev pub OneAtPath : Type 0
OneAtPath = (z : List ℕ) (path : List ℕ) (s t : Told) → IsAtPath z path s → IsAtPath z path t → s ≡ t

module _ (heads : OneHead) (g h : Sig) (z : List ℕ) (ts : List Token) where
  module _ (s : Stem) (t u : Told) (a : IsStemTold g z ts s t) (b : IsStemTold h z ts s u) where
    numbers_same : a.numbers ≡ b.numbers
    numbers_same = heads g h s.place (item_end (words_of z ts) (number_of s.place) s.standing.behind) a.numbers b.numbers a.head b.head

    number_same : a.number ≡ b.number
    number_same = some_same (sym a.stands ∙ ap (λ (ns : List ℕ). slice_get ns s.index) numbers_same ∙ b.stands)

    word_same : t.word ≡ u.word
    word_same = a.word_is ∙ ap (λ (n : ℕ). stretch_before ts (n + s.standing.behind)) number_same ∙ sym b.word_is

    uses_same : t.uses ≡ u.uses
    uses_same = a.uses_are ∙ sym b.uses_are

    pub one_stem_told : t ≡ u
    one_stem_told = λ i. record { word = word_same i; uses = uses_same i }

  module _ (stems : OneStems) (ds : List LocatedDefinition) (m : LocatedMain) (path : List ℕ) (k : ℕ) (t u : Told) (a : IsNodeTold g z ts ds m path k t) (b : IsNodeTold h z ts ds m path k u) where
    stem_same : a.stem ≡ b.stem
    stem_same = some_same (sym a.stands ∙ ap (λ (ss : List Stem). slice_get ss k) (stems ds m.process m.behind path a.stems b.stems a.are b.are) ∙ b.stands)

    pub one_node_told : t ≡ u
    one_node_told = one_stem_told b.stem t u (subst (λ (s : Stem). IsStemTold g z ts s t) stem_same a.told) b.told

  pub one_spoken_told : OneStems → OneAtPath → (ds : List LocatedDefinition) (m : LocatedMain) (path : List ℕ) (o : Option ℕ) (t u : Told) → IsSpokenTold g z ts ds m path o t
      → IsSpokenTold h z ts ds m path o u → t ≡ u
  one_spoken_told stems at ds m path (Some k) t u a b = one_node_told stems ds m path k t u a b
  one_spoken_told stems at ds m path None t u a b = at z path t u a b

-- ---- of one node it speaks

abbrev pub OneNode : Type 0
OneNode = (g : Sig) (before : List Site) (s : Site) (w : Flaw) (j k : ℕ) → IsNodeOf g before s w j → IsNodeOf g before s w k → j ≡ k

abbrev pub OneFilling : Type 0
OneFilling = (scope : List Var) (p : Proc) (path : List ℕ) (d k : ℕ) (o r : Option ℕ) → IsFilling scope p path d o → IsFilling scope p path k r → (d ≡ k) × (o ≡ r)

-- of a node of the head
abbrev OfHead : Sig → List Site → Site → Flaw → Spoken → Type 0
OfHead g before s w f = (r : Option ℕ) × IsTold g before s w r × (Some f ≡ of_itself s.path r)

module _ (node : OneNode) (g : Sig) (before : List Site) (s : Site) where
  pub one_told : (w : Flaw) (j k : ℕ) → IsTold g before s w (Some j) → IsTold g before s w (Some k) → j ≡ k
  one_told w j k a b = a.2 ∙ ap (λ (n : ℕ). min n (2 ^ 64 - 1)) (node g before s w a.0 b.0 a.1 b.1) ∙ sym b.2

  one_of_head : (w : Flaw) (f h : Spoken) → OfHead g before s w f → OfHead g before s w h → f ≡ h
  one_of_head w f h (None, a, e) b = absurd (cc (e))
  one_of_head w f h (Some j, a, e) (None, b, i) = absurd (cc (i))
  one_of_head w f h (Some j, a, e) (Some k, b, i) =
      some_same (e ∙ ap (λ (n : ℕ). of_itself s.path (Some n)) (one_told w j k a b) ∙ sym i)

  module _ (filling : OneFilling) (p : Proc) where
    one_filled : (f h : Spoken) → IsSpoken g [] p before s ScopeFull (Some f) → IsSpoken g [] p before s ScopeFull (Some h) → f ≡ h
    one_filled f h a b =
        let same = filling [] p s.path f.depth h.depth a.0 b.0 a.1 b.1 in
        let nodes : f.node ≡ h.node = a.2 ∙ ap told_node same.1 ∙ sym b.2 in
        λ i. record { depth = same.0 i; node = nodes i }

    pub one_spoken : (w : Flaw) (f h : Spoken) → IsSpoken g [] p before s w (Some f) → IsSpoken g [] p before s w (Some h) → f ≡ h
    one_spoken BadFunction f h a b = one_of_head BadFunction f h a b
    one_spoken ReservedVar f h a b = one_of_head ReservedVar f h a b
    one_spoken ReservedFact f h a b = one_of_head ReservedFact f h a b
    one_spoken FactClash f h a b = one_of_head FactClash f h a b
    one_spoken PatternDestructor f h a b = one_of_head PatternDestructor f h a b
    one_spoken Unbound f h a b = one_of_head Unbound f h a b
    one_spoken Rebound f h a b = one_of_head Rebound f h a b
    one_spoken SortClash f h a b = one_of_head SortClash f h a b
    one_spoken ScopeFull f h a b = one_filled f h a b

-- ---- at one place of the list it stands

pub not_before_itself : (path : List ℕ) → IsBefore path path → ⊥
not_before_itself [] b = elim b [ ]
not_before_itself (e ∷ path) (inl low) = omega (arith, low)
not_before_itself (e ∷ path) (inr b) = not_before_itself path b.1

abbrev pub SitesInOrder : Type 0
SitesInOrder = (p : Proc) (i j : ℕ) (s t : Site) → i < j → slice_get (sites p) i ≡ Some s → slice_get (sites p) j ≡ Some t → IsBefore s.path t.path

module _ (order : SitesInOrder) (p : Proc) (s t : Site) (path : List ℕ) where
  not_less : (i j : ℕ) (s t : Site) → slice_get (sites p) i ≡ Some s → slice_get (sites p) j ≡ Some t → s.path ≡ path → t.path ≡ path → i < j → ⊥
  not_less i j s t a b e f low =
      not_before_itself path (subst (λ (q : List ℕ). IsBefore path q) f (subst (λ (q : List ℕ). IsBefore q t.path) e (order p i j s t low a b)))

  pub one_number : (i j : ℕ) → slice_get (sites p) i ≡ Some s → slice_get (sites p) j ≡ Some t → s.path ≡ path → t.path ≡ path → i ≡ j
  one_number i j a b e f = same_number i j (not_less i j s t a b e f) (not_less j i t s b a f e)

-- ---- a file has one process

pub one_expansion : (g h : Sig) (names : List (List ℕ)) (bs : List Body) (p q : Proc) → IsExpanded g names bs p → IsExpanded h names bs q → p ≡ q
one_expansion g h names bs p q a b =
    sym a.whole ∙ ap (λ (m : Written). (expansion (definitions_of bs) names m).process) (some_same (sym a.is_main ∙ b.is_main)) ∙ b.whole

module _ (tokens : SameTokens) (definitions : SameDefinitions) (mains : SameMain) (cuts : OneCut) (items : OneItems) (stems : OneStems) (heads : OneHead) (at : OneAtPath) (node : OneNode)
    (filling : OneFilling) (order : SitesInOrder) (z : List ℕ) (w : Flaw) (path : List ℕ) (s t : Told) (a : IsFlawPlace z w path s) (b : IsFlawPlace z w path t) where
  pub tokens_same : a.tokens ≡ b.tokens
  tokens_same = tokens z a.tokens b.tokens a.definitions b.definitions a.main b.main a.placed b.placed

  pub definitions_same : a.definitions ≡ b.definitions
  definitions_same = definitions z a.tokens b.tokens a.definitions b.definitions a.main b.main a.placed b.placed

  pub main_same : a.main ≡ b.main
  main_same = mains z a.tokens b.tokens a.definitions b.definitions a.main b.main a.placed b.placed

  cut_same : a.placed.cut ≡ b.placed.cut
  cut_same = cuts z a.tokens b.tokens a.placed.name b.placed.name a.placed.cut b.placed.cut a.placed.parted b.placed.parted

  pub standing_same : a.placed.standing ≡ b.placed.standing
  standing_same =
      items b.placed.cut a.placed.standing b.placed.standing
      (subst (λ (c : List (List Placed)). AreItems (signature_of a.placed.standing) c a.placed.standing) cut_same a.placed.items) b.placed.items

  pub process_same : a.process ≡ b.process
  process_same =
      one_expansion (signature_of a.placed.standing) (signature_of b.placed.standing) (identifiers_of (words_of z b.tokens)) (bodies b.placed.standing) a.process b.process
      (subst (λ (is : List Standing). IsExpanded (signature_of a.placed.standing) (identifiers_of (words_of z b.tokens)) (bodies is) a.process) standing_same
      (subst (λ (us : List Token). IsExpanded (signature_of a.placed.standing) (identifiers_of (words_of z us)) (bodies a.placed.standing) a.process) tokens_same a.whole)) b.whole

  stands_too : slice_get (sites b.process) a.number ≡ Some a.site
  stands_too = subst (λ (p : Proc). slice_get (sites p) a.number ≡ Some a.site) process_same a.stands

  pub number_is : a.number ≡ b.number
  number_is = one_number order b.process a.site b.site path a.number b.number stands_too b.stands a.path_is b.path_is

  pub site_same : a.site ≡ b.site
  site_same = some_same (sym stands_too ∙ ap (slice_get (sites b.process)) number_is ∙ b.stands)

  speaks_too : IsSpoken (signature_of b.placed.standing) [] b.process (take b.number (sites b.process)) b.site w (Some a.spoken)
  speaks_too =
      subst (λ (is : List Standing). IsSpoken (signature_of is) [] b.process (take b.number (sites b.process)) b.site w (Some a.spoken)) standing_same
      (subst (λ (v : Site). IsSpoken (signature_of a.placed.standing) [] b.process (take b.number (sites b.process)) v w (Some a.spoken)) site_same
      (subst (λ (n : ℕ). IsSpoken (signature_of a.placed.standing) [] b.process (take n (sites b.process)) a.site w (Some a.spoken)) number_is
      (subst (λ (p : Proc). IsSpoken (signature_of a.placed.standing) [] p (take a.number (sites p)) a.site w (Some a.spoken)) process_same a.speaks)))

  spoken_same : a.spoken ≡ b.spoken
  spoken_same = one_spoken node (signature_of b.placed.standing) (take b.number (sites b.process)) b.site filling b.process w a.spoken b.spoken speaks_too b.speaks

  told_too : IsSpokenTold (signature_of a.placed.standing) z b.tokens b.definitions b.main (take b.spoken.depth path) b.spoken.node s
  told_too =
      subst (λ (f : Spoken). IsSpokenTold (signature_of a.placed.standing) z b.tokens b.definitions b.main (take f.depth path) f.node s) spoken_same
      (subst (λ (m : LocatedMain). IsSpokenTold (signature_of a.placed.standing) z b.tokens b.definitions m (take a.spoken.depth path) a.spoken.node s) main_same
      (subst (λ (ds : List LocatedDefinition). IsSpokenTold (signature_of a.placed.standing) z b.tokens ds a.main (take a.spoken.depth path) a.spoken.node s) definitions_same
      (subst (λ (us : List Token). IsSpokenTold (signature_of a.placed.standing) z us a.definitions a.main (take a.spoken.depth path) a.spoken.node s) tokens_same a.told)))

  pub one_flaw_place : s ≡ t
  one_flaw_place =
      one_spoken_told heads (signature_of a.placed.standing) (signature_of b.placed.standing) z b.tokens stems at b.definitions b.main (take b.spoken.depth path) b.spoken.node s t told_too b.told
