-- What is told of a flaw of the process of a file.
use Rattle.std.proofs.Common.{◌≡◌, ◌-◌, ◌^◌, min, refl, ℕ, List, [], Option, Some, None, Ok, Err, take, sym, ap, ◌∙◌, subst}
use Rattle.std.specs.Prelude.{IfOk, IfSome, Result, slice_get}
use Rattle.sap_terms.specs.declared.mem.Mem.{Mem}
use Rattle.sap_terms.specs.Signature.{Sig}
use Rattle.sap_text.specs.declared.token.Token.{Token}
use Rattle.sap_grammar.specs.Cut.{Placed}
use Rattle.sap_grammar.specs.Words.{words_of}
use Rattle.sap_macro.specs.Expansion.{expansion}
use Rattle.sap_macro.specs.Sources.{definitions, written}
use Rattle.sap_macro.specs.Written.{Definition, Written}
use Rattle.sap_process.specs.Proc.{Proc}
use Rattle.sap_process.specs.Sites.{sites}
use Rattle.sap_process.specs.declared.flaw.Flaw.{Flaw}
use Rattle.sap_nodes.specs.SpokenOf.{IsSpoken}
use Rattle.sap_nodes.specs.declared.full.Spoken.{Spoken}
use Rattle.sap_origin.specs.Definitions.{LocatedDefinition, located_definitions}
use Rattle.sap_read.specs.FileProcess.{IsExpanded, definitions_of}
use Rattle.sap_read.specs.Files.{AreTokens, IsFileProcess}
use Rattle.sap_read.specs.Identifiers.{identifiers_of}
use Rattle.sap_read.specs.Item.{Standing, bodies, signature_of}
use Rattle.sap_read.specs.ItemGrammar.{AreItems}
use Rattle.sap_read.specs.LocatedItems.{LocatedMain, definitions_at, located_bodies}
use Rattle.sap_read.specs.WrittenFiles.{IsWrittenFile}
use Rattle.sap_read.specs.declared.written.WrittenFile.{WrittenFile}
use Rattle.sap_stems.specs.WrittenPlaces.{IsWrittenNode}
use Rattle.sap_uses.specs.FaultCauses.{Holds}
use Rattle.sap_read_places.specs.declared.told.Told.{Told}
use Rattle.sap_read_places.specs.FlawPlaces.{IsFlawPlace, IsNodeTold, IsSpokenTold}
use Rattle.sap_read_places.specs.Placed.{IsPlaced}
use Rattle.sap_read_places.specs.code.FlawNodes.{IsFlawAnswer, IsFlawIn, IsFree, IsNodeIn, IsSpokenIn, Speaks, SpeaksOf, expansion_in, main_in, no_flaw, some_flaw}
use Rattle.sap_read_places.specs.OtherFlawPlaces.{IsOtherFlawPlace, IsOtherNode}
use Rattle.sap_read_places.specs.code.OtherFlaws.{IsOtherAnswer}
use Rattle.sap_read_places.specs.code.OtherFlaws as other
use Rattle.sap_read_places.proofs.OtherFlaws.{has_other, spoken_node}
use Rattle.sap_read_places.proofs.Along.{SameDefinitions, SameMain, SameTokens, comes_too}
use Rattle.sap_read_places.proofs.FlawOne.{OneFilling, OneNode, SitesInOrder, one_spoken}
use Rattle.sap_read_places.proofs.FlawSome.{AreSpelled, SomeHead, WrittenStems, stem_told}
use Rattle.sap_read_places.proofs.PathTold.{told_at}
use Rattle.sap_read_places.proofs.PlacedFiles.{OneCut, OneItems}
use Rattle.sap_read_places.proofs.SpokenTold.{spoken_too}

some_same : {A : Type 0} {a b : A} → ◌≡◌ {A = Option A} (Some a) (Some b) → a ≡ b
some_same e = cc (e)

-- ---- answers

pub unspoken_answer : (z : List ℕ) (ts : List Token) (w : WrittenFile) (which : Flaw) (path : List ℕ) → Speaks w.declared.signature (expansion_in w) which path None → IsFlawAnswer z ts w which path None
unspoken_answer z ts w which path none = no_flaw (λ free f s. none f s)

pub spoken_answers : (z : List ℕ) (ts : List Token) (w : WrittenFile) (which : Flaw) (path : List ℕ) (f : Spoken) → IsFree w → SpeaksOf w.declared.signature (expansion_in w) which path f
    → (r : Result (Option Told) Mem) → IfOk r (λ o. IsSpokenIn z ts w.processes (take f.depth path) f.node o) → IfOk r (λ o. IsFlawAnswer z ts w which path o)
spoken_answers z ts w which path f free speaks (Ok o) h = some_flaw {f = f} (record { free = free; speaks = speaks; told = h })
spoken_answers z ts w which path f free speaks (Err m) h = tt

-- ---- in a file that was read

module _ {z : List ℕ} {ts : List Token} {w : WrittenFile} (only : (us : List Token) → AreTokens z us → us ≡ ts) (is : IsWrittenFile z w) where
  abbrev ds : List LocatedDefinition
  ds = located_definitions w.processes.definitions w.processes.behind

  abbrev main : LocatedMain
  main = main_in w.processes

  abbrev g : Sig
  g = signature_of is.standing

  abbrev names : List (List ℕ)
  names = identifiers_of (words_of z is.tokens)

  abbrev p : Proc
  p = expansion_in w

  abbrev here : IsPlaced z is.tokens ds main
  here = record {
    name = w.name;
    cut = is.cut;
    standing = is.standing;
    parted = is.parted;
    items = is.items;
    nothing = is.nothing;
    definitions_are = sym is.definitions_stand;
    main_is = is.main_stands;
  }

  same : ts ≡ is.tokens
  same = sym (only is.tokens is.parted.tokens)

  whole : IsFree w → IsFileProcess z is.tokens is.standing p
  whole free = record {
    main = written w.processes.main.value;
    is_main = is.main_is;
    no_cause = λ e h.
        free e
        (subst (λ (s : Sig). Holds s (definitions w.processes.definitions) (written w.processes.main.value) e) (sym is.signature)
        (subst (λ (es : List Definition). Holds g es (written w.processes.main.value) e) (sym is.definitions_are) h));
    whole = sym (λ i. (expansion (is.definitions_are i) (is.identifiers i) (written w.processes.main.value)).process);
  }

  module _ (spelled : AreSpelled) (heads : SomeHead) (stems : WrittenStems) where
    spoken_place : (o : Option ℕ) (q : List ℕ) (t : Told) → IsSpokenIn z ts w.processes q o (Some t) → IsSpokenTold g z is.tokens ds main q o t
    spoken_place None q t h = told_at only is q t h.0 h.1 h.2
    spoken_place (Some k) q t h =
        let there : IsNodeIn z is.tokens w.processes q k (Some t) = subst (λ (us : List Token). IsNodeIn z us w.processes q k (Some t)) same h in
        let s = there.stems in
        let written_there : IsWrittenNode (definitions_at (located_bodies is.items)) main.process main.behind s.stem =
        subst (λ (es : List LocatedDefinition). IsWrittenNode es main.process main.behind s.stem) is.definitions_stand (stems ds main.process main.behind q s.stems k s.stem s.are s.stands) in
        let u = stem_told spelled heads g z is.tokens w.name is.cut is.standing is.parted is.items main is.main_stands s.stem written_there in
        let told : IsNodeTold g z is.tokens ds main q k u.0 = record { stems = s.stems; are = s.are; stem = s.stem; stands = s.stands; told = u.1 } in
        subst (λ (v : Told). IsNodeTold g z is.tokens ds main q k v) (sym (some_same (there.only g u.0 told))) told

    flaw_place : (which : Flaw) (path : List ℕ) (f : Spoken) (t : Told) → IsFlawIn z ts w which path f (Some t) → IsFlawPlace z which path t
    flaw_place which path f t a = record {
      tokens = is.tokens;
      definitions = ds;
      main = main;
      placed = here;
      process = p;
      whole = whole a.free;
      number = a.speaks.number;
      site = a.speaks.site;
      stands = a.speaks.stands;
      path_is = a.speaks.path_is;
      spoken = f;
      speaks = subst (λ (s : Sig). IsSpoken s [] p (take a.speaks.number (sites p)) a.speaks.site which (Some f)) is.signature a.speaks.speaks;
      told = spoken_place f.node (take f.depth path) t a.told;
    }

    answer_place : (which : Flaw) (path : List ℕ) {o : Option Told} (t : Told) → o ≡ Some t → IsFlawAnswer z ts w which path o → IsFlawPlace z which path t
    answer_place which path t e (no_flaw n) = absurd (cc (e))
    answer_place which path t e (some_flaw {f = f} {o = o} a) = flaw_place which path f t (subst (λ (v : Option Told). IsFlawIn z ts w which path f v) e a)

    pub flaw_there : (which : Flaw) (path : List ℕ) (r : Result (Option Told) Mem) → IfOk r (λ o. IsFlawAnswer z ts w which path o) → IfOk r (λ o. IfSome o (λ t. IsFlawPlace z which path t))
    flaw_there which path (Ok None) h = tt
    flaw_there which path (Ok (Some t)) h = answer_place which path {o = Some t} t (λ i. Some t) h
    flaw_there which path (Err m) h = tt

  module _ (tokens : SameTokens) (located_same : SameDefinitions) (mains : SameMain) where
    none_told : (h : Sig) (o : Option ℕ) (q : List ℕ) (t : Told) → IsSpokenIn z ts w.processes q o None → IsSpokenTold h z ts ds main q o t → ⊥
    none_told h (Some k) q t n told = let clash : ◌≡◌ {A = Option Told} None (Some t) = n.only h t told in absurd (cc (clash))
    none_told h None q t n told = n told.standing told.place (comes_too tokens located_same mains told.placed here told.reaches)

    module _ (cuts : OneCut) (items : OneItems) (node : OneNode) (filling : OneFilling) (order : SitesInOrder) (which : Flaw) (path : List ℕ) (t : Told) (a : IsFlawPlace z which path t) where
      tokens_same : a.tokens ≡ is.tokens
      tokens_same = tokens z a.tokens is.tokens a.definitions ds a.main main a.placed here

      cut_same : a.placed.cut ≡ is.cut
      cut_same = cuts z a.tokens is.tokens a.placed.name w.name a.placed.cut is.cut a.placed.parted is.parted

      standing_same : a.placed.standing ≡ is.standing
      standing_same =
          items is.cut a.placed.standing is.standing (subst (λ (c : List (List Placed)). AreItems (signature_of a.placed.standing) c a.placed.standing) cut_same a.placed.items) is.items

      expanded : IsExpanded g names (bodies is.standing) a.process
      expanded =
          subst (λ (ss : List Standing). IsExpanded (signature_of ss) names (bodies ss) a.process) standing_same
          (subst (λ (us : List Token). IsExpanded (signature_of a.placed.standing) (identifiers_of (words_of z us)) (bodies a.placed.standing) a.process) tokens_same a.whole)

      main_same : written w.processes.main.value ≡ expanded.main
      main_same = some_same (sym is.main_is ∙ expanded.is_main)

      free : IsFree w
      free e h =
          expanded.no_cause e
          (subst (λ (m : Written). Holds g (definitions_of (bodies is.standing)) m e) main_same
          (subst (λ (es : List Definition). Holds g es (written w.processes.main.value) e) is.definitions_are
          (subst (λ (s : Sig). Holds s (definitions w.processes.definitions) (written w.processes.main.value) e) is.signature h)))

      process_same : a.process ≡ p
      process_same = sym expanded.whole ∙ sym (λ i. (expansion (is.definitions_are i) (is.identifiers i) (main_same i)).process)

      signature_same : signature_of a.placed.standing ≡ w.declared.signature
      signature_same = ap signature_of standing_same ∙ sym is.signature

      speaks : SpeaksOf w.declared.signature p which path a.spoken
      speaks = record {
        number = a.number;
        site = a.site;
        stands = subst (λ (q : Proc). slice_get (sites q) a.number ≡ Some a.site) process_same a.stands;
        path_is = a.path_is;
        speaks = subst (λ (s : Sig). IsSpoken s [] p (take a.number (sites p)) a.site which (Some a.spoken)) signature_same
            (subst (λ (q : Proc). IsSpoken (signature_of a.placed.standing) [] q (take a.number (sites q)) a.site which (Some a.spoken)) process_same a.speaks);
      }

      told_too : IsSpokenTold (signature_of a.placed.standing) z ts ds main (take a.spoken.depth path) a.spoken.node t
      told_too =
          subst (λ (m : LocatedMain). IsSpokenTold (signature_of a.placed.standing) z ts ds m (take a.spoken.depth path) a.spoken.node t)
          (mains z a.tokens is.tokens a.definitions ds a.main main a.placed here)
          (subst (λ (es : List LocatedDefinition). IsSpokenTold (signature_of a.placed.standing) z ts es a.main (take a.spoken.depth path) a.spoken.node t)
          (located_same z a.tokens is.tokens a.definitions ds a.main main a.placed here)
          (subst (λ (us : List Token). IsSpokenTold (signature_of a.placed.standing) z us a.definitions a.main (take a.spoken.depth path) a.spoken.node t) (tokens_same ∙ sym same) a.told))

      no_answer : {o : Option Told} → o ≡ None → IsFlawAnswer z ts w which path o → ⊥
      no_answer e (no_flaw n) = n free a.spoken speaks
      no_answer e (some_flaw {f = f} {o = o} b) =
          let there : IsSpoken w.declared.signature [] p (take b.speaks.number (sites p)) b.speaks.site which (Some a.spoken) =
          spoken_too order w.declared.signature p which path b.speaks.number b.speaks.site b.speaks.stands b.speaks.path_is a.spoken speaks in
          let spoken : f ≡ a.spoken = one_spoken node w.declared.signature (take b.speaks.number (sites p)) b.speaks.site filling p which f a.spoken b.speaks.speaks there in
          let none : IsSpokenIn z ts w.processes (take f.depth path) f.node None = subst (λ (v : Option Told). IsSpokenIn z ts w.processes (take f.depth path) f.node v) e b.told in
          none_told (signature_of a.placed.standing) a.spoken.node (take a.spoken.depth path) t
          (subst (λ (v : Spoken). IsSpokenIn z ts w.processes (take v.depth path) v.node None) spoken none) told_too

    -- what the code tells of the other place is that
    module _ (cuts : OneCut) (items : OneItems) (node : OneNode) (filling : OneFilling) (order : SitesInOrder) (which : Flaw) (path : List ℕ) (t : Told) (b : IsOtherFlawPlace z which path t) where
      abbrev first_place : IsFlawPlace z which path b.first
      first_place = b.at

      other_process : b.at.process ≡ p
      other_process = process_same cuts items node filling order which path b.first first_place

      other_told : IsNodeTold (signature_of b.at.placed.standing) z ts ds main b.other_path b.other_node t
      other_told =
          subst (λ (m : LocatedMain). IsNodeTold (signature_of b.at.placed.standing) z ts ds m b.other_path b.other_node t) (mains z b.at.tokens is.tokens b.at.definitions ds b.at.main main b.at.placed here)
          (subst (λ (es : List LocatedDefinition). IsNodeTold (signature_of b.at.placed.standing) z ts es b.at.main b.other_path b.other_node t)
          (located_same z b.at.tokens is.tokens b.at.definitions ds b.at.main main b.at.placed here)
          (subst (λ (us : List Token). IsNodeTold (signature_of b.at.placed.standing) z us b.at.definitions b.at.main b.other_path b.other_node t)
          (tokens_same cuts items node filling order which path b.first first_place ∙ sym same) b.told))

      number_told : b.at.spoken.node ≡ Some (min b.node (2 ^ 64 - 1))
      number_told =
          spoken_node node (signature_of b.at.placed.standing) b.at.process (take b.at.number (sites b.at.process)) b.at.site which b.at.spoken b.node
          (has_other which b.at.process b.at.site b.node b.other_path b.other_node b.other) b.at.speaks b.speaks

      pub other_answer : {o : Option Told} → IsOtherAnswer z ts w which path o → o ≡ Some t
      other_answer (other.no_flaw n) =
          absurd (n (free cuts items node filling order which path b.first first_place) b.at.spoken (speaks cuts items node filling order which path b.first first_place))
      other_answer (other.some_flaw {f = f} {o = o} s h) =
          let there : IsSpoken w.declared.signature [] p (take s.number (sites p)) s.site which (Some b.at.spoken) =
          spoken_too order w.declared.signature p which path s.number s.site s.stands s.path_is b.at.spoken (speaks cuts items node filling order which path b.first first_place) in
          let spoken : f ≡ b.at.spoken = one_spoken node w.declared.signature (take s.number (sites p)) s.site filling p which f b.at.spoken s.speaks there in
          h (min b.node (2 ^ 64 - 1)) (ap (λ (x : Spoken). x.node) spoken ∙ number_told) b.at.number b.node b.at.site b.other_path b.other_node (signature_of b.at.placed.standing) t
          (subst (λ (q : Proc). slice_get (sites q) b.at.number ≡ Some b.at.site) other_process b.at.stands) b.at.path_is refl
          (subst (λ (q : Proc). IsOtherNode which q b.at.site b.node b.other_path b.other_node) other_process b.other) other_told

    pub only_other : OneCut → OneItems → OneNode → OneFilling → SitesInOrder → (which : Flaw) (path : List ℕ) (r : Result (Option Told) Mem) → IfOk r (λ o. IsOtherAnswer z ts w which path o)
        → IfOk r (λ o. (t : Told) → IsOtherFlawPlace z which path t → o ≡ Some t)
    only_other cuts items node filling order which path (Ok o) h = λ t b. other_answer cuts items node filling order which path t b h
    only_other cuts items node filling order which path (Err m) h = tt

    pub no_flaw_there : OneCut → OneItems → OneNode → OneFilling → SitesInOrder → (which : Flaw) (path : List ℕ) (r : Result (Option Told) Mem) → IfOk r (λ o. IsFlawAnswer z ts w which path o)
        → IfOk r (λ o. o ≡ None → (t : Told) → IsFlawPlace z which path t → ⊥)
    no_flaw_there cuts items node filling order which path (Ok o) h = λ e t a. no_answer cuts items node filling order which path t a e h
    no_flaw_there cuts items node filling order which path (Err m) h = tt
