-- What is told in a file.
use Rattle.std.proofs.Common.{◌≡◌, ◌-◌, ◌⊎◌, inl, inr, ℕ, zero, suc, List, [], ◌∷◌, length, Option, Some, None, refl, sym, ap, ◌∙◌, subst, arith}
use Rattle.std.proofs.lemmas.List.Elements.{Contains-append_cases, Contains-append_right}
use Rattle.std.specs.Prelude.{Bool, true, false, Contains, if◌then◌else◌, is_none}
use Rattle.sap_terms.proofs.PlainLaws.Items.{contains_got}
use Rattle.sap_terms.specs.Signature.{Sig}
use Rattle.sap_text.specs.declared.token.Token.{Token}
use Rattle.sap_grammar.specs.Cut.{Placed}
use Rattle.sap_grammar.specs.Words.{Word, words_of}
use Rattle.sap_grammar.specs.declared.limits.Limits.{Limits}
use Rattle.sap_draft.specs.LocatedProcesses.{par_located}
use Rattle.sap_draft.specs.ProcessGrammar.{IsPar}
use Rattle.sap_draft.specs.declared.limits.TheConstants.{FILE_LIMITS}
use Rattle.sap_macro.specs.Expansion.{expansion}
use Rattle.sap_macro.specs.Indexed.{AreIndexed}
use Rattle.sap_macro.specs.Located.{Located}
use Rattle.sap_macro.specs.Sources.{definitions, written}
use Rattle.sap_macro.specs.Written.{Definition, Written}
use Rattle.sap_process.specs.Proc.{Proc}
use Rattle.sap_process.specs.Sites.{sites}
use Rattle.sap_origin.specs.Definitions.{LocatedDefinition}
use Rattle.sap_origin.specs.Reached.{number_of}
use Rattle.sap_head_words.specs.HasHead.{HasHead}
use Rattle.sap_head_words.specs.HeadWords.{HeadWords}
use Rattle.sap_read.specs.FileExpansions.{IsFileExpansion}
use Rattle.sap_read.specs.FileProcess.{IsExpanded, definitions_of}
use Rattle.sap_read.specs.Files.{AreTokens, IsFileProcess, IsParted}
use Rattle.sap_read.specs.Identifiers.{identifiers_of}
use Rattle.sap_read.specs.Item.{Standing, bodies, signature_of}
use Rattle.sap_read.specs.ItemGrammar.{AreItems}
use Rattle.sap_read.specs.LocatedItems.{LocatedBody, LocatedMain, defined_at, definitions_at, located_bodies, main_at}
use Rattle.sap_read.specs.SpelledBodies.{IsSpelledIn}
use Rattle.sap_read.specs.WrittenFiles.{IsWrittenFile}
use Rattle.sap_read.specs.declared.written.WrittenFile.{WrittenFile}
use Rattle.sap_stems.specs.WrittenPlaces.{IsPlaceIn, IsPlaceOf, of_definition, of_process}
use Rattle.sap_stretches.specs.Stretches.{stretch_at}
use Rattle.sap_stretches.specs.declared.stretch.Stretch.{Stretch}
use Rattle.sap_uses.specs.FaultCauses.{Holds}
use Rattle.sap_captures.specs.Captures.{IsFileOf, IsToldAt, IsWordAt}
use Rattle.sap_captures.specs.code.Marks.{HasNumbers, IsDesk, definitions_on, main_on, signature_on}
use Rattle.sap_captures.specs.code.Walked.{IsIndexAmong}
use Rattle.sap_captures.specs.declared.desk.Desk.{Desk}
use Rattle.sap_captures.specs.declared.kind.Kind.{Kind}

some_same : {A : Type 0} {a b : A} → ◌≡◌ {A = Option A} (Some a) (Some b) → a ≡ b
some_same e = cc (e)

-- ---- each place has the words of its head

-- one of what the items say is this, with so many words behind
abbrev HasBody : List LocatedBody → Located → ℕ → Type 0
HasBody bs p behind = (b : LocatedBody) × Contains bs b × (b.content ≡ p) × (b.behind ≡ behind)

more_bodies : (b : LocatedBody) (bs : List LocatedBody) (p : Located) (behind : ℕ) → HasBody bs p behind → HasBody (b ∷ bs) p behind
more_bodies b bs p behind h = (h.0, Contains-append_right (b ∷ []) bs h.0 h.1, h.2, h.3)

first_body : (b : LocatedBody) (bs : List LocatedBody) → HasBody (b ∷ bs) b.content b.behind
first_body b bs = (b, contains_got (b ∷ bs) b 0 refl, refl, refl)

main_among : (n : Bool) (b : LocatedBody) (bs : List LocatedBody) (m : LocatedMain)
    → (if n then Some (record { process = b.content; behind = b.behind }) else main_at bs) ≡ Some m → (main_at bs ≡ Some m → HasBody bs m.process m.behind)
    → HasBody (b ∷ bs) m.process m.behind
main_among true b bs m e rest =
    let same : ◌≡◌ {A = LocatedMain} (record { process = b.content; behind = b.behind }) m = some_same e in
    subst (λ (n : LocatedMain). HasBody (b ∷ bs) n.process n.behind) same (first_body b bs)
main_among false b bs m e rest = more_bodies b bs m.process m.behind (rest e)

main_body : (bs : List LocatedBody) (m : LocatedMain) → main_at bs ≡ Some m → HasBody bs m.process m.behind
main_body [] m e = absurd (cc (e))
main_body (b ∷ bs) m e = main_among (is_none b.label) b bs m e (main_body bs m)

one_defined : (o : Option (List ℕ)) (b : LocatedBody) (bs : List LocatedBody) (d : LocatedDefinition) → Contains (defined_at o b) d → HasBody (b ∷ bs) d.body d.behind
one_defined None b bs d c = let low = c.1 in absurd (omega (arith, low))
one_defined (Some x) b bs d (zero, low, e) = subst (λ (f : LocatedDefinition). HasBody (b ∷ bs) f.body f.behind) e (first_body b bs)
one_defined (Some x) b bs d (suc k, low, e) = absurd (omega (arith, low))

defined_or : (b : LocatedBody) (bs : List LocatedBody) (d : LocatedDefinition) → (Contains (definitions_at bs) d → HasBody bs d.body d.behind)
    → Contains (defined_at b.label b) d ⊎ Contains (definitions_at bs) d → HasBody (b ∷ bs) d.body d.behind
defined_or b bs d rest (inl c) = one_defined b.label b bs d c
defined_or b bs d rest (inr c) = more_bodies b bs d.body d.behind (rest c)

defined_body : (bs : List LocatedBody) (d : LocatedDefinition) → Contains (definitions_at bs) d → HasBody bs d.body d.behind
defined_body [] d c = let low = c.1 in absurd (omega (arith, low))
defined_body (b ∷ bs) d c = defined_or b bs d (defined_body bs d) (Contains-append_cases (defined_at b.label b) (definitions_at bs) d c)

abbrev pub AreSpelled : Type 0
AreSpelled = (g : Sig) (z : List ℕ) (ts : List Token) (x : List ℕ) (cut : List (List Placed)) (is : List Standing) (b : LocatedBody) → IsParted z ts x cut → (r : AreItems g cut is)
    → Contains (located_bodies r) b → IsSpelledIn g (words_of z ts) b

abbrev pub SomeHead : Type 0
SomeHead = (g : Sig) (m : Limits) (p : Written) (n : ℕ) (a b : List Word) (r : IsPar g m p n a b) (q : Located) → IsPlaceIn q (par_located r) → HasHead g a q

module _ (spelled : AreSpelled) (heads : SomeHead) (g : Sig) (z : List ℕ) (ts : List Token) (x : List ℕ) (cut : List (List Placed)) (is : List Standing) (parted : IsParted z ts x cut)
    (items : AreItems g cut is) where
  body_numbers : (b : LocatedBody) → Contains (located_bodies items) b → (q : Located) → IsPlaceIn q b.content → HasNumbers g (words_of z ts) q b.behind
  body_numbers b c q i =
      let s = spelled g z ts x cut is b parted items c in
      let h = heads g FILE_LIMITS s.written s.levels s.words [] s.spelled q (subst (λ (p : Located). IsPlaceIn q p) (sym s.places) i) in
      (h.numbers, subst (λ (a : List Word). HeadWords g q a h.numbers) (sym (s.stand (number_of q) h.within)) h.words, h.each)

  numbers_in : (p : Located) (behind : ℕ) (q : Located) → HasBody (located_bodies items) p behind → IsPlaceIn q p → HasNumbers g (words_of z ts) q behind
  numbers_in p behind q h i =
      subst (λ (n : ℕ). HasNumbers g (words_of z ts) q n) h.3 (body_numbers h.0 h.1 q (subst (λ (r : Located). IsPlaceIn q r) (sym h.2) i))

  module _ (m : LocatedMain) (is_main : main_at (located_bodies items) ≡ Some m) where
    pub place_numbers : (behind : ℕ) (q : Located) → IsPlaceOf (definitions_at (located_bodies items)) m.process m.behind behind q → HasNumbers g (words_of z ts) q behind
    place_numbers _ q (of_process i) = numbers_in m.process m.behind q (main_body (located_bodies items) m is_main) i
    place_numbers _ q (of_definition {d = d} c i) = numbers_in d.body d.behind q (defined_body (located_bodies items) d c) i

-- ---- a file is one in one way

abbrev pub OneCut : Type 0
OneCut = (z : List ℕ) (ts us : List Token) (x y : List ℕ) (cut other : List (List Placed)) → IsParted z ts x cut → IsParted z us y other → cut ≡ other

abbrev pub OneItems : Type 0
OneItems = (cut : List (List Placed)) (is js : List Standing) → AreItems (signature_of is) cut is → AreItems (signature_of js) cut js → is ≡ js

abbrev pub OneBodies : Type 0
OneBodies = (g : Sig) (cut : List (List Placed)) (is js : List Standing) (r : AreItems g cut is) (s : AreItems g cut js) → located_bodies r ≡ located_bodies s

module _ (items : OneItems) (one_bodies : OneBodies) where
  same_bodies : {cut dut : List (List Placed)} {is js : List Standing} (r : AreItems (signature_of is) cut is) (s : AreItems (signature_of js) dut js) → cut ≡ dut → located_bodies r ≡ located_bodies s
  same_bodies {cut = cut} {dut = dut} {is = is} {js = js} r s same =
      let one : is ≡ js = items cut is js r (subst (λ (c : List (List Placed)). AreItems (signature_of js) c js) (sym same) s) in
      let here : (s : AreItems (signature_of js) cut js) → located_bodies r ≡ located_bodies s =
      subst (λ (ks : List Standing). (s : AreItems (signature_of ks) cut ks) → located_bodies r ≡ located_bodies s) one (λ s. one_bodies (signature_of is) cut is is r s) in
      subst (λ (c : List (List Placed)). (s : AreItems (signature_of js) c js) → located_bodies r ≡ located_bodies s) same here s

one_expansion : (g h : Sig) (names : List (List ℕ)) (is : List Standing) (p q : Proc) → IsExpanded g names (bodies is) p → IsExpanded h names (bodies is) q → p ≡ q
one_expansion g h names is p q a b =
    sym a.whole ∙ ap (λ (m : Written). (expansion (definitions_of (bodies is)) names m).process) (some_same (sym a.is_main ∙ b.is_main)) ∙ b.whole

-- ---- on a desk with what was read of a file

module _ (d : Desk) (only : (us : List Token) → AreTokens d.bytes.now us → us ≡ d.tokens.now) (is : IsWrittenFile d.bytes.now d.file.now) where
  abbrev z : List ℕ
  z = d.bytes.now

  abbrev ts : List Token
  ts = d.tokens.now

  abbrev w : WrittenFile
  w = d.file.now

  abbrev g : Sig
  g = signature_of is.standing

  same : is.tokens ≡ ts
  same = only is.tokens is.parted.tokens

  numbers_there : AreSpelled → SomeHead → (n : ℕ) (q : Located) → IsPlaceOf (definitions_on d) (main_on d).process (main_on d).behind n q → HasNumbers (signature_on d) (words_of z ts) q n
  numbers_there spelled heads n q p =
      subst (λ (h : Sig). HasNumbers h (words_of z ts) q n) (sym is.signature)
      (subst (λ (us : List Token). HasNumbers g (words_of z us) q n) same
      (place_numbers spelled heads g z is.tokens w.name is.cut is.standing is.parted is.items (main_on d) is.main_stands n q
      (subst (λ (es : List LocatedDefinition). IsPlaceOf es (main_on d).process (main_on d).behind n q) is.definitions_stand p)))

  pub desk_there : AreIndexed (definitions w.processes.definitions) d.index.now → AreSpelled → SomeHead → IsDesk d
  desk_there index spelled heads = record { order = is.order; index = index; count = is.count; uses = is.uses; numbers = numbers_there spelled heads }

  module _ (p : Proc) (expanded : IsFileExpansion w p) where
    whole : IsFileProcess z is.tokens is.standing p
    whole = record {
      main = written w.processes.main.value;
      is_main = is.main_is;
      no_cause = λ e h.
          expanded.free e
          (subst (λ (s : Sig). Holds s (definitions w.processes.definitions) (written w.processes.main.value) e) (sym is.signature)
          (subst (λ (es : List Definition). Holds g es (written w.processes.main.value) e) (sym is.definitions_are) h));
      whole = sym (λ i. (expansion (is.definitions_are i) (is.identifiers i) (written w.processes.main.value)).process) ∙ sym expanded.is;
    }

    file : IsFileOf z is.tokens is.standing (definitions_on d) (main_on d) p
    file = record {
      name = w.name;
      cut = is.cut;
      parted = is.parted;
      items = is.items;
      nothing = is.nothing;
      definitions_are = sym is.definitions_stand;
      main_is = is.main_stands;
      whole = whole;
    }

    pub told_there : (kind : Kind) (i : ℕ) → IsIndexAmong d kind (sites p) i → IsToldAt kind z (stretch_at ts i)
    told_there kind i x =
        let n : ℕ = x.of.index.0 in
        let there : IsWordAt kind g z is.tokens (definitions_on d) (main_on d) x.site.path x.of.node n =
        subst (λ (us : List Token). IsWordAt kind g z us (definitions_on d) (main_on d) x.site.path x.of.node n) (sym same)
        (subst (λ (h : Sig). IsWordAt kind h z ts (definitions_on d) (main_on d) x.site.path x.of.node n) is.signature x.of.index.1) in
        record {
          tokens = is.tokens;
          items = is.standing;
          definitions = definitions_on d;
          main = main_on d;
          process = p;
          file = file;
          site = x.site;
          place = x.among;
          node = x.of.node;
          is = x.of.is;
          left = n;
          word = there;
          stretch_is = ap (stretch_at ts) x.of.index.2 ∙ sym (ap (λ (us : List Token). stretch_at us (length us - n)) same);
        }

    module _ (cuts : OneCut) (items : OneItems) (one_bodies : OneBodies) (kind : Kind) (t : Stretch) (a : IsToldAt kind z t) where
      tokens_same : a.tokens ≡ ts
      tokens_same = only a.tokens a.file.parted.tokens

      tokens_too : a.tokens ≡ is.tokens
      tokens_too = tokens_same ∙ sym same

      cut_same : a.file.cut ≡ is.cut
      cut_same = cuts z a.tokens is.tokens a.file.name w.name a.file.cut is.cut a.file.parted is.parted

      standing_same : a.items ≡ is.standing
      standing_same = items is.cut a.items is.standing (subst (λ (c : List (List Placed)). AreItems (signature_of a.items) c a.items) cut_same a.file.items) is.items

      bodies_same : located_bodies a.file.items ≡ located_bodies is.items
      bodies_same = same_bodies items one_bodies a.file.items is.items cut_same

      definitions_same : a.definitions ≡ definitions_on d
      definitions_same = sym a.file.definitions_are ∙ ap definitions_at bodies_same ∙ sym is.definitions_stand

      main_same : a.main ≡ main_on d
      main_same = some_same (sym a.file.main_is ∙ ap main_at bodies_same ∙ is.main_stands)

      process_same : a.process ≡ p
      process_same =
          one_expansion (signature_of a.items) g (identifiers_of (words_of z is.tokens)) is.standing a.process p
          (subst (λ (ks : List Standing). IsExpanded (signature_of a.items) (identifiers_of (words_of z is.tokens)) (bodies ks) a.process) standing_same
          (subst (λ (us : List Token). IsExpanded (signature_of a.items) (identifiers_of (words_of z us)) (bodies a.items) a.process) tokens_too a.file.whole)) whole

      signature_same : signature_of a.items ≡ signature_on d
      signature_same = ap signature_of standing_same ∙ sym is.signature

      pub found_there : (i : ℕ) × IsIndexAmong d kind (sites p) i × (t ≡ stretch_at ts i)
      found_there = (
        length ts - a.left,
        record {
          site = a.site;
          among = subst (λ (q : Proc). Contains (sites q) a.site) process_same a.place;
          of = record {
            node = a.node;
            is = a.is;
            index = (
              a.left,
              subst (λ (m : LocatedMain). IsWordAt kind (signature_on d) z ts (definitions_on d) m a.site.path a.node a.left) main_same
                  (subst (λ (es : List LocatedDefinition). IsWordAt kind (signature_on d) z ts es a.main a.site.path a.node a.left) definitions_same
                  (subst (λ (us : List Token). IsWordAt kind (signature_on d) z us a.definitions a.main a.site.path a.node a.left) tokens_same
                  (subst (λ (h : Sig). IsWordAt kind h z a.tokens a.definitions a.main a.site.path a.node a.left) signature_same a.word))),
              refl,
            );
          };
        },
        a.stretch_is ∙ ap (λ (us : List Token). stretch_at us (length us - a.left)) tokens_same,
      )
