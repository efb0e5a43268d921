-- The words from which nodes stem.
use Rattle.std.proofs.Common.{◌≡◌, ◌<◌, ◌+◌, ◌-◌, ◌^◌, ◌↔◌, ℕ, zero, suc, List, [], ◌∷◌, length, take, drop, Option, Some, None, Ok, Err, min, refl, sym, ap, ◌∙◌, subst, arith}
use Rattle.std.proofs.lemmas.List.{take-map, drop-map}
use Rattle.std.proofs.lemmas.Option.{slice_get_within}
use Rattle.std.specs.Prelude.{IfOk, Result, slice_get}
use Rattle.sap_terms.specs.declared.mem.Mem.{Mem}
use Rattle.sap_terms.specs.Signature.{Sig}
use Rattle.sap_text.specs.declared.token.Token.{Token}
use Rattle.sap_grammar.specs.Words.{Word, word_of, words_of}
use Rattle.sap_macro.specs.Located.{Located}
use Rattle.sap_macro.specs.Sources.{located}
use Rattle.sap_origin.specs.Definitions.{LocatedDefinition}
use Rattle.sap_origin.specs.Origins.{start}
use Rattle.sap_origin.specs.Reached.{Reaches, Standing, number_of}
use Rattle.sap_head_words.specs.HeadWords.{HeadWords}
use Rattle.sap_read.specs.SpelledBodies.{item_end}
use Rattle.sap_stems.specs.StemOf.{IsNodeOf, IsSome, IsStemAt}
use Rattle.sap_stems.specs.Stems.{Stem}
use Rattle.sap_stems.specs.StemsAt.{AreStems}
use Rattle.sap_stems.specs.WrittenNodes.{written_nodes}
use Rattle.sap_stems.specs.WrittenPlaces.{IsWrittenNode}
use Rattle.sap_stems.specs.declared.making.WrittenNode.{WrittenNode}
use Rattle.sap_captures.specs.Captures.{IsFrom, IsStemWord}
use Rattle.sap_captures.specs.code.Marks.{HasIndexIn, IsDesk, IsIndexAt, IsStemIndex, definitions_on, main_on, signature_on}
use Rattle.sap_captures.specs.declared.desk.Desk.{Desk}
use Rattle.sap_captures.specs.declared.kind.Kind.{Kind}

some_same : {A : Type 0} {a b : A} → ◌≡◌ {A = Option A} (Some a) (Some b) → a ≡ b
some_same e = cc (e)

never : {A X : Type 0} {a : A} → ◌≡◌ {A = Option A} None (Some a) → X
never e = absurd (cc (e))

none_some : {A X : Type 0} {o : Option A} {a : A} → o ≡ None → o ≡ Some a → X
none_some n s = never (sym n ∙ s)

-- what stands at a number within
got : {A : Type 0} (xs : List A) (k : ℕ) → k < length xs → (x : A) × (slice_get xs k ≡ Some x)
got [] k low = absurd (omega (arith, low))
got (x ∷ xs) zero low = (x, refl)
got (x ∷ xs) (suc k) low = got xs k (omega (arith, low))

-- ---- the words of an item from a place on

as_many : (z : List ℕ) (ts : List Token) → length ts ≡ length (words_of z ts)
as_many z [] = refl
as_many z (t ∷ ts) = ap (λ n. suc n) (as_many z ts)

words_end : (z : List ℕ) (ts : List Token) (left behind : ℕ) → words_of z (take left (drop (length ts - (left + behind)) ts)) ≡ item_end (words_of z ts) left behind
words_end z ts left behind =
    sym (take-map (word_of z) left (drop (length ts - (left + behind)) ts))
    ∙ ap (λ (ws : List Word). take left ws) (sym (drop-map (word_of z) (length ts - (left + behind)) ts))
    ∙ ap (λ (n : ℕ). take left (drop (n - (left + behind)) (words_of z ts))) (as_many z ts)

-- ---- of a written node

module _ (d : Desk) (desk : IsDesk d) (w : WrittenNode) (small : ¬ (w.index ≡ 2 ^ 64 - 1)) (left : ℕ) (is : left ≡ number_of (located w.source.now)) (item : List Token)
    (item_is : item ≡ take left (drop (length d.tokens.now - (left + w.behind)) d.tokens.now)) (o : Option ℕ)
    (word : (g : Sig) (ns : List ℕ) → HeadWords g (located w.source.now) (words_of d.bytes.now item) ns → o ≡ slice_get ns w.index)
    (s : Stem) (n : IsNodeOf s w) (there : IsWrittenNode (definitions_on d) (main_on d).process (main_on d).behind s) where
  abbrev z : List ℕ
  z = d.bytes.now

  abbrev ts : List Token
  ts = d.tokens.now

  same_words : words_of z item ≡ item_end (words_of z ts) (number_of (located w.source.now)) w.behind
  same_words = ap (words_of z) item_is ∙ words_end z ts left w.behind ∙ ap (λ (k : ℕ). item_end (words_of z ts) k w.behind) is

  index_is : w.index ≡ s.index
  index_is = let e : w.index ≡ min s.index (2 ^ 64 - 1) = n.index_is in omega (arith, e, small)

  head_there : (g : Sig) (ns : List ℕ) → HeadWords g s.place (item_end (words_of z ts) (number_of s.place) s.standing.behind) ns → o ≡ slice_get ns s.index
  head_there g ns h =
      word g ns
      (subst (λ (ws : List Word). HeadWords g (located w.source.now) ws ns) (sym same_words)
      (subst (λ (b : ℕ). HeadWords g (located w.source.now) (item_end (words_of z ts) (number_of (located w.source.now)) b) ns) n.behind_is
      (subst (λ (q : Located). HeadWords g q (item_end (words_of z ts) (number_of q) s.standing.behind) ns) n.place_is h)))
      ∙ ap (slice_get ns) index_is

  -- its head has numbers, and among them one of the node
  abbrev HasNumber : Type 0
  HasNumber = (ns : List ℕ) × HeadWords (signature_on d) s.place (item_end (words_of z ts) (number_of s.place) s.standing.behind) ns × (k : ℕ) × (slice_get ns s.index ≡ Some k)

  numbered : HasNumber
  numbered =
      let h = desk.numbers s.standing.behind s.place there.place in
      let within : s.index < length (written_nodes s.place) = slice_get_within (written_nodes s.place) s.index s.node there.node in
      let low : s.index < length h.0 = subst (λ (k : ℕ). s.index < k) (sym h.2) within in
      let x = got h.0 s.index low in
      (h.0, h.1, x.0, x.1)

  pub some_word : o ≡ None → ⊥
  some_word e = none_some e (head_there (signature_on d) numbered.0 numbered.1 ∙ numbered.3)

  abbrev index_of : ℕ → ℕ
  index_of k = length ts - k - w.behind

  minus : (a b c : ℕ) → a - b - c ≡ a - (b + c)
  minus a b c = omega arith

  pub word_there : (k : ℕ) → o ≡ Some k → (i : ℕ) → (◌≡◌ {A = Option ℕ} (Some (index_of k)) (Some i)) ↔ IsStemIndex d s i
  word_there k e i = (to, from) where
    number : (j : ℕ) (g : Sig) (ns : List ℕ) → HeadWords g s.place (item_end (words_of z ts) (number_of s.place) s.standing.behind) ns → slice_get ns s.index ≡ Some j → k ≡ j
    number j g ns h a = some_same (sym e ∙ head_there g ns h ∙ a)

    index_same : (j : ℕ) → k ≡ j → index_of k ≡ length ts - (j + s.standing.behind)
    index_same j h = minus (length ts) k w.behind ∙ ap (λ (x : ℕ). length ts - (x + w.behind)) h ∙ ap (λ (x : ℕ). length ts - (j + x)) (sym n.behind_is)

    to : ◌≡◌ {A = Option ℕ} (Some (index_of k)) (Some i) → IsStemIndex d s i
    to h =
        let j = numbered.2 in (
          j + s.standing.behind,
          record { numbers = numbered.0; head = numbered.1; number = j; stands = numbered.3; left = refl },
          sym (some_same h) ∙ index_same j (number j (signature_on d) numbered.0 numbered.1 numbered.3),
        )

    from : IsStemIndex d s i → ◌≡◌ {A = Option ℕ} (Some (index_of k)) (Some i)
    from x =
        let same : k ≡ x.1.number = number x.1.number (signature_on d) x.1.numbers x.1.head x.1.stands in
        ap (λ (j : ℕ). Some j) (index_same x.1.number same ∙ ap (λ (j : ℕ). length ts - j) (sym x.1.left) ∙ sym x.2)

-- ---- of a node of the place to which a trail leads

abbrev pub OneStems : Type 0
OneStems = (ds : List LocatedDefinition) (p : Located) (behind : ℕ) (path : List ℕ) (ss rs : List Stem) → AreStems ds p behind path ss → AreStems ds p behind path rs → ss ≡ rs

abbrev pub WrittenStems : Type 0
WrittenStems = (ds : List LocatedDefinition) (p : Located) (behind : ℕ) (path : List ℕ) (ss : List Stem) (k : ℕ) (s : Stem) → AreStems ds p behind path ss → slice_get ss k ≡ Some s
    → IsWrittenNode ds p behind s

none_got : (o : Option Stem) → IsSome o None → o ≡ None
none_got None h = refl
none_got (Some s) h = absurd h

some_got : {w : WrittenNode} (o : Option Stem) → IsSome o (Some w) → (s : Stem) × (o ≡ Some s) × IsNodeOf s w
some_got None h = absurd h
some_got (Some s) h = (s, refl, h)

module _ (one : OneStems) (d : Desk) (kind : Kind) (path : List ℕ) (k : ℕ) where
  abbrev ds : List LocatedDefinition
  ds = definitions_on d

  abbrev p : Located
  p = (main_on d).process

  abbrev behind : ℕ
  behind = (main_on d).behind

  pub no_stem : IsStemAt ds p behind path k None → (i : ℕ) → (◌≡◌ {A = Option ℕ} None (Some i)) ↔ IsIndexAt d kind path k i
  no_stem at i = (
    λ h. absurd (cc (h)),
    λ x.
        none_some (none_got (slice_get at.0 k) at.2)
        (ap (λ (ss : List Stem). slice_get ss k) (one ds p behind path at.0 x.1.stems at.1 x.1.are) ∙ x.1.stands),
  )

  module _ (w : WrittenNode) (at : IsStemAt ds p behind path k (Some w)) where
    abbrev stem : (s : Stem) × (slice_get at.0 k ≡ Some s) × IsNodeOf s w
    stem = some_got (slice_get at.0 k) at.2

    stem_same : (i : ℕ) (x : IsIndexAt d kind path k i) → x.1.stem ≡ stem.0
    stem_same i x = some_same (sym x.1.stands ∙ ap (λ (ss : List Stem). slice_get ss k) (one ds p behind path x.1.stems at.0 x.1.are at.1) ∙ stem.1)

    -- it stems from elsewhere
    pub other_stem : ¬ IsFrom kind (located w.source.now) → (i : ℕ) → (◌≡◌ {A = Option ℕ} None (Some i)) ↔ IsIndexAt d kind path k i
    other_stem other i = (
      λ h. absurd (cc (h)),
      λ x.
          absurd (other (subst (λ (q : Located). IsFrom kind q) stem.2.place_is (subst (λ (s : Stem). IsFrom kind s.place) (stem_same i x) x.1.from))),
    )

    pub this_stem : WrittenStems → IsFrom kind (located w.source.now) → (r : Result (Option ℕ) Mem)
        → ((s : Stem) → IsNodeOf s w → IsWrittenNode ds p behind s → IfOk r (λ o. (i : ℕ) → (o ≡ Some i) ↔ IsStemIndex d s i))
        → IfOk r (λ o. (i : ℕ) → (o ≡ Some i) ↔ IsIndexAt d kind path k i)
    this_stem written from (Err e) told = tt
    this_stem written from (Ok o) told = λ i. (to i, back i) where
      here : (i : ℕ) → (o ≡ Some i) ↔ IsStemIndex d stem.0 i
      here = told stem.0 stem.2 (written ds p behind path at.0 k stem.0 at.1 stem.1)

      to : (i : ℕ) → o ≡ Some i → IsIndexAt d kind path k i
      to i h =
          let x = (here i).0 h in
          (x.0, record { stems = at.0; are = at.1; stem = stem.0; stands = stem.1; from = subst (λ (q : Located). IsFrom kind q) (sym stem.2.place_is) from; word = x.1 }, x.2)

      back : (i : ℕ) → IsIndexAt d kind path k i → o ≡ Some i
      back i x = (here i).1 (x.0, subst (λ (s : Stem). IsStemWord (signature_on d) d.bytes.now d.tokens.now s x.0) (stem_same i x) x.1.word, x.2)

-- ---- where one comes nowhere

pub nowhere : (d : Desk) (kind : Kind) (path ks : List ℕ) → ((s : Standing) (q : Located) → Reaches (definitions_on d) (start (main_on d).behind) (main_on d).process path s q → ⊥)
    → (i : ℕ) → HasIndexIn d kind path ks i → ⊥
nowhere d kind path ks none i x = none x.2.1.are.standing x.2.1.are.place x.2.1.are.reaches
