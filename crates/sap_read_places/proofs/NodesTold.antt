-- What is told of a node of a place of the process.
use Rattle.std.proofs.Common.{◌≡◌, ◌+◌, ◌-◌, ◌^◌, ℕ, suc, List, [], ◌∷◌, ◌++◌, Option, Some, None, Ok, Err, length, map, reverse, take, drop, min, refl, sym, ap, ◌∙◌, subst, arith}
use Rattle.std.proofs.lemmas.List.{take-map, drop-map, reverse-append, reverse-reverse, length-reverse}
use Rattle.std.proofs.Math.Seq.{take-append_seam}
use Rattle.std.specs.Prelude.{IfOk, IfSome, Result, slice_get}
use Rattle.sap_terms.specs.declared.mem.Mem.{Mem}
use Rattle.sap_terms.specs.Signature.{Sig}
use Rattle.sap_text.specs.declared.token.Token.{Token}
use Rattle.sap_grammar.specs.Words.{Word, word_of, words_of}
use Rattle.sap_macro.specs.Located.{Located}
use Rattle.sap_macro.specs.Sources.{located}
use Rattle.sap_origin.specs.Definitions.{LocatedDefinition, located_definitions}
use Rattle.sap_origin.specs.Origins.{start, words_left}
use Rattle.sap_origin.specs.Reached.{Reaches, Standing, number_of}
use Rattle.sap_head_words.specs.HeadWords.{HeadWords}
use Rattle.sap_read.specs.SpelledBodies.{item_end}
use Rattle.sap_read.specs.declared.written.FileProcesses.{FileProcesses}
use Rattle.sap_stems.specs.StemOf.{IsNodeOf, IsSome, IsStemAt}
use Rattle.sap_stems.specs.Stems.{Stem}
use Rattle.sap_stems.specs.StemsAt.{AreStems}
use Rattle.sap_origin.specs.Trails.{IsTrail, IsTrailBy, use_word}
use Rattle.sap_stems.specs.declared.making.WrittenNode.{WrittenNode}
use Rattle.sap_origin.specs.declared.trail.Replaced.{Replaced}
use Rattle.sap_origin.specs.declared.trail.Replaced.TheVariants.{Every}
use Rattle.sap_origin.specs.declared.trail.Trail.{Trail}
use Rattle.sap_origin.specs.declared.trail.Use.{Use}
use Rattle.sap_read_places.specs.declared.told.Told.{Told}
use Rattle.sap_read_places.specs.FlawPlaces.{IsStemTold}
use Rattle.sap_read_places.specs.Placed.{stretch_before}
use Rattle.sap_read_places.specs.code.FlawNodes.{IsNodeIn, IsWrittenTold, words_above}
use Rattle.sap_read_places.proofs.Along.{OneReach}
use Rattle.sap_read_places.proofs.FlawOne.{OneStems}

some_same : {A : Type 0} {a b : A} → ◌≡◌ {A = Option A} (Some a) (Some b) → a ≡ b
some_same e = cc (e)

-- ---- the words of an item from a place on

as_many : (z : List ℕ) (ts : List Token) → length ts ≡ length (words_of z ts)
as_many z [] = refl
as_many z (t ∷ ts) = ap (λ n. suc n) (as_many z ts)

words_end : (z : List ℕ) (ts : List Token) (left behind : ℕ) → words_of z (take left (drop (length ts - (left + behind)) ts)) ≡ item_end (words_of z ts) left behind
words_end z ts left behind =
    sym (take-map (word_of z) left (drop (length ts - (left + behind)) ts))
    ∙ ap (λ (ws : List Word). take left ws) (sym (drop-map (word_of z) (length ts - (left + behind)) ts))
    ∙ ap (λ (n : ℕ). take left (drop (n - (left + behind)) (words_of z ts))) (as_many z ts)

-- ---- what is told of a written node

module _ (z : List ℕ) (ts : List Token) (us : List Use) (w : WrittenNode) (small : ¬ (w.index ≡ 2 ^ 64 - 1)) (left : ℕ) (is : left ≡ number_of (located w.source.now)) (item : List Token)
    (item_is : item ≡ take left (drop (length ts - (left + w.behind)) ts)) (o : Option ℕ)
    (word : (g : Sig) (ns : List ℕ) → HeadWords g (located w.source.now) (words_of z item) ns → o ≡ slice_get ns w.index) where
  same_words : words_of z item ≡ item_end (words_of z ts) (number_of (located w.source.now)) w.behind
  same_words = ap (words_of z) item_is ∙ words_end z ts left w.behind ∙ ap (λ (n : ℕ). item_end (words_of z ts) n w.behind) is

  index_is : (s : Stem) → IsNodeOf s w → w.index ≡ s.index
  index_is s n =
      let e : w.index ≡ min s.index (2 ^ 64 - 1) = n.index_is in
      omega (arith, e, small)

  module _ (g : Sig) (s : Stem) (u : Told) (n : IsNodeOf s w) (told : IsStemTold g z ts s u) where
    head_there : HeadWords g (located w.source.now) (words_of z item) told.numbers
    head_there =
        subst (λ (ws : List Word). HeadWords g (located w.source.now) ws told.numbers) (sym same_words)
        (subst (λ (b : ℕ). HeadWords g (located w.source.now) (item_end (words_of z ts) (number_of (located w.source.now)) b) told.numbers) n.behind_is
        (subst (λ (q : Located). HeadWords g q (item_end (words_of z ts) (number_of q) s.standing.behind) told.numbers) n.place_is told.head))

    pub number_there : o ≡ Some told.number
    number_there = word g told.numbers head_there ∙ ap (slice_get told.numbers) (index_is s n) ∙ told.stands

  pub none_written : o ≡ None → IsWrittenTold z ts us w None
  none_written e g s u n above told =
      let clash : ◌≡◌ {A = Option ℕ} None (Some told.number) = sym e ∙ number_there g s u n told in
      absurd (cc (clash))

  pub some_written : (k : ℕ) (t : Told) → o ≡ Some k → t.word ≡ stretch_before ts (k + w.behind) → t.uses ≡ map (stretch_before ts) (words_above w.uses us) → IsWrittenTold z ts us w (Some t)
  some_written k t e a b g s u n above told =
      let number : k ≡ told.number = some_same (sym e ∙ number_there g s u n told) in
      let word_same : t.word ≡ u.word = a ∙ ap (λ (j : ℕ). stretch_before ts (j + w.behind)) number ∙ ap (λ (j : ℕ). stretch_before ts (told.number + j)) (sym n.behind_is) ∙ sym told.word_is in
      let uses_same : t.uses ≡ u.uses = b ∙ ap (map (stretch_before ts)) (sym above) ∙ sym told.uses_are in
      let same : t ≡ u = λ i. record { word = word_same i; uses = uses_same i } in
      ap (λ (v : Told). Some v) same

-- ---- the uses above it

-- the last of what is reversed are the first
last_reversed : (xs ys zs : List ℕ) → reverse zs ≡ xs ++ ys → ys ≡ reverse (take (length ys) zs)
last_reversed xs ys zs e =
    let whole : zs ≡ reverse ys ++ reverse xs = sym (reverse-reverse zs) ∙ ap reverse e ∙ reverse-append xs ys in
    let firsts : take (length ys) zs ≡ reverse ys =
    ap (take (length ys)) whole ∙ ap (λ (n : ℕ). take n (reverse ys ++ reverse xs)) (sym (length-reverse ys)) ∙ take-append_seam (reverse ys) (reverse xs) in
    sym (reverse-reverse ys) ∙ ap reverse (sym firsts)

abbrev pub UsesReached : Type 0
UsesReached = (ds : List LocatedDefinition) (v : Replaced) (p : Located) (behind : ℕ) (path : List ℕ) (t : Trail) (h : IsTrailBy ds v p behind path t)
    → reverse (map words_left (map use_word t.uses)) ≡ h.standing.uses

abbrev pub UsesAbove : Type 0
UsesAbove = (ds : List LocatedDefinition) (p : Located) (behind : ℕ) (path : List ℕ) (ss : List Stem) (k : ℕ) (s : Stem) (a : AreStems ds p behind path ss) → slice_get ss k ≡ Some s
    → (xs : List ℕ) × (a.standing.uses ≡ xs ++ s.standing.uses)

take_twice : (n : ℕ) (us : List Use) → take n (map words_left (map use_word us)) ≡ map words_left (map use_word (take n us))
take_twice n us = take-map words_left n (map use_word us) ∙ ap (map words_left) (take-map use_word n us)

-- ---- a node of the place to which the path leads

got_or : {w : WrittenNode} (o : Option Stem) → IsSome o (Some w) → (s : Stem) × (o ≡ Some s) × IsNodeOf s w
got_or None h = absurd h
got_or (Some s) h = (s, refl, h)

none_got : (o : Option Stem) → IsSome o None → o ≡ None
none_got None h = refl
none_got (Some s) h = absurd h

some_or_none : {A : Type 0} (o : Option Told) → A → IfSome o (λ t. A)
some_or_none None a = tt
some_or_none (Some t) a = a

module _ (z : List ℕ) (ts : List Token) (p : FileProcesses) (path : List ℕ) (k : ℕ) where
  abbrev ds : List LocatedDefinition
  ds = located_definitions p.definitions p.behind

  pub nowhere_in : ((s : Standing) (q : Located) → Reaches ds (start p.behind_main) (located p.main.value) path s q → ⊥) → IsNodeIn z ts p path k None
  nowhere_in none = record { only = λ g u told. absurd (none told.are.standing told.are.place told.are.reaches); stems = tt }

  module _ (one : OneStems) where
    pub none_in : IsStemAt ds (located p.main.value) p.behind_main path k None → IsNodeIn z ts p path k None
    none_in at = record {
      only = λ g u told.
          let same : told.stems ≡ at.0 = one ds (located p.main.value) p.behind_main path told.stems at.0 told.are at.1 in
          let clash : ◌≡◌ {A = Option Stem} None (Some told.stem) = sym (none_got (slice_get at.0 k) at.2) ∙ ap (λ (ss : List Stem). slice_get ss k) (sym same) ∙ told.stands in
          absurd (cc (clash));
      stems = tt;
    }

    module _ (reached : UsesReached) (above : UsesAbove) (reach : OneReach) (r : Trail) (trail : IsTrail ds (located p.main.value) p.behind_main path r) (w : WrittenNode)
        (at : IsStemAt ds (located p.main.value) p.behind_main path k (Some w)) where
      abbrev got : (s : Stem) × (slice_get at.0 k ≡ Some s) × IsNodeOf s w
      got = got_or (slice_get at.0 k) at.2

      standing_same : at.1.standing ≡ trail.standing
      standing_same = (reach ds (start p.behind_main) at.1.standing trail.standing (located p.main.value) at.1.place (located r.source.now) path at.1.reaches trail.reaches).0

      all_names : reverse (map words_left (map use_word r.uses)) ≡ at.1.standing.uses
      all_names = reached ds Every (located p.main.value) p.behind_main path r trail ∙ ap (λ (s : Standing). s.uses) (sym standing_same)

      uses_there : got.0.standing.uses ≡ words_above w.uses r.uses
      uses_there =
          let x = above ds (located p.main.value) p.behind_main path at.0 k got.0 at.1 got.1 in
          last_reversed x.0 got.0.standing.uses (map words_left (map use_word r.uses)) (all_names ∙ x.1)
          ∙ ap (λ (n : ℕ). reverse (take n (map words_left (map use_word r.uses)))) (sym got.2.uses_are) ∙ ap reverse (take_twice w.uses r.uses)

      node_in : (o : Option Told) → IsWrittenTold z ts r.uses w o → IsNodeIn z ts p path k o
      node_in o written = record {
        only = λ g u told.
            let same : told.stems ≡ at.0 = one ds (located p.main.value) p.behind_main path told.stems at.0 told.are at.1 in
            let stem : told.stem ≡ got.0 = some_same (sym told.stands ∙ ap (λ (ss : List Stem). slice_get ss k) same ∙ got.1) in
            written g got.0 u got.2 uses_there (subst (λ (s : Stem). IsStemTold g z ts s u) stem told.told);
        stems = some_or_none o (record { stems = at.0; are = at.1; stem = got.0; stands = got.1 });
      }

      pub all_in : (a : Result (Option Told) Mem) → IfOk a (λ o. IsWrittenTold z ts r.uses w o) → IfOk a (λ o. IsNodeIn z ts p path k o)
      all_in (Ok o) h = node_in o h
      all_in (Err e) h = tt
