-- What is told of a use of which a cause speaks.
use Rattle.std.proofs.Common.{◌≡◌, ◌+◌, ◌<◌, ℕ, Bool, true, false, List, [], ◌∷◌, ◌++◌, map, length, take, Option, Some, None, Ok, Err, refl, sym, ap, subst, ◌∙◌}
use Rattle.std.proofs.lemmas.List.{map_push, take_more}
use Rattle.std.specs.Prelude.{IfOk, IfSome, MatchOption, Result, if◌then◌else◌, option_map, slice_index_or, ◌==◌, ⊤}
use Rattle.sap_terms.specs.declared.mem.Mem.{Mem}
use Rattle.sap_text.specs.declared.token.Token.{Token}
use Rattle.sap_macro.specs.Located.{Located, nil_at, call_at, parallel_at, replicated_at, act_at, test_at, lookup_at, without_numbers}
use Rattle.sap_macro.specs.Order.{AreInOrder}
use Rattle.sap_macro.specs.Sources.{definitions, located, written}
use Rattle.sap_macro.specs.Written.{Definition, Written}
use Rattle.sap_macro.specs.declared.definition.Definition as code
use Rattle.sap_macro.specs.declared.source.Source.{Source}
use Rattle.sap_origin.specs.Definitions.{LocatedDefinition, located_definitions, plain_definition}
use Rattle.sap_origin.specs.Origins.{start, words_left}
use Rattle.sap_origin.specs.declared.origin.FileWord.{FileWord}
use Rattle.sap_read.specs.Files.{AreTokens}
use Rattle.sap_read.specs.LocatedItems.{LocatedMain}
use Rattle.sap_read.specs.WrittenFiles.{IsWrittenFile}
use Rattle.sap_read.specs.declared.written.WrittenFile.{WrittenFile}
use Rattle.sap_use_words.specs.ExpandedUses.{words_in, words_of}
use Rattle.sap_use_words.specs.WrittenUses.{LocatedUse, first_other, other_use, uses_at, written_uses}
use Rattle.sap_use_words.specs.declared.use_word.UseWord.{UseWord}
use Rattle.sap_stretches.specs.declared.stretch.Stretch.{Stretch}
use Rattle.sap_read_places.specs.declared.told.Told.{Told}
use Rattle.sap_read_places.specs.Placed.{stretch_before}
use Rattle.sap_read_places.specs.UsePlaces.{IsUseTold}
use Rattle.sap_read_places.specs.code.NamedUses.{IsFoundTold, IsNotNamed, IsUseWordOf, IsWordOf}
use Rattle.sap_read_places.proofs.Along.{SameDefinitions, SameMain, SameTokens}
use Rattle.sap_read_places.proofs.PathTold.{as_placed}
use Rattle.sap_read_places.proofs.UsePlaces.{Finder, IsFoundPlace, found_too, name_of}

-- ---- names

some_same : {u v : LocatedUse} → ◌≡◌ {A = Option LocatedUse} (Some u) (Some v) → u ≡ v
some_same e = cc (e)

some_name : {x y : List ℕ} → ◌≡◌ {A = Option (List ℕ)} (Some x) (Some y) → x ≡ y
some_name e = cc (e)

-- a use whose name is another one has not this name
pub not_named : (x : List ℕ) (found : Option LocatedUse) (c : Option (List ℕ)) → option_map name_of found ≡ c → (c ≡ Some x → ⊥) → IsNotNamed x found
not_named x found c e none = λ u is same. none (sym e ∙ ap (option_map name_of) is ∙ ap Some same)

-- the word that is found is that of the use of this name
pub word_found : (x : List ℕ) (found : Option LocatedUse) (c : Option (List ℕ)) → option_map name_of found ≡ c → c ≡ Some x → (r : Result (Option FileWord) Mem)
    → IfOk r (λ o. option_map words_left o ≡ option_map (λ (u : LocatedUse). u.word) found) → IfOk r (λ o. MatchOption o (IsNotNamed x found) (λ w. IsWordOf x found w))
word_found x found c e is (Err m) h = tt
word_found x None c e is (Ok o) h = let clash : ◌≡◌ {A = Option (List ℕ)} None (Some x) = e ∙ is in absurd (cc (clash))
word_found x (Some u) c e is (Ok None) h = absurd (cc (h))
word_found x (Some u) c e is (Ok (Some w)) h = record { found_use = u; is = refl; name_is = some_name (e ∙ is); word_is = cc (h) }

pub use_word_found : (x : List ℕ) (found : Option LocatedUse) (c : Option (List ℕ)) → option_map name_of found ≡ c → c ≡ Some x → (r : Result (Option UseWord) Mem)
    → IfOk r (λ o. option_map words_in o ≡ option_map words_of found) → IfOk r (λ o. MatchOption o (IsNotNamed x found) (λ w. IsUseWordOf x found w))
use_word_found x found c e is (Err m) h = tt
use_word_found x None c e is (Ok o) h = let clash : ◌≡◌ {A = Option (List ℕ)} None (Some x) = e ∙ is in absurd (cc (clash))
use_word_found x (Some u) c e is (Ok None) h = absurd (cc (h))
use_word_found x (Some u) c e is (Ok (Some w)) h =
    let same : words_in w ≡ words_of u = cc (h) in
    record { found_use = u; is = refl; name_is = some_name (e ∙ is); word_is = λ i. (same i).word; above_are = λ i. (same i).above }

-- what the program keeps of a file has the name of the cause
abbrev pub AreWritten : Type 0
AreWritten = (ds : List code.Definition) (ns : List ℕ) → length ns ≡ length ds → map plain_definition (located_definitions ds ns) ≡ definitions ds

abbrev pub IsWrittenSo : Type 0
IsWrittenSo = (s : Source) → without_numbers (located s) ≡ written s

module _ (plain : AreWritten) (one : IsWrittenSo) (find : Finder) (cause : List Definition → Written → Option (List ℕ)) where
  pub file_name : (ds : List code.Definition) (ns : List ℕ) (s : Source) (n : ℕ) → length ns ≡ length ds
      → option_map name_of (find (located_definitions ds ns) n (located s)) ≡ cause (map plain_definition (located_definitions ds ns)) (without_numbers (located s))
      → option_map name_of (find (located_definitions ds ns) n (located s)) ≡ cause (definitions ds) (written s)
  file_name ds ns s n count e = e ∙ (λ i. cause (plain ds ns count i) (one s i))

pub file_order : AreWritten → (ds : List code.Definition) (ns : List ℕ) → length ns ≡ length ds → AreInOrder [] (definitions ds) → AreInOrder [] (map plain_definition (located_definitions ds ns))
file_order plain ds ns count order = subst (λ (es : List Definition). AreInOrder [] es) (sym (plain ds ns count)) order

-- ---- a use that is written has none above it

abbrev HasNoneAbove : LocatedUse → Type 0
HasNoneAbove u = u.above ≡ []

abbrev AllAlone : List LocatedUse → Type 0
AllAlone [] = ⊤
AllAlone (u ∷ us) = HasNoneAbove u × AllAlone us

alone_both : (us vs : List LocatedUse) → AllAlone us → AllAlone vs → AllAlone (us ++ vs)
alone_both [] vs a b = b
alone_both (u ∷ us) vs a b = (a.0, alone_both us vs a.1 b)

uses_alone : (n : ℕ) (p : Located) → AllAlone (uses_at (start n) p)
uses_alone n (nil_at k) = tt
uses_alone n (call_at k f ts) = (refl, tt)
uses_alone n (parallel_at k p q) = alone_both (uses_at (start n) p) (uses_at (start n) q) (uses_alone n p) (uses_alone n q)
uses_alone n (replicated_at k p) = uses_alone n p
uses_alone n (act_at k a p) = uses_alone n p
uses_alone n (test_at k t u p q) = alone_both (uses_at (start n) p) (uses_at (start n) q) (uses_alone n p) (uses_alone n q)
uses_alone n (lookup_at k t x p q) = alone_both (uses_at (start n) p) (uses_at (start n) q) (uses_alone n p) (uses_alone n q)

written_alone : (ds : List LocatedDefinition) (n : ℕ) (p : Located) → AllAlone (written_uses ds n p)
written_alone [] n p = uses_alone n p
written_alone (d ∷ ds) n p = alone_both (uses_at (start d.behind) d.body) (written_uses ds n p) (uses_alone d.behind d.body) (written_alone ds n p)

alone_if : (b : Bool) (o : Option LocatedUse) (v u : LocatedUse) → HasNoneAbove v → (o ≡ Some u → HasNoneAbove u) → (if b then o else Some v) ≡ Some u → HasNoneAbove u
alone_if true o v u a later e = later e
alone_if false o v u a later e = subst HasNoneAbove (some_same e) a

first_alone : (count : List ℕ → ℕ) (us : List LocatedUse) (u : LocatedUse) → AllAlone us → first_other count us ≡ Some u → HasNoneAbove u
first_alone count [] u a e = absurd (cc (e))
first_alone count (v ∷ us) u a e = alone_if (length v.args == count v.name) (first_other count us) v u a.0 (λ later. first_alone count us u a.1 later) e

pub other_alone : (ds : List LocatedDefinition) (n : ℕ) (p : Located) (u : LocatedUse) → other_use ds n p ≡ Some u → u.above ≡ []
other_alone ds n p u e = first_alone _ (written_uses ds n p) u (written_alone ds n p) e

-- ---- stretches of words

-- those of the first of these words
abbrev pub front_of : List Token → List FileWord → ℕ → List Stretch
front_of ts words k = map (stretch_before ts) (map words_left (take k words))

-- one more, behind those
pub front_step : (ts : List Token) (words : List FileWord) (k : ℕ) (old new : List Stretch) (s : Stretch) (d : FileWord) → k < length words → old ≡ front_of ts words k → new ≡ old ++ s ∷ []
    → s ≡ stretch_before ts (words_left (slice_index_or words k d)) → new ≡ front_of ts words (k + 1)
front_step ts words k old new s d inside is more word =
    let w = slice_index_or words k d in
    more ∙ ap (λ (us : List Stretch). us ++ s ∷ []) is ∙ ap (λ (v : Stretch). front_of ts words k ++ v ∷ []) word
    ∙ sym (map_push (stretch_before ts) (map words_left (take k words)) (words_left w))
    ∙ ap (map (stretch_before ts)) (sym (map_push words_left (take k words) w))
    ∙ ap (λ (ws : List FileWord). map (stretch_before ts) (map words_left ws)) (sym (take_more words k d inside))

-- ---- what is told

pub other_is_told : (ts : List Token) (x : List ℕ) (ds : List LocatedDefinition) (n : ℕ) (p : Located) (w : FileWord) (t : Told) → IsWordOf x (other_use ds n p) w
    → t.word ≡ stretch_before ts (words_left w) → t.uses ≡ [] → IsFoundTold ts x (other_use ds n p) t
other_is_told ts x ds n p w t is word none = record {
  found_use = is.found_use;
  is = is.is;
  told = record {
    name_is = is.name_is;
    word_is = word ∙ ap (stretch_before ts) is.word_is;
    uses_are = none ∙ ap (map (stretch_before ts)) (sym (other_alone ds n p is.found_use is.is));
  };
}

pub large_is_told : (ts : List Token) (x : List ℕ) (found : Option LocatedUse) (w : UseWord) (t : Told) → IsUseWordOf x found w
    → t.word ≡ stretch_before ts (words_left w.word) → t.uses ≡ map (stretch_before ts) (map words_left w.above.items) → IsFoundTold ts x found t
large_is_told ts x found w t is word above = record {
  found_use = is.found_use;
  is = is.is;
  told = record {
    name_is = is.name_is;
    word_is = word ∙ ap (stretch_before ts) is.word_is;
    uses_are = above ∙ ap (map (stretch_before ts)) is.above_are;
  };
}

-- ---- places of a file that was read

module _ {z : List ℕ} {ts : List Token} {w : WrittenFile} (only : (us : List Token) → AreTokens z us → us ≡ ts) (is : IsWrittenFile z w) (find : Finder) where
  abbrev here : Option LocatedUse
  here = find (located_definitions w.processes.definitions w.processes.behind) w.processes.behind_main (located w.processes.main.value)

  abbrev main_here : LocatedMain
  main_here = record { process = located w.processes.main.value; behind = w.processes.behind_main }

  same : ts ≡ is.tokens
  same = sym (only is.tokens is.parted.tokens)

  told_at : (x : List ℕ) (t : Told) → IsFoundTold ts x here t → IsFoundPlace find z x t
  told_at x t f = record {
    tokens = is.tokens;
    definitions = located_definitions w.processes.definitions w.processes.behind;
    main = main_here;
    placed = as_placed only is;
    found = f.found_use;
    first = f.is;
    told = subst (λ (us : List Token). IsUseTold us x f.found_use t) same f.told;
  }

  abbrev ToldSo : List ℕ → Option Told → Type 0
  ToldSo x o = MatchOption o (IsNotNamed x here) (λ t. IsFoundTold ts x here t)

  pub use_told_there : (x : List ℕ) (P : Told → Type 0) → ((t : Told) → IsFoundPlace find z x t → P t) → (r : Result (Option Told) Mem) → IfOk r (ToldSo x) → IfOk r (λ o. IfSome o P)
  use_told_there x P made (Ok None) h = tt
  use_told_there x P made (Ok (Some t)) h = made t (told_at x t h)
  use_told_there x P made (Err m) h = tt

  module _ (tokens : SameTokens) (definitions : SameDefinitions) (mains : SameMain) where
    pub no_use_there : (x : List ℕ) (P : Told → Type 0) → ((t : Told) → P t → IsFoundPlace find z x t) → (r : Result (Option Told) Mem) → IfOk r (ToldSo x)
        → IfOk r (λ o. o ≡ None → (t : Told) → P t → ⊥)
    no_use_there x P back (Ok None) h = λ e t p.
        let a = back t p in
        h a.found (found_too tokens definitions mains find a.placed (as_placed only is) a.first) a.told.name_is
    no_use_there x P back (Ok (Some u)) h = λ e t a. absurd (cc (e))
    no_use_there x P back (Err m) h = tt
