-- What is told of where a path leads.
use Rattle.std.proofs.Common.{◌≡◌, ◌<◌, ◌≤◌, ℕ, ◌+◌, ◌-◌, List, [], ◌∷◌, ◌++◌, drop, length, map, reverse, Option, Some, None, Ok, Err, refl, sym, ap, ◌∙◌, arith}
use Rattle.std.proofs.Common.{add-one, drop-cons}
use Rattle.std.proofs.lemmas.List.{map_push, reverse-append}
use Rattle.std.specs.Prelude.{IfOk, IfSome, MatchOption, Result, slice_index_or}
use Rattle.sap_terms.specs.declared.mem.Mem.{Mem}
use Rattle.sap_text.specs.declared.token.Token.{Token}
use Rattle.sap_macro.specs.Sources.{located}
use Rattle.sap_origin.specs.Definitions.{located_definitions}
use Rattle.sap_origin.specs.Origins.{words_left}
use Rattle.sap_origin.specs.Reached.{number_of}
use Rattle.sap_origin.specs.declared.origin.FileWord.{FileWord}
use Rattle.sap_origin.specs.declared.origin.Origin.{Origin}
use Rattle.sap_read.specs.Files.{AreTokens}
use Rattle.sap_read.specs.LocatedItems.{LocatedMain}
use Rattle.sap_read.specs.WrittenFiles.{IsWrittenFile}
use Rattle.sap_read.specs.declared.written.WrittenFile.{WrittenFile}
use Rattle.sap_stretches.specs.declared.stretch.Stretch.{Stretch}
use Rattle.sap_read_places.specs.declared.told.Told.{Told}
use Rattle.sap_read_places.specs.code.Walked.{IsOriginTold, LeadsNowhere, LeadsTo}
use Rattle.sap_read_places.specs.Placed.{IsAtPath, IsPlaced, stretch_before}
use Rattle.sap_read_places.proofs.Along.{SameDefinitions, SameMain, SameTokens, comes_too}

-- ---- stretches of uses

-- so many words are left before those behind the item
pub less_both : (n a b : ℕ) → (n - a) - b ≡ n - (a + b)
less_both n a b = omega arith

-- the stretches of the last of these, the very last first
abbrev pub back_from : List Token → List FileWord → ℕ → List Stretch
back_from ts uses k = map (stretch_before ts) (reverse (map words_left (drop k uses)))

pub back_none : (ts : List Token) (uses : List FileWord) → back_from ts uses (length uses) ≡ []
back_none ts [] = refl
back_none ts (u ∷ us) = back_none ts us

pub back_next : (ts : List Token) (uses : List FileWord) (k : ℕ) (d : FileWord) → k < length uses
    → back_from ts uses k ≡ back_from ts uses (k + 1) ++ stretch_before ts (words_left (slice_index_or uses k d)) ∷ []
back_next ts uses k d h =
    let u = slice_index_or uses k d in
    let more : drop k uses ≡ u ∷ drop (k + 1) uses = rw (add-one, drop-cons uses k d) refl in
    ap (λ (us : List FileWord). map (stretch_before ts) (reverse (map words_left us))) more
    ∙ ap (map (stretch_before ts)) (reverse-append (words_left u ∷ []) (map words_left (drop (k + 1) uses)))
    ∙ map_push (stretch_before ts) (reverse (map words_left (drop (k + 1) uses))) (words_left u)

-- one more, before those
pub back_step : (ts : List Token) (uses : List FileWord) (k : ℕ) (old new : List Stretch) (s : Stretch) (d : FileWord) → 0 < k → k ≤ length uses → old ≡ back_from ts uses k → new ≡ old ++ s ∷ []
    → s ≡ stretch_before ts (words_left (slice_index_or uses (k - 1) d)) → new ≡ back_from ts uses (k - 1)
back_step ts uses k old new s d low high is more word =
    let at : k ≡ (k - 1) + 1 = omega (arith, low) in
    let inside : k - 1 < length uses = omega (arith, low, high) in
    more ∙ ap (λ (us : List Stretch). us ++ s ∷ []) is ∙ ap (λ (n : ℕ). back_from ts uses n ++ s ∷ []) at
    ∙ ap (λ (v : Stretch). back_from ts uses ((k - 1) + 1) ++ v ∷ []) word ∙ sym (back_next ts uses (k - 1) d inside)

-- ---- places of a file that was read

module _ {z : List ℕ} {ts : List Token} {w : WrittenFile} (only : (us : List Token) → AreTokens z us → us ≡ ts) (is : IsWrittenFile z w) where
  abbrev pub main_is : LocatedMain
  main_is = record { process = located w.processes.main.value; behind = w.processes.behind_main }

  unfoldable pub as_placed : IsPlaced z is.tokens (located_definitions w.processes.definitions w.processes.behind) main_is
  as_placed = record {
    name = w.name;
    cut = is.cut;
    standing = is.standing;
    parted = is.parted;
    items = is.items;
    nothing = is.nothing;
    definitions_are = sym is.definitions_stand;
    main_is = is.main_stands;
  }

  same : ts ≡ is.tokens
  same = sym (only is.tokens is.parted.tokens)

  pub told_at : (path : List ℕ) (t : Told) (o : Origin) → LeadsTo w.processes path o → IsOriginTold ts o t → IsAtPath z path t
  told_at path t o leads told = record {
    tokens = is.tokens;
    definitions = located_definitions w.processes.definitions w.processes.behind;
    main = main_is;
    placed = as_placed;
    standing = leads.standing;
    place = leads.place;
    reaches = leads.reaches;
    word_is = told.word_is ∙ ap (stretch_before ts) leads.word_is ∙ ap (λ (us : List Token). stretch_before us (number_of leads.place + leads.standing.behind)) same;
    uses_are = told.uses_are ∙ ap (map (stretch_before ts)) leads.uses_are ∙ ap (λ (us : List Token). map (stretch_before us) leads.standing.uses) same;
  }

  -- what is told is there, and where nothing is told nothing is
  abbrev ToldSo : List ℕ → Option Told → Type 0
  ToldSo path o = MatchOption o (LeadsNowhere w.processes path) (λ t. (o : Origin) × LeadsTo w.processes path o × IsOriginTold ts o t)

  pub told_there : (path : List ℕ) (r : Result (Option Told) Mem) → IfOk r (ToldSo path) → IfOk r (λ o. IfSome o (λ t. IsAtPath z path t))
  told_there path (Ok None) h = tt
  told_there path (Ok (Some t)) h = told_at path t h.0 h.1 h.2
  told_there path (Err m) h = tt

  module _ (tokens : SameTokens) (definitions : SameDefinitions) (mains : SameMain) where
    pub nothing_there : (path : List ℕ) (r : Result (Option Told) Mem) → IfOk r (ToldSo path) → IfOk r (λ o. o ≡ None → (t : Told) → IsAtPath z path t → ⊥)
    nothing_there path (Ok None) h = λ e t a. h a.standing a.place (comes_too tokens definitions mains a.placed as_placed a.reaches)
    nothing_there path (Ok (Some u)) h = λ e t a. absurd (cc (e))
    nothing_there path (Err m) h = tt
