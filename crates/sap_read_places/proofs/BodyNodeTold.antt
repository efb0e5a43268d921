-- What is told of a node of a place that is seen.
use Rattle.std.proofs.Common.{◌≡◌, ◌+◌, ◌-◌, ℕ, suc, List, [], ◌∷◌, Option, Some, None, Ok, Err, length, map, reverse, take, drop, refl, sym, ap, ◌∙◌, subst}
use Rattle.std.proofs.lemmas.List.{take-map, drop-map}
use Rattle.std.specs.Prelude.{IfOk, Result, slice_get}
use Rattle.sap_terms.specs.declared.mem.Mem.{Mem}
use Rattle.sap_terms.specs.Signature.{Sig}
use Rattle.sap_text.specs.declared.token.Token.{Token}
use Rattle.sap_grammar.specs.Words.{Word, word_of, words_of}
use Rattle.sap_macro.specs.Located.{Located}
use Rattle.sap_macro.specs.Sources.{located}
use Rattle.sap_origin.specs.Definitions.{LocatedDefinition}
use Rattle.sap_origin.specs.Origins.{start, words_left}
use Rattle.sap_origin.specs.Reached.{Standing, number_of}
use Rattle.sap_seen.specs.SeenNodes.{seen_numbers}
use Rattle.sap_seen.specs.SeenAt.{IsSeenAt}
use Rattle.sap_seen.specs.declared.seen.SeenPlace.{SeenPlace}
use Rattle.sap_head_words.specs.HeadWords.{HeadWords}
use Rattle.sap_read.specs.SpelledBodies.{item_end}
use Rattle.sap_read_places.specs.declared.told.Told.{Told}
use Rattle.sap_read_places.specs.Placed.{stretch_before}
use Rattle.sap_read_places.specs.code.BodyNodes.{IsInBody, IsNodeAt, IsNumberAt, IsThere}
use Rattle.sap_read_places.proofs.BodyFlawOne.{OneSeen}

as_many : (z : List ℕ) (ts : List Token) → length ts ≡ length (words_of z ts)
as_many z [] = refl
as_many z (t ∷ ts) = ap (λ n. suc n) (as_many z ts)

-- the words of an item's last tokens are its last words
words_end : (z : List ℕ) (ts : List Token) (left behind : ℕ) → words_of z (take left (drop (length ts - (left + behind)) ts)) ≡ item_end (words_of z ts) left behind
words_end z ts left behind =
    sym (take-map (word_of z) left (drop (length ts - (left + behind)) ts))
    ∙ ap (λ (ws : List Word). take left ws) (sym (drop-map (word_of z) (length ts - (left + behind)) ts))
    ∙ ap (λ (n : ℕ). take left (drop (n - (left + behind)) (words_of z ts))) (as_many z ts)

module _ (z : List ℕ) (ts : List Token) (place : SeenPlace) (left : ℕ) (is : left ≡ number_of (located place.source.now)) (item : List Token)
    (item_is : item ≡ take left (drop (length ts - (left + place.behind)) ts)) (k : ℕ) (o : Option ℕ)
    (word : (g : Sig) (ns : List ℕ) → HeadWords g (located place.source.now) (words_of z item) ns → o ≡ slice_get (seen_numbers (located place.source.now) ns) k) where
  same_words : words_of z item ≡ item_end (words_of z ts) (number_of (located place.source.now)) place.behind
  same_words = ap (words_of z) item_is ∙ words_end z ts left place.behind ∙ ap (λ (n : ℕ). item_end (words_of z ts) n place.behind) is

  abbrev HeadThere : Sig → List ℕ → Type 0
  HeadThere g ns = HeadWords g (located place.source.now) (item_end (words_of z ts) (number_of (located place.source.now)) place.behind) ns

  word_there : (g : Sig) (ns : List ℕ) → HeadThere g ns → o ≡ slice_get (seen_numbers (located place.source.now) ns) k
  word_there g ns h = word g ns (subst (λ (ws : List Word). HeadWords g (located place.source.now) ws ns) (sym same_words) h)

  pub none_told : o ≡ None → (g : Sig) (ns : List ℕ) → HeadThere g ns → IsNodeAt ts place (slice_get (seen_numbers (located place.source.now) ns) k) None
  none_told e g ns h = subst (λ (p : Option ℕ). IsNodeAt ts place p None) (sym e ∙ word_there g ns h) tt

  pub some_told : (n : ℕ) (t : Told) → o ≡ Some n → t.word ≡ stretch_before ts (n + place.behind) → t.uses ≡ map (stretch_before ts) (reverse (map words_left place.uses))
      → (g : Sig) (ns : List ℕ) → HeadThere g ns → IsNodeAt ts place (slice_get (seen_numbers (located place.source.now) ns) k) (Some t)
  some_told n t e a b g ns h = subst (λ (p : Option ℕ). IsNodeAt ts place p (Some t)) (sym e ∙ word_there g ns h) (a, b)

-- ---- in a body

none_number : (ts : List Token) (place : SeenPlace) (o : Option ℕ) → IsNodeAt ts place o None → o ≡ None
none_number ts place None h = refl
none_number ts place (Some n) h = absurd h

some_number : (ts : List Token) (place : SeenPlace) (o : Option ℕ) (t : Told) → IsNodeAt ts place o (Some t)
    → (n : ℕ) × (o ≡ Some n) × (t.word ≡ stretch_before ts (n + place.behind)) × (t.uses ≡ map (stretch_before ts) (reverse (map words_left place.uses)))
some_number ts place None t h = absurd h
some_number ts place (Some n) t h = (n, refl, h.0, h.1)

abbrev NodesAt : List ℕ → List Token → SeenPlace → ℕ → Option Told → Type 0
NodesAt z ts place k o =
    (g : Sig) (ns : List ℕ) → HeadWords g (located place.source.now) (item_end (words_of z ts) (number_of (located place.source.now)) place.behind) ns
    → IsNodeAt ts place (slice_get (seen_numbers (located place.source.now) ns) k) o

module _ (one : OneSeen) (z : List ℕ) (ts : List Token) (ds : List LocatedDefinition) (body : Located) (behind : ℕ) (path : List ℕ) (k : ℕ) (place : SeenPlace)
    (at : IsSeenAt ds body behind path place) where
  none_there : NodesAt z ts place k None → IsNumberAt z ts at.standing (located place.source.now) k None
  none_there h g ns head =
      none_number ts place (slice_get (seen_numbers (located place.source.now) ns) k)
      (h g ns (subst (λ (n : ℕ). HeadWords g (located place.source.now) (item_end (words_of z ts) (number_of (located place.source.now)) n) ns) at.behind_is head))

  no_node : NodesAt z ts place k None → IsInBody z ts ds body behind path k None
  no_node h s q comes =
      let same = one ds (start behind) at.standing s body (located place.source.now) q path at.comes comes in
      subst (λ (r : Located). IsNumberAt z ts s r k None) same.1 (subst (λ (w : Standing). IsNumberAt z ts w (located place.source.now) k None) same.0 (none_there h))

  word_at : (t : Told) → NodesAt z ts place k (Some t) → IsThere z ts at.standing (located place.source.now) k t
  word_at t h g ns head =
      let r = some_number ts place (slice_get (seen_numbers (located place.source.now) ns) k) t
      (h g ns (subst (λ (n : ℕ). HeadWords g (located place.source.now) (item_end (words_of z ts) (number_of (located place.source.now)) n) ns) at.behind_is head)) in
      (r.0, r.1, r.2 ∙ ap (λ (n : ℕ). stretch_before ts (r.0 + n)) (sym at.behind_is), r.3 ∙ ap (λ (us : List ℕ). map (stretch_before ts) us) at.uses_are)

  nodes_in_body : (o : Option Told) → NodesAt z ts place k o → IsInBody z ts ds body behind path k o
  nodes_in_body None h = no_node h
  nodes_in_body (Some t) h = (at.standing, located place.source.now, at.comes, word_at t h)

  pub all_in_body : (r : Result (Option Told) Mem) → IfOk r (λ o. NodesAt z ts place k o) → IfOk r (λ o. IsInBody z ts ds body behind path k o)
  all_in_body (Ok o) h = nodes_in_body o h
  all_in_body (Err e) h = tt
