-- What is told of a node of a place that is seen.
use Rattle.std.specs.Prelude.{◌≡◌, ℕ, ◌+◌, List, Option, Some, None, map, reverse, slice_get}
use Rattle.sap_terms.specs.Signature.{Sig}
use Rattle.sap_text.specs.declared.token.Token.{Token}
use Rattle.sap_grammar.specs.Words.{words_of}
use Rattle.sap_macro.specs.Located.{Located}
use Rattle.sap_origin.specs.Definitions.{LocatedDefinition}
use Rattle.sap_origin.specs.Origins.{start, words_left}
use Rattle.sap_origin.specs.Reached.{Standing, number_of}
use Rattle.sap_seen.specs.SeenNodes.{seen_numbers}
use Rattle.sap_seen.specs.SeenPlaces.{ComesSeen}
use Rattle.sap_head_words.specs.HeadWords.{HeadWords}
use Rattle.sap_read.specs.SpelledBodies.{item_end}
use Rattle.sap_seen.specs.declared.seen.SeenPlace.{SeenPlace}
use Rattle.sap_read_places.specs.declared.told.Told.{Told}
use Rattle.sap_read_places.specs.Placed.{stretch_before}

-- the node from which so many words of its item are left, below the uses above the place; or there is none, and nothing is told
abbrev pub IsNodeAt : List Token → SeenPlace → Option ℕ → Option Told → Type 0
IsNodeAt ts place None None = Unit {0}
IsNodeAt ts place None (Some t) = ⊥
IsNodeAt ts place (Some n) None = ⊥
IsNodeAt ts place (Some n) (Some t) =
    (t.word ≡ stretch_before ts (n + place.behind))
    × (t.uses ≡ map (stretch_before ts) (reverse (map words_left place.uses)))

-- node k of the place, by its words of the file, is the one from which so many words of its item are left
abbrev pub IsNumberAt : List ℕ → List Token → Standing → Located → ℕ → Option ℕ → Type 0
IsNumberAt z ts s q k o =
    (g : Sig) (ns : List ℕ) → HeadWords g q (item_end (words_of z ts) (number_of q) s.behind) ns
    → slice_get (seen_numbers q ns) k ≡ o

-- this is told of node k of the place, where one stands so
abbrev pub IsThere : List ℕ → List Token → Standing → Located → ℕ → Told → Type 0
IsThere z ts s q k t =
    (g : Sig) (ns : List ℕ) → HeadWords g q (item_end (words_of z ts) (number_of q) s.behind) ns
    → (n : ℕ) × (slice_get (seen_numbers q ns) k ≡ Some n) × (t.word ≡ stretch_before ts (n + s.behind))
    × (t.uses ≡ map (stretch_before ts) s.uses)

-- of node k of what is seen at the path of this body, behind whose item so many words are, this is told; or there is no such node
abbrev pub IsInBody : List ℕ → List Token → List LocatedDefinition → Located → ℕ → List ℕ → ℕ → Option Told → Type 0
IsInBody z ts ds body behind path k None =
    (s : Standing) (q : Located) → ComesSeen ds (start behind) body path s q → IsNumberAt z ts s q k None
IsInBody z ts ds body behind path k (Some t) =
    (s : Standing) × (q : Located) × ComesSeen ds (start behind) body path s q × IsThere z ts s q k t
