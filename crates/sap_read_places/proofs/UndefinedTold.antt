-- What is told of a name that nothing defines.
use Rattle.std.proofs.Common.{◌≡◌, ℕ, List, [], map, Option, Some, None, ap, subst, ◌∙◌}
use Rattle.std.specs.Prelude.{option_map}
use Rattle.sap_text.specs.declared.token.Token.{Token}
use Rattle.sap_origin.specs.Origins.{words_left}
use Rattle.sap_origin.specs.declared.origin.FileWord.{FileWord}
use Rattle.sap_read.specs.Entries.{located_body}
use Rattle.sap_read.specs.Files.{AreTokens}
use Rattle.sap_read.specs.LocatedItems.{LocatedBody}
use Rattle.sap_read.specs.SaidFiles.{IsSaidFile}
use Rattle.sap_read.specs.UndefinedNames.{HasBodies, UsedName, first_undefined}
use Rattle.sap_read.specs.declared.said.SaidFile.{SaidFile}
use Rattle.sap_read_places.specs.Placed.{stretch_before}
use Rattle.sap_read_places.specs.UndefinedPlaces.{IsUndefinedPlace}
use Rattle.sap_read_places.specs.declared.told.Told.{Told}

-- what a list of tokens says of processes is one
abbrev pub OneBodies : Type 0
OneBodies = (z : List ℕ) (ts : List Token) (bs cs : List LocatedBody) → HasBodies z ts bs → HasBodies z ts cs → bs ≡ cs

-- what the reader finds
abbrev pub Finds : SaidFile → Option FileWord → Type 0
Finds f o = option_map words_left o ≡ option_map (λ (u : UsedName). u.word) (first_undefined [] (map located_body f.entries))

some_number : {m n : ℕ} → ◌≡◌ {A = Option ℕ} (Some m) (Some n) → m ≡ n
some_number e = cc (e)

module _ {z : List ℕ} {ts : List Token} {x : List ℕ} {f : SaidFile} (one : OneBodies) (only : (us : List Token) → AreTokens z us → us ≡ ts) (is : IsSaidFile z f) (t : Told) (a : IsUndefinedPlace z x t) where
  here : HasBodies z ts a.bodies
  here = subst (λ (us : List Token). HasBodies z us a.bodies) (only a.tokens a.has.parted.tokens) a.has

  own : HasBodies z is.tokens (map located_body f.entries)
  own = record { name = f.name; cut = is.cut; standing = is.standing; parted = is.parted; items = is.items; bodies_are = is.places_are }

  same : map located_body f.entries ≡ a.bodies
  same = one z ts (map located_body f.entries) a.bodies
      (subst (λ (us : List Token). HasBodies z us (map located_body f.entries)) (only is.tokens is.parted.tokens) own) here

  found_is : (o : Option FileWord) → Finds f o → option_map words_left o ≡ Some a.name.word
  found_is o h =
      h ∙ ap (λ (bs : List LocatedBody). option_map (λ (u : UsedName). u.word) (first_undefined [] bs)) same ∙ ap (option_map (λ (u : UsedName). u.word)) a.first

  pub undefined_there : (word : FileWord) (s : Told) → Finds f (Some word) → s.word ≡ stretch_before ts (words_left word) → s.uses ≡ [] → IsUndefinedPlace z x s
  undefined_there word s h at none = record {
    refused = a.refused;
    tokens = ts;
    bodies = a.bodies;
    has = here;
    name = a.name;
    first = a.first;
    name_is = a.name_is;
    word_is = at ∙ ap (stretch_before ts) (some_number (found_is (Some word) h));
    uses_are = none;
  }

  pub undefined_found : Finds f None → ⊥
  undefined_found h = let e = found_is None h in absurd (cc (e))
