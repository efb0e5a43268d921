-- The walk for the first use with a large argument.
use Rattle.std.specs.Prelude.{◌≡◌, ◌<◌, ℕ, List, [], ◌∷◌, ◌++◌, map, reverse, Option, Some, None, if◌then◌else◌, ⊤}
use Rattle.std.specs.Option.{option_or}
use Rattle.sap_terms.specs.Choice.{Choice, instance}
use Rattle.sap_macro.specs.Expansion.{put, unchanged}
use Rattle.sap_macro.specs.Located.{Located}
use Rattle.sap_macro.specs.Sources.{located, written}
use Rattle.sap_macro.specs.Walked.{steps_in}
use Rattle.sap_macro.specs.Written.{Definition}
use Rattle.sap_macro.specs.declared.source.Source.{Source}
use Rattle.sap_origin.specs.Definitions.{LocatedDefinition}
use Rattle.sap_origin.specs.Origins.{words_left}
use Rattle.sap_origin.specs.Reached.{Standing}
use Rattle.sap_origin.specs.declared.origin.FileWord.{FileWord}
use Rattle.sap_uses.specs.Sizes.{HaveSizes}
use Rattle.sap_uses.specs.UseCauses.{has_large}
use Rattle.sap_use_words.specs.ExpandedUses.{Led, first_with_large, led_after, none_led, uses_in, words_of}
use Rattle.sap_use_words.specs.WrittenUses.{LocatedUse, use_at}
use Rattle.sap_use_words.specs.declared.large.Reached.{Reached}
use Rattle.sap_use_words.specs.declared.large.Reached.TheVariants.{Large, Body}
use Rattle.sap_use_words.specs.declared.met.Entry.{Entry}
use Rattle.sap_use_words.specs.declared.met.First.{First}
use Rattle.sap_use_words.specs.declared.met.First.TheVariants.{Plain, Else}
use Rattle.sap_use_words.specs.declared.met.Here.{Here}
use Rattle.sap_use_words.specs.declared.met.Met.{Met}
use Rattle.sap_use_words.specs.declared.met.Met.TheVariants.{Nothing, Use, One, Two}

-- so many words of the file are behind, and one came through these uses, the innermost last
abbrev pub standing_by : ℕ → List FileWord → Standing
standing_by n us = record { behind = n; uses = reverse (map words_left us) }

abbrev pub led_of : List LocatedDefinition → Led
led_of ds = led_after none_led ds

-- the use that a walk finds in a process
unfoldable pub found : List LocatedDefinition → ℕ → List FileWord → Choice → Located → Option LocatedUse
found ds n us r p = first_with_large (uses_in (led_of ds) (standing_by n us) r p)

-- and from here
abbrev pub found_from : List LocatedDefinition → List FileWord → Choice → Here → Option LocatedUse
found_from ds us r h = found ds h.behind us r (located h.source.now)

-- and at a use
abbrev pub found_by : List LocatedDefinition → List FileWord → Choice → Entry → Option LocatedUse
found_by ds us r e =
    if has_large (map (instance r) e.args.now)
    then Some (use_at (standing_by e.word.behind us) e.word.left e.definition.now.name
    (map (instance r) e.args.now))
    else found ds e.behind (us ++ e.word ∷ [])
    (put e.definition.now.params (map (instance r) e.args.now) unchanged)
    (located e.definition.now.body.value)

-- and at what is met
abbrev pub found_at : List LocatedDefinition → List FileWord → Choice → Met → Option LocatedUse
found_at ds us r Nothing = None
found_at ds us r (Use e) = found_by ds us r e
found_at ds us r (One h) = found_from ds us r h
found_at ds us r (Two h i) = option_or (found_from ds us r h) (found_from ds us r i)

-- how many steps a walk makes from here, and from a use
abbrev pub steps_from : List Definition → Here → ℕ
steps_from es h = steps_in es (written h.source.now)

abbrev pub steps_by : List Definition → Entry → ℕ
steps_by es e = steps_in es (written e.definition.now.body.value)

-- from what is met it makes fewer than these
abbrev pub AreFewer : List Definition → Met → ℕ → Type 0
AreFewer es Nothing n = ⊤
AreFewer es (Use e) n = steps_by es e < n
AreFewer es (One h) n = steps_from es h < n
AreFewer es (Two h i) n = (steps_from es h < n) × (steps_from es i < n)

-- this is met at a process behind which so many words are, behind more uses
pub record IsMet (ds : List LocatedDefinition) (es : List Definition) (n : ℕ) (us : List FileWord)
    (w : Source) (m : Met) (vs : List FileWord) : Type 0 where
  pub same : (r : Choice) → found ds n us r (located w) ≡ found_at ds vs r m
  pub fewer : AreFewer es m (steps_in es (written w))

-- the walk is further there, behind more uses
pub record IsFurther (ds : List LocatedDefinition) (es : List Definition) (n : ℕ)
    (us : List FileWord) (w : Source) (h : Here) (vs : List FileWord) : Type 0 where
  pub same : (r : Choice) → found ds n us r (located w) ≡ found_from ds vs r h
  pub fewer : steps_from es h < steps_in es (written w)

-- this is met first
abbrev pub IsFirst : List LocatedDefinition → List Definition → ℕ → List FileWord → Source → First → Type 0
IsFirst ds es n us w (Plain x h) = IsFurther ds es n us w h (us ++ x ∷ [])
IsFirst ds es n us w (Else m) = IsMet ds es n us w m us

-- this use is at the word, below these uses
pub record IsThere (o : Option LocatedUse) (w : FileWord) (us : List FileWord) : Type 0 where
  pub found_use : LocatedUse
  pub is : o ≡ Some found_use
  pub words_are : words_of found_use ≡ record { word = words_left w; above = reverse (map words_left us) }

abbrev pub IsFound : Option LocatedUse → Option FileWord → List FileWord → Type 0
IsFound o None us = o ≡ None
IsFound o (Some w) us = IsThere o w us

-- the same is found from there, where variables stand for terms of these sizes
pub record IsInside (ds : List LocatedDefinition) (o : Option LocatedUse)
    (sizes : List (List ℕ × ℕ)) (h : Here) (us : List FileWord) : Type 0 where
  pub choice : Choice
  pub have : HaveSizes choice sizes
  pub same : o ≡ found_from ds us choice h

-- what is found is at this use, or from there
abbrev pub IsReached : List LocatedDefinition → Option LocatedUse → Reached → List FileWord → Type 0
IsReached ds o (Large w) us = IsThere o w us
IsReached ds o (Body sizes h) us = IsInside ds o sizes h us

-- how many steps a walk makes from there
abbrev pub steps_there : List Definition → Reached → ℕ
steps_there es (Large w) = 0
steps_there es (Body sizes h) = steps_from es h
