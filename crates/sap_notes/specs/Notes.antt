-- Notes on a file that is accepted: what is so and may not be meant, and at which word.
use Rattle.std.specs.Prelude.{◌≡◌, ◌<◌, ◌⊎◌, ℕ, List, [], ◌∷◌, Contains, length}
use Rattle.sap_captures.specs.Captures.{IsCapturedAt, IsComparedAt}
use Rattle.sap_text.specs.declared.token.Token.{Token}
use Rattle.sap_stretches.specs.Stretches.{stretch_at}
use Rattle.sap_uses.specs.ScopeFlaws.{LeadsTo}
use Rattle.sap_stretches.specs.declared.stretch.Stretch.{Stretch}
use Rattle.sap_notes.specs.Contents.{Content, HasContent, content_facts, content_symbols}
use Rattle.sap_notes.specs.FactWords.{IsFirstSaidAt, IsFirstShownAt}
use Rattle.sap_notes.specs.Facts.{all_shown}
use Rattle.sap_notes.specs.NotedWords.{IsDefinedAt, IsFirstDeclaredAt}
use Rattle.sap_notes.specs.OtherSymbols.{IsAnother}
use Rattle.sap_notes.specs.declared.note.Kind.{Kind}
use Rattle.sap_notes.specs.declared.note.Kind.TheVariants.{OtherSymbol, UnusedSymbol, UnusedDefinition, UnshownFact, UnspokenEvent, CapturedName, ComparedName}
use Rattle.sap_notes.specs.declared.note.Note.{Note}

-- a note of this kind at token number k
abbrev pub note_at : Kind → List Token → ℕ → Note
note_at kind ts k = record { kind = kind; word = stretch_at ts k }

-- The note is true of the file that the bytes are: a function is declared, first at this word, of a name and a number of terms of which
-- equations of builtins speak that the file doesn't name; or one that is in no term of the file; or a definition has this name to which
-- the file's process doesn't lead; a restriction or a lemma speaks, first at this word, of a fact that is never shown; or the process
-- shows, first at this word, an event of which no formula speaks, where there is one; a pattern behind a use binds this name of an
-- argument; or this is the whole pattern of an input, and in scope.
pub data IsNote (z : List ℕ) : Note → Type 0 where
  other_symbol : {ts : List Token} {f : Content} {x : List ℕ} {k : ℕ} → HasContent z ts f
      → IsFirstDeclaredAt z ts x k → IsAnother f.signature x → IsNote z (note_at OtherSymbol ts k)
  unused_symbol : {ts : List Token} {f : Content} {x : List ℕ} {k : ℕ} → HasContent z ts f
      → IsFirstDeclaredAt z ts x k → (Contains (content_symbols f) x → ⊥)
      → IsNote z (note_at UnusedSymbol ts k)
  unused_definition : {ts : List Token} {f : Content} {x : List ℕ} {k : ℕ} → HasContent z ts f
      → IsDefinedAt z ts x k → (LeadsTo f.definitions f.process x → ⊥)
      → IsNote z (note_at UnusedDefinition ts k)
  unshown_fact : {ts : List Token} {f : Content} {x : List ℕ} {k : ℕ} → HasContent z ts f
      → IsFirstSaidAt z ts f x k → (Contains (all_shown f.whole) x → ⊥)
      → IsNote z (note_at UnshownFact ts k)
  unspoken_event : {ts : List Token} {f : Content} {x : List ℕ} {k : ℕ} → HasContent z ts f
      → IsFirstShownAt z ts f x k → 0 < length f.formulas → (Contains (content_facts f) x → ⊥)
      → IsNote z (note_at UnspokenEvent ts k)
  captured_name : {t : Stretch} → IsCapturedAt z t → IsNote z (record { kind = CapturedName; word = t })
  compared_name : {t : Stretch} → IsComparedAt z t → IsNote z (record { kind = ComparedName; word = t })

-- the order of kinds at one word
abbrev pub rank : Kind → ℕ
rank OtherSymbol = 0
rank UnusedSymbol = 1
rank UnusedDefinition = 2
rank UnshownFact = 3
rank UnspokenEvent = 4
rank CapturedName = 5
rank ComparedName = 6

-- the first note stands before the second in the file, or at the same word, and is of an earlier kind
abbrev pub IsBefore : Note → Note → Type 0
IsBefore n m = (n.word.from < m.word.from) ⊎ ((n.word.from ≡ m.word.from) × (rank n.kind < rank m.kind))

-- each of them stands before all behind it
abbrev pub AreAscending : List Note → Type 0
AreAscending [] = Unit {0}
AreAscending (n ∷ ns) = ((m : Note) → Contains ns m → IsBefore n m) × AreAscending ns

-- these are the notes that are true of the file, all of them, in the order of the file
pub record AreNotes (z : List ℕ) (ns : List Note) : Type 0 where
  pub order : AreAscending ns
  pub are : (n : Note) → Contains ns n → IsNote z n
  pub all : (n : Note) → IsNote z n → Contains ns n
