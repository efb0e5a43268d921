-- What is told of notes: each with its place, and what it means and what to write; events of which no formula speaks in one.
use Rattle.std.specs.Prelude.{ℕ, Bool, true, false, ◌-◌, ◌||◌, nat_le, codes, decimal, List, [], ◌∷◌, ◌++◌, length, take, if◌then◌else◌}
use Rattle.std.specs.List.{flat_map}
use Rattle.std.specs.Str.{bytes_eq}
use Rattle.sap_stretches.specs.Positions.{IsPlaceText}
use Rattle.sap_stretches.specs.Stretches.{bytes_in}
use Rattle.sap_notes.specs.Notes.{AreNotes}
use Rattle.sap_notes.specs.declared.note.Kind.{Kind}
use Rattle.sap_notes.specs.declared.note.Kind.TheVariants.{OtherSymbol, UnusedSymbol, UnusedDefinition, UnshownFact, UnspokenEvent, CapturedName, ComparedName}
use Rattle.sap_notes.specs.declared.note.Note.{Note}

-- the builtins that have an equation that speaks of the symbol of this name
abbrev pub builtins_with : List ℕ → List ℕ
builtins_with x =
    if bytes_eq x (codes "senc") || bytes_eq x (codes "sdec") then codes "symmetric-encryption"
    else if bytes_eq x (codes "aenc") || bytes_eq x (codes "adec") then codes "asymmetric-encryption"
    else if bytes_eq x (codes "pk") then codes "asymmetric-encryption, signing or revealing-signing"
    else if bytes_eq x (codes "sign") || bytes_eq x (codes "verify") then codes "signing"
    else if bytes_eq x (codes "true") then codes "signing or revealing-signing"
    else codes "revealing-signing"

-- a name behind a comma, and names with commas between them
abbrev pub behind_comma : List ℕ → List ℕ
behind_comma x = codes ", " ++ x

abbrev pub with_commas : List (List ℕ) → List ℕ
with_commas [] = []
with_commas (x ∷ xs) = x ++ flat_map behind_comma xs

-- so many names are told of a long list
abbrev pub most_events : ℕ
most_events = 8

-- how many more there are
abbrev pub and_more : ℕ → List ℕ
and_more n = if nat_le n most_events then [] else codes " and " ++ (decimal (n - most_events) ++ codes " more")

-- these events: the first eight, and how many more there are
abbrev pub event_list : List (List ℕ) → List ℕ
event_list xs = with_commas (take most_events xs) ++ and_more (length xs)

-- what a note of this kind means, and what to write, where it stands at these bytes, and these are the events of which no formula speaks
abbrev pub sentence : (events : List (List ℕ)) → Kind → List ℕ → List ℕ
sentence es OtherSymbol x = codes "No equation speaks of this symbol, so nothing undoes it: name builtins: "
    ++ (builtins_with x ++ codes " in place of this declaration.")
sentence es UnusedSymbol x = codes "No term has this symbol: use it, or leave its declaration out."
sentence es UnusedDefinition x = codes "The process doesn't lead to this let: use it there, or leave it out."
sentence es UnshownFact x = codes "No place of the process shows this fact with as many arguments: write a fact that an event shows, or show this one."
sentence es UnspokenEvent x = codes "No restriction or lemma speaks of these events with as many arguments: "
    ++ (event_list es ++ codes ". Speak of them there, or leave them out.")
sentence es CapturedName x = codes "This name is new to the process: what comes in is bound to it, by a pattern of the definition. To hand down a value, bind the name in front of the use; to bind a name of the definition's own, leave the parameter out."
sentence es ComparedName x = codes "This variable is bound already: only a message that is equal to its value comes in. For any message, write a new name."

-- the note is one of an event of which no formula speaks
abbrev pub is_of_event : Kind → Bool
is_of_event OtherSymbol = false
is_of_event UnusedSymbol = false
is_of_event UnusedDefinition = false
is_of_event UnshownFact = false
is_of_event UnspokenEvent = true
is_of_event CapturedName = false
is_of_event ComparedName = false

-- the names of these events among the notes
abbrev pub event_names : List ℕ → List Note → List (List ℕ)
event_names z [] = []
event_names z (n ∷ ns) = if is_of_event n.kind then bytes_in z n.word ∷ event_names z ns else event_names z ns

-- the notes without those of events
abbrev pub without_events : List Note → List Note
without_events [] = []
without_events (n ∷ ns) = if is_of_event n.kind then without_events ns else n ∷ without_events ns

-- with the first of those alone, at which all are told
abbrev pub with_one_event : List Note → List Note
with_one_event [] = []
with_one_event (n ∷ ns) = if is_of_event n.kind then n ∷ without_events ns else n ∷ with_one_event ns

-- the text tells this note: where it stands, and its sentence on a line of its own
pub data IsNoteTold (z : List ℕ) (es : List (List ℕ)) (n : Note) : List ℕ → Type 0 where
  is_told : {t : List ℕ} → IsPlaceText z n.word t
      → IsNoteTold z es n (t ++ (sentence es n.kind (bytes_in z n.word) ++ (10 ∷ [])))

-- it tells these notes, one after another
pub data AreNotesTold (z : List ℕ) (es : List (List ℕ)) : List Note → List ℕ → Type 0 where
  none_told : AreNotesTold z es [] []
  more_told : {n : Note} {ns : List Note} {t u : List ℕ} → IsNoteTold z es n t → AreNotesTold z es ns u
      → AreNotesTold z es (n ∷ ns) (t ++ u)

-- it tells the notes on the file that the bytes are, and events in one
pub record IsNotesText (z : List ℕ) (t : List ℕ) : Type 0 where
  pub notes : List Note
  pub are : AreNotes z notes
  pub told : AreNotesTold z (event_names z notes) (with_one_event notes) t
