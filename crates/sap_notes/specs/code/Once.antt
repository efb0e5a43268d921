-- Notes as they are put one behind another: of those of events the first alone.
use Rattle.std.specs.Prelude.{Bool, true, false, ◌&&◌, List, [], ◌∷◌, if◌then◌else◌}
use Rattle.sap_notes.specs.NotesTold.{is_of_event, with_one_event, without_events}
use Rattle.sap_notes.specs.declared.note.Note.{Note}

-- the note, but for one of an event where one was met
abbrev pub once : Bool → Note → List Note
once met n = if met && is_of_event n.kind then [] else n ∷ []

-- those that are told of notes, where one was met before them or not
abbrev pub told_behind : Bool → List Note → List Note
told_behind true ns = without_events ns
told_behind false ns = with_one_event ns
