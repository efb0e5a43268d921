-- What comes of a line, written piece by piece.
use Rattle.std.specs.Prelude.{ℕ, Bool, false, codes, List, [], ◌∷◌, ◌++◌, if◌then◌else◌, map, Option, Some, None}
use Rattle.sap_called.specs.Names.{Draw}
use Rattle.sap_terms.specs.Tree.{Tree}
use Rattle.sap_terms.specs.declared.fact.Fact.{Fact}
use Rattle.sap_tell.specs.ToldText.{shows_text, knows_text}

-- what stands before an outcome, the first or a later one
abbrev pub before_outcome : Bool → List ℕ
before_outcome first = if first then codes " -- " else codes ", "

-- these outcomes, of which the first is the first of the line, or isn't
abbrev pub outcomes_from : Bool → List (List ℕ) → List ℕ
outcomes_from first [] = []
outcomes_from first (o ∷ os) = before_outcome first ++ (o ++ outcomes_from false os)

-- whether the next outcome is still the first
abbrev pub still_first : Bool → List (List ℕ) → Bool
still_first first [] = first
still_first first (o ∷ os) = false

-- the entry, if there is one
abbrev pub known_text : List Draw → ℕ → Option Tree → List (List ℕ)
known_text ds k None = []
known_text ds k (Some x) = knows_text ds k x ∷ []

-- what is shown, and the entry
abbrev pub shown_texts : List Draw → List Fact → ℕ → Option Tree → List (List ℕ)
shown_texts ds label k o = map (shows_text ds) label ++ known_text ds k o
