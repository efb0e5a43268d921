-- Names that are gathered from a process, and from the bodies of definitions behind it.
use Rattle.std.specs.Prelude.{◌≡◌, ℕ, true, List, if◌then◌else◌}
use Rattle.std.specs.List.{list_any}
use Rattle.std.specs.Str.{bytes_eq}
use Rattle.sap_macro.specs.Written.{Written, Definition}
use Rattle.sap_read.specs.FileProcess.{calls}
use Rattle.sap_uses.specs.ScopeFlaws.{LeadsTo}
use Rattle.sap_notes.specs.code.Gathered.{gathered}

-- the name is one of these
abbrev pub IsAmong : List (List ℕ) → List ℕ → Type 0
IsAmong names x = list_any (bytes_eq x) names ≡ true

-- these with the names that the definition's body uses, where its own is one of them
abbrev pub with_calls_of : List (List ℕ) → Definition → List (List ℕ)
with_calls_of names d =
    if list_any (bytes_eq d.name) names then gathered names (calls d.body) else names

-- these are the names to which the process leads
pub record AreLedTo (ds : List Definition) (p : Written) (names : List (List ℕ)) : Type 0 where
  pub sound : (x : List ℕ) → IsAmong names x → LeadsTo ds p x
  pub all : (x : List ℕ) → LeadsTo ds p x → IsAmong names x
