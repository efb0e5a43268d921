-- Names of processes that are defined, as the program keeps them.
use Rattle.std.specs.Prelude.{◌≡◌, ℕ, Bool, not, List, [], Option, map, drop}
use Rattle.std.specs.List.{find, list_any}
use Rattle.std.specs.Str.{bytes_eq}
use Rattle.sap_origin.specs.Origins.{words_left}
use Rattle.sap_read.specs.declared.entry.Entry.{Entry}
use Rattle.sap_read.specs.declared.names.Undefined.{Undefined}
use Rattle.sap_read.specs.Causes.{is_among}
use Rattle.sap_read.specs.UndefinedNames.{UsedName, first_undefined}
use Rattle.sap_read.specs.Entries.{located_body}

-- a name that the program found where it is used
abbrev pub used_name : Undefined → UsedName
used_name u = record { name = u.name.now; word = words_left u.word }

-- it isn't one of those that are kept
abbrev pub is_not_kept : List (List ℕ) → UsedName → Bool
is_not_kept names u = not (list_any (bytes_eq u.name) names)

-- the first of the names that isn't
abbrev pub undefined_among : List (List ℕ) → List UsedName → Option UsedName
undefined_among names us = find (is_not_kept names) us

-- behind the first processes of a file: its first name that isn't defined is the first behind them, where these are known
pub record AreBehind (es : List Entry) (k : ℕ) (names : List (List ℕ)) : Type 0 where
  pub known : List (List ℕ)
  pub rest : first_undefined [] (map located_body es) ≡ first_undefined known (map located_body (drop k es))
  pub kept : (x : List ℕ) → list_any (bytes_eq x) names ≡ is_among known x
