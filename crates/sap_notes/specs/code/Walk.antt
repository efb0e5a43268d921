-- The notes on a file, found word by word.
use Rattle.std.specs.Prelude.{ℕ, zero, suc, Bool, codes, List, [], ◌∷◌, ◌++◌, Option, Some, None, drop, if◌then◌else◌}
use Rattle.std.specs.List.{list_any}
use Rattle.std.specs.Str.{bytes_eq}
use Rattle.sap_terms.specs.NameSet.{with_name}
use Rattle.sap_terms.specs.Signature.{Sig}
use Rattle.sap_text.specs.declared.token.Token.{Token}
use Rattle.sap_grammar.specs.Reading.{name_at}
use Rattle.sap_grammar.specs.Words.{words_of}
use Rattle.sap_stretches.specs.declared.stretch.Stretch.{Stretch}
use Rattle.sap_stretches.specs.Stretches.{stretch_at}
use Rattle.sap_where.specs.FileDeclarations.{in_item, is_next}
use Rattle.sap_notes.specs.NotedWords.{is_behind_let}
use Rattle.sap_notes.specs.code.Others.{is_another}
use Rattle.sap_notes.specs.declared.note.Kind.{Kind}
use Rattle.sap_notes.specs.declared.note.Kind.TheVariants.{OtherSymbol, UnusedSymbol, UnusedDefinition}
use Rattle.sap_notes.specs.declared.note.Note.{Note}

-- a name, where the test is true
abbrev pub name_if : Bool → Option (List ℕ) → Option (List ℕ)
name_if b o = if b then o else None

-- the name of the function that is declared at token number k, and that of the definition
abbrev pub declared_name : List ℕ → List Token → ℕ → Option (List ℕ)
declared_name z ts k =
    name_if (is_next z ts k) (name_if (in_item z ts (codes "functions") k) (name_at (words_of z (drop k ts))))

abbrev pub defined_name : List ℕ → List Token → ℕ → Option (List ℕ)
defined_name z ts k = name_if (is_behind_let z ts k) (name_at (words_of z (drop k ts)))

-- the names with this one, if there is one
abbrev pub with_named : List (List ℕ) → Option (List ℕ) → List (List ℕ)
with_named names None = names
with_named names (Some x) = with_name names x

-- the names of the functions that are declared before token number k
abbrev pub declared_names : List ℕ → List Token → ℕ → List (List ℕ)
declared_names z ts zero = []
declared_names z ts (suc k) = with_named (declared_names z ts k) (declared_name z ts k)

-- one note, where the test is true
abbrev pub note_if : Bool → Kind → Stretch → List Note
note_if b kind s = if b then record { kind = kind; word = s } ∷ [] else []

-- or where it is false
abbrev pub note_unless : Bool → Kind → Stretch → List Note
note_unless b kind s = if b then [] else record { kind = kind; word = s } ∷ []

-- the notes on a function, with this signature and these symbols in the terms of the file
abbrev pub symbol_notes : Sig → (symbols : List (List ℕ)) → List ℕ → Stretch → List Note
symbol_notes g symbols x s = note_if (is_another g x) OtherSymbol s
    ++ note_unless (list_any (bytes_eq x) symbols) UnusedSymbol s

-- those on one that is declared, where these were declared before
abbrev pub declared_notes : Sig → (symbols declared : List (List ℕ)) → Option (List ℕ) → Stretch → List Note
declared_notes g symbols declared None s = []
declared_notes g symbols declared (Some x) s =
    if list_any (bytes_eq x) declared then [] else symbol_notes g symbols x s

-- those on a definition, where the process leads to these
abbrev pub defined_notes : (led : List (List ℕ)) → Option (List ℕ) → Stretch → List Note
defined_notes led None s = []
defined_notes led (Some x) s = note_unless (list_any (bytes_eq x) led) UnusedDefinition s

-- the notes at token number k
abbrev pub notes_at : Sig → (symbols led : List (List ℕ)) → List ℕ → List Token → ℕ → List Note
notes_at g symbols led z ts k =
    declared_notes g symbols (declared_names z ts k) (declared_name z ts k) (stretch_at ts k)
    ++ defined_notes led (defined_name z ts k) (stretch_at ts k)

-- those at the tokens before it
abbrev pub notes_before : Sig → (symbols led : List (List ℕ)) → List ℕ → List Token → ℕ → List Note
notes_before g symbols led z ts zero = []
notes_before g symbols led z ts (suc k) =
    notes_before g symbols led z ts k ++ notes_at g symbols led z ts k
