-- The notes on facts, found word by word: at each the facts that were met before, or are known.
use Rattle.std.specs.Prelude.{ℕ, zero, suc, Bool, false, ◌&&◌, ◌||◌, codes, List, [], ◌++◌, Option, Some, None, drop, option_map}
use Rattle.std.specs.List.{list_any}
use Rattle.std.specs.Str.{bytes_eq}
use Rattle.sap_terms.specs.Signature.{Sig}
use Rattle.sap_text.specs.declared.token.Token.{Token}
use Rattle.sap_grammar.specs.TermReading.{short_fact}
use Rattle.sap_grammar.specs.Words.{words_of}
use Rattle.sap_draft.specs.declared.limits.TheConstants.{FILE_LIMITS}
use Rattle.sap_stretches.specs.Stretches.{stretch_at}
use Rattle.sap_stretches.specs.declared.stretch.Stretch.{Stretch}
use Rattle.sap_where.specs.TokenWords.{stands}
use Rattle.sap_notes.specs.Facts.{fact_key}
use Rattle.sap_notes.specs.FactWords.{in_statement, is_shown, item_before}
use Rattle.sap_notes.specs.code.Walk.{defined_name, name_if, note_unless, with_named}
use Rattle.sap_notes.specs.declared.note.Kind.{Kind}
use Rattle.sap_notes.specs.declared.note.Note.{Note}

-- the fact that begins with token number k
abbrev pub fact_name : Sig → List ℕ → List Token → ℕ → Option (List ℕ)
fact_name g z ts k = option_map (λ p. fact_key p.0) (short_fact g FILE_LIMITS false (words_of z (drop k ts)))

-- the name is one of these
abbrev pub is_led : (led : List (List ℕ)) → Option (List ℕ) → Bool
is_led led None = false
is_led led (Some x) = list_any (bytes_eq x) led

-- the item that begins there is the process, or a definition with one of these names
abbrev pub is_run_item : (led : List (List ℕ)) → List ℕ → List Token → Option ℕ → Bool
is_run_item led z ts None = false
is_run_item led z ts (Some i) = stands z ts (codes "process") i || is_led led (defined_name z ts (suc i))

-- the fact of a restriction or a lemma that begins with token number k
abbrev pub said_key : Sig → List ℕ → List Token → ℕ → Option (List ℕ)
said_key g z ts k = name_if (in_statement z ts k) (fact_name g z ts k)

-- the one that is shown
abbrev pub shown_key : Sig → (led : List (List ℕ)) → List ℕ → List Token → ℕ → Option (List ℕ)
shown_key g led z ts k = name_if (is_shown z ts k && is_run_item led z ts (item_before z ts k)) (fact_name g z ts k)

-- those that are known, and those at the tokens before number k
abbrev pub seen_before : (at : ℕ → Option (List ℕ)) → (known : List (List ℕ)) → ℕ → List (List ℕ)
seen_before at known zero = known
seen_before at known (suc k) = with_named (seen_before at known k) (at k)

-- the note on one, where it isn't seen
abbrev pub new_note : Kind → (seen : List (List ℕ)) → Option (List ℕ) → Stretch → List Note
new_note kind seen None s = []
new_note kind seen (Some x) s = note_unless (list_any (bytes_eq x) seen) kind s

-- those at the tokens before number k
abbrev pub first_notes : (at : ℕ → Option (List ℕ)) → (known : List (List ℕ)) → Kind → List Token → ℕ → List Note
first_notes at known kind ts zero = []
first_notes at known kind ts (suc k) =
    first_notes at known kind ts k ++ new_note kind (seen_before at known k) (at k) (stretch_at ts k)
