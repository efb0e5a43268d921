-- How the entries are seen.
use Rattle.std.specs.Prelude.{ℕ, List, map}
use Rattle.sap_terms.specs.Signature.{Sig}
use Rattle.sap_deduce.specs.Entries.{Entry, Entries}
use Rattle.sap_deduce.specs.code.Lines.{Line}

-- a line's entry
abbrev pub entry_of : Line → Entry
entry_of e = record { term = e.term; origin = e.origin }

-- each of these
abbrev pub entries_of : List Line → List Entry
entries_of es = map entry_of es

-- the numbers of their terms
abbrev pub numbers_of : List Line → List ℕ
numbers_of es = map (λ (e : Line). e.number) es

-- the entries, over a signature
abbrev pub seen : Sig → List Line → Entries
seen g es = record { sig = g; entries = entries_of es; numbers = numbers_of es }
