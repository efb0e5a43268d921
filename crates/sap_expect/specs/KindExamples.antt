-- Words of small files, and what may stand behind them.
use Rattle.std.specs.Prelude.{ℕ, codes, List, [], ◌∷◌, ◌++◌}
use Rattle.std.specs.List.{repeat}
use Rattle.sap_grammar.specs.Words.{Word, mark, name, quoted}
use Rattle.sap_expect.specs.ItemExamples.{headed, running}

-- `process : out ( x`
abbrev pub behind_variable : List Word
behind_variable = running (mark (codes "out") ∷ mark (codes "(") ∷ name (codes "x") ∷ [])

-- `process : out (`
abbrev pub behind_out : List Word
behind_out = running (mark (codes "out") ∷ mark (codes "(") ∷ [])

-- `process : out ( < 'a'`, in a tuple; and behind its second part
abbrev pub in_tuple : List Word
in_tuple = running (mark (codes "out") ∷ mark (codes "(") ∷ mark (codes "<") ∷ quoted (codes "a") ∷ [])

abbrev pub in_longer_tuple : List Word
in_longer_tuple = in_tuple ++ mark (codes ",") ∷ quoted (codes "a") ∷ []

-- `process : out (`, and so many `<`
abbrev pub many : ℕ → Word → List Word
many n w = repeat n (w ∷ [])

abbrev pub deep_term : ℕ → List Word
deep_term n = running (mark (codes "out") ∷ mark (codes "(") ∷ many n (mark (codes "<")))

-- `process :`, and so many `!`
abbrev pub deep_process : ℕ → List Word
deep_process n = running (many n (mark (codes "!")))

-- `lemma a : "`, and so many `not`
abbrev pub deep_formula : ℕ → List Word
deep_formula n = headed (mark (codes "lemma") ∷ name (codes "a") ∷ mark (codes ":") ∷ mark (codes "\"") ∷ many n (mark (codes "not")))

-- `builtins :`
abbrev pub behind_builtins : List Word
behind_builtins = headed (mark (codes "builtins") ∷ mark (codes ":") ∷ [])

-- `functions : f /`
abbrev pub behind_slash : List Word
behind_slash = headed (mark (codes "functions") ∷ mark (codes ":") ∷ name (codes "f") ∷ mark (codes "/") ∷ [])

-- `process : event`
abbrev pub behind_event : List Word
behind_event = running (mark (codes "event") ∷ [])

-- `process : new`
abbrev pub behind_new : List Word
behind_new = running (mark (codes "new") ∷ [])

-- a whole file
abbrev pub whole_file : List Word
whole_file = headed (mark (codes "end") ∷ [])

-- words that no file begins with
abbrev pub no_file : List Word
no_file = headed (mark (codes ",") ∷ [])
