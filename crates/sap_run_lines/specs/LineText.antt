-- How the words of a line are written.
use Rattle.std.specs.Prelude.{ℕ, codes, decimal, List, ◌++◌, map}
use Rattle.sap_grammar.specs.TermText.{variable_text, tree_text}
use Rattle.sap_grammar.specs.Pieces.{joined}
use Rattle.sap_run_lines.specs.LineWords.{LineWord, identifier, number, fresh_name, public_name, bound}

-- a word of a line
abbrev pub word_text : LineWord → List ℕ
word_text (identifier x) = x
word_text (number n) = decimal n
word_text (fresh_name n) = codes "~" ++ decimal n
word_text (public_name s) = codes "'" ++ (s ++ codes "'")
word_text (bound v t) = variable_text v ++ (codes "=" ++ tree_text t)

-- words with one blank between each two
abbrev pub words_text : List LineWord → List ℕ
words_text ws = joined (codes " ") (map word_text ws)
