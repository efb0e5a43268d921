-- What the walk sees of a word, as a plain value.
use Rattle.std.specs.Prelude.{◌-◌, drop, length, take}
use Rattle.sap_grammar.specs.Words.{Word, mark, name, number, quoted}
use Rattle.sap_expect.specs.declared.seen.Seen as code
use Rattle.sap_expect.specs.declared.seen.Seen.TheVariants.{Mark, Name, Number, Quoted}

abbrev pub seen : code.Seen → Word
seen (Mark t) = mark t.now
seen (Name t) = name t.now
seen (Number t) = number t.now
seen (Quoted t) = quoted (take (length t.now - 2) (drop 1 t.now))
