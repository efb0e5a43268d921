-- Small files, byte by byte.
use Rattle.std.specs.Prelude.{ℕ, codes, List, []}
use Rattle.sap_process.specs.Proc.{nil}
use Rattle.sap_process.specs.FlawExamples.{pairs_and_signing}
use Rattle.sap_macro.specs.Written as written
use Rattle.sap_macro.specs.Written.{Definition, Written, call}
use Rattle.sap_read.specs.Files.{FileContent}

-- no process, and nothing else
abbrev pub empty_file : List ℕ
empty_file = codes "theory T begin end"

-- no `begin`; no `end`; a quote that is not closed
abbrev pub headless_file : List ℕ
headless_file = codes "theory T end"

abbrev pub endless_file : List ℕ
endless_file = codes "theory T begin"

abbrev pub quoting_file : List ℕ
quoting_file = codes "theory T begin '"

-- the process `0`, `out(x)` and `unlock 's'`, each with a builtin
abbrev pub whole_file : List ℕ
whole_file = codes "theory T begin builtins: signing process: 0 end"

abbrev pub unbound_file : List ℕ
unbound_file = codes "theory T begin builtins: signing process: out(x) end"

abbrev pub unlocking_file : List ℕ
unlocking_file = codes "theory T begin builtins: signing process: unlock 's' end"

-- the process `0`, and a lemma that speaks of a time which nothing binds
abbrev pub timeless_file : List ℕ
timeless_file = codes "theory T begin builtins: signing process: 0 lemma l: \"i < i\" end"

-- what the file with the process `0` and no lemma tells
abbrev pub told_whole : FileContent
told_whole = record { name = codes "T"; signature = pairs_and_signing; process = nil; restrictions = []; lemmas = [] }

-- a definition without parameters, and its use
abbrev pub defined_file : List ℕ
defined_file = codes "theory T begin let P = 0 process: P end"

-- let P = 0, and P
abbrev pub doing_nothing : Definition
doing_nothing = record { name = codes "P"; params = []; body = written.nil }

abbrev pub using_p : Written
using_p = call (codes "P") []
