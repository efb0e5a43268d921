-- How many lines of rules stand opposite to lines of a process.
use Rattle.std.specs.Prelude.{◌+◌, ℕ, List, [], ◌∷◌, length, if◌then◌else◌}
use Rattle.sap_runs.specs.declared.process_step.PStep.{PStep}
use Rattle.sap_runs.specs.declared.process_step.PStep.TheVariants as line
use Rattle.sap_rule_lines.specs.Least.{is_among}

-- how many stand opposite to a line, that aside with which a replication starts
abbrev pub lines_for : PStep → ℕ
lines_for (line.Nil t) = 1
lines_for (line.Par t) = 1
lines_for (line.Rep t) = 1
lines_for (line.New t n) = 2
lines_for (line.Out t) = 2
lines_for (line.Send t k) = 3
lines_for (line.In t k) = 2
lines_for (line.Sync s t) = 4
lines_for (line.Then t) = 1
lines_for (line.Else t) = 1
lines_for (line.Event t) = 1
lines_for (line.Insert t) = 1
lines_for (line.Delete t) = 1
lines_for (line.Found t) = 1
lines_for (line.Missing t) = 1
lines_for (line.Lock t) = 2
lines_for (line.Unlock t) = 1
lines_for (line.Embedded t ks b) = 1
lines_for (line.Name n) = 2
lines_for (line.Public a) = 1
lines_for (line.Apply f ks) = 1
lines_for (line.Know k) = 1

-- for all of them
abbrev pub lines_for_all : List PStep → ℕ
lines_for_all [] = 0
lines_for_all (step ∷ lines) = lines_for step + lines_for_all lines

-- the threads behind this line that have given copies, each once
abbrev pub copying_behind : List ℕ → PStep → List ℕ
copying_behind ts (line.Rep t) = if is_among ts t then ts else t ∷ ts
copying_behind ts step = ts

-- those behind all lines
abbrev pub all_copying : List ℕ → List PStep → List ℕ
all_copying ts [] = ts
all_copying ts (step ∷ lines) = all_copying (copying_behind ts step) lines

-- how many lines of rules there are: one for each replication that starts, and the first, besides
abbrev pub rule_count : List PStep → ℕ
rule_count [] = 0
rule_count (step ∷ lines) =
    lines_for_all (step ∷ lines) + length (all_copying [] (step ∷ lines)) + 1
