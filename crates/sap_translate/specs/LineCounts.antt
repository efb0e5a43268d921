-- How many lines of the process stand opposite to lines of its rules.
use Rattle.std.specs.List.{starts_with}
use Rattle.std.specs.Prelude.{◌||◌, ◌+◌, nat_eq, ℕ, Bool, List, [], ◌∷◌, codes, cond}
use Rattle.std.specs.Str.{bytes_eq}
use Rattle.sap_runs.specs.declared.rule_step.RStep.{RStep}
use Rattle.sap_runs.specs.declared.rule_step.RStep.TheVariants.{Fresh, Learn, Own, Public, Apply, Know, Rule}

-- for a rule of this name no line is written of its own: it starts the process or a replication, a message comes under way or is
-- acknowledged, or it takes what a line `know` gave, which is counted there
abbrev pub is_uncounted : List ℕ → Bool
is_uncounted name =
    bytes_eq name (codes "Init")
    || (starts_with nat_eq name (codes "RepStart_") || (starts_with nat_eq name (codes "OutMsg_") || (starts_with nat_eq name (codes "OutAck_")
    || (starts_with nat_eq name (codes "In_") || (starts_with nat_eq name (codes "InAdv_") || starts_with nat_eq name (codes "OutAdv_"))))))

-- the lines of the process for a line of rules
abbrev pub back_line : RStep → ℕ
back_line (Fresh n) = 0
back_line (Learn k) = 0
back_line (Own k) = 1
back_line (Public a) = 1
back_line (Apply f ks) = 1
back_line (Know k) = 1
back_line (Rule name ks b) = cond (is_uncounted name) 0 1

-- for all of them
abbrev pub back_count : List RStep → ℕ
back_count [] = 0
back_count (line ∷ lines) = back_line line + back_count lines
