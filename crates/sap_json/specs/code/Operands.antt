-- A step as its first word and what stands behind it.
use Rattle.std.specs.Prelude.{◌≡◌, ℕ, codes, if◌then◌else◌, List, [], ◌∷◌, map, Option, Some, None}
use Rattle.std.specs.Str.{bytes_eq}
use Rattle.serde_json.specs.Data.{Data, string, array}
use Rattle.serde_json.specs.View.{items_of}
use Rattle.sap_runs.specs.declared.process_step.PStep.{PStep}
use Rattle.sap_runs.specs.declared.process_step.PStep.TheVariants as step
use Rattle.sap_runs.specs.declared.rule_step.RStep.{RStep}
use Rattle.sap_runs.specs.declared.rule_step.RStep.TheVariants as rstep
use Rattle.sap_run_lines.specs.RunTerms.{IsRunName}
use Rattle.sap_run_lines.specs.LineWords.{identifier, number, fresh_name, public_name}
use Rattle.sap_run_lines.specs.StepLines.{bound_word}
use Rattle.sap_run_lines.specs.NumberedSteps.{process_one, process_two, rule_one}
use Rattle.sap_json.specs.declared.operands.Operands.{Operands}
use Rattle.sap_json.specs.declared.operands.Operands.TheVariants as op
use Rattle.sap_json.specs.Arrays.{Cell, one, many, AreEach, IsCellData}

-- the items behind the first
abbrev pub operand_cells : Operands → List Cell
operand_cells (op.Number n) = one (number n) ∷ []
operand_cells (op.Numbers a b) = one (number a) ∷ one (number b) ∷ []
operand_cells (op.NumberAndFresh t n) = one (number t) ∷ one (fresh_name n) ∷ []
operand_cells (op.Fresh n) = one (fresh_name n) ∷ []
operand_cells (op.Public s) = one (public_name s) ∷ []
operand_cells (op.Applied f ks) = one (identifier f) ∷ many (map number ks) ∷ []
operand_cells (op.Embedded t facts bindings) = one (number t) ∷ many (map number facts) ∷ many (map bound_word bindings) ∷ []
operand_cells (op.Named f facts bindings) = one (identifier f) ∷ many (map number facts) ∷ many (map bound_word bindings) ∷ []

-- what they name is a name
abbrev pub AreNamed : Operands → Type 0
AreNamed (op.Number n) = Unit {0}
AreNamed (op.Numbers a b) = Unit {0}
AreNamed (op.NumberAndFresh t n) = Unit {0}
AreNamed (op.Fresh n) = Unit {0}
AreNamed (op.Public s) = Unit {0}
AreNamed (op.Applied f ks) = IsRunName f
AreNamed (op.Embedded t facts bindings) = Unit {0}
AreNamed (op.Named f facts bindings) = IsRunName f

-- the data behind the first are these
abbrev pub AreOperands : Operands → List Data → Type 0
AreOperands o ds = AreNamed o × AreEach IsCellData (operand_cells o) ds

-- the array begins with this string, and these data stand behind it
abbrev pub IsWordFirst : List ℕ × List Data → Data → Type 0
IsWordFirst p d = d ≡ array (items_of (string p.0 ∷ p.1))

-- the array begins with this string, and these stand behind it
abbrev pub IsApart : List ℕ × Operands → Data → Type 0
IsApart p d = (ds : List Data) × IsWordFirst (p.0, ds) d × AreOperands p.1 ds

-- the first word of a step of a process, and what stands behind it
abbrev pub process_word : PStep → List ℕ
process_word (step.Nil t) = codes "nil"
process_word (step.Par t) = codes "par"
process_word (step.Rep t) = codes "rep"
process_word (step.New t n) = codes "new"
process_word (step.Out t) = codes "out"
process_word (step.Send a b) = codes "send"
process_word (step.In a b) = codes "in"
process_word (step.Sync a b) = codes "sync"
process_word (step.Then t) = codes "then"
process_word (step.Else t) = codes "else"
process_word (step.Event t) = codes "event"
process_word (step.Insert t) = codes "insert"
process_word (step.Delete t) = codes "delete"
process_word (step.Found t) = codes "found"
process_word (step.Missing t) = codes "missing"
process_word (step.Lock t) = codes "lock"
process_word (step.Unlock t) = codes "unlock"
process_word (step.Embedded t facts bindings) = codes "rule"
process_word (step.Name n) = codes "name"
process_word (step.Public s) = codes "pub"
process_word (step.Apply f ks) = codes "app"
process_word (step.Know t) = codes "know"

abbrev pub process_operands : PStep → Operands
process_operands (step.Nil t) = op.Number t
process_operands (step.Par t) = op.Number t
process_operands (step.Rep t) = op.Number t
process_operands (step.New t n) = op.NumberAndFresh t n
process_operands (step.Out t) = op.Number t
process_operands (step.Send a b) = op.Numbers a b
process_operands (step.In a b) = op.Numbers a b
process_operands (step.Sync a b) = op.Numbers a b
process_operands (step.Then t) = op.Number t
process_operands (step.Else t) = op.Number t
process_operands (step.Event t) = op.Number t
process_operands (step.Insert t) = op.Number t
process_operands (step.Delete t) = op.Number t
process_operands (step.Found t) = op.Number t
process_operands (step.Missing t) = op.Number t
process_operands (step.Lock t) = op.Number t
process_operands (step.Unlock t) = op.Number t
process_operands (step.Embedded t facts bindings) = op.Embedded t facts bindings
process_operands (step.Name n) = op.Fresh n
process_operands (step.Public s) = op.Public s
process_operands (step.Apply f ks) = op.Applied f ks
process_operands (step.Know t) = op.Number t

-- the step with this word and these operands
abbrev pub process_of : List ℕ → Operands → Option PStep
process_of x (op.Number t) = process_one x t
process_of x (op.Numbers a b) = process_two x a b
process_of x (op.NumberAndFresh t n) = if bytes_eq x (codes "new") then Some (step.New t n) else None
process_of x (op.Fresh n) = if bytes_eq x (codes "name") then Some (step.Name n) else None
process_of x (op.Public s) = if bytes_eq x (codes "pub") then Some (step.Public s) else None
process_of x (op.Applied f ks) = if bytes_eq x (codes "app") then Some (step.Apply f ks) else None
process_of x (op.Embedded t facts bindings) = if bytes_eq x (codes "rule") then Some (step.Embedded t facts bindings) else None
process_of x (op.Named name facts bindings) = None

-- the first word of a step of rules, and what stands behind it
abbrev pub rule_word : RStep → List ℕ
rule_word (rstep.Fresh n) = codes "fresh"
rule_word (rstep.Learn t) = codes "learn"
rule_word (rstep.Own t) = codes "own"
rule_word (rstep.Public s) = codes "pub"
rule_word (rstep.Apply f ks) = codes "app"
rule_word (rstep.Know t) = codes "know"
rule_word (rstep.Rule name facts bindings) = codes "rule"

abbrev pub rule_operands : RStep → Operands
rule_operands (rstep.Fresh n) = op.Fresh n
rule_operands (rstep.Learn t) = op.Number t
rule_operands (rstep.Own t) = op.Number t
rule_operands (rstep.Public s) = op.Public s
rule_operands (rstep.Apply f ks) = op.Applied f ks
rule_operands (rstep.Know t) = op.Number t
rule_operands (rstep.Rule name facts bindings) = op.Named name facts bindings

-- the step with this word and these operands
abbrev pub rule_of : List ℕ → Operands → Option RStep
rule_of x (op.Number t) = rule_one x t
rule_of x (op.Numbers a b) = None
rule_of x (op.NumberAndFresh t n) = None
rule_of x (op.Fresh n) = if bytes_eq x (codes "fresh") then Some (rstep.Fresh n) else None
rule_of x (op.Public s) = if bytes_eq x (codes "pub") then Some (rstep.Public s) else None
rule_of x (op.Applied f ks) = if bytes_eq x (codes "app") then Some (rstep.Apply f ks) else None
rule_of x (op.Embedded t facts bindings) = None
rule_of x (op.Named name facts bindings) = if bytes_eq x (codes "rule") then Some (rstep.Rule name facts bindings) else None
