-- Why a file is refused, in words.
use Rattle.std.specs.Prelude.{ℕ, codes, decimal, List, [], ◌∷◌, ◌++◌}
use Rattle.std.specs.List.{flat_map}
use Rattle.sap_text.specs.declared.fault.Lex.{Lex}
use Rattle.sap_text.specs.declared.fault.Lex.TheVariants as lex
use Rattle.sap_locks.specs.declared.fault.LockFault.{LockFault}
use Rattle.sap_locks.specs.declared.fault.LockFault.TheVariants as lock
use Rattle.sap_formula.specs.declared.fault.FormulaFault.{FormulaFault}
use Rattle.sap_formula.specs.declared.fault.FormulaFault.TheVariants as formula
use Rattle.sap_process.specs.declared.flaw.Flaw.{Flaw}
use Rattle.sap_process.specs.declared.flaw.Flaw.TheVariants.{BadFunction, ReservedVar, ReservedFact, FactClash, PatternDestructor, Unbound, Rebound, SortClash, ScopeFull}
use Rattle.sap_read.specs.declared.fault.ReadFault.{ReadFault}
use Rattle.sap_read.specs.declared.fault.ReadFault.TheVariants as fault

-- the digits of a path side by side; the root has none, and a word of its own
abbrev pub place_text : List ℕ → List ℕ
place_text [] = codes "root"
place_text (d ∷ ds) = flat_map decimal (d ∷ ds)

-- what is wrong at a place
abbrev pub at_place : List ℕ → List ℕ → List ℕ
at_place path what = codes "place " ++ (place_text path ++ (codes ": " ++ what))

-- a number or a name between two texts
abbrev pub between : List ℕ → List ℕ → List ℕ → List ℕ
between before middle after = before ++ (middle ++ after)

-- the flaw in words
abbrev pub flaw_text : Flaw → List ℕ
flaw_text BadFunction = codes "bad function"
flaw_text ReservedVar = codes "reserved variable"
flaw_text ReservedFact = codes "reserved fact"
flaw_text FactClash = codes "fact clash"
flaw_text PatternDestructor = codes "destructor in a pattern"
flaw_text Unbound = codes "unbound"
flaw_text Rebound = codes "rebound"
flaw_text SortClash = codes "sort clash"
flaw_text ScopeFull = codes "scope is full"

-- why bytes have no tokens, where this says of a name that it's too long; that memory was wanting is no such cause, and refuses no file
abbrev pub lex_text : List ℕ → Lex → List ℕ
lex_text long lex.Mem = codes "out of memory"
lex_text long (lex.BadByte at) = between (codes "byte ") (decimal at) (codes " begins no token")
lex_text long (lex.OpenComment at) =
    between (codes "comment at byte ") (decimal at) (codes " is not closed")
lex_text long (lex.OpenQuote at) =
    between (codes "quote at byte ") (decimal at) (codes " is not closed")
lex_text long (lex.NameLong at) = between (codes "name at byte ") (decimal at) long

-- why a process can't be annotated; that memory was wanting is no such cause
abbrev pub lock_text : LockFault → List ℕ
lock_text lock.Mem = codes "out of memory"
lock_text (lock.UnlockWithoutLock path) = at_place path (codes "unlock without lock")
lock_text (lock.LockOverParallel path) = at_place path (codes "lock over parallel or replication")

-- what is wrong in a formula; that memory was wanting is no such cause
abbrev pub formula_text : FormulaFault → List ℕ
formula_text formula.Mem = codes "out of memory"
formula_text (formula.BadFunction f) = codes "bad function " ++ f
formula_text (formula.Destructor f) = codes "destructor " ++ f
formula_text (formula.Reserved fact) = between (codes "fact ") fact (codes " is reserved")
formula_text (formula.UnboundVar var) = between (codes "variable ") var (codes " is not bound")
formula_text (formula.Unguarded var) = between (codes "variable ") var (codes " is not guarded")

-- why bytes are read as no file; that memory was wanting refuses none
abbrev pub fault_text : ReadFault → List ℕ
fault_text fault.Mem = codes "out of memory"
fault_text (fault.Lex f) = lex_text (codes " is longer than 64 bytes") f
fault_text fault.Header = codes "no theory header"
fault_text (fault.Syntax line) =
    between (codes "line ") (decimal line) (codes ": not in the grammar")
fault_text fault.NoProcess = codes "no process"
fault_text (fault.TwoProcesses line) =
    between (codes "line ") (decimal line) (codes ": second process")
fault_text (fault.UnknownProcess name) = between (codes "process ") name (codes " is not defined")
fault_text (fault.DuplicateName name) = between (codes "name ") name (codes " stands twice")
fault_text (fault.FunctionClash name) =
    between (codes "function ") name (codes " is declared otherwise")
fault_text (fault.Parameters name) = between (codes "parameter ") name (codes " stands twice")
fault_text (fault.Arguments name) =
    between (codes "process ") name (codes " has another number of arguments")
fault_text fault.TooMany = codes "more than 4000 nodes"
fault_text fault.TooDeep = codes "more than 300 levels"
fault_text (fault.Large name) = between (codes "process ") name (codes ": argument is too large")
fault_text (fault.Flawed name which path) =
    between (codes "process ") name (codes ": " ++ at_place path (flaw_text which))
fault_text (fault.Ill which path) = at_place path (flaw_text which)
fault_text (fault.Lock f) = lock_text f
fault_text (fault.Formula name f) = name ++ (codes ": " ++ formula_text f)

-- the line that says why
abbrev pub refused_line : List ℕ → List ℕ
refused_line why = codes "file refused: " ++ (why ++ codes "\n")
