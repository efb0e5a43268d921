-- What to change in a file that is refused: one sentence for each cause.
use Rattle.std.specs.Prelude.{ℕ, codes, List, []}
use Rattle.sap_text.specs.declared.fault.Lex.{Lex}
use Rattle.sap_text.specs.declared.fault.Lex.TheVariants as lex
use Rattle.sap_locks.specs.declared.fault.LockFault.{LockFault}
use Rattle.sap_locks.specs.declared.fault.LockFault.TheVariants as lock
use Rattle.sap_formula.specs.declared.fault.FormulaFault.{FormulaFault}
use Rattle.sap_formula.specs.declared.fault.FormulaFault.TheVariants as formula
use Rattle.sap_process.specs.declared.flaw.Flaw.{Flaw}
use Rattle.sap_process.specs.declared.flaw.Flaw.TheVariants.{BadFunction, ReservedVar, ReservedFact, FactClash, PatternDestructor, Unbound, Rebound, SortClash, ScopeFull}
use Rattle.sap_read.specs.declared.fault.ReadFault.{ReadFault}
use Rattle.sap_read.specs.declared.fault.ReadFault.TheVariants as fault

-- where bytes have no tokens; that memory was wanting is no such cause, here and below
abbrev pub lex_advice : Lex → List ℕ
lex_advice lex.Mem = []
lex_advice (lex.BadByte at) =
    codes "Take this byte away: no word begins with it here, and quotes hold printable ASCII alone."
lex_advice (lex.OpenComment at) = codes "Write the */ that closes this comment."
lex_advice (lex.OpenQuote at) = codes "Write the ' that closes this name, on the same line."
lex_advice (lex.NameLong at) =
    codes "Shorten it: an identifier, a number or a name in quotes has 64 bytes at most."

-- where a process isn't well-formed, by the flaw
abbrev pub flaw_advice : Flaw → List ℕ
flaw_advice BadFunction =
    codes "Add the builtin of this symbol, or declare it with as many arguments as here; new and lookup bind no constant."
flaw_advice ReservedVar = codes "Begin no name of a variable with sapic_."
flaw_advice ReservedFact = codes "Give the fact another name: rules use this one themselves."
flaw_advice FactClash =
    codes "Write a fact with as many arguments each time, and with ! always or never."
flaw_advice PatternDestructor =
    codes "Write no destructor in a pattern: bind a variable there, and apply it behind."
flaw_advice Unbound =
    codes "Bind the name above, on this side of each |, or put a public name in quotes, or declare a constant."
flaw_advice Rebound = codes "Give one of the two another name."
flaw_advice SortClash = codes "Write the variable without its sign, or with that of its binder."
flaw_advice ScopeFull =
    codes "Bind fewer names above: 64 are in scope at most, and each lock above counts as one."

-- where the definition of a process with parameters isn't closed: what is bound where it is used isn't bound in it
abbrev pub body_advice : Flaw → List ℕ
body_advice Unbound =
    codes "Make the name a parameter, or bind it in this definition, or put it in quotes, or declare a constant."
body_advice w = flaw_advice w

-- where a process can't be annotated
abbrev pub lock_advice : LockFault → List ℕ
lock_advice lock.Mem = []
lock_advice (lock.UnlockWithoutLock path) =
    codes "Lock this term above, written as here, and unlock each lock once on each way down."
lock_advice (lock.LockOverParallel path) =
    codes "Unlock above it, or lock below it, in the thread that unlocks."

-- where something is wrong in a formula
abbrev pub formula_advice : FormulaFault → List ℕ
formula_advice formula.Mem = []
formula_advice (formula.BadFunction f) =
    codes "Add the builtin of this symbol, or declare it with as many arguments as stand here."
formula_advice (formula.Destructor f) =
    codes "Let an event of the process show what it gives, and speak of that."
formula_advice (formula.Reserved fact) =
    codes "Speak of an event of your own; of the reserved facts a formula has K alone."
formula_advice (formula.UnboundVar var) =
    codes "Bind it by All or Ex, a time with #, and sign it as its binder does or not at all."
formula_advice (formula.Unguarded var) =
    codes "Let an action have it: before ==> under All, joined by & under Ex."

-- where bytes are read as no file
abbrev pub advice : ReadFault → List ℕ
advice fault.Mem = []
advice (fault.Lex f) = lex_advice f
advice fault.Header = codes "Begin the file with theory, a name and begin."
advice (fault.Syntax line) =
    codes "A word is missing, wrong or too many here or before it."
advice fault.NoProcess = codes "Add an item process: and the process."
advice (fault.TwoProcesses line) =
    codes "Make one of the two a let, or both one process with | between them."
advice (fault.UnknownProcess name) =
    codes "Define the name by a let above this item, or write the action that was meant."
advice (fault.DuplicateName name) = codes "Give this one another name."
advice (fault.FunctionClash name) = codes "Leave out this declaration or the one before it, or give your own symbol another name."
advice (fault.Parameters name) = codes "Give one of the two parameters another name."
advice (fault.Arguments name) =
    codes "Write as many arguments as its let has parameters, or none where it has no parentheses."
advice fault.TooMany =
    codes "Use a let at fewer places: each use counts in full, with all that it uses itself."
advice fault.TooDeep =
    codes "Nest it less deep: each use of a let counts in full, with all that it uses itself."
advice (fault.Large name) =
    codes "Hand over less: what stands in a parameter's place has 256 nodes at most in each term."
advice (fault.Flawed name which path) = body_advice which
advice (fault.Ill which path) = flaw_advice which
advice (fault.Lock f) = lock_advice f
advice (fault.Formula name f) = formula_advice f

-- where there are too many bytes
abbrev pub length_advice : List ℕ
length_advice = codes "Leave out comments, or write once, as a let, what stands twice."
