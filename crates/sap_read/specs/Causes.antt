-- Why a file whose items are all in the grammar is refused.
use Rattle.std.specs.Prelude.{ℕ, Bool, false, not, ◌||◌, List, [], ◌∷◌, ◌++◌, Option, Some, None, if◌then◌else◌, is_some, is_none, option_map, slice_get, filter, map}
use Rattle.std.specs.List.{list_any, find}
use Rattle.std.specs.Str.{bytes_eq}
use Rattle.sap_terms.specs.Signature.{pairs_alone}
use Rattle.sap_locks.specs.Annotation.{LockFlaw, without, over}
use Rattle.sap_locks.specs.declared.fault.LockFault.{LockFault}
use Rattle.sap_locks.specs.declared.fault.LockFault.TheVariants as lock
use Rattle.sap_restrict.specs.Restrictions.{is_generated}
use Rattle.sap_statements.specs.declared.checking.Unchecked.{Unchecked}
use Rattle.sap_statements.specs.declared.checking.Unchecked.TheVariants as unchecked
use Rattle.sap_statements.specs.declared.statement.Statement.{Statement}
use Rattle.sap_statements.specs.Statements.{name_of}
use Rattle.sap_process.specs.declared.flaw.Ill as declared_ill
use Rattle.sap_process.specs.declared.flaw.Ill.TheVariants as ill
use Rattle.sap_read.specs.declared.fault.ReadFault.{ReadFault}
use Rattle.sap_read.specs.declared.fault.ReadFault.TheVariants.{Mem, Ill, Lock, NoProcess, TwoProcesses, UnknownProcess, DuplicateName, FunctionClash, Parameters, Arguments, TooMany, TooDeep, Large, Flawed, Formula}
use Rattle.sap_read.specs.Item.{Standing, declarations, Body, bodies, statements}
use Rattle.sap_read.specs.FileProcess.{calls}
use Rattle.sap_uses.specs.declared.fault.MacroFault.{MacroFault}
use Rattle.sap_uses.specs.declared.fault.MacroFault.TheVariants as uses
use Rattle.sap_grammar.specs.Signatures.{clash_from}

-- the first of them, if there is one
abbrev pub first_of : {A : Type 0} → List (Option A) → Option A
first_of [] = None
first_of (o ∷ os) = if is_some o then o else first_of os

-- the file's processes
abbrev pub unlabelled : List Body → List Body
unlabelled bs = filter (λ b. is_none b.label) bs

-- it, or nothing
abbrev pub listed : Option (List ℕ) → List (List ℕ)
listed None = []
listed (Some x) = x ∷ []

-- the names that are defined
abbrev pub labels : List Body → List (List ℕ)
labels [] = []
labels (b ∷ bs) = listed b.label ++ labels bs

-- the name is one of these
abbrev pub is_among : List (List ℕ) → List ℕ → Bool
is_among xs x = list_any (λ y. bytes_eq y x) xs

-- the first name that an item uses and no item before it defines, where these are defined already
abbrev pub unknown_from : List (List ℕ) → List Body → Option (List ℕ)
unknown_from known [] = None
unknown_from known (b ∷ bs) =
    first_of (find (λ x. not (is_among known x)) (calls b.content) ∷ unknown_from (known ++ listed b.label) bs ∷ [])

-- the first name that is reserved, or stands again behind it
abbrev pub first_taken : (List ℕ → Bool) → List (List ℕ) → Option (List ℕ)
first_taken is_reserved [] = None
first_taken is_reserved (x ∷ xs) = if is_reserved x || is_among xs x then Some x
    else first_taken is_reserved xs

-- the first name that stands again behind it
abbrev pub first_repeated : List (List ℕ) → Option (List ℕ)
first_repeated xs = first_taken (λ x. false) xs

-- each cause that holds before uses are looked at, in the order in which they count; a clash of declarations is told. A name of a restriction or lemma is
-- taken where a later one has it, and where a generated restriction has it.
abbrev pub causes : List Body → List Statement → Option (List ℕ) → List (Option ReadFault)
causes bs ss clash =
    (if is_none (slice_get (unlabelled bs) 0) then Some NoProcess else None)
    ∷ option_map (λ (b : Body). TwoProcesses b.line) (slice_get (unlabelled bs) 1)
    ∷ option_map UnknownProcess (unknown_from [] bs)
    ∷ option_map DuplicateName (first_repeated (labels bs))
    ∷ option_map DuplicateName (first_taken is_generated (map name_of ss))
    ∷ option_map FunctionClash clash ∷ []

-- the first of them that holds
abbrev pub cause : List Body → List Statement → Option (List ℕ) → Option ReadFault
cause bs ss clash = first_of (causes bs ss clash)

-- the first of them that holds of a file with these items
abbrev pub cause_of : List Standing → Option ReadFault
cause_of is = cause (bodies is) (statements is) (clash_from pairs_alone (declarations is))

-- the fault of a file whose process can't be expanded
abbrev pub fault_of_uses : MacroFault → ReadFault
fault_of_uses uses.Mem = Mem
fault_of_uses (uses.Parameters x) = Parameters x
fault_of_uses (uses.Arguments x) = Arguments x
fault_of_uses uses.TooMany = TooMany
fault_of_uses uses.TooDeep = TooDeep
fault_of_uses (uses.Large x) = Large x
fault_of_uses (uses.Flawed x w path) = Flawed x w path

-- the fault of a file whose process isn't well-formed
abbrev pub fault_of : declared_ill.Ill → ReadFault
fault_of ill.Mem = Mem
fault_of (ill.At w path) = Ill w path

-- the fault of a file whose process can't be annotated
abbrev pub fault_of_lock : LockFault → ReadFault
fault_of_lock lock.Mem = Mem
fault_of_lock (lock.UnlockWithoutLock path) = Lock (lock.UnlockWithoutLock path)
fault_of_lock (lock.LockOverParallel path) = Lock (lock.LockOverParallel path)

-- that of a place, for why it can't be annotated
abbrev pub lock_fault : LockFlaw → List ℕ → ReadFault
lock_fault without path = Lock (lock.UnlockWithoutLock path)
lock_fault over path = Lock (lock.LockOverParallel path)

-- the fault of a file with restrictions and lemmas that are refused
abbrev pub fault_of_statements : Unchecked → ReadFault
fault_of_statements unchecked.Mem = Mem
fault_of_statements (unchecked.Formula x f) = Formula x f
