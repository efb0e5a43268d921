-- Processes that are spelled as they are printed.
use Rattle.std.specs.Prelude.{◌≡◌, ℕ, false, All}
use Rattle.sap_terms.specs.declared.fact.Fact.{Fact}
use Rattle.sap_terms.specs.Message.{IsOver, IsFactOver}
use Rattle.sap_terms.specs.Signature.{Sig}
use Rattle.sap_terms.specs.Tree.{Tree, variable}
use Rattle.sap_grammar.specs.ByteWords.{IsName}
use Rattle.sap_grammar.specs.Printable.{IsTidyVariable, IsPrintableTerm, IsPrintableFact}
use Rattle.sap_process.specs.Action.{Action, new, out, send, input, receive, event, insert, delete, lock, unlock, embedded}
use Rattle.sap_macro.specs.Written.{Written, nil, call, parallel, replicated, act, test, lookup}

-- the signature holds each symbol of the action with its arity, and what `new` binds is no constant
abbrev pub IsActionOver : Sig → Action → Type 0
IsActionOver g (new x) = IsTidyVariable g x.sort x.name
IsActionOver g (out t) = IsOver g t
IsActionOver g (send t u) = IsOver g t × IsOver g u
IsActionOver g (input t) = IsOver g t
IsActionOver g (receive t u) = IsOver g t × IsOver g u
IsActionOver g (event f) = IsFactOver g f
IsActionOver g (insert t u) = IsOver g t × IsOver g u
IsActionOver g (delete t) = IsOver g t
IsActionOver g (lock t n) = IsOver g t
IsActionOver g (unlock t n) = IsOver g t
IsActionOver g (embedded l e r) = All (IsFactOver g) l × All (IsFactOver g) e × All (IsFactOver g) r

-- the fact can be printed, and is linear
pub record IsPrintableAct (most : ℕ) (g : Sig) (f : Fact) : Type 0 where
  pub printable : IsPrintableFact most g f
  pub linear : f.persistent ≡ false

-- the terms and facts of the action can be printed, and it shows linear facts alone
abbrev pub IsPrintableAction : ℕ → Sig → Action → Type 0
IsPrintableAction most g (new x) = IsPrintableTerm most g (variable x)
IsPrintableAction most g (out t) = IsPrintableTerm most g t
IsPrintableAction most g (send t u) = IsPrintableTerm most g t × IsPrintableTerm most g u
IsPrintableAction most g (input t) = IsPrintableTerm most g t
IsPrintableAction most g (receive t u) = IsPrintableTerm most g t × IsPrintableTerm most g u
IsPrintableAction most g (event f) = IsPrintableAct most g f
IsPrintableAction most g (insert t u) = IsPrintableTerm most g t × IsPrintableTerm most g u
IsPrintableAction most g (delete t) = IsPrintableTerm most g t
IsPrintableAction most g (lock t n) = IsPrintableTerm most g t
IsPrintableAction most g (unlock t n) = IsPrintableTerm most g t
IsPrintableAction most g (embedded l e r) =
    All (IsPrintableFact most g) l × All (IsPrintableAct most g) e × All (IsPrintableFact most g) r

-- the term can be printed, where it is over the signature
abbrev pub IsSpelledTerm : ℕ → Sig → Tree → Type 0
IsSpelledTerm most g t = IsOver g t → IsPrintableTerm most g t

-- so it is with the fact, and with one that is shown
abbrev pub IsSpelledFact : ℕ → Sig → Fact → Type 0
IsSpelledFact most g f = IsFactOver g f → IsPrintableFact most g f

abbrev pub IsSpelledAct : ℕ → Sig → Fact → Type 0
IsSpelledAct most g f = IsFactOver g f → IsPrintableAct most g f

-- so it is with the terms and facts of the action; what `new` binds is a name, whether it is a constant or not
abbrev pub IsSpelledAction : ℕ → Sig → Action → Type 0
IsSpelledAction most g (new x) = IsName most x.name
IsSpelledAction most g (out t) = IsSpelledTerm most g t
IsSpelledAction most g (send t u) = IsSpelledTerm most g t × IsSpelledTerm most g u
IsSpelledAction most g (input t) = IsSpelledTerm most g t
IsSpelledAction most g (receive t u) = IsSpelledTerm most g t × IsSpelledTerm most g u
IsSpelledAction most g (event f) = IsSpelledAct most g f
IsSpelledAction most g (insert t u) = IsSpelledTerm most g t × IsSpelledTerm most g u
IsSpelledAction most g (delete t) = IsSpelledTerm most g t
IsSpelledAction most g (lock t n) = IsSpelledTerm most g t
IsSpelledAction most g (unlock t n) = IsSpelledTerm most g t
IsSpelledAction most g (embedded l e r) =
    All (IsSpelledFact most g) l × All (IsSpelledAct most g) e × All (IsSpelledFact most g) r

-- so it is with each action, argument, comparison and lookup of the process; what stands for a process is a name, and so is what
-- a lookup binds
abbrev pub IsSpelledWritten : ℕ → Sig → Written → Type 0
IsSpelledWritten most g nil = Unit {0}
IsSpelledWritten most g (call x ts) = IsName most x × All (IsSpelledTerm most g) ts
IsSpelledWritten most g (parallel p q) = IsSpelledWritten most g p × IsSpelledWritten most g q
IsSpelledWritten most g (replicated p) = IsSpelledWritten most g p
IsSpelledWritten most g (act a p) = IsSpelledAction most g a × IsSpelledWritten most g p
IsSpelledWritten most g (test t u p q) =
    IsSpelledTerm most g t × IsSpelledTerm most g u × IsSpelledWritten most g p × IsSpelledWritten most g q
IsSpelledWritten most g (lookup t x p q) =
    IsSpelledTerm most g t × IsName most x.name × IsSpelledWritten most g p × IsSpelledWritten most g q
