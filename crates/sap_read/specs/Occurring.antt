-- Names that occur in processes.
use Rattle.std.specs.Prelude.{ℕ, List}
use Rattle.std.specs.List.{AllByRecursion}
use Rattle.sap_terms.specs.declared.fact.Fact.{Fact}
use Rattle.sap_terms.specs.Tree.{Tree, variable, public, fresh, apply, Trees, none, more, trees_of}
use Rattle.sap_process.specs.Action.{Action, new, out, send, input, receive, event, insert, delete, lock, unlock, embedded}
use Rattle.sap_process.specs.Proc.{Proc, nil, parallel, replicated, act, test, lookup}
use Rattle.sap_macro.specs.Seen.{seen}
use Rattle.sap_macro.specs.Written.{Written}

-- what is so of a name
abbrev pub OfNames : Type 1
OfNames = List ℕ → Type 0

-- nothing
abbrev pub Any : OfNames
Any x = Unit {0}

abbrev mutual
  -- the first is so of the name of each variable in the term, and the second of each public name
  pub NamesAre : OfNames → OfNames → Tree → Type 0
  NamesAre N M (variable v) = N v.name
  NamesAre N M (public n) = M n
  NamesAre N M (fresh k) = Unit {0}
  NamesAre N M (apply f ts) = AllNamesAre N M ts

  -- in each of these
  pub AllNamesAre : OfNames → OfNames → Trees → Type 0
  AllNamesAre N M none = Unit {0}
  AllNamesAre N M (more t ts) = NamesAre N M t × AllNamesAre N M ts

-- in a fact, and in each of these
abbrev pub FactNamesAre : OfNames → OfNames → Fact → Type 0
FactNamesAre N M f = AllNamesAre N M (trees_of f.args)

abbrev pub FactsNamesAre : OfNames → OfNames → List Fact → Type 0
FactsNamesAre N M fs = AllByRecursion (FactNamesAre N M) fs

-- in an action
abbrev pub ActionNamesAre : OfNames → OfNames → Action → Type 0
ActionNamesAre N M (new x) = N x.name
ActionNamesAre N M (out t) = NamesAre N M t
ActionNamesAre N M (send t u) = NamesAre N M t × NamesAre N M u
ActionNamesAre N M (input t) = NamesAre N M t
ActionNamesAre N M (receive t u) = NamesAre N M t × NamesAre N M u
ActionNamesAre N M (event f) = FactNamesAre N M f
ActionNamesAre N M (insert t u) = NamesAre N M t × NamesAre N M u
ActionNamesAre N M (delete t) = NamesAre N M t
ActionNamesAre N M (lock t n) = NamesAre N M t
ActionNamesAre N M (unlock t n) = NamesAre N M t
ActionNamesAre N M (embedded l e r) =
    FactsNamesAre N M l × FactsNamesAre N M e × FactsNamesAre N M r

-- in a process
abbrev pub ProcessNamesAre : OfNames → OfNames → Proc → Type 0
ProcessNamesAre N M nil = Unit {0}
ProcessNamesAre N M (parallel p q) = ProcessNamesAre N M p × ProcessNamesAre N M q
ProcessNamesAre N M (replicated p) = ProcessNamesAre N M p
ProcessNamesAre N M (act a p) = ActionNamesAre N M a × ProcessNamesAre N M p
ProcessNamesAre N M (test t u p q) =
    NamesAre N M t × NamesAre N M u × ProcessNamesAre N M p × ProcessNamesAre N M q
ProcessNamesAre N M (lookup t x p q) =
    NamesAre N M t × N x.name × ProcessNamesAre N M p × ProcessNamesAre N M q

-- in a process as it is written, in the arguments of its uses too
abbrev pub WrittenNamesAre : OfNames → OfNames → Written → Type 0
WrittenNamesAre N M p = ProcessNamesAre N M (seen p)
