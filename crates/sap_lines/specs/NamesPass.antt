-- Tests of the public names and the fresh names in terms: what a run holds brings none that isn't in its process or its lines.
use Rattle.std.specs.Prelude.{◌≡◌, ℕ, Bool, true, List, [], ◌∷◌, Some, slice_get, Contains}
use Rattle.sap_terms.specs.Signature.{Sig, HoldsBuiltins}
use Rattle.sap_terms.specs.Trace.{Trace}
use Rattle.sap_terms.specs.Tree.{Tree, variable, public, fresh, apply, Trees, none, more, trees_of}
use Rattle.sap_terms.specs.View.{tree}
use Rattle.sap_terms.specs.declared.binding.Binding.{Binding}
use Rattle.sap_terms.specs.declared.fact.Fact.{Fact}
use Rattle.sap_process.specs.Action as action
use Rattle.sap_process.specs.Action.{Action}
use Rattle.sap_process.specs.Configuration.{Config, Runs}
use Rattle.sap_process.specs.Proc as whole
use Rattle.sap_process.specs.Proc.{Proc}
use Rattle.sap_process.specs.Ready.{IsReady}
use Rattle.sap_runs.specs.Limits.{HasFewNodes}
use Rattle.sap_runs.specs.Marks.{Mark}
use Rattle.sap_runs.specs.declared.process_step.PStep.{PStep}
use Rattle.sap_runs.specs.declared.process_step.PStep.TheVariants as line
use Rattle.sap_lines.specs.Runs.{IsLegalProcessRun}

abbrev mutual
  -- each public name and each fresh name in the term passes the test
  pub NamesPass : (Tree → Bool) → Tree → Type 0
  NamesPass test (variable v) = Unit {0}
  NamesPass test (public a) = test (public a) ≡ true
  NamesPass test (fresh n) = test (fresh n) ≡ true
  NamesPass test (apply f ts) = AllNamesPass test ts

  -- in each of these
  pub AllNamesPass : (Tree → Bool) → Trees → Type 0
  AllNamesPass test none = Unit {0}
  AllNamesPass test (more t ts) = NamesPass test t × AllNamesPass test ts

-- in the arguments of each of these facts
abbrev pub FactsPass : (Tree → Bool) → List Fact → Type 0
FactsPass test [] = Unit {0}
FactsPass test (f ∷ fs) = AllNamesPass test (trees_of f.args) × FactsPass test fs

-- in the terms of the action
abbrev pub ActionPasses : (Tree → Bool) → Action → Type 0
ActionPasses test (action.new x) = Unit {0}
ActionPasses test (action.out t) = NamesPass test t
ActionPasses test (action.send t u) = NamesPass test t × NamesPass test u
ActionPasses test (action.input t) = NamesPass test t
ActionPasses test (action.receive t u) = NamesPass test t × NamesPass test u
ActionPasses test (action.event f) = AllNamesPass test (trees_of f.args)
ActionPasses test (action.insert t u) = NamesPass test t × NamesPass test u
ActionPasses test (action.delete t) = NamesPass test t
ActionPasses test (action.lock t l) = NamesPass test t
ActionPasses test (action.unlock t l) = NamesPass test t
ActionPasses test (action.embedded l e r) = FactsPass test l × FactsPass test e × FactsPass test r

-- in the terms of the process
abbrev pub ProcessPasses : (Tree → Bool) → Proc → Type 0
ProcessPasses test whole.nil = Unit {0}
ProcessPasses test (whole.parallel p q) = ProcessPasses test p × ProcessPasses test q
ProcessPasses test (whole.replicated p) = ProcessPasses test p
ProcessPasses test (whole.act a p) = ActionPasses test a × ProcessPasses test p
ProcessPasses test (whole.test t u p q) = NamesPass test t × NamesPass test u × ProcessPasses test p
    × ProcessPasses test q
ProcessPasses test (whole.lookup t x p q) = NamesPass test t × ProcessPasses test p
    × ProcessPasses test q

-- in the terms that are bound
abbrev pub BindingsPass : (Tree → Bool) → List Binding → Type 0
BindingsPass test [] = Unit {0}
BindingsPass test (b ∷ bs) = NamesPass test (tree b.term) × BindingsPass test bs

-- the names that the line brings pass it: one that is made, one that is written down, those in what an embedded rule binds
abbrev pub LinePasses : (Tree → Bool) → PStep → Type 0
LinePasses test (line.New t n) = test (fresh n) ≡ true
LinePasses test (line.Name n) = test (fresh n) ≡ true
LinePasses test (line.Public a) = test (public a) ≡ true
LinePasses test (line.Embedded t facts bindings) = BindingsPass test bindings
LinePasses test _ = Unit {0}

-- so it is with each of these lines
abbrev pub LinesPass : (Tree → Bool) → List PStep → Type 0
LinesPass test [] = Unit {0}
LinesPass test (step ∷ lines) = LinePasses test step × LinesPass test lines

-- in the running processes, what the store has, the facts of embedded rules and the adversary's entries
pub record ConfigPasses (test : Tree → Bool) (c : Config) (es : List Tree) : Type 0 where
  pub threads : (t : ℕ) (p : Proc) → Runs c t p → ProcessPasses test p
  pub store : (k v : Tree) → c.store k ≡ Some v → NamesPass test v
  pub facts : (k : ℕ) (f : Fact) → slice_get c.facts k ≡ Some (Some f)
      → AllNamesPass test (trees_of f.args)
  pub entries : (x : Tree) → Contains es x → NamesPass test x

-- A test that the names in the process pass, and those that the lines bring, the names pass in all that a legal run of these leads
-- to: no name comes from elsewhere.
abbrev pub NamesStandInRuns : Type 0
NamesStandInRuns =
    (test : Tree → Bool) (g : Sig) (p : Proc) (lines : List PStep) (c : Config) (es : List Tree)
    (tr : Trace) (marks : List Mark) → HoldsBuiltins g → IsReady g p → ProcessPasses test p
    → LinesPass test lines
    → IsLegalProcessRun g HasFewNodes p lines c es tr marks → ConfigPasses test c es
