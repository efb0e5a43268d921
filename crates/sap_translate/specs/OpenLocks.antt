-- Which locks are open in a process, and which variables its terms have.
use Rattle.std.specs.Prelude.{◌≡◌, ℕ, false, cond, List, [], ◌∷◌, ◌==◌}
use Rattle.std.specs.Str.{bytes_eq}
use Rattle.sap_terms.specs.Tree.{Tree, variable, public, fresh, apply, Trees, none, more}
use Rattle.sap_terms.specs.declared.fact.Fact.{Fact}
use Rattle.sap_terms.specs.declared.var.Var.{Var}
use Rattle.sap_process.specs.Action as action
use Rattle.sap_process.specs.Action.{Action}
use Rattle.sap_process.specs.Proc as whole
use Rattle.sap_process.specs.Proc.{Proc, act}
use Rattle.sap_translate.specs.Members.{Member}

abbrev mutual
  -- each variable of the tree has the property
  pub EachVar : (Var → Type 0) → Tree → Type 0
  EachVar P (variable x) = P x
  EachVar P (public a) = Unit {0}
  EachVar P (fresh n) = Unit {0}
  EachVar P (apply f ts) = EachVarOf P ts

  -- so has each of the trees
  pub EachVarOf : (Var → Type 0) → Trees → Type 0
  EachVarOf P none = Unit {0}
  EachVarOf P (more t ts) = EachVar P t × EachVarOf P ts

-- of a list of trees
abbrev pub EachVarIn : (Var → Type 0) → List Tree → Type 0
EachVarIn P [] = Unit {0}
EachVarIn P (t ∷ ts) = EachVar P t × EachVarIn P ts

-- of the arguments of facts
abbrev pub FactVars : (Var → Type 0) → List Fact → Type 0
FactVars P [] = Unit {0}
FactVars P (f ∷ fs) = EachVarIn P f.args × FactVars P fs

-- each variable of the terms of an action
abbrev pub ActionVars : (Var → Type 0) → Action → Type 0
ActionVars P (action.new x) = Unit {0}
ActionVars P (action.out m) = EachVar P m
ActionVars P (action.send m n) = EachVar P m × EachVar P n
ActionVars P (action.input m) = EachVar P m
ActionVars P (action.receive m n) = EachVar P m × EachVar P n
ActionVars P (action.event f) = EachVarIn P f.args
ActionVars P (action.insert m n) = EachVar P m × EachVar P n
ActionVars P (action.delete m) = EachVar P m
ActionVars P (action.lock m i) = EachVar P m
ActionVars P (action.unlock m i) = EachVar P m
ActionVars P (action.embedded l a r) = FactVars P l × FactVars P a × FactVars P r

-- each variable of the terms of a process
abbrev pub ProcessVars : (Var → Type 0) → Proc → Type 0
ProcessVars P whole.nil = Unit {0}
ProcessVars P (whole.parallel p q) = ProcessVars P p × ProcessVars P q
ProcessVars P (whole.replicated p) = ProcessVars P p
ProcessVars P (act a p) = ActionVars P a × ProcessVars P p
ProcessVars P (whole.test m n p q) = EachVar P m × EachVar P n × ProcessVars P p × ProcessVars P q
ProcessVars P (whole.lookup m x p q) = EachVar P m × ProcessVars P p × ProcessVars P q

-- no variable of the process has the name of this one
abbrev pub IsUnusedIn : Var → Proc → Type 0
IsUnusedIn l p = ProcessVars (λ y. bytes_eq l.name y.name ≡ false) p

-- the open locks without those of this label
abbrev pub closed : ℕ → List (ℕ × Tree) → List (ℕ × Tree)
closed l [] = []
closed l (b ∷ o) = cond (l == b.0) (closed l o) (b ∷ closed l o)

-- These locks are open, each with its label and term, the newest first: an unlock closes one of its term, and those that
-- are open at a parallel or a replication stay so, since nothing below it closes them.
abbrev pub UnlocksAreOpen : List (ℕ × Tree) → Proc → Type 0
UnlocksAreOpen o whole.nil = Unit {0}
UnlocksAreOpen o (whole.parallel p q) = UnlocksAreOpen [] p × UnlocksAreOpen [] q
UnlocksAreOpen o (whole.replicated p) = UnlocksAreOpen [] p
UnlocksAreOpen o (act (action.lock m l) p) = UnlocksAreOpen ((l, m) ∷ o) p
UnlocksAreOpen o (act (action.unlock m l) p) = Member (l, m) o × UnlocksAreOpen (closed l o) p
UnlocksAreOpen o (act (action.new x) p) = UnlocksAreOpen o p
UnlocksAreOpen o (act (action.out m) p) = UnlocksAreOpen o p
UnlocksAreOpen o (act (action.send m n) p) = UnlocksAreOpen o p
UnlocksAreOpen o (act (action.input m) p) = UnlocksAreOpen o p
UnlocksAreOpen o (act (action.receive m n) p) = UnlocksAreOpen o p
UnlocksAreOpen o (act (action.event f) p) = UnlocksAreOpen o p
UnlocksAreOpen o (act (action.insert m n) p) = UnlocksAreOpen o p
UnlocksAreOpen o (act (action.delete m) p) = UnlocksAreOpen o p
UnlocksAreOpen o (act (action.embedded l a r) p) = UnlocksAreOpen o p
UnlocksAreOpen o (whole.test m n p q) = UnlocksAreOpen o p × UnlocksAreOpen o q
UnlocksAreOpen o (whole.lookup m x p q) = UnlocksAreOpen o p × UnlocksAreOpen o q
