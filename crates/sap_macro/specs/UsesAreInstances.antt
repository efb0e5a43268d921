-- A use stands for its definition's instance.
use Rattle.std.specs.Prelude.{◌↔◌, ℕ, List, map}
use Rattle.sap_terms.specs.Choice.{Choice, instance}
use Rattle.sap_terms.specs.Ground.{AreGround}
use Rattle.sap_terms.specs.Signature.{Sig}
use Rattle.sap_terms.specs.Trace.{Trace}
use Rattle.sap_terms.specs.Tree.{Tree, trees_of}
use Rattle.sap_process.specs.Instance.{process_instance}
use Rattle.sap_process.specs.Proc.{Proc}
use Rattle.sap_process.specs.ProcessSteps.{IsProcessTrace}
use Rattle.sap_macro.specs.Expansion.{entered, expanded, meaning_of, same_name, unchanged}
use Rattle.sap_macro.specs.Instances.{instance_by, IsClosed, AreClosedAmong, Keeps, AreTaken}
use Rattle.sap_macro.specs.Order.{UsesOnly}
use Rattle.sap_macro.specs.UpToNames.{AreSameUpToNames}
use Rattle.sap_macro.specs.Written.{Definition}

-- the processes are equal up to names, and each trace of the one is one of the other
pub record ShowTheSame (p q : Proc) : Type 0 where
  pub names : AreSameUpToNames p q
  pub traces : (g : Sig) (tr : Trace) → IsProcessTrace g p tr ↔ IsProcessTrace g q tr

-- what a use means under a choice, where these names are taken
abbrev pub use_under : Choice → List Definition → Definition → List Tree → List (List ℕ) → Proc
use_under s ds d ts taken = process_instance s (entered (meaning_of ds) d ts taken).process

-- the expansion of the definition's instance by these terms, where these names are taken
abbrev pub instance_behind : List Definition → Definition → List Tree → List (List ℕ) → Proc
instance_behind ds d ts taken =
    (expanded (meaning_of ds) unchanged same_name (instance_by d ts) taken).process

-- each use whose arguments name nothing but what is in scope is its definition's instance, up to names, which shows the same: the
-- definition uses what it binds and its parameters alone, and binds nothing again, and so do those that it comes to use, whatever
-- others there are; the choice makes the arguments ground, and replaces taken names alone; for the instance what the body binds is
-- taken
abbrev pub UsesAreInstances : Type 0
UsesAreInstances =
    (names : List (List ℕ)) (ds : List Definition) (d : Definition) (ts : List Tree) (s : Choice)
    (taken other : List (List ℕ)) → AreClosedAmong names ds → UsesOnly names d.body
    → IsClosed d.params d.body → AreGround (trees_of (map (instance s) ts)) → Keeps s taken → AreTaken other d.params d.body
    → ShowTheSame (use_under s ds d ts taken) (instance_behind ds d (map (instance s) ts) other)
