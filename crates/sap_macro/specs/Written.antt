-- Processes as they are written, and definitions of processes with parameters.
use Rattle.std.specs.Prelude.{ℕ, List}
use Rattle.sap_terms.specs.Tree.{Tree}
use Rattle.sap_terms.specs.declared.var.Var.{Var}
use Rattle.sap_process.specs.Action.{Action}

-- the forms of a process, and the name of one with its arguments
pub data Written : Type 0 where
  nil : Written
  call : List ℕ → List Tree → Written
  parallel : Written → Written → Written
  replicated : Written → Written
  act : Action → Written → Written
  test : Tree → Tree → Written → Written → Written
  lookup : Tree → Var → Written → Written → Written

-- a name, and the process that it stands for, once terms are put for its parameters
pub record Definition : Type 0 where
  pub name : List ℕ
  pub params : List (List ℕ)
  pub body : Written
