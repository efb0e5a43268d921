-- Normal forms of terms and facts, as terms.
use Rattle.std.specs.Prelude.{List, [], ◌∷◌, map, All}
use Rattle.std.specs.List.{AllZip}
use Rattle.sap_terms.specs.Choice.{instance}
use Rattle.sap_terms.specs.Equations.{equations}
use Rattle.sap_terms.specs.Modulo.{instance_fact, IsFormOfFact}
use Rattle.sap_terms.specs.Normal.{IsNormalForm}
use Rattle.sap_terms.specs.Tree.{Tree}
use Rattle.sap_terms.specs.declared.fact.Fact.{Fact}
use Rattle.sap_share.specs.Env.{given}
use Rattle.sap_share.specs.Shared.{Shared}
use Rattle.sap_share.specs.declared.env.Bound.{Bound}
use Rattle.sap_sides.specs.Messages.{IsSmallMessage, IsSmallMessageFact}
use Rattle.sap_lines.specs.Faults.{EvaluateSmall}

-- the term is the normal form of what the first stands for, and no subterm of that has a large one
pub record IsFormed (s : Shared) (env : List Bound) (t n : Tree) : Type 0 where
  pub form : IsNormalForm (equations s.sig) (instance (given s.trees env) t) n
  pub small : EvaluateSmall s.sig (instance (given s.trees env) t ∷ [])
  pub fine : IsSmallMessage s.sig n

-- so are these terms, one by one
pub record AreFormed (s : Shared) (env : List Bound) (ts ns : List Tree) : Type 0 where
  pub forms : AllZip (IsNormalForm (equations s.sig)) (map (instance (given s.trees env)) ts) ns
  pub small : EvaluateSmall s.sig (map (instance (given s.trees env)) ts)
  pub fine : All (IsSmallMessage s.sig) ns

-- so is a fact
pub record IsFactFormed (s : Shared) (env : List Bound) (f h : Fact) : Type 0 where
  pub form : IsFormOfFact (equations s.sig) (instance_fact (given s.trees env) f) h
  pub small : EvaluateSmall s.sig (map (instance (given s.trees env)) f.args)
  pub fine : IsSmallMessageFact s.sig h
