-- What runs do inside, where no event shows it.
use Rattle.sap_terms.specs.Tree.{Tree}

-- a branch that was taken with its terms, a write to the store, a lock that was taken or given back
pub data InnerAction : Type 0 where
  equal : Tree → Tree → InnerAction
  different : Tree → Tree → InnerAction
  found : Tree → Tree → InnerAction
  missing : Tree → InnerAction
  inserted : Tree → Tree → InnerAction
  deleted : Tree → InnerAction
  locked : Tree → InnerAction
  unlocked : Tree → InnerAction
