-- What a process does before it goes on.
use Rattle.std.specs.Prelude.{ℕ, List}
use Rattle.sap_terms.specs.declared.fact.Fact.{Fact}
use Rattle.sap_terms.specs.declared.var.Var.{Var}
use Rattle.sap_terms.specs.Tree.{Tree}

pub data Action : Type 0 where
  -- a new name is bound
  new : Var → Action
  -- a message goes to the adversary
  out : Tree → Action
  -- on the channel, the first, a message is sent
  send : Tree → Tree → Action
  -- a message that fits the pattern comes from the adversary
  input : Tree → Action
  -- on the channel, the first, a message that fits the pattern is received
  receive : Tree → Tree → Action
  -- a fact is shown
  event : Fact → Action
  -- the store has, at the first, the second
  insert : Tree → Tree → Action
  -- the store has nothing there
  delete : Tree → Action
  -- the term is held, or held no more; the number is the lock's label
  lock : Tree → ℕ → Action
  unlock : Tree → ℕ → Action
  -- a rule of its own: it takes the first facts, shows the second, and adds the third
  embedded : List Fact → List Fact → List Fact → Action
