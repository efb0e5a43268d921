-- Configurations whose threads are equal up to names, one by one, and which are else one.
use Rattle.std.specs.Prelude.{◌≡◌, List, [], ◌∷◌, Option, Some, None}
use Rattle.sap_terms.specs.Ground.{IsGround}
use Rattle.sap_terms.specs.Tree.{Tree}
use Rattle.sap_process.specs.Configuration.{Config}
use Rattle.sap_process.specs.Proc.{Proc}
use Rattle.sap_macro.specs.UpToNames.{AreSameUpToNames}

-- both threads have ended, or both run, as processes that are equal up to names
pub data AlikeThread : Option Proc → Option Proc → Type 0 where
  both_ended : AlikeThread None None
  both_run : {p q : Proc} → AreSameUpToNames p q → AlikeThread (Some p) (Some q)

-- so are the threads of each number, and there are as many on both sides
pub data AlikeThreads : List (Option Proc) → List (Option Proc) → Type 0 where
  no_thread : AlikeThreads [] []
  one_thread : {o u : Option Proc} {os us : List (Option Proc)} → AlikeThread o u
      → AlikeThreads os us → AlikeThreads (o ∷ os) (u ∷ us)

-- what the store has is ground
abbrev pub HasGroundStore : Config → Type 0
HasGroundStore c = (k v : Tree) → c.store k ≡ Some v → IsGround v

-- the threads are alike, else both are one, and what the store has is ground
pub record AreAlikeConfigs (c d : Config) : Type 0 where
  pub threads : AlikeThreads c.threads d.threads
  pub else_one : record c { threads = d.threads } ≡ d
  pub ground : HasGroundStore c
