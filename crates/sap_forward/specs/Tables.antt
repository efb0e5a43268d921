-- What a conversion keeps: under which numbers the facts of threads, and those of the process, stand in the state of rules.
use Rattle.std.specs.Prelude.{◌≡◌, ◌<◌, ℕ, List, Option, Some, None, map, length, slice_get}
use Rattle.sap_terms.specs.Piles.{Pile}
use Rattle.sap_terms.specs.declared.fact.Fact.{Fact}
use Rattle.sap_place.specs.StateFacts.{state_fact, copies_fact}
use Rattle.sap_translate.specs.relation.Agents.{Agent, unborn, running, copying, awaiting, received}
use Rattle.sap_translate.specs.relation.Envs.{values}

-- the tables
pub record RuleTables : Type 0 where
  -- for each thread the number of the fact that stands for it, or of the last that did
  pub threads : List ℕ
  -- for each fact of the process its number
  pub facts : List ℕ
  -- how many facts have come, which is the number that the next one gets
  pub count : ℕ
  -- of the names below this one, those that no line draws were given to locks and tags
  pub next : ℕ

-- the fact that stands for a thread while no sender waits
abbrev pub thread_fact : Option Agent → Option Fact
thread_fact None = None
thread_fact (Some (unborn body)) = None
thread_fact (Some (running path env body)) = Some (state_fact path (values env))
thread_fact (Some (copying path env body)) = Some (copies_fact path (values env))
thread_fact (Some (awaiting path env m n x y body g)) = None
thread_fact (Some (received path env m n body g)) = None

-- what is wanted is live under these numbers, and no two have one number
pub record AreNumbers (wanted : List (Option Fact)) (facts : Pile) (numbers : List ℕ) : Type 0 where
  pub live : (t k : ℕ) (f : Fact) → slice_get wanted t ≡ Some (Some f) → slice_get numbers t ≡ Some k → slice_get facts k ≡ Some (Some f)
  pub apart : (t u k : ℕ) → slice_get numbers t ≡ Some k → slice_get numbers u ≡ Some k → t ≡ u
  pub given : (t k : ℕ) → slice_get numbers t ≡ Some k → k < length facts
  pub all : length numbers ≡ length wanted

-- the tables are those of these threads and of this pile, where the state of rules has these facts now
pub record AreRuleTables (agents : List (Option Agent)) (pile now : Pile) (tables : RuleTables) : Type 0 where
  pub threads : AreNumbers (map thread_fact agents) now tables.threads
  pub facts : AreNumbers pile now tables.facts
  pub apart : (t u k : ℕ) → slice_get tables.threads t ≡ Some k → slice_get tables.facts u ≡ Some k → ⊥
  pub count : tables.count ≡ length now
