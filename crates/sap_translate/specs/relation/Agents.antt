-- Where the threads of a process stand in it, and what stands for them on both sides.
use Rattle.sap_translate.specs.relation.Envs.{Env, no_env, names, chosen, values, GoodEnv}
use Rattle.sap_templates.specs.ChannelFacts.{msg_fact, ack_fact}
use Rattle.sap_place.specs.StateFacts.{state_fact, copies_fact, waits_fact}
use Rattle.sap_templates.specs.Places.{scoped_place_at, root}
use Rattle.sap_process.specs.Places.{place}
use Rattle.sap_process.specs.Configuration.{Config}
use Rattle.sap_process.specs.Instance.{process_instance}
use Rattle.sap_process.specs.Proc.{Proc, act}
use Rattle.sap_terms.specs.Choice.{instance}
use Rattle.sap_terms.specs.Normal.{IsNormalForm}
use Rattle.sap_terms.specs.Signature.{Sig}
use Rattle.sap_terms.specs.Equations.{equations}
use Rattle.sap_terms.specs.Tree.{Tree, fresh}
use Rattle.sap_terms.specs.declared.fact.Fact.{Fact}
use Rattle.std.specs.Option.{option_map}
use Rattle.std.specs.Prelude.{◌≡◌, ℕ, List, [], ◌∷◌, ◌++◌, Option, Some, None, slice_get, map}
use Rattle.sap_process.specs.Action as action
use Rattle.sap_process.specs.Proc as whole

-- where a thread stands in the start process, with what its names stand for
pub data Agent : Type 0 where
  -- the start process, before it starts
  unborn : (body : Proc) → Agent
  -- a thread at the place with this path
  running : (path : List ℕ) (env : Env) (body : Proc) → Agent
  -- a replication that has started
  copying : (path : List ℕ) (env : Env) (body : Proc) → Agent
  -- a sender whose message is under way with its tag: the terms as they are written, and the normal forms of their instances
  awaiting : (path : List ℕ) (env : Env) (channel message sent_on sent : Tree) (body : Proc) (tag : ℕ) → Agent
  -- a sender whose message came
  received : (path : List ℕ) (env : Env) (channel message : Tree) (body : Proc) (tag : ℕ) → Agent

-- the process that the thread runs
abbrev pub process_of : Agent → Proc
process_of (unborn body) = body
process_of (running path env body) = process_instance (chosen env) body
process_of (copying path env body) = whole.replicated (process_instance (chosen env) body)
process_of (awaiting path env m n x y body g) = act (action.send (instance (chosen env) m) (instance (chosen env) n)) (process_instance (chosen env) body)
process_of (received path env m n body g) = process_instance (chosen env) body

-- the facts that stand for it
abbrev pub stands_as : Agent → List Fact
stands_as (unborn body) = []
stands_as (running path env body) = state_fact path (values env) ∷ []
stands_as (copying path env body) = copies_fact path (values env) ∷ []
stands_as (awaiting path env m n x y body g) = msg_fact (fresh g) x y ∷ waits_fact path (values env ++ fresh g ∷ []) ∷ []
stands_as (received path env m n body g) = ack_fact (fresh g) ∷ waits_fact path (values env ++ fresh g ∷ []) ∷ []

-- in the start process this stands at the path, with the variables of env in scope, and what they stand for are messages
abbrev pub IsAt : Sig → Proc → List ℕ → Env → Proc → Type 0
IsAt g start path env body = (scoped_place_at (root start) path ≡ Some (place path (names env) body)) × GoodEnv g env

-- the thread stands where it says, and what it sent is in normal form
abbrev pub Placed : Sig → Proc → Agent → Type 0
Placed g start (unborn body) = body ≡ start
Placed g start (running path env body) = IsAt g start path env body
Placed g start (copying path env body) = IsAt g start path env (whole.replicated body)
Placed g start (awaiting path env m n x y body k) = IsAt g start path env (act (action.send m n) body) × IsNormalForm (equations g) (instance (chosen env) m) x × IsNormalForm (equations g) (instance (chosen env) n) y
Placed g start (received path env m n body k) = IsAt g start path env (act (action.send m n) body)

-- 1 for the start process before it starts
abbrev pub is_unborn : Option Agent → ℕ
is_unborn None = 0
is_unborn (Some (unborn body)) = 1
is_unborn (Some (running path env body)) = 0
is_unborn (Some (copying path env body)) = 0
is_unborn (Some (awaiting path env m n x y body g)) = 0
is_unborn (Some (received path env m n body g)) = 0

-- 1 for a linear semi-state
abbrev pub is_semi : Option Agent → ℕ
is_semi None = 0
is_semi (Some (unborn body)) = 0
is_semi (Some (running path env body)) = 0
is_semi (Some (copying path env body)) = 0
is_semi (Some (awaiting path env m n x y body g)) = 1
is_semi (Some (received path env m n body g)) = 1

-- each thread that runs stands where it says
abbrev pub AllPlaced : Sig → Proc → List (Option Agent) → Type 0
AllPlaced g start agents = (t : ℕ) (a : Agent) → slice_get agents t ≡ Some (Some a) → Placed g start a

-- the threads of the configuration are these
abbrev pub SameThreads : List (Option Agent) → Config → Type 0
SameThreads agents c = c.threads ≡ map (option_map process_of) agents

-- what is left to do, and what its names stand for
abbrev pub rest_of : Agent → Proc
rest_of (unborn body) = body
rest_of (running path env body) = body
rest_of (copying path env body) = whole.replicated body
rest_of (awaiting path env m n x y body g) = body
rest_of (received path env m n body g) = body

-- what the names of a thread stand for
abbrev pub env_of : Agent → Env
env_of (unborn body) = no_env
env_of (running path env body) = env
env_of (copying path env body) = env
env_of (awaiting path env m n x y body g) = env
env_of (received path env m n body g) = env
