-- How often a fact or a name is there, on either side.
use Rattle.sap_restrict.specs.ReservedFacts.{init_fact}
use Rattle.sap_translate.specs.relation.Names.{same_fact}
use Rattle.sap_translate.specs.relation.Totals.{total}
use Rattle.sap_translate.specs.relation.Locks.{Holder}
use Rattle.sap_rule.specs.RuleSteps.{RuleState}
use Rattle.sap_terms.specs.Reserved.{is_reserved}
use Rattle.sap_terms.specs.declared.fact.Fact.{Fact}
use Rattle.std.specs.List.{starts_with}
use Rattle.std.specs.Prelude.{◌||◌, nat_eq, ◌≡◌, ℕ, ◌==◌, Bool, cond, List, [], ◌∷◌, Option, Some, None, codes}
use Rattle.std.specs.Str.{bytes_eq}
use Rattle.sap_translate.specs.relation.Agents.{Agent, stands_as, unborn, running, copying, awaiting, received}

-- the fact says where control is, or is a message under way
abbrev pub is_control : Fact → Bool
is_control f =
    starts_with nat_eq f.name (codes "State_") || (starts_with nat_eq f.name (codes "Semi_") || (bytes_eq f.name (codes "Msg") || bytes_eq f.name (codes "Ack")))

-- 1 for a fact of control that passes the test
abbrev pub count_one : (Fact → Bool) → Fact → ℕ
count_one test f = cond (is_control f) (cond (test f) 1 0) 0

-- the same of a fact of a state, which may be taken already
abbrev pub count_live : (Fact → Bool) → Option Fact → ℕ
count_live test None = 0
count_live test (Some f) = count_one test f

-- how many facts that stand for a thread pass the test
abbrev pub count_owed : (Fact → Bool) → Option Agent → ℕ
count_owed test None = 0
count_owed test (Some a) = total (count_one test) (stands_as a)

-- how often a fact is live
abbrev pub count_fact : Fact → Option Fact → ℕ
count_fact f None = 0
count_fact f (Some g) = cond (same_fact g f) 1 0

-- 1 for this name
abbrev pub count_name : ℕ → ℕ → ℕ
count_name n m = cond (m == n) 1 0

-- 1 for an agent with this tag
abbrev pub count_tag : ℕ → Option Agent → ℕ
count_tag k None = 0
count_tag k (Some (unborn body)) = 0
count_tag k (Some (running path env body)) = 0
count_tag k (Some (copying path env body)) = 0
count_tag k (Some (awaiting path env m n x y body g)) = count_name k g
count_tag k (Some (received path env m n body g)) = count_name k g

-- 1 where Init() is shown
abbrev pub has_init : List Fact → ℕ
has_init [] = 0
has_init (f ∷ fs) = cond (same_fact f init_fact) 1 (has_init fs)

-- facts with a name of their own that pass a test
abbrev pub count_user : (Fact → Bool) → Option Fact → ℕ
count_user test None = 0
count_user test (Some f) = cond (is_reserved f.name) 0 (cond (test f) 1 0)

-- both piles have the same facts with names of their own
abbrev pub SamePile : List (Option Fact) → List (Option Fact) → Type 0
SamePile xs ys = (test : Fact → Bool) → total (count_user test) xs ≡ total (count_user test) ys

-- the facts of control of the rule state are those that stand for the threads
abbrev pub SameFacts : List (Option Agent) → RuleState → Type 0
SameFacts agents s = (test : Fact → Bool) → total (count_live test) s.facts ≡ total (count_owed test) agents

-- 1 for a lock of this name
abbrev pub count_holder : ℕ → Holder → ℕ
count_holder n h = count_name n h.name
