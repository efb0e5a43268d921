-- Reading processes from the left, within a number of levels, as the code does it. What is read keeps how many words are left from
-- the word that tells each place.
use Rattle.std.specs.Prelude.{ℕ, zero, suc, ◌+◌, max, Bool, true, false, ◌||◌, nat_le, if◌then◌else◌, codes, List, [], length, drop, Option, Some, None}
use Rattle.sap_terms.specs.declared.fact.Fact.{Fact}
use Rattle.sap_terms.specs.declared.var.Sort.{Sort}
use Rattle.sap_terms.specs.declared.var.Var.{Var}
use Rattle.sap_terms.specs.declared.var.Sort.TheVariants.{Msg, Fresh}
use Rattle.sap_terms.specs.Tree.{Tree}
use Rattle.sap_terms.specs.Signature.{Sig}
use Rattle.sap_grammar.specs.declared.limits.Limits.{Limits}
use Rattle.sap_grammar.specs.Words.{Word, starts}
use Rattle.sap_grammar.specs.Reading.{Reader, after, given, list_of, name_at, past, starts_zero}
use Rattle.sap_grammar.specs.TermReading.{short_term, short_fact, facts}
use Rattle.sap_draft.specs.ProcessGrammar.{var}
use Rattle.sap_process.specs.Action.{Action, new, out, send, input, receive, event, insert, delete, lock, unlock, embedded}
use Rattle.sap_macro.specs.Located.{Located, nil_at, call_at, parallel_at, replicated_at, act_at, test_at, lookup_at}

-- this mark behind what is read already
abbrev pub up_to : {A : Type 0} → List ℕ → A → Reader A
up_to m v ws = past m ws (λ r. Some (v, r))

-- a comma, the second of two terms, and a closing parenthesis
abbrev pub second_term : Sig → Limits → (Tree → Tree → Action) → Tree → Reader Action
second_term g m two t ws = past (codes ",") ws (λ r. after (short_term g m r) (λ u z. up_to (codes ")") (two t u) z))

-- one term or two in parentheses
abbrev pub channel : Sig → Limits → (Tree → Action) → (Tree → Tree → Action) → Reader Action
channel g m one two ws = past (codes "(") ws (λ r. after (short_term g m r) (λ t z.
    if starts (codes ")") z then Some (one t, drop 1 z) else second_term g m two t z))

-- the variable behind `new` and its sign
abbrev pub bound_as : Sort → Reader Action
bound_as sort ws = given (name_at ws) (λ x. Some (new (var sort x), drop 1 ws))

abbrev pub bound : Reader Action
bound ws = if starts (codes "~") ws then bound_as Fresh (drop 1 ws) else bound_as Msg ws

-- the right side of an embedded rule
abbrev pub right_side : Sig → Limits → List Fact → List Fact → Reader Action
right_side g m l e ws = past (codes "[") ws (λ r. after (facts g m true (codes "]") r) (λ fs z. Some (embedded l e fs, z)))

-- the facts that an embedded rule shows, and its right side
abbrev pub shown_facts : Sig → Limits → List Fact → Reader Action
shown_facts g m l ws = past (codes "--[") ws (λ r. after (facts g m false (codes "]->") r) (λ e z. right_side g m l e z))

abbrev pub embedded_rule : Sig → Limits → Reader Action
embedded_rule g m ws = after (facts g m true (codes "]") ws) (λ l r.
    if starts (codes "-->") r then right_side g m l [] (drop 1 r) else shown_facts g m l r)

-- behind `event`
abbrev pub shown_event : Sig → Limits → Reader Action
shown_event g m ws = after (short_fact g m false ws) (λ f r. Some (event f, r))

-- what is inserted at this key
abbrev pub inserted_at : Sig → Limits → Tree → Reader Action
inserted_at g m t ws = past (codes ",") ws (λ r. after (short_term g m r) (λ u z. Some (insert t u, z)))

-- behind `insert`
abbrev pub inserted : Sig → Limits → Reader Action
inserted g m ws = after (short_term g m ws) (λ t r. inserted_at g m t r)

-- what is done with one term
abbrev pub on_term : Sig → Limits → (Tree → Action) → Reader Action
on_term g m made ws = after (short_term g m ws) (λ t r. Some (made t, r))

-- what changes the store, holds a term or lets it go, and an embedded rule
abbrev pub state_action : Sig → Limits → Reader Action
state_action g m ws =
    if starts (codes "insert") ws then inserted g m (drop 1 ws)
    else if starts (codes "delete") ws then on_term g m delete (drop 1 ws)
    else if starts (codes "lock") ws then on_term g m (λ t. lock t 0) (drop 1 ws)
    else if starts (codes "unlock") ws then on_term g m (λ t. unlock t 0) (drop 1 ws)
    else past (codes "[") ws (embedded_rule g m)

abbrev pub action_of : Sig → Limits → Reader Action
action_of g m ws =
    if starts (codes "new") ws then bound (drop 1 ws)
    else if starts (codes "out") ws then channel g m out send (drop 1 ws)
    else if starts (codes "in") ws then channel g m input receive (drop 1 ws)
    else if starts (codes "event") ws then shown_event g m (drop 1 ws)
    else state_action g m ws

-- a process with the levels of its text
abbrev pub Levelled : Type 0
Levelled = Located × ℕ

-- how a process that chooses puts its two branches together, behind the number of its first word
abbrev pub Choosing : Type 0
Choosing = ℕ → Located → Located → Located

abbrev pub by_test : Tree → Tree → Choosing
by_test t u k = test_at k t u

abbrev pub by_lookup : Tree → Var → Choosing
by_lookup t x k = lookup_at k t x

-- the second branch, behind `else`
abbrev pub second_branch : Reader Levelled → ℕ → Choosing → Levelled → Reader Levelled
second_branch seq k made p ws = after (seq ws) (λ q r. Some ((made k p.0 q.0, max p.1 q.1 + 1), r))

-- a branch, and the second if one stands
abbrev pub branches : Reader Levelled → ℕ → Choosing → Reader Levelled
branches seq k made ws = after (seq ws) (λ p r.
    if starts (codes "else") r then second_branch seq k made p (drop 1 r)
    else Some ((made k p.0 (nil_at k), max p.1 1 + 1), r))

-- behind the first of two terms that are compared
abbrev pub equality : Sig → Limits → Tree → Reader Choosing
equality g m t ws = past (codes "=") ws (λ r. after (short_term g m r) (λ u z. up_to (codes "then") (by_test t u) z))

-- behind `if`, up to the first branch
abbrev pub compared : Sig → Limits → Reader Choosing
compared g m ws = after (short_term g m ws) (λ t r. equality g m t r)

abbrev pub condition : Sig → Limits → Reader Levelled → ℕ → Reader Levelled
condition g m seq k ws = after (compared g m ws) (λ made r. branches seq k made r)

-- behind the name in a lookup
abbrev pub found : Tree → List ℕ → Reader Choosing
found t x ws = up_to (codes "in") (by_lookup t (var Msg x)) ws

-- behind the term in a lookup
abbrev pub entry : Tree → Reader Choosing
entry t ws = past (codes "as") ws (λ r. given (name_at r) (λ x. found t x (drop 1 r)))

-- behind `lookup`, up to the first branch
abbrev pub looked_up : Sig → Limits → Reader Choosing
looked_up g m ws = after (short_term g m ws) (λ t r. entry t r)

abbrev pub looking : Sig → Limits → Reader Levelled → ℕ → Reader Levelled
looking g m seq k ws = after (looked_up g m ws) (λ made r. branches seq k made r)

-- behind an action whose first word has this number; a missing continuation has it too, and one level
abbrev pub going_on : Reader Levelled → ℕ → ℕ → Action → Reader Levelled
going_on seq d k x ws =
    if starts (codes ";") ws then after (seq (drop 1 ws)) (λ p z. Some ((act_at k x p.0, p.1 + 1), z))
    else if nat_le 1 d then Some ((act_at k x (nil_at k), 2), ws) else None

-- the arguments of a use, one or more, and the closing parenthesis
abbrev pub arguments : Sig → Limits → Reader (List Tree)
arguments g m ws = list_of (codes ")") (short_term g m) (length ws) ws

-- behind the name of a process: its arguments, where a parenthesis opens
abbrev pub used : Sig → Limits → ℕ → List ℕ → Reader Levelled
used g m k x ws =
    if starts (codes "(") ws then after (arguments g m (drop 1 ws)) (λ ts r. Some ((call_at k x ts, 1), r))
    else Some ((call_at k x [], 1), ws)

-- the name of a process, or what an action begins
abbrev pub call_or_action : Sig → Limits → Reader Levelled → ℕ → Option (List ℕ) → Reader Levelled
call_or_action g m seq d (Some x) ws = used g m (length ws) x (drop 1 ws)
call_or_action g m seq d None ws = after (action_of g m ws) (going_on seq d (length ws))

-- behind an opening parenthesis
abbrev pub enclosed : Reader Levelled → Reader Levelled
enclosed par ws = after (par ws) (λ p r. past (codes ")") r (λ z. Some ((p.0, p.1 + 1), z)))

-- behind `!`
abbrev pub repeated : Reader Levelled → ℕ → Reader Levelled
repeated seq k ws = after (seq ws) (λ p r. Some ((replicated_at k p.0, p.1 + 1), r))

abbrev pub seq_at : Sig → Limits → Reader Levelled → Reader Levelled → ℕ → Reader Levelled
seq_at g m seq par d ws =
    if starts (codes "(") ws then enclosed par (drop 1 ws)
    else if starts (codes "!") ws then repeated seq (length ws) (drop 1 ws)
    else if starts (codes "if") ws then condition g m seq (length ws) (drop 1 ws)
    else if starts (codes "lookup") ws then looking g m seq (length ws) (drop 1 ws)
    else if starts_zero ws then Some ((nil_at (length ws), 1), drop 1 ws)
    else call_or_action g m seq d (name_at ws) ws

-- what stands beside a process, behind a sign of this number
abbrev pub beside : Reader Levelled → ℕ → Levelled → Reader Levelled
beside par k p ws = after (par ws) (λ q r. Some ((parallel_at k p.0 q.0, max p.1 q.1 + 1), r))

-- one of the two signs of the parallel stands first
abbrev pub starts_bar : List Word → Bool
starts_bar ws = starts (codes "|") ws || starts (codes "||") ws

-- `here` reads as many levels, `par` one less, `d` the levels of `par`
abbrev pub par_at : Reader Levelled → Reader Levelled → ℕ → Reader Levelled
par_at here par d ws = after (here ws) (λ p r. if starts_bar r then (if nat_le p.1 d then beside par (length r) p (drop 1 r) else None) else Some (p, r))

unfoldable mutual
  pub seq : Sig → Limits → ℕ → Reader Levelled
  seq g m zero = λ ws. None
  seq g m (suc d) = seq_at g m (seq g m d) (par g m d) d

  pub par : Sig → Limits → ℕ → Reader Levelled
  par g m zero = λ ws. None
  par g m (suc d) = par_at (seq_at g m (seq g m d) (par g m d) d) (par g m d) d
