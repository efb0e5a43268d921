-- Processes run: steps and traces, without any limit.
use Rattle.std.specs.Prelude.{◌≡◌, ℕ, true, false, List, [], ◌∷◌, ◌++◌, Some, None}
use Rattle.std.specs.Option.{option_map_or}
use Rattle.sap_terms.specs.AdversaryFacts.{k_fact}
use Rattle.sap_terms.specs.Choice.{Choice, instance}
use Rattle.sap_terms.specs.Equal.{IsTheoryEqual}
use Rattle.sap_terms.specs.Message.{IsMessageChoice}
use Rattle.sap_terms.specs.Modulo.{instance_facts, IsFormOfFact, AreEqualFacts, AreFormsOfFacts}
use Rattle.sap_terms.specs.Normal.{IsNormalForm}
use Rattle.sap_terms.specs.Piles.{Pile, Takes, adds}
use Rattle.sap_terms.specs.Signature.{Sig}
use Rattle.sap_terms.specs.Equations.{equations, app2, pair_name}
use Rattle.sap_terms.specs.Trace.{Trace, shown}
use Rattle.sap_terms.specs.Tree.{Tree, variable, fresh}
use Rattle.sap_terms.specs.Variables.{tree_vars, facts_vars}
use Rattle.sap_terms.specs.declared.fact.Fact.{Fact}
use Rattle.sap_terms.specs.declared.var.Var.{Var}
use Rattle.sap_process.specs.Action.{new, out, send, input, receive, event, insert, delete, lock, unlock, embedded}
use Rattle.sap_process.specs.Proc.{Proc}
use Rattle.sap_process.specs.Head.{Head, Kind, nil, parallel, replicated, act, test, lookup}
use Rattle.sap_process.specs.Flaws.{binder_of}
use Rattle.sap_process.specs.Instance.{process_instance}
use Rattle.sap_process.specs.Configuration.{Config, ConfigOf, initial, becomes, spawns, makes, owns, sends_out, stores, holding, leaves, IsUnused, CanGive}

-- the choice for these variables alone, which are known by their names: a name stands for what its first variable stands for
abbrev pub chosen : Choice → List Var → Choice
chosen σ vs v = option_map_or σ (binder_of vs v.name) (variable v)

-- the process with these variables replaced as the choice says, and no others
abbrev pub with_choice : Choice → List Var → Proc → Proc
with_choice σ vs p = process_instance (chosen σ vs) p

-- the process with this variable replaced by the term
abbrev pub with_term : Var → Tree → Proc → Proc
with_term x t p = with_choice (λ v. t) (x ∷ []) p

-- the process of this kind with these variables replaced as the choice says, and no others
abbrev pub behind_choice : {P : Type 0} → Kind P → Choice → List Var → P → P
behind_choice k σ vs p = k.replaced (chosen σ vs) p

-- the process of this kind with this variable replaced by the term
abbrev pub behind_term : {P : Type 0} → Kind P → Var → Tree → P → P
behind_term k x t p = behind_choice k (λ v. t) (x ∷ []) p

-- thread t is running, with this head
abbrev pub RunsWith : {P : Type 0} {k : Kind P} → ConfigOf k → ℕ → Head P → Type 0
RunsWith {k = k} c t h = k.stands c.threads t h

-- the pattern under the choice, which gives each variable a message, is theory-equal to the term
pub record Fits (g : Sig) (σ : Choice) (pattern t : Tree) : Type 0 where
  pub messages : IsMessageChoice g σ
  pub equal : IsTheoryEqual (equations g) (instance σ pattern) t

-- The old configuration, the label, the new configuration, for processes in which each name is bound: the names of a
-- pattern are its new variables.
pub data ProcessStep (g : Sig) {P : Type 0} {kind : Kind P} : ConfigOf kind → List Fact → ConfigOf kind → Type 0 where
  -- a thread that has nothing left ends
  ends : {c : ConfigOf kind} (t : ℕ) → RunsWith c t nil → ProcessStep g c [] (becomes c t None)
  -- a parallel goes on as its left part, and its right part is a new thread
  splits : {c : ConfigOf kind} {p q : P} (t : ℕ) → RunsWith c t (parallel p q)
      → ProcessStep g c [] (spawns (becomes c t (Some p)) q)
  -- a replication stays, and has one more copy
  copies : {c : ConfigOf kind} {p : P} (t : ℕ) → RunsWith c t (replicated p)
      → ProcessStep g c [] (spawns c p)
  -- a process makes a name that nobody has
  makes_name : {c : ConfigOf kind} {x : Var} {p : P} (t n : ℕ) → RunsWith c t (act (new x) p) → IsUnused c n
      → ProcessStep g c [] (makes (becomes c t (Some (behind_term kind x (fresh n) p))) n)
  -- the adversary gets a message
  outputs : {c : ConfigOf kind} {m n : Tree} {p : P} (t : ℕ) → RunsWith c t (act (out m) p)
      → IsNormalForm (equations g) m n
      → ProcessStep g c [] (sends_out (becomes c t (Some p)) n)
  -- it gets one on a channel that it can give
  outputs_on : {c : ConfigOf kind} {m n k u : Tree} {p : P} (t : ℕ) → RunsWith c t (act (send m n) p)
      → IsNormalForm (equations g) m k → CanGive g c k
      → IsNormalForm (equations g) n u
      → ProcessStep g c (k_fact k ∷ []) (sends_out (becomes c t (Some p)) u)
  -- it gives a message that fits
  inputs : {c : ConfigOf kind} {n x : Tree} {p : P} (t : ℕ) (σ : Choice) → RunsWith c t (act (input n) p)
      → CanGive g c x → Fits g σ n x
      → ProcessStep g c (k_fact x ∷ []) (becomes c t (Some (behind_choice kind σ (tree_vars n) p)))
  -- it gives a channel and a message that fits, as a pair
  inputs_on : {c : ConfigOf kind} {m n x : Tree} {p : P} (t : ℕ) (σ : Choice)
      → RunsWith c t (act (receive m n) p) → CanGive g c x
      → IsMessageChoice g σ → IsTheoryEqual (equations g) (app2 pair_name m (instance σ n)) x
      → ProcessStep g c (k_fact x ∷ []) (becomes c t (Some (behind_choice kind σ (tree_vars n) p)))
  -- two processes meet on a channel
  meets : {c : ConfigOf kind} {m n l r : Tree} {p q : P} (s t : ℕ) (σ : Choice)
      → RunsWith c s (act (send m n) p) → RunsWith c t (act (receive l r) q)
      → IsTheoryEqual (equations g) m l → Fits g σ r n
      → ProcessStep g c [] (becomes (becomes c s (Some p)) t (Some (behind_choice kind σ (tree_vars r) q)))
  -- two terms are equal
  agrees : {c : ConfigOf kind} {m n : Tree} {p q : P} (t : ℕ) → RunsWith c t (test m n p q)
      → IsTheoryEqual (equations g) m n
      → ProcessStep g c [] (becomes c t (Some p))
  -- or differ
  differs : {c : ConfigOf kind} {m n : Tree} {p q : P} (t : ℕ) → RunsWith c t (test m n p q)
      → ¬ IsTheoryEqual (equations g) m n
      → ProcessStep g c [] (becomes c t (Some q))
  -- an event shows its fact
  shows : {c : ConfigOf kind} {f h : Fact} {p : P} (t : ℕ) → RunsWith c t (act (event f) p)
      → IsFormOfFact (equations g) f h
      → ProcessStep g c (h ∷ []) (becomes c t (Some p))
  -- the store has a value at a key from now on
  inserts : {c : ConfigOf kind} {m n k v : Tree} {p : P} (t : ℕ) → RunsWith c t (act (insert m n) p)
      → IsNormalForm (equations g) m k
      → IsNormalForm (equations g) n v
      → ProcessStep g c [] (stores (becomes c t (Some p)) k (Some v))
  -- or nothing
  deletes : {c : ConfigOf kind} {m k : Tree} {p : P} (t : ℕ) → RunsWith c t (act (delete m) p)
      → IsNormalForm (equations g) m k
      → ProcessStep g c [] (stores (becomes c t (Some p)) k None)
  -- a process finds a value there
  finds : {c : ConfigOf kind} {m k v : Tree} {x : Var} {p q : P} (t : ℕ) → RunsWith c t (lookup m x p q)
      → IsNormalForm (equations g) m k
      → c.store k ≡ Some v → ProcessStep g c [] (becomes c t (Some (behind_term kind x v p)))
  -- or none
  misses : {c : ConfigOf kind} {m k : Tree} {x : Var} {p q : P} (t : ℕ) → RunsWith c t (lookup m x p q)
      → IsNormalForm (equations g) m k
      → c.store k ≡ None → ProcessStep g c [] (becomes c t (Some q))
  -- a process holds a term that isn't held
  locks : {c : ConfigOf kind} {m k : Tree} {i : ℕ} {p : P} (t : ℕ) → RunsWith c t (act (lock m i) p)
      → IsNormalForm (equations g) m k
      → c.held k ≡ false → ProcessStep g c [] (holding (becomes c t (Some p)) k true)
  -- from now on a term isn't held
  unlocks : {c : ConfigOf kind} {m k : Tree} {i : ℕ} {p : P} (t : ℕ) → RunsWith c t (act (unlock m i) p)
      → IsNormalForm (equations g) m k
      → ProcessStep g c [] (holding (becomes c t (Some p)) k false)
  -- an embedded rule takes facts, shows facts and adds facts
  embeds : {c : ConfigOf kind} {l e r : List Fact} {rest : Pile} {p : P} (t : ℕ) (ks : List ℕ)
      (σ : Choice) (left acts right : List Fact)
      → RunsWith c t (act (embedded l e r) p) → IsMessageChoice g σ
      → AreEqualFacts (equations g) (instance_facts σ l) left
      → Takes c.facts ks left rest → AreFormsOfFacts (equations g) (instance_facts σ e) acts
      → AreFormsOfFacts (equations g) (instance_facts σ r) right
      → ProcessStep g c acts
      (leaves (becomes c t (Some (behind_choice kind σ (facts_vars (l ++ (e ++ r))) p))) (adds rest right))
  -- the adversary makes a name that nobody has
  adversary_makes : {c : ConfigOf kind} (n : ℕ) → IsUnused c n → ProcessStep g c [] (owns c n)
  -- the adversary shows a term that it can give
  knows : {c : ConfigOf kind} (x : Tree) → CanGive g c x → ProcessStep g c (k_fact x ∷ []) c

-- from the origin a run leads to this configuration, and its labels that aren't empty are this trace
pub data ProcessRun (g : Sig) {P : Type 0} {kind : Kind P} (origin : ConfigOf kind) : ConfigOf kind → Trace → Type 0 where
  starts : ProcessRun g origin origin []
  further : {c d : ConfigOf kind} {tr : Trace} {label : List Fact} → ProcessRun g origin c tr
      → ProcessStep g c label d
      → ProcessRun g origin d (tr ++ shown label)

-- some run of the process has this trace
abbrev pub IsProcessTrace : Sig → Proc → Trace → Type 0
IsProcessTrace g p tr = (c : Config) × ProcessRun g (initial p) c tr
