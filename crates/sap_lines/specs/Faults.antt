-- Why a line is refused: the first test that fails.
use Rattle.std.specs.Prelude.{◌≡◌, ◌⊎◌, ◌<◌, ℕ, Bool, true, false, List, [], ◌∷◌, ◌++◌, length, Option, Some, None, map, slice_get, All, Contains, ⊤}
use Rattle.sap_terms.specs.Choice.{Choice}
use Rattle.sap_terms.specs.Equal.{IsTheoryEqual}
use Rattle.sap_terms.specs.Equations.{equations, app2, pair_name}
use Rattle.sap_terms.specs.Message.{IsMessage, IsMessageChoice}
use Rattle.sap_terms.specs.Modulo.{instance_facts, AreEqualFacts}
use Rattle.sap_terms.specs.Normal.{IsNormalForm}
use Rattle.sap_terms.specs.Piles.{Pile, Takes}
use Rattle.sap_terms.specs.Signature.{Sig, IsPublic, arity_of}
use Rattle.sap_terms.specs.Tree.{Tree, apply, trees_of, node_count}
use Rattle.sap_terms.specs.View.{tree}
use Rattle.sap_terms.specs.declared.binding.Binding.{Binding}
use Rattle.sap_terms.specs.declared.fact.Fact.{Fact}
use Rattle.sap_terms.specs.declared.limits.TheConstants.{MOST_TERM_NODES}
use Rattle.sap_terms.specs.declared.var.Var.{Var}
use Rattle.sap_facts.specs.Missing.{IsFirstMissing}
use Rattle.sap_rewrite.specs.Large.{SomeSubtermWithin, HasLargeForm}
use Rattle.sap_rewrite.specs.Match.{Agrees, bound_vars}
use Rattle.sap_terms.specs.Deduce.{IsFirstUnknown}
use Rattle.sap_process.specs.Action.{new, out, send, input, receive, event, insert, delete, lock, unlock, embedded}
use Rattle.sap_process.specs.Heads.{facts_terms, action_used}
use Rattle.sap_process.specs.Proc.{Proc, nil, parallel, replicated, act, test, lookup}
use Rattle.sap_process.specs.Configuration.{Config, Runs}
use Rattle.sap_process.specs.ProcessSteps.{Fits}
use Rattle.sap_runs.specs.Limits.{HasFewNodes}
use Rattle.sap_runs.specs.declared.process_step.PStep.{PStep}
use Rattle.sap_runs.specs.declared.process_step.PStep.TheVariants as line
use Rattle.sap_lines.specs.Lines.{EvaluateWithin, left_open}
use Rattle.sap_lines.specs.declared.fault.PFault.{PFault}
use Rattle.sap_lines.specs.declared.fault.PFault.TheVariants as fault

-- the thread that a line names alone
abbrev pub thread_of : PStep → Option ℕ
thread_of (line.Nil t) = Some t
thread_of (line.Par t) = Some t
thread_of (line.Rep t) = Some t
thread_of (line.New t n) = Some t
thread_of (line.Out t) = Some t
thread_of (line.Send t k) = Some t
thread_of (line.In t k) = Some t
thread_of (line.Then t) = Some t
thread_of (line.Else t) = Some t
thread_of (line.Event t) = Some t
thread_of (line.Insert t) = Some t
thread_of (line.Delete t) = Some t
thread_of (line.Found t) = Some t
thread_of (line.Missing t) = Some t
thread_of (line.Lock t) = Some t
thread_of (line.Unlock t) = Some t
thread_of (line.Embedded t ks b) = Some t
thread_of _ = None

-- the process has the form that the line asks of this thread
abbrev pub has_form : PStep → Proc → Bool
has_form (line.Nil t) nil = true
has_form (line.Par t) (parallel p q) = true
has_form (line.Rep t) (replicated p) = true
has_form (line.New t n) (act (new x) p) = true
has_form (line.Out t) (act (out m) p) = true
has_form (line.Send t k) (act (send m n) p) = true
has_form (line.In t k) (act (input n) p) = true
has_form (line.In t k) (act (receive m n) p) = true
has_form (line.Then t) (test m n p q) = true
has_form (line.Else t) (test m n p q) = true
has_form (line.Event t) (act (event f) p) = true
has_form (line.Insert t) (act (insert m n) p) = true
has_form (line.Delete t) (act (delete m) p) = true
has_form (line.Found t) (lookup m x p q) = true
has_form (line.Missing t) (lookup m x p q) = true
has_form (line.Lock t) (act (lock m i) p) = true
has_form (line.Unlock t) (act (unlock m i) p) = true
has_form (line.Embedded t ks b) (act (embedded l e r) p) = true
has_form _ _ = false

-- it sends on a channel
abbrev pub is_send : Proc → Bool
is_send (act (send m n) p) = true
is_send _ = false

-- it receives on a channel
abbrev pub is_receive : Proc → Bool
is_receive (act (receive m n) p) = true
is_receive _ = false

-- the terms at the head of a process that are evaluated before anything is bound there
abbrev pub evaluated : Proc → List Tree
evaluated (act a p) = action_used a
evaluated (test m n p q) = m ∷ n ∷ []
evaluated (lookup m x p q) = m ∷ []
evaluated _ = []

-- some subterm of these terms has a normal form of more than 256 nodes
abbrev pub EvaluateLarge : Sig → List Tree → Type 0
EvaluateLarge g ts = SomeSubtermWithin (HasLargeForm (equations g) MOST_TERM_NODES) (trees_of ts)

-- none has
abbrev pub EvaluateSmall : Sig → List Tree → Type 0
EvaluateSmall g ts = EvaluateWithin g HasFewNodes ts

-- thread t isn't running, or as a process of another form
pub data IsUnfit (c : Config) (t : ℕ) (form : Proc → Bool) : PFault → Type 0 where
  not_running : ((p : Proc) → ¬ Runs c t p) → IsUnfit c t form (fault.NoThread t)
  other_form : {p : Proc} → Runs c t p → form p ≡ false → IsUnfit c t form (fault.WrongForm t)

-- the line names a thread alone, which runs as this process, and the process has the form that the line asks of it
pub record IsRunning (c : Config) (step : PStep) (p : Proc) : Type 0 where
  pub thread : ℕ
  pub named : thread_of step ≡ Some thread
  pub runs : Runs c thread p
  pub form : has_form step p ≡ true

-- the number is an entry's, where the line names one besides a thread
abbrev pub HasEntry : List Tree → PStep → Type 0
HasEntry es (line.Send t k) = (x : Tree) × (slice_get es k ≡ Some x)
HasEntry es (line.In t k) = (x : Tree) × (slice_get es k ≡ Some x)
HasEntry es _ = ⊤

-- processes or the adversary made the name
abbrev pub IsUsed : Config → ℕ → Type 0
IsUsed c n = Contains c.made n ⊎ Contains c.own n

-- no choice of messages makes the pattern theory-equal to the term
abbrev pub FitsNothing : Sig → Tree → Tree → Type 0
FitsNothing g pattern t = (σ : Choice) → ¬ Fits g σ pattern t

-- the bindings are of these variables, in order, each to a message of its sort
pub record AreRight (g : Sig) (vs : List Var) (b : List Binding) : Type 0 where
  pub vars : bound_vars b ≡ vs
  pub terms : All (λ (e : Binding). IsMessage g e.var.sort (tree e.term)) b

-- a choice of messages agrees with the bindings and makes the left side theory-equal to the cited facts
pub record FitsFacts (g : Sig) (left : List Fact) (b : List Binding) (cited : List Fact)
    (σ : Choice) : Type 0 where
  pub messages : IsMessageChoice g σ
  pub agrees : Agrees b σ
  pub equal : AreEqualFacts (equations g) (instance_facts σ left) cited

-- The configuration and the adversary's entries, the line, and why it is refused: for want of memory, or for the first of its
-- tests that fails.
pub data IsRefused (g : Sig) (c : Config) (es : List Tree) : PStep → PFault → Type 0 where
  no_memory : (step : PStep) → IsRefused g c es step fault.Mem
  -- the thread that a line names alone isn't running, or has another form
  unfit : {step : PStep} {f : PFault} (t : ℕ) → thread_of step ≡ Some t
      → IsUnfit c t (has_form step) f → IsRefused g c es step f
  -- of two threads the sender is first
  unfit_sender : {f : PFault} (s t : ℕ) → IsUnfit c s is_send f → IsRefused g c es (line.Sync s t) f
  unfit_receiver : {f : PFault} {m n : Tree} {p : Proc} (s t : ℕ) → Runs c s (act (send m n) p)
      → IsUnfit c t is_receive f
      → IsRefused g c es (line.Sync s t) f
  -- the name was made before
  used_name : {p : Proc} (t n : ℕ) → Runs c t p → has_form (line.New t n) p ≡ true → IsUsed c n
      → IsRefused g c es (line.New t n) (fault.UsedName n)
  used_own : (n : ℕ) → IsUsed c n → IsRefused g c es (line.Name n) (fault.UsedName n)
  -- no entry has the number
  unknown_channel : {p : Proc} (t k : ℕ) → Runs c t p → has_form (line.Send t k) p ≡ true
      → slice_get es k ≡ None
      → IsRefused g c es (line.Send t k) (fault.NoEntry k)
  unknown_input : {p : Proc} (t k : ℕ) → Runs c t p → has_form (line.In t k) p ≡ true
      → slice_get es k ≡ None
      → IsRefused g c es (line.In t k) (fault.NoEntry k)
  unknown_shown : (k : ℕ) → slice_get es k ≡ None → IsRefused g c es (line.Know k) (fault.NoEntry k)
  -- what stands at the head is too large
  large : {step : PStep} {p : Proc} → IsRunning c step p → HasEntry es step
      → EvaluateLarge g (evaluated p) → IsRefused g c es step fault.TermLarge
  large_meeting : {m n l r : Tree} {p q : Proc} (s t : ℕ) → Runs c s (act (send m n) p)
      → Runs c t (act (receive l r) q)
      → EvaluateLarge g (m ∷ n ∷ l ∷ []) → IsRefused g c es (line.Sync s t) fault.TermLarge
  -- the entry isn't the channel that the thread sends on
  other_channel : {m n x : Tree} {p : Proc} (t k : ℕ) → Runs c t (act (send m n) p)
      → slice_get es k ≡ Some x → EvaluateSmall g (m ∷ n ∷ [])
      → ¬ IsNormalForm (equations g) m x → IsRefused g c es (line.Send t k) fault.Unequal
  -- the entry doesn't fit the pattern
  unfitting : {n x : Tree} {p : Proc} (t k : ℕ) → Runs c t (act (input n) p)
      → slice_get es k ≡ Some x → FitsNothing g n x
      → IsRefused g c es (line.In t k) fault.NoMatch
  -- it is no pair whose second part fits the pattern
  unfitting_part : {m n x : Tree} {p : Proc} (t k : ℕ) → Runs c t (act (receive m n) p)
      → slice_get es k ≡ Some x → EvaluateSmall g (m ∷ [])
      → ((y z : Tree) → x ≡ app2 pair_name y z → FitsNothing g n z)
      → IsRefused g c es (line.In t k) fault.NoMatch
  -- it is, and its first part isn't the channel
  other_part : {m n x y z : Tree} {p : Proc} (t k : ℕ) (σ : Choice) → Runs c t (act (receive m n) p)
      → slice_get es k ≡ Some x
      → EvaluateSmall g (m ∷ []) → x ≡ app2 pair_name y z → Fits g σ n z
      → ¬ IsNormalForm (equations g) m y
      → IsRefused g c es (line.In t k) fault.Unequal
  -- what the first thread sends doesn't fit the pattern of the second
  unfitting_message : {m n l r : Tree} {p q : Proc} (s t : ℕ) → Runs c s (act (send m n) p)
      → Runs c t (act (receive l r) q)
      → EvaluateSmall g (m ∷ n ∷ l ∷ []) → FitsNothing g r n
      → IsRefused g c es (line.Sync s t) fault.NoMatch
  -- it does, and their channels differ
  channels_differ : {m n l r : Tree} {p q : Proc} (s t : ℕ) (σ : Choice)
      → Runs c s (act (send m n) p) → Runs c t (act (receive l r) q)
      → EvaluateSmall g (m ∷ n ∷ l ∷ []) → Fits g σ r n → ¬ IsTheoryEqual (equations g) m l
      → IsRefused g c es (line.Sync s t) fault.Unequal
  -- the terms of a branch differ
  terms_differ : {m n : Tree} {p q : Proc} (t : ℕ) → Runs c t (test m n p q)
      → EvaluateSmall g (m ∷ n ∷ []) → ¬ IsTheoryEqual (equations g) m n
      → IsRefused g c es (line.Then t) fault.Unequal
  -- or don't
  terms_agree : {m n : Tree} {p q : Proc} (t : ℕ) → Runs c t (test m n p q)
      → EvaluateSmall g (m ∷ n ∷ []) → IsTheoryEqual (equations g) m n
      → IsRefused g c es (line.Else t) fault.Equal
  -- the store has nothing at the key
  unset : {m k : Tree} {x : Var} {p q : Proc} (t : ℕ) → Runs c t (lookup m x p q)
      → EvaluateSmall g (m ∷ []) → IsNormalForm (equations g) m k
      → c.store k ≡ None → IsRefused g c es (line.Found t) fault.Unset
  -- or something
  set : {m k v : Tree} {x : Var} {p q : Proc} (t : ℕ) → Runs c t (lookup m x p q)
      → EvaluateSmall g (m ∷ []) → IsNormalForm (equations g) m k
      → c.store k ≡ Some v → IsRefused g c es (line.Missing t) fault.Set
  -- the term is held
  held : {m k : Tree} {i : ℕ} {p : Proc} (t : ℕ) → Runs c t (act (lock m i) p)
      → EvaluateSmall g (m ∷ []) → IsNormalForm (equations g) m k
      → c.held k ≡ true → IsRefused g c es (line.Lock t) fault.Held
  -- another number of facts is cited than the left side has
  fact_count : {l e r : List Fact} {p : Proc} (t : ℕ) (ks : List ℕ) (b : List Binding)
      → Runs c t (act (embedded l e r) p)
      → ¬ (length ks ≡ length l) → IsRefused g c es (line.Embedded t ks b) fault.FactCount
  -- as many, and one is missing
  fact_missing : {l e r : List Fact} {p : Proc} (t : ℕ) (ks : List ℕ) (b : List Binding) (index : ℕ)
      → Runs c t (act (embedded l e r) p)
      → length ks ≡ length l → IsFirstMissing c.facts ks index
      → IsRefused g c es (line.Embedded t ks b) (fault.FactMissing index)
  -- none is, and the bindings aren't right
  bad_binding : {l e r left : List Fact} {rest : Pile} {p : Proc} (t : ℕ) (ks : List ℕ)
      (b : List Binding) → Runs c t (act (embedded l e r) p)
      → length ks ≡ length l → Takes c.facts ks left rest → ¬ AreRight g (left_open l e r) b
      → IsRefused g c es (line.Embedded t ks b) fault.BadBinding
  -- they are, and no choice fits
  unfitting_facts : {l e r left : List Fact} {rest : Pile} {p : Proc} (t : ℕ) (ks : List ℕ)
      (b : List Binding) → Runs c t (act (embedded l e r) p)
      → length ks ≡ length l → Takes c.facts ks left rest → AreRight g (left_open l e r) b
      → ((σ : Choice) → ¬ FitsFacts g l b left σ)
      → IsRefused g c es (line.Embedded t ks b) fault.NoMatch
  -- one does, and what the rule holds under it is too large
  large_rule : {l e r left : List Fact} {rest : Pile} {p : Proc} (t : ℕ) (ks : List ℕ)
      (b : List Binding) (σ : Choice) → Runs c t (act (embedded l e r) p)
      → Takes c.facts ks left rest → AreRight g (left_open l e r) b → FitsFacts g l b left σ
      → EvaluateLarge g (facts_terms (instance_facts σ (l ++ (e ++ r))))
      → IsRefused g c es (line.Embedded t ks b) fault.TermLarge
  -- the symbol isn't held, or it is private
  not_public : (f ks : List ℕ) → ¬ IsPublic g f
      → IsRefused g c es (line.Apply f ks) (fault.NotPublic f)
  -- so many entries are not its arity
  other_arity : (f ks : List ℕ) → IsPublic g f → ¬ (arity_of g f ≡ Some (length ks))
      → IsRefused g c es (line.Apply f ks) (fault.Arity f)
  -- the first number that isn't an entry
  unknown_argument : (f ks : List ℕ) (k : ℕ) → IsPublic g f → arity_of g f ≡ Some (length ks)
      → IsFirstUnknown (length es) ks k
      → IsRefused g c es (line.Apply f ks) (fault.NoEntry k)
  -- what the symbol gives is too large
  large_application : (f ks : List ℕ) (ts : List Tree) (x : Tree) → IsPublic g f
      → arity_of g f ≡ Some (length ks)
      → map (slice_get es) ks ≡ map Some ts → IsNormalForm (equations g) (apply f (trees_of ts)) x
      → MOST_TERM_NODES < node_count x
      → IsRefused g c es (line.Apply f ks) fault.TermLarge
