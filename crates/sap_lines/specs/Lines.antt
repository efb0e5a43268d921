-- What a written step of a process means: one step, or one more entry, with its choices named.
use Rattle.std.specs.Prelude.{◌≡◌, ℕ, true, false, List, [], ◌∷◌, ◌++◌, length, Some, None, map, slice_get}
use Rattle.sap_terms.specs.AdversaryFacts.{k_fact}
use Rattle.sap_terms.specs.Choice.{Choice, instance}
use Rattle.sap_terms.specs.Equal.{IsTheoryEqual}
use Rattle.sap_terms.specs.Equations.{equations, app2, pair_name}
use Rattle.sap_terms.specs.Message.{IsMessageChoice}
use Rattle.sap_terms.specs.Modulo.{instance_facts, IsFormOfFact, AreEqualFacts, AreFormsOfFacts}
use Rattle.sap_terms.specs.Normal.{IsNormalForm}
use Rattle.sap_terms.specs.Piles.{Pile, Takes, adds}
use Rattle.sap_terms.specs.Signature.{Sig, IsPublic, arity_of}
use Rattle.sap_terms.specs.Tree.{Tree, public, fresh, apply, trees_of}
use Rattle.sap_terms.specs.Variables.{tree_vars, facts_vars, new_vars}
use Rattle.sap_terms.specs.declared.binding.Binding.{Binding}
use Rattle.sap_terms.specs.declared.fact.Fact.{Fact}
use Rattle.sap_terms.specs.declared.var.Var.{Var}
use Rattle.sap_rewrite.specs.Large.{SomeSubtermWithin}
use Rattle.sap_rewrite.specs.Match.{Agrees, bound_vars}
use Rattle.sap_process.specs.Action as action
use Rattle.sap_process.specs.Proc as whole
use Rattle.sap_process.specs.Proc.{Proc, act}
use Rattle.sap_process.specs.Heads.{facts_terms}
use Rattle.sap_process.specs.Sites.{var_names}
use Rattle.sap_process.specs.Configuration.{Config, Runs, becomes, spawns, makes, owns, sends_out, stores, holding, leaves, IsUnused}
use Rattle.sap_process.specs.ProcessSteps.{with_choice, with_term, Fits}
use Rattle.sap_runs.specs.Inner.{InnerAction, equal, different, found, missing, inserted, deleted, locked, unlocked}
use Rattle.sap_runs.specs.declared.process_step.PStep.{PStep}
use Rattle.sap_runs.specs.declared.process_step.PStep.TheVariants as line

-- each normal form of a subterm of these terms is as W says
abbrev pub EvaluateWithin : Sig → (Tree → Type 0) → List Tree → Type 0
EvaluateWithin g W ts = (n : Tree)
    → SomeSubtermWithin (λ u. IsNormalForm (equations g) u n) (trees_of ts) → W n

-- the variables that the left side of an embedded rule leaves open, in order of first occurrence
abbrev pub left_open : List Fact → List Fact → List Fact → List Var
left_open l e r = new_vars (var_names (facts_vars l)) (facts_vars (e ++ r))

-- The configuration and the adversary's entries before, the line, what is done inside, the label, and both behind it. Each
-- normal form that is evaluated is as W says.
pub data IsProcessLine (g : Sig) (W : Tree → Type 0)
    : Config → List Tree → PStep → List InnerAction → List Fact → Config → List Tree → Type 0 where
  -- the thread ends
  ends : {c : Config} {es : List Tree} (t : ℕ) → Runs c t whole.nil
      → IsProcessLine g W c es (line.Nil t) [] [] (becomes c t None) es
  -- it becomes two
  splits : {c : Config} {es : List Tree} {p q : Proc} (t : ℕ) → Runs c t (whole.parallel p q)
      → IsProcessLine g W c es (line.Par t) [] [] (spawns (becomes c t (Some p)) q) es
  -- it stays, and there is one more
  copies : {c : Config} {es : List Tree} {p : Proc} (t : ℕ) → Runs c t (whole.replicated p)
      → IsProcessLine g W c es (line.Rep t) [] [] (spawns c p) es
  -- it makes this name, which nobody has
  makes_name : {c : Config} {es : List Tree} {x : Var} {p : Proc} (t n : ℕ)
      → Runs c t (act (action.new x) p) → IsUnused c n
      → IsProcessLine g W c es (line.New t n) [] []
      (makes (becomes c t (Some (with_term x (fresh n) p))) n) es
  -- what it sends is the next entry
  outputs : {c : Config} {es : List Tree} {m n : Tree} {p : Proc} (t : ℕ)
      → Runs c t (act (action.out m) p) → IsNormalForm (equations g) m n
      → EvaluateWithin g W (m ∷ [])
      → IsProcessLine g W c es (line.Out t) [] [] (sends_out (becomes c t (Some p)) n)
      (es ++ n ∷ [])
  -- entry k is the channel
  outputs_on : {c : Config} {es : List Tree} {m n x u : Tree} {p : Proc} (t k : ℕ)
      → Runs c t (act (action.send m n) p) → slice_get es k ≡ Some x
      → IsNormalForm (equations g) m x → IsNormalForm (equations g) n u
      → EvaluateWithin g W (m ∷ n ∷ [])
      → IsProcessLine g W c es (line.Send t k) [] (k_fact x ∷ [])
      (sends_out (becomes c t (Some p)) u) (es ++ u ∷ [])
  -- entry k fits the pattern
  inputs : {c : Config} {es : List Tree} {n x : Tree} {p : Proc} (t k : ℕ) (σ : Choice)
      → Runs c t (act (action.input n) p) → slice_get es k ≡ Some x
      → Fits g σ n x → IsProcessLine g W c es (line.In t k) [] (k_fact x ∷ [])
      (becomes c t (Some (with_choice σ (tree_vars n) p))) es
  -- entry k is a pair of the channel and what fits the pattern
  inputs_on : {c : Config} {es : List Tree} {m n x : Tree} {p : Proc} (t k : ℕ) (σ : Choice)
      → Runs c t (act (action.receive m n) p)
      → slice_get es k ≡ Some x → IsMessageChoice g σ
      → IsTheoryEqual (equations g) (app2 pair_name m (instance σ n)) x
      → EvaluateWithin g W (m ∷ [])
      → IsProcessLine g W c es (line.In t k) [] (k_fact x ∷ [])
      (becomes c t (Some (with_choice σ (tree_vars n) p))) es
  -- the first thread sends what fits the pattern of the second, on one channel
  meets : {c : Config} {es : List Tree} {m n l r : Tree} {p q : Proc} (s t : ℕ) (σ : Choice)
      → Runs c s (act (action.send m n) p)
      → Runs c t (act (action.receive l r) q) → IsTheoryEqual (equations g) m l → Fits g σ r n
      → EvaluateWithin g W (m ∷ n ∷ l ∷ [])
      → IsProcessLine g W c es (line.Sync s t) [] []
      (becomes (becomes c s (Some p)) t (Some (with_choice σ (tree_vars r) q))) es
  -- its terms have one normal form
  agrees : {c : Config} {es : List Tree} {m n x y : Tree} {p q : Proc} (t : ℕ)
      → Runs c t (whole.test m n p q) → IsNormalForm (equations g) m x
      → IsNormalForm (equations g) n y → x ≡ y → EvaluateWithin g W (m ∷ n ∷ [])
      → IsProcessLine g W c es (line.Then t) (equal x y ∷ []) [] (becomes c t (Some p)) es
  -- or two
  differs : {c : Config} {es : List Tree} {m n x y : Tree} {p q : Proc} (t : ℕ)
      → Runs c t (whole.test m n p q) → IsNormalForm (equations g) m x
      → IsNormalForm (equations g) n y → ¬ (x ≡ y) → EvaluateWithin g W (m ∷ n ∷ [])
      → IsProcessLine g W c es (line.Else t) (different x y ∷ []) [] (becomes c t (Some q)) es
  -- it shows its fact
  shows : {c : Config} {es : List Tree} {f h : Fact} {p : Proc} (t : ℕ)
      → Runs c t (act (action.event f) p) → IsFormOfFact (equations g) f h
      → EvaluateWithin g W f.args
      → IsProcessLine g W c es (line.Event t) [] (h ∷ []) (becomes c t (Some p)) es
  -- the store has its value at its key
  inserts : {c : Config} {es : List Tree} {m n k v : Tree} {p : Proc} (t : ℕ)
      → Runs c t (act (action.insert m n) p) → IsNormalForm (equations g) m k
      → IsNormalForm (equations g) n v → EvaluateWithin g W (m ∷ n ∷ [])
      → IsProcessLine g W c es (line.Insert t) (inserted k v ∷ []) []
      (stores (becomes c t (Some p)) k (Some v)) es
  -- or nothing
  deletes : {c : Config} {es : List Tree} {m k : Tree} {p : Proc} (t : ℕ)
      → Runs c t (act (action.delete m) p) → IsNormalForm (equations g) m k
      → EvaluateWithin g W (m ∷ [])
      → IsProcessLine g W c es (line.Delete t) (deleted k ∷ []) []
      (stores (becomes c t (Some p)) k None) es
  -- it finds a value there
  finds : {c : Config} {es : List Tree} {m k v : Tree} {x : Var} {p q : Proc} (t : ℕ)
      → Runs c t (whole.lookup m x p q) → IsNormalForm (equations g) m k
      → c.store k ≡ Some v → EvaluateWithin g W (m ∷ [])
      → IsProcessLine g W c es (line.Found t) (found k v ∷ []) []
      (becomes c t (Some (with_term x v p))) es
  -- or none
  misses : {c : Config} {es : List Tree} {m k : Tree} {x : Var} {p q : Proc} (t : ℕ)
      → Runs c t (whole.lookup m x p q) → IsNormalForm (equations g) m k
      → c.store k ≡ None → EvaluateWithin g W (m ∷ [])
      → IsProcessLine g W c es (line.Missing t) (missing k ∷ []) [] (becomes c t (Some q)) es
  -- it holds a term that isn't held
  locks : {c : Config} {es : List Tree} {m k : Tree} {i : ℕ} {p : Proc} (t : ℕ)
      → Runs c t (act (action.lock m i) p) → IsNormalForm (equations g) m k
      → c.held k ≡ false → EvaluateWithin g W (m ∷ [])
      → IsProcessLine g W c es (line.Lock t) (locked k ∷ []) []
      (holding (becomes c t (Some p)) k true) es
  -- the term isn't held from now on
  unlocks : {c : Config} {es : List Tree} {m k : Tree} {i : ℕ} {p : Proc} (t : ℕ)
      → Runs c t (act (action.unlock m i) p) → IsNormalForm (equations g) m k
      → EvaluateWithin g W (m ∷ [])
      → IsProcessLine g W c es (line.Unlock t) (unlocked k ∷ []) []
      (holding (becomes c t (Some p)) k false) es
  -- the facts with these numbers are taken; the bindings are of the open variables, in order
  embeds : {c : Config} {es : List Tree} {l e r : List Fact} {rest : Pile} {p : Proc} (t : ℕ)
      (ks : List ℕ) (b : List Binding) (σ : Choice) (left acts right : List Fact)
      → Runs c t (act (action.embedded l e r) p) → IsMessageChoice g σ
      → bound_vars b ≡ left_open l e r → Agrees b σ
      → AreEqualFacts (equations g) (instance_facts σ l) left → Takes c.facts ks left rest
      → AreFormsOfFacts (equations g) (instance_facts σ e) acts
      → AreFormsOfFacts (equations g) (instance_facts σ r) right
      → EvaluateWithin g W (facts_terms (instance_facts σ (l ++ (e ++ r))))
      → IsProcessLine g W c es (line.Embedded t ks b) [] acts
      (leaves (becomes c t (Some (with_choice σ (facts_vars (l ++ (e ++ r))) p))) (adds rest right)) es
  -- the adversary makes this name, which nobody has
  names : {c : Config} {es : List Tree} (n : ℕ) → IsUnused c n
      → IsProcessLine g W c es (line.Name n) [] [] (owns c n) (es ++ fresh n ∷ [])
  -- it writes down a public name
  writes : {c : Config} {es : List Tree} (a : List ℕ)
      → IsProcessLine g W c es (line.Public a) [] [] c (es ++ public a ∷ [])
  -- it applies a symbol to the entries with these numbers
  applies : {c : Config} {es : List Tree} (f ks : List ℕ) (ts : List Tree) (x : Tree) → IsPublic g f
      → arity_of g f ≡ Some (length ks)
      → map (slice_get es) ks ≡ map Some ts → IsNormalForm (equations g) (apply f (trees_of ts)) x
      → W x
      → IsProcessLine g W c es (line.Apply f ks) [] [] c (es ++ x ∷ [])
  -- it shows an entry
  knows : {c : Config} {es : List Tree} (k : ℕ) (x : Tree) → slice_get es k ≡ Some x
      → IsProcessLine g W c es (line.Know k) [] (k_fact x ∷ []) c es
