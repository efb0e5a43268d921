-- Each step of what is written is one of the trees as which its threads run.
use Rattle.std.proofs.Common.{◌≡◌, ℕ, zero, suc, true, false, List, [], ◌∷◌, ◌++◌, Option, Some, None, slice_get, slice_set, refl, sym, ap, ◌∙◌, subst}
use Rattle.sap_terms.specs.AdversaryFacts.{k_fact}
use Rattle.sap_terms.specs.Choice.{Choice, instance}
use Rattle.sap_terms.specs.Equal.{IsTheoryEqual}
use Rattle.sap_terms.specs.Equations.{equations, app2, pair_name}
use Rattle.sap_terms.specs.Ground.{IsGround}
use Rattle.sap_terms.specs.Message.{IsMessageChoice}
use Rattle.sap_terms.specs.Modulo.{instance_facts, IsFormOfFact, AreEqualFacts, AreFormsOfFacts}
use Rattle.sap_terms.specs.Normal.{IsNormalForm}
use Rattle.sap_terms.specs.Piles.{Pile, Takes, adds}
use Rattle.sap_terms.specs.Tree.{Tree, fresh}
use Rattle.sap_terms.specs.declared.fact.Fact.{Fact}
use Rattle.sap_terms.specs.declared.var.Var.{Var}
use Rattle.sap_process.specs.Action.{Action, new, out, send, input, receive, event, insert, delete, lock, unlock, embedded}
use Rattle.sap_process.specs.Configuration.{ConfigOf, becomes, spawns, makes, owns, sends_out, stores, holding, leaves, IsUnused, CanGive}
use Rattle.sap_process.specs.Head as head
use Rattle.sap_process.specs.Head.{Head}
use Rattle.sap_process.specs.Instance.{process_instance}
use Rattle.sap_process.specs.Proc as whole
use Rattle.sap_process.specs.Proc.{Proc}
use Rattle.sap_process.specs.ProcessSteps.{ProcessStep, ends, splits, copies, makes_name, outputs, outputs_on, inputs, inputs_on, meets, agrees, differs, shows, inserts, deletes, finds, misses, locks, unlocks, embeds, adversary_makes, knows, Fits, chosen}
use Rattle.sap_macro.specs.AlikeConfigurations.{AlikeThreads}
use Rattle.sap_macro.specs.Expansion.{binding_vars}
use Rattle.sap_macro.specs.Instances.{written_instance}
use Rattle.sap_macro.specs.UpToNames.{AreAlike, both_act, both_send}
use Rattle.sap_macro.specs.Written.{Written}
use Rattle.sap_macro.specs.WrittenRuns.{StandsAs, writing}
use Rattle.sap_macro.proofs.Following.{follows}
use Rattle.sap_macro.proofs.RunningTrees.{Setting, tree_of_written, taken_behind, head_tree, itself_expanded, left_part, right_part, copied_part, where_equal, where_other, where_missing, behind_plain, bound_rest, found_rest, RunsAsThread, both_over, both_go, RunAsThreads, alike_threads, with_other, other_with, stands_there, in_place, spawned, all_then, with_trees, Running, Found, found_head, turned_alike}
use Rattle.sap_macro.proofs.Swapped.{other_side}

-- a thread keeps its tree where another one's is replaced
keeps_tree : (us : List (Option Proc)) (s t : ℕ) (x : Option (Option Proc)) (o : Option Proc) → ¬ (s ≡ t) → slice_get us s ≡ x → slice_get (slice_set us t o) s ≡ x
keeps_tree [] s t x o n e = e
keeps_tree (u ∷ us) zero zero x o n e = absurd (n refl)
keeps_tree (u ∷ us) zero (suc t) x o n e = e
keeps_tree (u ∷ us) (suc s) zero x o n e = e
keeps_tree (u ∷ us) (suc s) (suc t) x o n e = keeps_tree us s t x o (λ f. n (ap suc f)) e

-- no tree both sends and receives
not_both : (m n l r : Tree) (p q z : Proc) → AreAlike [] (whole.act (send m n) p) z → AreAlike [] (whole.act (receive l r) q) z → ⊥
not_both m n l r p q _ (both_act (both_send h k) j) (both_act i o) = elim i [ ]

one_inside : {X : Type 0} (x y : X) → Some (Some x) ≡ Some (Some y) → x ≡ y
one_inside x y e = cc

module _ (S : Setting) (R : Running S) where
  open S use {ds, g, ground_form}
  open R use {config, trees, run_as, stored}

  -- a step of the trees to where the threads run as trees
  pub record GoesOn (label : List Fact) (d : ConfigOf (writing ds)) : Type 0 where
    pub threads : List (Option Proc)
    pub step : ProcessStep g (with_trees S config trees) label (with_trees S d threads)
    pub running : RunAsThreads S d.threads threads
    pub ground : (k v : Tree) → d.store k ≡ Some v → IsGround v

  -- a step of trees that are equal to them up to names
  carried : (xs : List (Option Proc)) → AlikeThreads xs trees → (d : ConfigOf (writing ds)) (label : List Fact) (ys : List (Option Proc)) → RunAsThreads S d.threads ys
      → ProcessStep g (with_trees S config xs) label (with_trees S d ys) → GoesOn label d
  carried xs same d label ys r step =
      let after = follows g ground_form (with_trees S config xs) (with_trees S d ys) label trees step same stored in
      record { threads = after.threads; step = after.step; running = all_then S d.threads ys after.threads r after.alike; ground = after.ground }

  -- ---- the tree of thread t is turned into that of its head

  selves : AlikeThreads trees trees
  selves = alike_threads S config.threads trees run_as

  module _ (t : ℕ) (h : Head Written) (at : Found S R t h) where
    abbrev form : Proc
    form = head_tree S h at.runs.taken

    abbrev turned : List (Option Proc)
    turned = slice_set trees t (Some form)

    turned_same : AlikeThreads turned trees
    turned_same = with_other S trees trees selves t at.tree form at.there (turned_alike S R t h at)

    turned_there : slice_get turned t ≡ Some (Some form)
    turned_there = stands_there S trees t at.tree form at.there

    turned_run : RunAsThreads S config.threads turned
    turned_run = all_then S config.threads trees turned run_as (other_with S trees trees selves t at.tree form at.there (other_side [] form at.tree (turned_alike S R t h at)))

    -- the thread goes on as this
    placed : (o : Option Written) (u : Option Proc) → RunsAsThread S o u → RunAsThreads S (slice_set config.threads t o) (slice_set turned t u)
    placed o u r = in_place S config.threads turned turned_run t o u r

    -- a step of this thread alone
    stepped : (d : ConfigOf (writing ds)) (label : List Fact) (o : Option Written) (u : Option Proc) → RunsAsThread S o u → slice_set config.threads t o ≡ d.threads
        → ProcessStep g (with_trees S config turned) label (with_trees S d (slice_set turned t u)) → GoesOn label d
    stepped d label o u r e step = carried turned turned_same d label (slice_set turned t u) (subst (λ os. RunAsThreads S os (slice_set turned t u)) e (placed o u r)) step

  -- ---- the cases

  ended : (t : ℕ) → StandsAs ds config.threads t head.nil → GoesOn [] (becomes config t None)
  ended t s =
      let h = head.nil in
      let at = found_head S R t h s in
      stepped t h at (becomes config t None) [] None None both_over refl (ends t (turned_there t h at))

  split_up : (t : ℕ) (p q : Written) → StandsAs ds config.threads t (head.parallel p q) → GoesOn [] (spawns (becomes config t (Some p)) q)
  split_up t p q s =
      let h = head.parallel p q in
      let at = found_head S R t h s in
      let taken = at.runs.taken in
      let first = itself_expanded S p taken (left_part S p q taken at.runs.ready) in
      let second = itself_expanded S q (taken_behind S p taken) (right_part S p q taken at.runs.ready) in
      let now = tree_of_written S p taken in
      let then = tree_of_written S q (taken_behind S p taken) in
      carried (turned t h at) (turned_same t h at) (spawns (becomes config t (Some p)) q) [] (slice_set (turned t h at) t (Some now) ++ Some then ∷ [])
      (spawned S (slice_set config.threads t (Some p)) (slice_set (turned t h at) t (Some now)) (placed t h at (Some p) (Some now) (both_go first)) q then second)
      (splits t (turned_there t h at))

  -- a replication stays as it is written, also where it is that of a use
  copied : (t : ℕ) (q : Written) → StandsAs ds config.threads t (head.replicated q) → GoesOn [] (spawns config q)
  copied t q s =
      let h = head.replicated q in
      let at = found_head S R t h s in
      let taken = at.runs.taken in
      let rest = tree_of_written S q taken in
      carried (turned t h at) (turned_same t h at) (spawns config q) [] (turned t h at ++ Some rest ∷ [])
      (spawned S config.threads (turned t h at) (turned_run t h at) q rest (itself_expanded S q taken (copied_part S q taken at.runs.ready)))
      (copies t (turned_there t h at))

  -- the actions that bind nothing
  plain : (a : Action) (t : ℕ) (q : Written) → binding_vars a ≡ [] → (at : Found S R t (head.act a q)) → RunsAsThread S (Some q) (Some (tree_of_written S q at.runs.taken))
  plain a t q e at = both_go (itself_expanded S q at.runs.taken (behind_plain S a q at.runs.taken e at.runs.ready))

  sent_out : (t : ℕ) (m n : Tree) (q : Written) → StandsAs ds config.threads t (head.act (out m) q) → IsNormalForm (equations g) m n → GoesOn [] (sends_out (becomes config t (Some q)) n)
  sent_out t m n q s f =
      let h = head.act (out m) q in
      let at = found_head S R t h s in
      stepped t h at (sends_out (becomes config t (Some q)) n) [] (Some q) (Some (tree_of_written S q at.runs.taken)) (plain (out m) t q refl at) refl
      (outputs t (turned_there t h at) f)

  sent_on : (t : ℕ) (m n k u : Tree) (q : Written) → StandsAs ds config.threads t (head.act (send m n) q) → IsNormalForm (equations g) m k → CanGive g config k → IsNormalForm (equations g) n u
      → GoesOn (k_fact k ∷ []) (sends_out (becomes config t (Some q)) u)
  sent_on t m n k u q s e give f =
      let h = head.act (send m n) q in
      let at = found_head S R t h s in
      stepped t h at (sends_out (becomes config t (Some q)) u) (k_fact k ∷ []) (Some q) (Some (tree_of_written S q at.runs.taken)) (plain (send m n) t q refl at) refl
      (outputs_on t (turned_there t h at) e (record { deducible = give.deducible; normal = give.normal }) f)

  shown_fact : (t : ℕ) (f k : Fact) (q : Written) → StandsAs ds config.threads t (head.act (event f) q) → IsFormOfFact (equations g) f k → GoesOn (k ∷ []) (becomes config t (Some q))
  shown_fact t f k q s e =
      let h = head.act (event f) q in
      let at = found_head S R t h s in
      stepped t h at (becomes config t (Some q)) (k ∷ []) (Some q) (Some (tree_of_written S q at.runs.taken)) (plain (event f) t q refl at) refl
      (shows t (turned_there t h at) e)

  inserted : (t : ℕ) (m n k v : Tree) (q : Written) → StandsAs ds config.threads t (head.act (insert m n) q) → IsNormalForm (equations g) m k → IsNormalForm (equations g) n v
      → GoesOn [] (stores (becomes config t (Some q)) k (Some v))
  inserted t m n k v q s e f =
      let h = head.act (insert m n) q in
      let at = found_head S R t h s in
      stepped t h at (stores (becomes config t (Some q)) k (Some v)) [] (Some q) (Some (tree_of_written S q at.runs.taken)) (plain (insert m n) t q refl at) refl
      (inserts t (turned_there t h at) e f)

  deleted : (t : ℕ) (m k : Tree) (q : Written) → StandsAs ds config.threads t (head.act (delete m) q) → IsNormalForm (equations g) m k
      → GoesOn [] (stores (becomes config t (Some q)) k None)
  deleted t m k q s e =
      let h = head.act (delete m) q in
      let at = found_head S R t h s in
      stepped t h at (stores (becomes config t (Some q)) k None) [] (Some q) (Some (tree_of_written S q at.runs.taken)) (plain (delete m) t q refl at) refl
      (deletes t (turned_there t h at) e)

  locked : (t : ℕ) (m k : Tree) (i : ℕ) (q : Written) → StandsAs ds config.threads t (head.act (lock m i) q) → IsNormalForm (equations g) m k → config.held k ≡ false
      → GoesOn [] (holding (becomes config t (Some q)) k true)
  locked t m k i q s e f =
      let h = head.act (lock m i) q in
      let at = found_head S R t h s in
      stepped t h at (holding (becomes config t (Some q)) k true) [] (Some q) (Some (tree_of_written S q at.runs.taken)) (plain (lock m i) t q refl at) refl
      (locks t (turned_there t h at) e f)

  unlocked : (t : ℕ) (m k : Tree) (i : ℕ) (q : Written) → StandsAs ds config.threads t (head.act (unlock m i) q) → IsNormalForm (equations g) m k
      → GoesOn [] (holding (becomes config t (Some q)) k false)
  unlocked t m k i q s e =
      let h = head.act (unlock m i) q in
      let at = found_head S R t h s in
      stepped t h at (holding (becomes config t (Some q)) k false) [] (Some q) (Some (tree_of_written S q at.runs.taken)) (plain (unlock m i) t q refl at) refl
      (unlocks t (turned_there t h at) e)

  -- the actions that bind: what they bind is replaced
  abbrev instead : Choice → Action → Written → Written
  instead σ a q = written_instance (chosen σ (binding_vars a)) q

  abbrev instead_tree : (σ : Choice) (a : Action) (t : ℕ) (q : Written) → Found S R t (head.act a q) → Proc
  instead_tree σ a t q at = process_instance (chosen σ (binding_vars a)) (tree_of_written S q at.runs.taken)

  bound : (σ : Choice) (a : Action) (t : ℕ) (q : Written) → ((v : Var) → IsGround (σ v)) → (at : Found S R t (head.act a q))
      → RunsAsThread S (Some (instead σ a q)) (Some (instead_tree σ a t q at))
  bound σ a t q ground at = both_go (bound_rest S σ a q at.runs.taken ground at.runs.ready)

  made : (t n : ℕ) (v : Var) (q : Written) → StandsAs ds config.threads t (head.act (new v) q) → IsUnused config n
      → GoesOn [] (makes (becomes config t (Some (instead (λ z. fresh n) (new v) q))) n)
  made t n v q s i =
      let h = head.act (new v) q in
      let at = found_head S R t h s in
      let σ : Choice = λ z. fresh n in
      stepped t h at (makes (becomes config t (Some (instead σ (new v) q))) n) [] (Some (instead σ (new v) q)) (Some (instead_tree σ (new v) t q at)) (bound σ (new v) t q (λ z. tt) at) refl
      (makes_name t n (turned_there t h at) i)

  taken_in : (t : ℕ) (σ : Choice) (n y : Tree) (q : Written) → StandsAs ds config.threads t (head.act (input n) q) → CanGive g config y → Fits g σ n y
      → GoesOn (k_fact y ∷ []) (becomes config t (Some (instead σ (input n) q)))
  taken_in t σ n y q s give fits =
      let h = head.act (input n) q in
      let at = found_head S R t h s in
      stepped t h at (becomes config t (Some (instead σ (input n) q))) (k_fact y ∷ []) (Some (instead σ (input n) q)) (Some (instead_tree σ (input n) t q at))
      (bound σ (input n) t q (λ v. (fits.messages v).ground) at) refl
      (inputs t σ (turned_there t h at) (record { deducible = give.deducible; normal = give.normal }) fits)

  taken_on : (t : ℕ) (σ : Choice) (m n y : Tree) (q : Written) → StandsAs ds config.threads t (head.act (receive m n) q) → CanGive g config y → IsMessageChoice g σ
      → IsTheoryEqual (equations g) (app2 pair_name m (instance σ n)) y → GoesOn (k_fact y ∷ []) (becomes config t (Some (instead σ (receive m n) q)))
  taken_on t σ m n y q s give messages e =
      let h = head.act (receive m n) q in
      let at = found_head S R t h s in
      stepped t h at (becomes config t (Some (instead σ (receive m n) q))) (k_fact y ∷ []) (Some (instead σ (receive m n) q)) (Some (instead_tree σ (receive m n) t q at))
      (bound σ (receive m n) t q (λ v. (messages v).ground) at) refl
      (inputs_on t σ (turned_there t h at) (record { deducible = give.deducible; normal = give.normal }) messages e)

  ruled : (t : ℕ) (ks : List ℕ) (σ : Choice) (left acts right l e r : List Fact) (rest : Pile) (q : Written) → StandsAs ds config.threads t (head.act (embedded l e r) q)
      → IsMessageChoice g σ → AreEqualFacts (equations g) (instance_facts σ l) left → Takes config.facts ks left rest → AreFormsOfFacts (equations g) (instance_facts σ e) acts
      → AreFormsOfFacts (equations g) (instance_facts σ r) right → GoesOn acts (leaves (becomes config t (Some (instead σ (embedded l e r) q))) (adds rest right))
  ruled t ks σ left acts right l e r rest q s messages fl takes fe fr =
      let h = head.act (embedded l e r) q in
      let at = found_head S R t h s in
      stepped t h at (leaves (becomes config t (Some (instead σ (embedded l e r) q))) (adds rest right)) acts (Some (instead σ (embedded l e r) q)) (Some (instead_tree σ (embedded l e r) t q at))
      (bound σ (embedded l e r) t q (λ v. (messages v).ground) at) refl
      (embeds t ks σ left acts right (turned_there t h at) messages fl takes fe fr)

  agreed : (t : ℕ) (m n : Tree) (p q : Written) → StandsAs ds config.threads t (head.test m n p q) → IsTheoryEqual (equations g) m n → GoesOn [] (becomes config t (Some p))
  agreed t m n p q s e =
      let h = head.test m n p q in
      let at = found_head S R t h s in
      let taken = at.runs.taken in
      stepped t h at (becomes config t (Some p)) [] (Some p) (Some (tree_of_written S p taken)) (both_go (itself_expanded S p taken (where_equal S m n p q taken at.runs.ready))) refl
      (agrees t (turned_there t h at) e)

  differed : (t : ℕ) (m n : Tree) (p q : Written) → StandsAs ds config.threads t (head.test m n p q) → ¬ IsTheoryEqual (equations g) m n → GoesOn [] (becomes config t (Some q))
  differed t m n p q s e =
      let h = head.test m n p q in
      let at = found_head S R t h s in
      let taken = at.runs.taken in
      let wide = taken_behind S p taken in
      stepped t h at (becomes config t (Some q)) [] (Some q) (Some (tree_of_written S q wide)) (both_go (itself_expanded S q wide (where_other S m n p q taken at.runs.ready))) refl
      (differs t (turned_there t h at) e)

  looked_up : (t : ℕ) (m k y : Tree) (v : Var) (p q : Written) → StandsAs ds config.threads t (head.lookup m v p q) → IsNormalForm (equations g) m k → config.store k ≡ Some y
      → GoesOn [] (becomes config t (Some (written_instance (chosen (λ z. y) (v ∷ [])) p)))
  looked_up t m k y v p q s f e =
      let h = head.lookup m v p q in
      let at = found_head S R t h s in
      let taken = at.runs.taken in
      let next = written_instance (chosen (λ z. y) (v ∷ [])) p in
      stepped t h at (becomes config t (Some next)) [] (Some next) (Some (process_instance (chosen (λ z. y) (v ∷ [])) (tree_of_written S p taken)))
      (both_go (found_rest S m y v p q taken (stored k y e) at.runs.ready)) refl
      (finds t (turned_there t h at) f e)

  missed : (t : ℕ) (m k : Tree) (v : Var) (p q : Written) → StandsAs ds config.threads t (head.lookup m v p q) → IsNormalForm (equations g) m k → config.store k ≡ None
      → GoesOn [] (becomes config t (Some q))
  missed t m k v p q s f e =
      let h = head.lookup m v p q in
      let at = found_head S R t h s in
      let taken = at.runs.taken in
      let wide = taken_behind S p taken in
      stepped t h at (becomes config t (Some q)) [] (Some q) (Some (tree_of_written S q wide)) (both_go (itself_expanded S q wide (where_missing S m v p q taken at.runs.ready))) refl
      (misses t (turned_there t h at) f e)

  -- two threads: the tree of the one is turned after that of the other
  met : (s t : ℕ) (σ : Choice) (m n l r : Tree) (p q : Written) → StandsAs ds config.threads s (head.act (send m n) p) → StandsAs ds config.threads t (head.act (receive l r) q)
      → IsTheoryEqual (equations g) m l → Fits g σ r n → GoesOn [] (becomes (becomes config s (Some p)) t (Some (instead σ (receive l r) q)))
  met s t σ m n l r p q there here e fits =
      let h = head.act (send m n) p in
      let k = head.act (receive l r) q in
      let at = found_head S R s h there in
      let to = found_head S R t k here in
      let x = form s h at in
      let y = form t k to in
      let sender = turned_alike S R s h at in
      let receiver = turned_alike S R t k to in
      let two : ¬ (s ≡ t) =
      λ f. not_both m n l r (tree_of_written S p at.runs.taken) (tree_of_written S q to.runs.taken) at.tree sender
      (subst (λ z. AreAlike [] y z) (one_inside to.tree at.tree (sym to.there ∙ ap (λ i. slice_get trees i) (sym f) ∙ at.there)) receiver) in
      let one = turned s h at in
      let xs = slice_set one t (Some y) in
      let in_one : slice_get one t ≡ Some (Some to.tree) = keeps_tree trees t s (Some (Some to.tree)) (Some x) (λ f. two (sym f)) to.there in
      let same : AlikeThreads xs trees = with_other S one trees (turned_same s h at) t to.tree y to.there receiver in
      let now : RunAsThreads S config.threads xs =
      all_then S config.threads one xs (turned_run s h at) (other_with S one one (alike_threads S config.threads one (turned_run s h at)) t to.tree y in_one (other_side [] y to.tree receiver)) in
      let left = tree_of_written S p at.runs.taken in
      let right = instead_tree σ (receive l r) t q to in
      let goes = itself_expanded S p at.runs.taken (behind_plain S (send m n) p at.runs.taken refl at.runs.ready) in
      carried xs same (becomes (becomes config s (Some p)) t (Some (instead σ (receive l r) q))) [] (slice_set (slice_set xs s (Some left)) t (Some right))
      (in_place S (slice_set config.threads s (Some p)) (slice_set xs s (Some left)) (in_place S config.threads xs now s (Some p) (Some left) (both_go goes)) t
      (Some (instead σ (receive l r) q)) (Some right) (bound σ (receive l r) t q (λ v. (fits.messages v).ground) to))
      (meets s t σ (keeps_tree one s t (Some (Some x)) (Some y) two (turned_there s h at)) (stands_there S one t to.tree y in_one) e fits)

  made_outside : (n : ℕ) → IsUnused config n → GoesOn [] (owns config n)
  made_outside n i = record { threads = trees; step = adversary_makes n i; running = run_as; ground = stored }

  known : (x : Tree) → CanGive g config x → GoesOn (k_fact x ∷ []) config
  known x give = record { threads = trees; step = knows x (record { deducible = give.deducible; normal = give.normal }); running = run_as; ground = stored }

module _ (S : Setting) where
  open S use {ds, g}

  abbrev point : (c : ConfigOf (writing ds)) (us : List (Option Proc)) → RunAsThreads S c.threads us → ((k v : Tree) → c.store k ≡ Some v → IsGround v) → Running S
  point c us w ground = record { config = c; trees = us; run_as = w; stored = ground }

  -- each step of what is written is one of the trees
  pub goes_forward : (c d : ConfigOf (writing ds)) (label : List Fact) → ProcessStep g c label d → (us : List (Option Proc)) (w : RunAsThreads S c.threads us)
      (ground : (k v : Tree) → c.store k ≡ Some v → IsGround v) → GoesOn S (record { config = c; trees = us; run_as = w; stored = ground }) label d
  goes_forward _ _ _ (ends {c = c} t r) us w s = ended S (point c us w s) t r
  goes_forward _ _ _ (splits {c = c} {p = p} {q = q} t r) us w s = split_up S (point c us w s) t p q r
  goes_forward _ _ _ (copies {c = c} {p = p} t r) us w s = copied S (point c us w s) t p r
  goes_forward _ _ _ (makes_name {c = c} {x = x} {p = p} t n r i) us w s = made S (point c us w s) t n x p r i
  goes_forward _ _ _ (outputs {c = c} {m = m} {n = n} {p = p} t r i) us w s = sent_out S (point c us w s) t m n p r i
  goes_forward _ _ _ (outputs_on {c = c} {m = m} {n = n} {k = k} {u = u} {p = p} t r i j o) us w s = sent_on S (point c us w s) t m n k u p r i j o
  goes_forward _ _ _ (inputs {c = c} {n = n} {x = x} {p = p} t σ r i j) us w s = taken_in S (point c us w s) t σ n x p r i j
  goes_forward _ _ _ (inputs_on {c = c} {m = m} {n = n} {x = x} {p = p} t σ r i j o) us w s = taken_on S (point c us w s) t σ m n x p r i j o
  goes_forward _ _ _ (meets {c = c} {m = m} {n = n} {l = l} {r = r} {p = p} {q = q} a t σ h k i j) us w s = met S (point c us w s) a t σ m n l r p q h k i j
  goes_forward _ _ _ (agrees {c = c} {m = m} {n = n} {p = p} {q = q} t r i) us w s = agreed S (point c us w s) t m n p q r i
  goes_forward _ _ _ (differs {c = c} {m = m} {n = n} {p = p} {q = q} t r i) us w s = differed S (point c us w s) t m n p q r i
  goes_forward _ _ _ (shows {c = c} {f = f} {h = k} {p = p} t r i) us w s = shown_fact S (point c us w s) t f k p r i
  goes_forward _ _ _ (inserts {c = c} {m = m} {n = n} {k = k} {v = v} {p = p} t r i j) us w s = inserted S (point c us w s) t m n k v p r i j
  goes_forward _ _ _ (deletes {c = c} {m = m} {k = k} {p = p} t r i) us w s = deleted S (point c us w s) t m k p r i
  goes_forward _ _ _ (finds {c = c} {m = m} {k = k} {v = v} {x = x} {p = p} {q = q} t r i j) us w s = looked_up S (point c us w s) t m k v x p q r i j
  goes_forward _ _ _ (misses {c = c} {m = m} {k = k} {x = x} {p = p} {q = q} t r i j) us w s = missed S (point c us w s) t m k x p q r i j
  goes_forward _ _ _ (locks {c = c} {m = m} {k = k} {i = n} {p = p} t r i j) us w s = locked S (point c us w s) t m k n p r i j
  goes_forward _ _ _ (unlocks {c = c} {m = m} {k = k} {i = n} {p = p} t r i) us w s = unlocked S (point c us w s) t m k n p r i
  goes_forward _ _ _ (embeds {c = c} {l = l} {e = e} {r = r} {rest = rest} {p = p} t ks σ left acts right h messages i j k o) us w s =
      ruled S (point c us w s) t ks σ left acts right l e r rest p h messages i j k o
  goes_forward _ _ _ (adversary_makes {c = c} n i) us w s = made_outside S (point c us w s) n i
  goes_forward _ _ _ (knows {c = c} x i) us w s = known S (point c us w s) x i
