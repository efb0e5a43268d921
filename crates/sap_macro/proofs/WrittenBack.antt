-- Each step of the tree that what is written runs as is a step of what is written, and so is each run.
use Rattle.std.proofs.Common.{◌≡◌, ℕ, zero, suc, true, false, List, [], ◌∷◌, ◌++◌, Option, Some, None, slice_get, slice_set, refl, subst}
use Rattle.sap_terms.specs.AdversaryFacts.{k_fact}
use Rattle.sap_terms.specs.Choice.{Choice, instance}
use Rattle.sap_terms.specs.Equal.{IsTheoryEqual}
use Rattle.sap_terms.specs.Equations.{equations, app2, pair_name}
use Rattle.sap_terms.specs.Ground.{IsGround}
use Rattle.sap_terms.specs.Message.{IsMessageChoice}
use Rattle.sap_terms.specs.Modulo.{instance_facts, IsFormOfFact, AreEqualFacts, AreFormsOfFacts}
use Rattle.sap_terms.specs.Normal.{IsNormalForm}
use Rattle.sap_terms.specs.Piles.{Pile, Takes, adds}
use Rattle.sap_terms.specs.Trace.{Trace}
use Rattle.sap_terms.specs.Tree.{Tree, fresh}
use Rattle.sap_terms.specs.Variables.{is_known, tree_vars, facts_vars}
use Rattle.sap_terms.specs.declared.fact.Fact.{Fact}
use Rattle.sap_terms.specs.declared.var.Var.{Var}
use Rattle.sap_process.specs.Action.{Action, new, out, send, input, receive, event, insert, delete, lock, unlock, embedded}
use Rattle.sap_process.specs.Configuration.{Config, ConfigOf, Runs, initial, becomes, spawns, makes, sends_out, stores, holding, leaves, IsUnused, CanGive}
use Rattle.sap_process.specs.Head as head
use Rattle.sap_process.specs.Head.{Head}
use Rattle.sap_process.specs.Proc as whole
use Rattle.sap_process.specs.Proc.{Proc}
use Rattle.sap_process.specs.ProcessSteps.{ProcessStep, ends, splits, copies, makes_name, outputs, outputs_on, inputs, inputs_on, meets, agrees, differs, shows, inserts, deletes, finds, misses, locks, unlocks, embeds, adversary_makes, knows, ProcessRun, starts, further, IsProcessTrace, Fits, chosen, with_choice, with_term}
use Rattle.sap_macro.specs.AlikeConfigurations.{both_ended, both_run, AlikeThreads, no_thread, one_thread, HasGroundStore}
use Rattle.sap_macro.specs.Expansion.{binding_vars}
use Rattle.sap_macro.specs.Indexed.{defined}
use Rattle.sap_macro.specs.Instances.{written_instance}
use Rattle.sap_macro.specs.Order.{UsesOnly}
use Rattle.sap_macro.specs.UpToNames.{AreAlike}
use Rattle.sap_macro.specs.Written.{Written, act, lookup}
use Rattle.sap_macro.specs.WrittenRuns.{StartsWith, written_of, StandsAs, writing, IsWrittenTrace}
use Rattle.sap_macro.proofs.AlikeSides.{other_threads}
use Rattle.sap_macro.proofs.DefinedNames.{in_both, among_second, uses_both, closed_among_defined}
use Rattle.sap_macro.proofs.Following.{follows}
use Rattle.sap_macro.proofs.RunningTrees.{Setting, tree_of_written, taken_behind, IsReady, RunsAs, head_runs, head_tree, head_tree_is, itself_expanded, left_part, right_part, copied_part, where_equal, where_other, where_missing, behind_plain, bound_rest, found_rest, both_over, both_go, RunAsThreads, no_more, one_more, in_place, spawned, all_then}
use Rattle.sap_macro.proofs.WrittenHeads.{heads_are_there, uses_more}
use Rattle.sap_macro.proofs.Swapped.{other_side}

module _ (S : Setting) (known : (f : List ℕ) → is_known S.names f ≡ true → is_known (defined S.ds) f ≡ true) where
  open S use {names, ds, g, ground_form}

  abbrev RunAsTrees : List (Option Written) → List (Option Proc) → Type 0
  RunAsTrees os us = RunAsThreads S os us

  -- the configuration with what is written as its threads
  abbrev with_written : Config → List (Option Written) → ConfigOf (writing ds)
  with_written c os = record { made = c.made; own = c.own; store = c.store; facts = c.facts; threads = os; frame = c.frame; held = c.held }

  -- ---- each thread's tree is turned into that of its head

  -- what is written starts with a head whose tree is this
  record HasTree (w : Written) (x : Proc) : Type 0 where
    pub top : Head Written
    pub starts : StartsWith ds w top
    pub taken : List (List ℕ)
    pub ready : IsReady S (written_of top) taken
    pub is : x ≡ head_tree S top taken

  record TurnedTree (w : Written) (p : Proc) : Type 0 where
    pub tree : Proc
    pub has : HasTree w tree
    pub alike : AreAlike [] p tree

  turned_tree : (w : Written) (p : Proc) → RunsAs S w p → TurnedTree w p
  turned_tree w p r =
      let h = heads_are_there ds w S.ordered (uses_more names (defined ds) known w r.ready.uses) in
      let at = head_runs S w h.0 p h.1 r in
      record {
        tree = head_tree S h.0 at.taken;
        has = record { top = h.0; starts = h.1; taken = at.taken; ready = at.ready; is = refl };
        alike = subst (λ z. AreAlike [] p z) (head_tree_is S h.0 at.taken) (other_side [] (tree_of_written S (written_of h.0) at.taken) p at.alike);
      }

  data HasTreeThread : Option Written → Option Proc → Type 0 where
    both_gone : HasTreeThread None None
    both_stand : {w : Written} {x : Proc} → HasTree w x → HasTreeThread (Some w) (Some x)

  data HaveTrees : List (Option Written) → List (Option Proc) → Type 0 where
    none_there : HaveTrees [] []
    one_there : {o : Option Written} {u : Option Proc} {os : List (Option Written)} {us : List (Option Proc)} → HasTreeThread o u → HaveTrees os us → HaveTrees (o ∷ os) (u ∷ us)

  record Turned (os : List (Option Written)) (us : List (Option Proc)) : Type 0 where
    pub threads : List (Option Proc)
    pub have : HaveTrees os threads
    pub alike : AlikeThreads us threads

  turned : (os : List (Option Written)) (us : List (Option Proc)) → RunAsTrees os us → Turned os us
  turned _ _ no_more = record { threads = []; have = none_there; alike = no_thread }
  turned _ _ (one_more {os = os} {us = us} both_over l) =
      let rest = turned os us l in
      record { threads = None ∷ rest.threads; have = one_there both_gone rest.have; alike = one_thread both_ended rest.alike }
  turned _ _ (one_more {os = os} {us = us} (both_go {w = w} {p = p} r) l) =
      let here = turned_tree w p r in
      let rest = turned os us l in
      record { threads = Some here.tree ∷ rest.threads; have = one_there (both_stand here.has) rest.have; alike = one_thread (both_run here.alike) rest.alike }

  record HasTreeAt (os : List (Option Written)) (t : ℕ) (x : Proc) : Type 0 where
    pub written : Written
    pub there : slice_get os t ≡ Some (Some written)
    pub has : HasTree written x

  written_at : (os : List (Option Written)) (xs : List (Option Proc)) → HaveTrees os xs → (t : ℕ) (x : Proc) → slice_get xs t ≡ Some (Some x) → HasTreeAt os t x
  written_at _ _ none_there t x e = cc
  written_at _ _ (one_there both_gone l) zero x e = cc
  written_at _ _ (one_there (both_stand {w = w} {x = y} h) l) zero x e =
      let same : y ≡ x = cc in record { written = w; there = refl; has = subst (HasTree w) same h }
  written_at _ _ (one_there {os = os} {us = us} h l) (suc t) x e =
      let later = written_at os us l t x e in record { written = later.written; there = later.there; has = later.has }

  -- ---- what stands at a thread whose tree is that of its head

  module _ (c : Config) (os : List (Option Written)) (have : HaveTrees os c.threads) (runs : RunAsTrees os c.threads) (ground : HasGroundStore c) where
    -- an action and what goes on
    record ActsAt (t : ℕ) (a : Action) (p : Proc) : Type 0 where
      pub rest : Written
      pub stands : StandsAs ds os t (head.act a rest)
      pub taken : List (List ℕ)
      pub ready : IsReady S (act a rest) taken
      pub is : tree_of_written S rest taken ≡ p

    acts_at : (t : ℕ) (a : Action) (p : Proc) → Runs c t (whole.act a p) → ActsAt t a p
    acts_at t a p r = let f = written_at os c.threads have t (whole.act a p) r in by_head f.written f.there f.has.top f.has.starts f.has.taken f.has.ready f.has.is where
      by_head : (w : Written) → slice_get os t ≡ Some (Some w) → (h : Head Written) → StartsWith ds w h → (taken : List (List ℕ)) → IsReady S (written_of h) taken
          → whole.act a p ≡ head_tree S h taken → ActsAt t a p
      by_head w i head.nil s taken k e = cc
      by_head w i (head.parallel x y) s taken k e = cc
      by_head w i (head.replicated x) s taken k e = cc
      by_head w i (head.act b q) s taken k e =
          let same : b ≡ a = cc in
          record {
            rest = q;
            stands = record { process = w; runs = i; head = subst (λ z. StartsWith ds w (head.act z q)) same s };
            taken = taken;
            ready = subst (λ z. IsReady S (act z q) taken) same k;
            is = cc;
          }
      by_head w i (head.test m n x y) s taken k e = cc
      by_head w i (head.lookup m v x y) s taken k e = cc

    -- thread t goes on as this
    goes_on_as : (t : ℕ) (w : Written) (p : Proc) → RunsAs S w p → RunAsTrees (slice_set os t (Some w)) (slice_set c.threads t (Some p))
    goes_on_as t w p r = in_place S os c.threads runs t (Some w) (Some p) (both_go r)

    goes_on : (t : ℕ) (a : Action) (p : Proc) (k : ActsAt t a p) → binding_vars a ≡ [] → RunAsTrees (slice_set os t (Some k.rest)) (slice_set c.threads t (Some p))
    goes_on t a p k nothing = goes_on_as t k.rest p (subst (RunsAs S k.rest) k.is (itself_expanded S k.rest k.taken (behind_plain S a k.rest k.taken nothing k.ready)))

    -- it goes on with what is bound replaced
    bound : (t : ℕ) (a : Action) (p : Proc) (σ : Choice) (k : ActsAt t a p) → ((v : Var) → IsGround (σ v))
        → RunsAs S (written_instance (chosen σ (binding_vars a)) k.rest) (with_choice σ (binding_vars a) p)
    bound t a p σ k messages =
        subst (λ z. RunsAs S (written_instance (chosen σ (binding_vars a)) k.rest) (with_choice σ (binding_vars a) z)) k.is (bound_rest S σ a k.rest k.taken messages k.ready)

    goes_on_bound : (t : ℕ) (a : Action) (p : Proc) (σ : Choice) (k : ActsAt t a p) → ((v : Var) → IsGround (σ v))
        → RunAsTrees (slice_set os t (Some (written_instance (chosen σ (binding_vars a)) k.rest))) (slice_set c.threads t (Some (with_choice σ (binding_vars a) p)))
    goes_on_bound t a p σ k messages = goes_on_as t (written_instance (chosen σ (binding_vars a)) k.rest) (with_choice σ (binding_vars a) p) (bound t a p σ k messages)

    -- two that go on, each as its tree
    record PartsAt (t : ℕ) (two : Written → Written → Head Written) (p q : Proc) : Type 0 where
      pub first : Written
      pub second : Written
      pub stands : StandsAs ds os t (two first second)
      pub runs_first : RunsAs S first p
      pub runs_second : RunsAs S second q

    parallel_at : (t : ℕ) (p q : Proc) → Runs c t (whole.parallel p q) → PartsAt t head.parallel p q
    parallel_at t p q r = let f = written_at os c.threads have t (whole.parallel p q) r in by_head f.written f.there f.has.top f.has.starts f.has.taken f.has.ready f.has.is where
      by_head : (w : Written) → slice_get os t ≡ Some (Some w) → (h : Head Written) → StartsWith ds w h → (taken : List (List ℕ)) → IsReady S (written_of h) taken
          → whole.parallel p q ≡ head_tree S h taken → PartsAt t head.parallel p q
      by_head w i head.nil s taken k e = cc
      by_head w i (head.parallel x y) s taken k e =
          let first : tree_of_written S x taken ≡ p = cc in
          let second : tree_of_written S y (taken_behind S x taken) ≡ q = cc in
          record {
            first = x;
            second = y;
            stands = record { process = w; runs = i; head = s };
            runs_first = subst (RunsAs S x) first (itself_expanded S x taken (left_part S x y taken k));
            runs_second = subst (RunsAs S y) second (itself_expanded S y (taken_behind S x taken) (right_part S x y taken k));
          }
      by_head w i (head.replicated x) s taken k e = cc
      by_head w i (head.act b x) s taken k e = cc
      by_head w i (head.test m n x y) s taken k e = cc
      by_head w i (head.lookup m v x y) s taken k e = cc

    test_at : (t : ℕ) (m n : Tree) (p q : Proc) → Runs c t (whole.test m n p q) → PartsAt t (head.test m n) p q
    test_at t m n p q r = let f = written_at os c.threads have t (whole.test m n p q) r in by_head f.written f.there f.has.top f.has.starts f.has.taken f.has.ready f.has.is where
      by_head : (w : Written) → slice_get os t ≡ Some (Some w) → (h : Head Written) → StartsWith ds w h → (taken : List (List ℕ)) → IsReady S (written_of h) taken
          → whole.test m n p q ≡ head_tree S h taken → PartsAt t (head.test m n) p q
      by_head w i head.nil s taken k e = cc
      by_head w i (head.parallel x y) s taken k e = cc
      by_head w i (head.replicated x) s taken k e = cc
      by_head w i (head.act b x) s taken k e = cc
      by_head w i (head.test l d x y) s taken k e =
          let left : l ≡ m = cc in
          let right : d ≡ n = cc in
          let first : tree_of_written S x taken ≡ p = cc in
          let second : tree_of_written S y (taken_behind S x taken) ≡ q = cc in
          record {
            first = x;
            second = y;
            stands = record { process = w; runs = i; head = subst (λ z. StartsWith ds w (head.test m z x y)) right (subst (λ z. StartsWith ds w (head.test z d x y)) left s) };
            runs_first = subst (RunsAs S x) first (itself_expanded S x taken (where_equal S l d x y taken k));
            runs_second = subst (RunsAs S y) second (itself_expanded S y (taken_behind S x taken) (where_other S l d x y taken k));
          }
      by_head w i (head.lookup l v x y) s taken k e = cc

    -- a look-up: what goes on where a ground value is found, and where none is
    record LooksAt (t : ℕ) (m : Tree) (v : Var) (p q : Proc) : Type 0 where
      pub first : Written
      pub second : Written
      pub stands : StandsAs ds os t (head.lookup m v first second)
      pub found : (y : Tree) → IsGround y → RunsAs S (written_instance (chosen (λ z. y) (v ∷ [])) first) (with_term v y p)
      pub runs_second : RunsAs S second q

    lookup_at : (t : ℕ) (m : Tree) (v : Var) (p q : Proc) → Runs c t (whole.lookup m v p q) → LooksAt t m v p q
    lookup_at t m v p q r = let f = written_at os c.threads have t (whole.lookup m v p q) r in by_head f.written f.there f.has.top f.has.starts f.has.taken f.has.ready f.has.is where
      by_head : (w : Written) → slice_get os t ≡ Some (Some w) → (h : Head Written) → StartsWith ds w h → (taken : List (List ℕ)) → IsReady S (written_of h) taken
          → whole.lookup m v p q ≡ head_tree S h taken → LooksAt t m v p q
      by_head w i head.nil s taken k e = cc
      by_head w i (head.parallel x y) s taken k e = cc
      by_head w i (head.replicated x) s taken k e = cc
      by_head w i (head.act b x) s taken k e = cc
      by_head w i (head.test l d x y) s taken k e = cc
      by_head w i (head.lookup l b x y) s taken k e =
          let key : l ≡ m = cc in
          let name : b ≡ v = cc in
          let first : tree_of_written S x taken ≡ p = cc in
          let second : tree_of_written S y (taken_behind S x taken) ≡ q = cc in
          let ready = subst (λ z. IsReady S (lookup m z x y) taken) name (subst (λ z. IsReady S (lookup z b x y) taken) key k) in
          record {
            first = x;
            second = y;
            stands = record { process = w; runs = i; head = subst (λ z. StartsWith ds w (head.lookup m z x y)) name (subst (λ z. StartsWith ds w (head.lookup z b x y)) key s) };
            found = λ z h. subst (λ a. RunsAs S (written_instance (chosen (λ n. z) (v ∷ [])) x) (with_term v z a)) first (found_rest S m z v x y taken h ready);
            runs_second = subst (RunsAs S y) second (itself_expanded S y (taken_behind S x taken) (where_missing S m v x y taken ready));
          }

    -- a replication
    record CopiesAt (t : ℕ) (p : Proc) : Type 0 where
      pub rest : Written
      pub stands : StandsAs ds os t (head.replicated rest)
      pub runs_rest : RunsAs S rest p

    replicated_at : (t : ℕ) (p : Proc) → Runs c t (whole.replicated p) → CopiesAt t p
    replicated_at t p r = let f = written_at os c.threads have t (whole.replicated p) r in by_head f.written f.there f.has.top f.has.starts f.has.taken f.has.ready f.has.is where
      by_head : (w : Written) → slice_get os t ≡ Some (Some w) → (h : Head Written) → StartsWith ds w h → (taken : List (List ℕ)) → IsReady S (written_of h) taken
          → whole.replicated p ≡ head_tree S h taken → CopiesAt t p
      by_head w i head.nil s taken k e = cc
      by_head w i (head.parallel x y) s taken k e = cc
      by_head w i (head.replicated x) s taken k e =
          let is : tree_of_written S x taken ≡ p = cc in
          record { rest = x; stands = record { process = w; runs = i; head = s }; runs_rest = subst (RunsAs S x) is (itself_expanded S x taken (copied_part S x taken k)) }
      by_head w i (head.act b x) s taken k e = cc
      by_head w i (head.test l d x y) s taken k e = cc
      by_head w i (head.lookup l b x y) s taken k e = cc

    -- nothing more
    nil_at : (t : ℕ) → Runs c t whole.nil → StandsAs ds os t head.nil
    nil_at t r = let f = written_at os c.threads have t whole.nil r in by_head f.written f.there f.has.top f.has.starts f.has.taken f.has.is where
      by_head : (w : Written) → slice_get os t ≡ Some (Some w) → (h : Head Written) → StartsWith ds w h → (taken : List (List ℕ)) → whole.nil ≡ head_tree S h taken → StandsAs ds os t head.nil
      by_head w i head.nil s taken e = record { process = w; runs = i; head = s }
      by_head w i (head.parallel x y) s taken e = cc
      by_head w i (head.replicated x) s taken e = cc
      by_head w i (head.act b x) s taken e = cc
      by_head w i (head.test l d x y) s taken e = cc
      by_head w i (head.lookup l b x y) s taken e = cc

    -- ---- the cases

    -- a step of what is written to where threads run as the trees behind
    record ComesFrom (label : List Fact) (after : Config) : Type 0 where
      pub threads : List (Option Written)
      pub step : ProcessStep g (with_written c os) label (with_written after threads)
      pub running : RunAsTrees threads after.threads

    given : (x : Tree) → CanGive g c x → CanGive g (with_written c os) x
    given x h = record { deducible = h.deducible; normal = h.normal }

    ended : (t : ℕ) → Runs c t whole.nil → ComesFrom [] (becomes c t None)
    ended t r = record { threads = slice_set os t None; step = ends t (nil_at t r); running = in_place S os c.threads runs t None None both_over }

    split : (t : ℕ) (p q : Proc) → Runs c t (whole.parallel p q) → ComesFrom [] (spawns (becomes c t (Some p)) q)
    split t p q r =
        let k = parallel_at t p q r in
        record {
          threads = slice_set os t (Some k.first) ++ Some k.second ∷ [];
          step = splits t k.stands;
          running = spawned S (slice_set os t (Some k.first)) (slice_set c.threads t (Some p)) (goes_on_as t k.first p k.runs_first) k.second q k.runs_second;
        }

    copied : (t : ℕ) (p : Proc) → Runs c t (whole.replicated p) → ComesFrom [] (spawns c p)
    copied t p r =
        let k = replicated_at t p r in
        record { threads = os ++ Some k.rest ∷ []; step = copies t k.stands; running = spawned S os c.threads runs k.rest p k.runs_rest }

    made : (t n : ℕ) (x : Var) (p : Proc) → Runs c t (whole.act (new x) p) → IsUnused c n → ComesFrom [] (makes (becomes c t (Some (with_term x (fresh n) p))) n)
    made t n x p r i =
        let k = acts_at t (new x) p r in
        record {
          threads = slice_set os t (Some (written_instance (chosen (λ z. fresh n) (x ∷ [])) k.rest));
          step = makes_name t n k.stands i;
          running = goes_on_bound t (new x) p (λ z. fresh n) k (λ z. tt);
        }

    sent : (t : ℕ) (m n : Tree) (p : Proc) → Runs c t (whole.act (out m) p) → IsNormalForm (equations g) m n → ComesFrom [] (sends_out (becomes c t (Some p)) n)
    sent t m n p r f =
        let k = acts_at t (out m) p r in
        record { threads = slice_set os t (Some k.rest); step = outputs t k.stands f; running = goes_on t (out m) p k refl }

    sent_on : (t : ℕ) (m n l u : Tree) (p : Proc) → Runs c t (whole.act (send m n) p) → IsNormalForm (equations g) m l → CanGive g c l → IsNormalForm (equations g) n u
        → ComesFrom (k_fact l ∷ []) (sends_out (becomes c t (Some p)) u)
    sent_on t m n l u p r f give o =
        let k = acts_at t (send m n) p r in
        record { threads = slice_set os t (Some k.rest); step = outputs_on t k.stands f (given l give) o; running = goes_on t (send m n) p k refl }

    taken_in : (t : ℕ) (σ : Choice) (n x : Tree) (p : Proc) → Runs c t (whole.act (input n) p) → CanGive g c x → Fits g σ n x
        → ComesFrom (k_fact x ∷ []) (becomes c t (Some (with_choice σ (tree_vars n) p)))
    taken_in t σ n x p r give fits =
        let k = acts_at t (input n) p r in
        record {
          threads = slice_set os t (Some (written_instance (chosen σ (tree_vars n)) k.rest));
          step = inputs t σ k.stands (given x give) fits;
          running = goes_on_bound t (input n) p σ k (λ v. (fits.messages v).ground);
        }

    taken_on : (t : ℕ) (σ : Choice) (m n x : Tree) (p : Proc) → Runs c t (whole.act (receive m n) p) → CanGive g c x → IsMessageChoice g σ
        → IsTheoryEqual (equations g) (app2 pair_name m (instance σ n)) x → ComesFrom (k_fact x ∷ []) (becomes c t (Some (with_choice σ (tree_vars n) p)))
    taken_on t σ m n x p r give messages f =
        let k = acts_at t (receive m n) p r in
        record {
          threads = slice_set os t (Some (written_instance (chosen σ (tree_vars n)) k.rest));
          step = inputs_on t σ k.stands (given x give) messages f;
          running = goes_on_bound t (receive m n) p σ k (λ v. (messages v).ground);
        }

    met : (a t : ℕ) (σ : Choice) (m n l r : Tree) (p q : Proc) → Runs c a (whole.act (send m n) p) → Runs c t (whole.act (receive l r) q) → IsTheoryEqual (equations g) m l
        → Fits g σ r n → ComesFrom [] (becomes (becomes c a (Some p)) t (Some (with_choice σ (tree_vars r) q)))
    met a t σ m n l r p q i j e fits =
        let k = acts_at a (send m n) p i in
        let h = acts_at t (receive l r) q j in
        let next = written_instance (chosen σ (tree_vars r)) h.rest in
        record {
          threads = slice_set (slice_set os a (Some k.rest)) t (Some next);
          step = meets a t σ k.stands h.stands e fits;
          running =
              in_place S (slice_set os a (Some k.rest)) (slice_set c.threads a (Some p)) (goes_on a (send m n) p k refl) t (Some next) (Some (with_choice σ (tree_vars r) q))
              (both_go (bound t (receive l r) q σ h (λ v. (fits.messages v).ground)));
        }

    agreed : (t : ℕ) (m n : Tree) (p q : Proc) → Runs c t (whole.test m n p q) → IsTheoryEqual (equations g) m n → ComesFrom [] (becomes c t (Some p))
    agreed t m n p q r e =
        let k = test_at t m n p q r in
        record { threads = slice_set os t (Some k.first); step = agrees t k.stands e; running = goes_on_as t k.first p k.runs_first }

    differed : (t : ℕ) (m n : Tree) (p q : Proc) → Runs c t (whole.test m n p q) → ¬ IsTheoryEqual (equations g) m n → ComesFrom [] (becomes c t (Some q))
    differed t m n p q r e =
        let k = test_at t m n p q r in
        record { threads = slice_set os t (Some k.second); step = differs t k.stands e; running = goes_on_as t k.second q k.runs_second }

    shown_fact : (t : ℕ) (f h : Fact) (p : Proc) → Runs c t (whole.act (event f) p) → IsFormOfFact (equations g) f h → ComesFrom (h ∷ []) (becomes c t (Some p))
    shown_fact t f h p r i =
        let k = acts_at t (event f) p r in
        record { threads = slice_set os t (Some k.rest); step = shows t k.stands i; running = goes_on t (event f) p k refl }

    inserted : (t : ℕ) (m n l v : Tree) (p : Proc) → Runs c t (whole.act (insert m n) p) → IsNormalForm (equations g) m l → IsNormalForm (equations g) n v
        → ComesFrom [] (stores (becomes c t (Some p)) l (Some v))
    inserted t m n l v p r e f =
        let k = acts_at t (insert m n) p r in
        record { threads = slice_set os t (Some k.rest); step = inserts t k.stands e f; running = goes_on t (insert m n) p k refl }

    deleted : (t : ℕ) (m l : Tree) (p : Proc) → Runs c t (whole.act (delete m) p) → IsNormalForm (equations g) m l → ComesFrom [] (stores (becomes c t (Some p)) l None)
    deleted t m l p r e =
        let k = acts_at t (delete m) p r in
        record { threads = slice_set os t (Some k.rest); step = deletes t k.stands e; running = goes_on t (delete m) p k refl }

    looked_up : (t : ℕ) (m l v : Tree) (x : Var) (p q : Proc) → Runs c t (whole.lookup m x p q) → IsNormalForm (equations g) m l → c.store l ≡ Some v
        → ComesFrom [] (becomes c t (Some (with_term x v p)))
    looked_up t m l v x p q r e f =
        let k = lookup_at t m x p q r in
        let next = written_instance (chosen (λ z. v) (x ∷ [])) k.first in
        record {
          threads = slice_set os t (Some next);
          step = finds t k.stands e f;
          running = goes_on_as t next (with_term x v p) (k.found v (ground l v f));
        }

    missed : (t : ℕ) (m l : Tree) (x : Var) (p q : Proc) → Runs c t (whole.lookup m x p q) → IsNormalForm (equations g) m l → c.store l ≡ None
        → ComesFrom [] (becomes c t (Some q))
    missed t m l x p q r e f =
        let k = lookup_at t m x p q r in
        record { threads = slice_set os t (Some k.second); step = misses t k.stands e f; running = goes_on_as t k.second q k.runs_second }

    locked : (t : ℕ) (m l : Tree) (n : ℕ) (p : Proc) → Runs c t (whole.act (lock m n) p) → IsNormalForm (equations g) m l → c.held l ≡ false
        → ComesFrom [] (holding (becomes c t (Some p)) l true)
    locked t m l n p r e f =
        let k = acts_at t (lock m n) p r in
        record { threads = slice_set os t (Some k.rest); step = locks t k.stands e f; running = goes_on t (lock m n) p k refl }

    unlocked : (t : ℕ) (m l : Tree) (n : ℕ) (p : Proc) → Runs c t (whole.act (unlock m n) p) → IsNormalForm (equations g) m l
        → ComesFrom [] (holding (becomes c t (Some p)) l false)
    unlocked t m l n p r e =
        let k = acts_at t (unlock m n) p r in
        record { threads = slice_set os t (Some k.rest); step = unlocks t k.stands e; running = goes_on t (unlock m n) p k refl }

    ruled : (t : ℕ) (ks : List ℕ) (σ : Choice) (left shown_facts right l e r : List Fact) (rest : Pile) (p : Proc) → Runs c t (whole.act (embedded l e r) p) → IsMessageChoice g σ
        → AreEqualFacts (equations g) (instance_facts σ l) left → Takes c.facts ks left rest → AreFormsOfFacts (equations g) (instance_facts σ e) shown_facts
        → AreFormsOfFacts (equations g) (instance_facts σ r) right
        → ComesFrom shown_facts (leaves (becomes c t (Some (with_choice σ (facts_vars (l ++ (e ++ r))) p))) (adds rest right))
    ruled t ks σ left shown_facts right l e r rest p i messages fl takes fe fr =
        let k = acts_at t (embedded l e r) p i in
        record {
          threads = slice_set os t (Some (written_instance (chosen σ (facts_vars (l ++ (e ++ r)))) k.rest));
          step = embeds t ks σ left shown_facts right k.stands messages fl takes fe fr;
          running = goes_on_bound t (embedded l e r) p σ k (λ v. (messages v).ground);
        }

  -- each step, where the trees are those of heads
  comes_from : (c d : Config) (label : List Fact) (os : List (Option Written)) → ProcessStep g c label d → (have : HaveTrees os c.threads) (running : RunAsTrees os c.threads)
      (ground : HasGroundStore c) → ComesFrom c os have running ground label d
  comes_from _ _ _ os (ends {c = c} t r) w s h = ended c os w s h t r
  comes_from _ _ _ os (splits {c = c} {p = p} {q = q} t r) w s h = split c os w s h t p q r
  comes_from _ _ _ os (copies {c = c} {p = p} t r) w s h = copied c os w s h t p r
  comes_from _ _ _ os (makes_name {c = c} {x = x} {p = p} t n r i) w s h = made c os w s h t n x p r i
  comes_from _ _ _ os (outputs {c = c} {m = m} {n = n} {p = p} t r i) w s h = sent c os w s h t m n p r i
  comes_from _ _ _ os (outputs_on {c = c} {m = m} {n = n} {k = k} {u = u} {p = p} t r i j o) w s h = sent_on c os w s h t m n k u p r i j o
  comes_from _ _ _ os (inputs {c = c} {n = n} {x = x} {p = p} t σ r i j) w s h = taken_in c os w s h t σ n x p r i j
  comes_from _ _ _ os (inputs_on {c = c} {m = m} {n = n} {x = x} {p = p} t σ r i j o) w s h = taken_on c os w s h t σ m n x p r i j o
  comes_from _ _ _ os (meets {c = c} {m = m} {n = n} {l = l} {r = r} {p = p} {q = q} a t σ f k i j) w s h = met c os w s h a t σ m n l r p q f k i j
  comes_from _ _ _ os (agrees {c = c} {m = m} {n = n} {p = p} {q = q} t r i) w s h = agreed c os w s h t m n p q r i
  comes_from _ _ _ os (differs {c = c} {m = m} {n = n} {p = p} {q = q} t r i) w s h = differed c os w s h t m n p q r i
  comes_from _ _ _ os (shows {c = c} {f = f} {h = k} {p = p} t r i) w s h = shown_fact c os w s h t f k p r i
  comes_from _ _ _ os (inserts {c = c} {m = m} {n = n} {k = k} {v = v} {p = p} t r i j) w s h = inserted c os w s h t m n k v p r i j
  comes_from _ _ _ os (deletes {c = c} {m = m} {k = k} {p = p} t r i) w s h = deleted c os w s h t m k p r i
  comes_from _ _ _ os (finds {c = c} {m = m} {k = k} {v = v} {x = x} {p = p} {q = q} t r i j) w s h = looked_up c os w s h t m k v x p q r i j
  comes_from _ _ _ os (misses {c = c} {m = m} {k = k} {x = x} {p = p} {q = q} t r i j) w s h = missed c os w s h t m k x p q r i j
  comes_from _ _ _ os (locks {c = c} {m = m} {k = k} {i = n} {p = p} t r i j) w s h = locked c os w s h t m k n p r i j
  comes_from _ _ _ os (unlocks {c = c} {m = m} {k = k} {i = n} {p = p} t r i) w s h = unlocked c os w s h t m k n p r i
  comes_from _ _ _ os (embeds {c = c} {l = l} {e = e} {r = r} {rest = rest} {p = p} t ks σ left shown_facts right f messages i j k o) w s h =
      ruled c os w s h t ks σ left shown_facts right l e r rest p f messages i j k o
  comes_from _ _ _ os (adversary_makes {c = c} n i) w s h = record { threads = os; step = adversary_makes n i; running = s }
  comes_from _ _ _ os (knows {c = c} x i) w s h = record { threads = os; step = knows x (given c os w s h x i); running = s }

  -- ---- any trees that threads run as

  -- a step of trees is one of what is written, to where threads run as the trees behind
  pub record StepsBack (c : Config) (os : List (Option Written)) (label : List Fact) (d : Config) : Type 0 where
    pub threads : List (Option Written)
    pub step : ProcessStep g (with_written c os) label (with_written d threads)
    pub running : RunAsTrees threads d.threads
    pub ground : HasGroundStore d

  pub steps_back : (c d : Config) (label : List Fact) (os : List (Option Written)) → RunAsTrees os c.threads → HasGroundStore c → ProcessStep g c label d → StepsBack c os label d
  steps_back c d label os r ground step =
      let heads = turned os c.threads r in
      let after = follows g ground_form c d label heads.threads step heads.alike ground in
      let there = record c { threads = heads.threads } in
      let back = comes_from there (record d { threads = after.threads }) label os after.step heads.have (all_then S os c.threads heads.threads r heads.alike) ground in
      record {
        threads = back.threads;
        step = back.step;
        running = all_then S back.threads after.threads d.threads back.running (other_threads d.threads after.threads after.alike);
        ground = after.ground;
      }

  -- a run of the tree is one of what is written
  pub record RunsBack (w : Written) (tr : Trace) (c : Config) : Type 0 where
    pub threads : List (Option Written)
    pub run : ProcessRun g (initial {k = writing ds} w) (with_written c threads) tr
    pub running : RunAsTrees threads c.threads
    pub ground : HasGroundStore c

  pub runs_back : (w : Written) (p : Proc) (tr : Trace) (c : Config) → RunsAs S w p → ProcessRun g (initial p) c tr → RunsBack w tr c
  runs_back w p _ _ h starts = record { threads = Some w ∷ []; run = starts; running = one_more (both_go h) no_more; ground = λ k v e. cc }
  runs_back w p _ _ h (further {c = c} {d = d} {tr = tr} {label = label} r i) =
      let before = runs_back w p tr c h r in
      let later = steps_back c d label before.threads before.running before.ground i in
      record { threads = later.threads; run = further before.run later.step; running = later.running; ground = later.ground }

  traces_back : (w : Written) (p : Proc) (tr : Trace) → RunsAs S w p → IsProcessTrace g p tr → IsWrittenTrace g ds w tr
  traces_back w p tr h t = let r = runs_back w p tr t.0 h t.1 in (with_written t.0 r.threads, r.run)

-- each trace of the expansion is one of what is written, where its names are defined
pub shown_as_written : (S : Setting) (p : Written) (taken : List (List ℕ)) → IsReady S p taken → UsesOnly (defined S.ds) p → (tr : Trace)
    → IsProcessTrace S.g (tree_of_written S p taken) tr → IsWrittenTrace S.g S.ds p tr
shown_as_written S p taken ready uses tr t =
    let among = in_both S.names (defined S.ds) in
    let T : Setting = record S { names = among; all = closed_among_defined S.names S.ds S.ordered S.all } in
    let there : IsReady T p taken = record { closed = ready.closed; uses = uses_both S.names (defined S.ds) p ready.uses uses; own = ready.own } in
    traces_back T (among_second S.names (defined S.ds)) p (tree_of_written S p taken) tr (itself_expanded T p taken there) t
