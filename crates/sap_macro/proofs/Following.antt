-- Each step of a process is one of a process that is equal up to names.
use Rattle.std.proofs.Common.{◌≡◌, ℕ, zero, suc, Bool, true, false, List, [], ◌∷◌, ◌++◌, Option, Some, None, slice_get, slice_set, refl, sym, ap, ◌∙◌, subst, ⊎_elim}
use Rattle.std.proofs.lemmas.Bool.{cases_Bool}
use Rattle.std.specs.Prelude.{if◌then◌else◌}
use Rattle.sap_terms.specs.AdversaryFacts.{k_fact}
use Rattle.sap_terms.specs.Choice.{Choice, instance}
use Rattle.sap_terms.specs.Equal.{IsTheoryEqual}
use Rattle.sap_terms.specs.Equations.{equations, app2, pair_name}
use Rattle.sap_terms.specs.Ground.{IsGround, AreGround}
use Rattle.sap_terms.specs.Message.{IsMessageChoice}
use Rattle.sap_terms.specs.Modulo.{instance_facts, IsFormOfFact, AreEqualFacts, AreFormsOfFacts}
use Rattle.sap_terms.specs.Normal.{IsNormalForm}
use Rattle.sap_terms.specs.Piles.{Pile, Takes, adds}
use Rattle.sap_terms.specs.Same.{same_tree}
use Rattle.sap_terms.specs.Signature.{Sig}
use Rattle.sap_terms.specs.Trace.{Trace}
use Rattle.sap_terms.specs.Tree.{Tree, fresh, apply, Trees, more, trees_of, list_of, list_of-trees_of}
use Rattle.sap_terms.specs.Variables.{tree_vars, facts_vars}
use Rattle.sap_terms.specs.declared.fact.Fact.{Fact}
use Rattle.sap_terms.specs.declared.var.Sort.{Sort}
use Rattle.sap_process.specs.Action.{new, out, send, input, receive, event, insert, delete, lock, unlock, embedded}
use Rattle.sap_process.specs.Configuration.{Config, initial, Runs, becomes, spawns, makes, sends_out, stored, stores, holding, leaves, IsUnused, CanGive}
use Rattle.sap_process.specs.Proc.{Proc, nil, parallel, replicated, act, test, lookup}
use Rattle.sap_process.specs.ProcessSteps.{ProcessStep, ends, splits, copies, makes_name, outputs, outputs_on, inputs, inputs_on, meets, agrees, differs, shows, inserts, deletes, finds, misses, locks, unlocks, embeds, adversary_makes, knows, ProcessRun, starts, further, Fits, with_choice, with_term}
use Rattle.sap_macro.specs.AlikeConfigurations.{AlikeThread, both_ended, both_run, AlikeThreads, no_thread, one_thread, HasGroundStore, AreAlikeConfigs}
use Rattle.sap_macro.specs.UpToNames.{named, fact, Pair, pair_of, AreAlikeTerms, both_variable, both_public, both_fresh, both_apply, AreAlikeLists, both_none, both_more, AreAlikePatterns, AreAlikeFacts, facts_end, facts_go_on, both_new, both_out, both_send, both_input, both_receive, both_event, both_insert, both_delete, both_lock, both_unlock, both_embedded, AreAlike, both_nil, both_parallel, both_replicated, both_act, both_test, both_lookup, AreSameUpToNames}
use Rattle.sap_macro.proofs.Choosing.{vars_end, new_var, AreLinked, taken_over, are_linked, chosen_alike, one_instance, one_fact_list, pattern_vars, fact_vars, stay_bound}

-- ---- terms in which nothing is bound

mutual
  same_terms : (t u : Tree) → AreAlikeTerms [] t u → t ≡ u
  same_terms _ _ (both_variable h) = elim h [ ]
  same_terms _ _ both_public = refl
  same_terms _ _ both_fresh = refl
  same_terms _ _ (both_apply {f = f} {ts = ts} {us = us} h) = ap (apply f) (same_lists ts us h)

  same_lists : (ts us : Trees) → AreAlikeLists [] ts us → ts ≡ us
  same_lists _ _ both_none = refl
  same_lists _ _ (both_more {t = t} {u = u} {ts = ts} {us = us} h k) = λ i. more (same_terms t u h i) (same_lists ts us k i)

mutual
  no_names : (t u : Tree) → AreAlikeTerms [] t u → IsGround t
  no_names _ _ (both_variable h) = elim h [ ]
  no_names _ _ both_public = tt
  no_names _ _ both_fresh = tt
  no_names _ _ (both_apply {ts = ts} {us = us} h) = none_named ts us h

  none_named : (ts us : Trees) → AreAlikeLists [] ts us → AreGround ts
  none_named _ _ both_none = tt
  none_named _ _ (both_more {t = t} {u = u} {ts = ts} {us = us} h k) = (no_names t u h, none_named ts us k)

same_args : (ts us : List Tree) → AreAlikeLists [] (trees_of ts) (trees_of us) → ts ≡ us
same_args ts us h = sym (list_of-trees_of ts) ∙ ap list_of (same_lists (trees_of ts) (trees_of us) h) ∙ list_of-trees_of us

join_facts : (ρ ξ ζ : List Pair) (fs hs ks ds : List Fact) → AreAlikeFacts ρ fs hs ξ → AreAlikeFacts ξ ks ds ζ → AreAlikeFacts ρ (fs ++ ks) (hs ++ ds) ζ
join_facts _ _ ζ _ _ ks ds facts_end k = k
join_facts _ ξ ζ _ _ ks ds (facts_go_on {ξ = η} {fs = fs} {hs = hs} h l) k = facts_go_on h (join_facts η ξ ζ fs hs ks ds l k)

-- ---- threads

run_of : (o u : Option Proc) (p : Proc) → AlikeThread o u → o ≡ Some p → (q : Proc) × (u ≡ Some q) × AreAlike [] p q
run_of _ _ p both_ended e = cc
run_of _ _ p (both_run {p = r} {q = q} h) e = let f : r ≡ p = cc in (q, refl, subst (λ z. AreAlike [] z q) f h)

some_is : {X : Type 0} (x y : X) → Some x ≡ Some y → x ≡ y
some_is x y e = cc

found : (os us : List (Option Proc)) → AlikeThreads os us → (t : ℕ) (p : Proc) → slice_get os t ≡ Some (Some p) → (q : Proc) × (slice_get us t ≡ Some (Some q)) × AreAlike [] p q
found _ _ no_thread t p e = cc
found _ _ (one_thread {o = o} {u = u} h l) zero p e = let r = run_of o u p h (some_is o (Some p) e) in (r.0, ap (λ z. Some z) r.1, r.2)
found _ _ (one_thread {os = os} {us = us} h l) (suc t) p e = found os us l t p e

put : (os us : List (Option Proc)) → AlikeThreads os us → (t : ℕ) (o u : Option Proc) → AlikeThread o u → AlikeThreads (slice_set os t o) (slice_set us t u)
put _ _ no_thread t o u h = no_thread
put _ _ (one_thread k l) zero o u h = one_thread h l
put _ _ (one_thread {os = os} {us = us} k l) (suc t) o u h = one_thread k (put os us l t o u h)

pushed : (os us : List (Option Proc)) → AlikeThreads os us → (p q : Proc) → AreAlike [] p q → AlikeThreads (os ++ Some p ∷ []) (us ++ Some q ∷ [])
pushed _ _ no_thread p q h = one_thread (both_run h) no_thread
pushed _ _ (one_thread {os = os} {us = us} k l) p q h = one_thread k (pushed os us l p q h)

-- the same step with other threads, which stay alike
pub record Follows (g : Sig) (c : Config) (us : List (Option Proc)) (label : List Fact) (d : Config) : Type 0 where
  pub threads : List (Option Proc)
  pub step : ProcessStep g (record c { threads = us }) label (record d { threads = threads })
  pub alike : AlikeThreads d.threads threads
  pub ground : HasGroundStore d

module _ (g : Sig) (ground_form : (t n : Tree) → IsGround t → IsNormalForm (equations g) t n → IsGround n)
    (c : Config) (us : List (Option Proc)) (w : AlikeThreads c.threads us) (ground : HasGroundStore c) where
  abbrev other : Config
  other = record c { threads = us }

  -- thread t goes on
  goes_on : (t : ℕ) (p q : Proc) → AreAlike [] p q → AlikeThreads (slice_set c.threads t (Some p)) (slice_set us t (Some q))
  goes_on t p q h = put c.threads us w t (Some p) (Some q) (both_run h)

  form : (m n k : Tree) → AreAlikeTerms [] m n → IsNormalForm (equations g) m k → IsNormalForm (equations g) n k
  form m n k h f = subst (λ z. IsNormalForm (equations g) z k) (same_terms m n h) f

  given : (t : Tree) → CanGive g c t → CanGive g other t
  given t h = record { deducible = h.deducible; normal = h.normal }

  ended : (t : ℕ) (q : Proc) → Runs other t q → AreAlike [] nil q → Follows g c us [] (becomes c t None)
  ended t _ r both_nil = record { threads = slice_set us t None; step = ends t r; alike = put c.threads us w t None None both_ended; ground = ground }

  split : (t : ℕ) (p q u : Proc) → Runs other t u → AreAlike [] (parallel p q) u → Follows g c us [] (spawns (becomes c t (Some p)) q)
  split t p q _ r (both_parallel {a = a} {b = b} h k) =
      record {
        threads = slice_set us t (Some a) ++ Some b ∷ [];
        step = splits t r;
        alike = pushed (slice_set c.threads t (Some p)) (slice_set us t (Some a)) (goes_on t p a h) q b k;
        ground = ground;
      }

  copied : (t : ℕ) (p u : Proc) → Runs other t u → AreAlike [] (replicated p) u → Follows g c us [] (spawns c p)
  copied t p _ r (both_replicated {a = a} h) = record { threads = us ++ Some a ∷ []; step = copies t r; alike = pushed c.threads us w p a h; ground = ground }

  -- one variable is replaced by a ground term
  replaced : (x y : List ℕ) (s : Sort) (p q : Proc) (m : Tree) → IsGround m → AreAlike (pair_of x y ∷ []) p q
      → AreAlike [] (with_term (named x s) m p) (with_term (named y s) m q)
  replaced x y s p q m h k =
      chosen_alike (pair_of x y ∷ []) (named x s ∷ []) (named y s ∷ []) (λ v. m) (λ v. m) (new_var refl refl vars_end) (λ a b z l. refl) (λ v. h) p q k

  made : (t n : ℕ) (x : List ℕ) (s : Sort) (p u : Proc) → Runs other t u → AreAlike [] (act (new (named x s)) p) u → IsUnused c n
      → Follows g c us [] (makes (becomes c t (Some (with_term (named x s) (fresh n) p))) n)
  made t n x s p _ r (both_act (both_new {y = y}) h) i =
      record {
        threads = slice_set us t (Some (with_term (named y s) (fresh n) _));
        step = makes_name t n r i;
        alike = goes_on t (with_term (named x s) (fresh n) p) (with_term (named y s) (fresh n) _) (replaced x y s p _ (fresh n) tt h);
        ground = ground;
      }

  sent : (t : ℕ) (m n : Tree) (p u : Proc) → Runs other t u → AreAlike [] (act (out m) p) u → IsNormalForm (equations g) m n
      → Follows g c us [] (sends_out (becomes c t (Some p)) n)
  sent t m n p _ r (both_act {a = a} (both_out {v = v} h) k) f =
      record { threads = slice_set us t (Some a); step = outputs t r (form m v n h f); alike = goes_on t p a k; ground = ground }

  sent_on : (t : ℕ) (m n k l : Tree) (p u : Proc) → Runs other t u → AreAlike [] (act (send m n) p) u → IsNormalForm (equations g) m k → CanGive g c k
      → IsNormalForm (equations g) n l → Follows g c us (k_fact k ∷ []) (sends_out (becomes c t (Some p)) l)
  sent_on t m n k l p _ r (both_act {a = a} (both_send {v = v} {w = z} h i) j) f e o =
      record { threads = slice_set us t (Some a); step = outputs_on t r (form m v k h f) (given k e) (form n z l i o); alike = goes_on t p a j; ground = ground }

  fitting : (σ : Choice) (ζ : List Pair) (m v x : Tree) → AreAlikePatterns [] m v ζ → Fits g σ m x → Fits g (taken_over ζ σ) v x
  fitting σ ζ m v x h f =
      record {
        messages = λ z. f.messages _;
        equal = subst (λ z. IsTheoryEqual (equations g) z x) (one_instance σ (taken_over ζ σ) [] ζ m v h (are_linked ζ σ)) f.equal;
      }

  -- what a pattern binds is replaced
  bound : (σ : Choice) (ζ : List Pair) (m v : Tree) (p q : Proc) → IsMessageChoice g σ → AreAlikePatterns [] m v ζ → AreAlike ζ p q
      → AreAlike [] (with_choice σ (tree_vars m) p) (with_choice (taken_over ζ σ) (tree_vars v) q)
  bound σ ζ m v p q messages h k =
      chosen_alike ζ (tree_vars m) (tree_vars v) σ (taken_over ζ σ) (pattern_vars [] ζ m v h) (are_linked ζ σ) (λ z. (messages z).ground) p q k

  taken : (t : ℕ) (σ : Choice) (n x : Tree) (p u : Proc) → Runs other t u → AreAlike [] (act (input n) p) u → CanGive g c x → Fits g σ n x
      → Follows g c us (k_fact x ∷ []) (becomes c t (Some (with_choice σ (tree_vars n) p)))
  taken t σ n x p _ r (both_act {ξ = ζ} {a = a} (both_input {v = v} h) k) e f =
      record {
        threads = slice_set us t (Some (with_choice (taken_over ζ σ) (tree_vars v) a));
        step = inputs t (taken_over ζ σ) r (given x e) (fitting σ ζ n v x h f);
        alike = goes_on t (with_choice σ (tree_vars n) p) (with_choice (taken_over ζ σ) (tree_vars v) a) (bound σ ζ n v p a f.messages h k);
        ground = ground;
      }

  taken_on : (t : ℕ) (σ : Choice) (m n x : Tree) (p u : Proc) → Runs other t u → AreAlike [] (act (receive m n) p) u → CanGive g c x → IsMessageChoice g σ
      → IsTheoryEqual (equations g) (app2 pair_name m (instance σ n)) x → Follows g c us (k_fact x ∷ []) (becomes c t (Some (with_choice σ (tree_vars n) p)))
  taken_on t σ m n x p _ r (both_act {ξ = ζ} {a = a} (both_receive {v = v} {w = z} h i) k) e messages f =
      let left = same_terms m v h in
      let right = one_instance σ (taken_over ζ σ) [] ζ n z i (are_linked ζ σ) in
      record {
        threads = slice_set us t (Some (with_choice (taken_over ζ σ) (tree_vars z) a));
        step = inputs_on t (taken_over ζ σ) r (given x e) (λ y. messages _)
            (subst (λ y. IsTheoryEqual (equations g) (app2 pair_name v y) x) right (subst (λ y. IsTheoryEqual (equations g) (app2 pair_name y (instance σ n)) x) left f));
        alike = goes_on t (with_choice σ (tree_vars n) p) (with_choice (taken_over ζ σ) (tree_vars z) a) (bound σ ζ n z p a messages i k);
        ground = ground;
      }

  met : (s t : ℕ) (σ : Choice) (m n l r : Tree) (p q a b : Proc) → Runs other s a → Runs other t b → AreAlike [] (act (send m n) p) a → AreAlike [] (act (receive l r) q) b
      → IsTheoryEqual (equations g) m l → Fits g σ r n → Follows g c us [] (becomes (becomes c s (Some p)) t (Some (with_choice σ (tree_vars r) q)))
  met s t σ m n l r p q _ _ i j (both_act {a = a} (both_send {v = m'} {w = n'} hm hn) k) (both_act {ξ = ζ} {a = b} (both_receive {v = l'} {w = r'} hl hr) o) e f =
      let fits = fitting σ ζ r r' n hr f in
      record {
        threads = slice_set (slice_set us s (Some a)) t (Some (with_choice (taken_over ζ σ) (tree_vars r') b));
        step = meets s t (taken_over ζ σ) i j
            (subst (λ z. IsTheoryEqual (equations g) z l') (same_terms m m' hm) (subst (IsTheoryEqual (equations g) m) (same_terms l l' hl) e))
            (subst (Fits g (taken_over ζ σ) r') (same_terms n n' hn) fits);
        alike = put (slice_set c.threads s (Some p)) (slice_set us s (Some a)) (goes_on s p a k) t (Some (with_choice σ (tree_vars r) q))
            (Some (with_choice (taken_over ζ σ) (tree_vars r') b)) (both_run (bound σ ζ r r' q b f.messages hr o));
        ground = ground;
      }

  agreed : (t : ℕ) (m n : Tree) (p q u : Proc) → Runs other t u → AreAlike [] (test m n p q) u → IsTheoryEqual (equations g) m n
      → Follows g c us [] (becomes c t (Some p))
  agreed t m n p q _ r (both_test {v = v} {w = z} {a = a} h i j k) e =
      record {
        threads = slice_set us t (Some a);
        step = agrees t r (subst (λ y. IsTheoryEqual (equations g) y z) (same_terms m v h) (subst (IsTheoryEqual (equations g) m) (same_terms n z i) e));
        alike = goes_on t p a j;
        ground = ground;
      }

  differed : (t : ℕ) (m n : Tree) (p q u : Proc) → Runs other t u → AreAlike [] (test m n p q) u → ¬ IsTheoryEqual (equations g) m n
      → Follows g c us [] (becomes c t (Some q))
  differed t m n p q _ r (both_test {v = v} {w = z} {b = b} h i j k) e =
      record {
        threads = slice_set us t (Some b);
        step = differs t r (subst (λ y. ¬ IsTheoryEqual (equations g) y z) (same_terms m v h) (subst (λ y. ¬ IsTheoryEqual (equations g) m y) (same_terms n z i) e));
        alike = goes_on t q b k;
        ground = ground;
      }

  shown_fact : (t : ℕ) (n : List ℕ) (b : Bool) (ts : List Tree) (h : Fact) (p u : Proc) → Runs other t u → AreAlike [] (act (event (fact n b ts)) p) u
      → IsFormOfFact (equations g) (fact n b ts) h → Follows g c us (h ∷ []) (becomes c t (Some p))
  shown_fact t n b ts h p _ r (both_act {a = a} (both_event {us = qs} i) k) f =
      record {
        threads = slice_set us t (Some a);
        step = shows t r (subst (λ z. IsFormOfFact (equations g) (fact n b z) h) (same_args ts qs i) f);
        alike = goes_on t p a k;
        ground = ground;
      }

  stored_ground : (x : Tree) (o : Option Tree) → ((v : Tree) → o ≡ Some v → IsGround v) → (k v : Tree) → stored c.store x o k ≡ Some v → IsGround v
  stored_ground x o h k v e =
      ⊎_elim (λ f. h v (sym (ap (λ b. if b then o else c.store k) f) ∙ e)) (λ f. ground k v (sym (ap (λ b. if b then o else c.store k) f) ∙ e)) (cases_Bool (same_tree x k))

  inserted : (t : ℕ) (m n k v : Tree) (p u : Proc) → Runs other t u → AreAlike [] (act (insert m n) p) u → IsNormalForm (equations g) m k
      → IsNormalForm (equations g) n v → Follows g c us [] (stores (becomes c t (Some p)) k (Some v))
  inserted t m n k v p _ r (both_act {a = a} (both_insert {v = y} {w = z} h i) j) e f =
      record {
        threads = slice_set us t (Some a);
        step = inserts t r (form m y k h e) (form n z v i f);
        alike = goes_on t p a j;
        ground = stored_ground k (Some v) (λ x o. subst IsGround (some_is v x o) (ground_form n v (no_names n z i) f));
      }

  deleted : (t : ℕ) (m k : Tree) (p u : Proc) → Runs other t u → AreAlike [] (act (delete m) p) u → IsNormalForm (equations g) m k
      → Follows g c us [] (stores (becomes c t (Some p)) k None)
  deleted t m k p _ r (both_act {a = a} (both_delete {v = y} h) j) e =
      record { threads = slice_set us t (Some a); step = deletes t r (form m y k h e); alike = goes_on t p a j; ground = stored_ground k None (λ x o. cc) }

  looked_up : (t : ℕ) (m k v : Tree) (x : List ℕ) (s : Sort) (p q u : Proc) → Runs other t u → AreAlike [] (lookup m (named x s) p q) u
      → IsNormalForm (equations g) m k → c.store k ≡ Some v → Follows g c us [] (becomes c t (Some (with_term (named x s) v p)))
  looked_up t m k v x s p q _ r (both_lookup {v = z} {y = y} {a = a} h i j) e f =
      record {
        threads = slice_set us t (Some (with_term (named y s) v a));
        step = finds t r (form m z k h e) f;
        alike = goes_on t (with_term (named x s) v p) (with_term (named y s) v a) (replaced x y s p a v (ground k v f) i);
        ground = ground;
      }

  missed : (t : ℕ) (m k : Tree) (x : List ℕ) (s : Sort) (p q u : Proc) → Runs other t u → AreAlike [] (lookup m (named x s) p q) u
      → IsNormalForm (equations g) m k → c.store k ≡ None → Follows g c us [] (becomes c t (Some q))
  missed t m k x s p q _ r (both_lookup {v = z} {b = b} h i j) e f =
      record { threads = slice_set us t (Some b); step = misses t r (form m z k h e) f; alike = goes_on t q b j; ground = ground }

  locked : (t : ℕ) (m k : Tree) (i : ℕ) (p u : Proc) → Runs other t u → AreAlike [] (act (lock m i) p) u → IsNormalForm (equations g) m k
      → c.held k ≡ false → Follows g c us [] (holding (becomes c t (Some p)) k true)
  locked t m k i p _ r (both_act {a = a} (both_lock {v = z} h) j) e f =
      record { threads = slice_set us t (Some a); step = locks t r (form m z k h e) f; alike = goes_on t p a j; ground = ground }

  unlocked : (t : ℕ) (m k : Tree) (i : ℕ) (p u : Proc) → Runs other t u → AreAlike [] (act (unlock m i) p) u → IsNormalForm (equations g) m k
      → Follows g c us [] (holding (becomes c t (Some p)) k false)
  unlocked t m k i p _ r (both_act {a = a} (both_unlock {v = z} h) j) e =
      record { threads = slice_set us t (Some a); step = unlocks t r (form m z k h e); alike = goes_on t p a j; ground = ground }

  -- an embedded rule
  ruled : (t : ℕ) (ks : List ℕ) (σ : Choice) (left acts right l e r : List Fact) (rest : Pile) (p u : Proc) → Runs other t u
      → AreAlike [] (act (embedded l e r) p) u → IsMessageChoice g σ → AreEqualFacts (equations g) (instance_facts σ l) left → Takes c.facts ks left rest
      → AreFormsOfFacts (equations g) (instance_facts σ e) acts → AreFormsOfFacts (equations g) (instance_facts σ r) right
      → Follows g c us acts (leaves (becomes c t (Some (with_choice σ (facts_vars (l ++ (e ++ r))) p))) (adds rest right))
  ruled t ks σ left acts right l e r rest p _ i (both_act {a = a} (both_embedded {ξ = ξ} {ζ = ζ} {η = η} {k = k} {d = d} {q = q} hl he hr) o) messages fl takes fe fr =
      let τ = taken_over η σ in
      let linked = are_linked η σ in
      let linked_right : AreLinked ζ σ τ = λ x y s m. linked x y s (stay_bound ζ η (facts_vars r) (facts_vars q) (fact_vars ζ η r q hr) x y m) in
      let linked_acts : AreLinked ξ σ τ = λ x y s m. linked_right x y s (stay_bound ξ ζ (facts_vars e) (facts_vars d) (fact_vars ξ ζ e d he) x y m) in
      let all = join_facts [] ξ η l k (e ++ r) (d ++ q) hl (join_facts ξ ζ η e d r q he hr) in
      record {
        threads = slice_set us t (Some (with_choice τ (facts_vars (k ++ (d ++ q))) a));
        step = embeds t ks τ left acts right i (λ z. messages _)
            (subst (λ z. AreEqualFacts (equations g) z left) (one_fact_list σ τ [] ξ l k hl linked_acts) fl) takes
            (subst (λ z. AreFormsOfFacts (equations g) z acts) (one_fact_list σ τ ξ ζ e d he linked_right) fe)
            (subst (λ z. AreFormsOfFacts (equations g) z right) (one_fact_list σ τ ζ η r q hr linked) fr);
        alike = goes_on t (with_choice σ (facts_vars (l ++ (e ++ r))) p) (with_choice τ (facts_vars (k ++ (d ++ q))) a)
            (chosen_alike η (facts_vars (l ++ (e ++ r))) (facts_vars (k ++ (d ++ q))) σ τ (fact_vars [] η (l ++ (e ++ r)) (k ++ (d ++ q)) all) linked (λ z. (messages z).ground) p a o);
        ground = ground;
      }

module _ (g : Sig) (ground_form : (t n : Tree) → IsGround t → IsNormalForm (equations g) t n → IsGround n) where
  -- each step is followed
  pub follows : (c d : Config) (label : List Fact) (us : List (Option Proc)) → ProcessStep g c label d → AlikeThreads c.threads us → HasGroundStore c → Follows g c us label d
  follows _ _ _ us (ends {c = c} t r) w s = let f = found c.threads us w t nil r in ended g ground_form c us w s t f.0 f.1 f.2
  follows _ _ _ us (splits {c = c} {p = p} {q = q} t r) w s = let f = found c.threads us w t (parallel p q) r in split g ground_form c us w s t p q f.0 f.1 f.2
  follows _ _ _ us (copies {c = c} {p = p} t r) w s = let f = found c.threads us w t (replicated p) r in copied g ground_form c us w s t p f.0 f.1 f.2
  follows _ _ _ us (makes_name {c = c} {x = x} {p = p} t n r i) w s =
      let f = found c.threads us w t (act (new x) p) r in made g ground_form c us w s t n x.name x.sort p f.0 f.1 f.2 i
  follows _ _ _ us (outputs {c = c} {m = m} {n = n} {p = p} t r i) w s =
      let f = found c.threads us w t (act (out m) p) r in sent g ground_form c us w s t m n p f.0 f.1 f.2 i
  follows _ _ _ us (outputs_on {c = c} {m = m} {n = n} {k = k} {u = u} {p = p} t r i j o) w s =
      let f = found c.threads us w t (act (send m n) p) r in sent_on g ground_form c us w s t m n k u p f.0 f.1 f.2 i j o
  follows _ _ _ us (inputs {c = c} {n = n} {x = x} {p = p} t σ r i j) w s =
      let f = found c.threads us w t (act (input n) p) r in taken g ground_form c us w s t σ n x p f.0 f.1 f.2 i j
  follows _ _ _ us (inputs_on {c = c} {m = m} {n = n} {x = x} {p = p} t σ r i j o) w s =
      let f = found c.threads us w t (act (receive m n) p) r in taken_on g ground_form c us w s t σ m n x p f.0 f.1 f.2 i j o
  follows _ _ _ us (meets {c = c} {m = m} {n = n} {l = l} {r = r} {p = p} {q = q} a t σ h k i j) w s =
      let f = found c.threads us w a (act (send m n) p) h in
      let e = found c.threads us w t (act (receive l r) q) k in
      met g ground_form c us w s a t σ m n l r p q f.0 e.0 f.1 e.1 f.2 e.2 i j
  follows _ _ _ us (agrees {c = c} {m = m} {n = n} {p = p} {q = q} t r i) w s =
      let f = found c.threads us w t (test m n p q) r in agreed g ground_form c us w s t m n p q f.0 f.1 f.2 i
  follows _ _ _ us (differs {c = c} {m = m} {n = n} {p = p} {q = q} t r i) w s =
      let f = found c.threads us w t (test m n p q) r in differed g ground_form c us w s t m n p q f.0 f.1 f.2 i
  follows _ _ _ us (shows {c = c} {f = h} {h = k} {p = p} t r i) w s =
      let f = found c.threads us w t (act (event h) p) r in shown_fact g ground_form c us w s t h.name h.persistent h.args k p f.0 f.1 f.2 i
  follows _ _ _ us (inserts {c = c} {m = m} {n = n} {k = k} {v = v} {p = p} t r i j) w s =
      let f = found c.threads us w t (act (insert m n) p) r in inserted g ground_form c us w s t m n k v p f.0 f.1 f.2 i j
  follows _ _ _ us (deletes {c = c} {m = m} {k = k} {p = p} t r i) w s =
      let f = found c.threads us w t (act (delete m) p) r in deleted g ground_form c us w s t m k p f.0 f.1 f.2 i
  follows _ _ _ us (finds {c = c} {m = m} {k = k} {v = v} {x = x} {p = p} {q = q} t r i j) w s =
      let f = found c.threads us w t (lookup m x p q) r in looked_up g ground_form c us w s t m k v x.name x.sort p q f.0 f.1 f.2 i j
  follows _ _ _ us (misses {c = c} {m = m} {k = k} {x = x} {p = p} {q = q} t r i j) w s =
      let f = found c.threads us w t (lookup m x p q) r in missed g ground_form c us w s t m k x.name x.sort p q f.0 f.1 f.2 i j
  follows _ _ _ us (locks {c = c} {m = m} {k = k} {i = n} {p = p} t r i j) w s =
      let f = found c.threads us w t (act (lock m n) p) r in locked g ground_form c us w s t m k n p f.0 f.1 f.2 i j
  follows _ _ _ us (unlocks {c = c} {m = m} {k = k} {i = n} {p = p} t r i) w s =
      let f = found c.threads us w t (act (unlock m n) p) r in unlocked g ground_form c us w s t m k n p f.0 f.1 f.2 i
  follows _ _ _ us (embeds {c = c} {l = l} {e = e} {r = r} {rest = rest} {p = p} t ks σ left acts right h messages i j k o) w s =
      let f = found c.threads us w t (act (embedded l e r) p) h in
      ruled g ground_form c us w s t ks σ left acts right l e r rest p f.0 f.1 f.2 messages i j k o
  follows _ _ _ us (adversary_makes {c = c} n i) w s = record { threads = us; step = adversary_makes n i; alike = w; ground = s }
  follows _ _ _ us (knows {c = c} x i) w s = record { threads = us; step = knows x (given g ground_form c us w s x i); alike = w; ground = s }

  -- the same run from other threads
  record FollowsRun (c : Config) (us : List (Option Proc)) (tr : Trace) (e : Config) : Type 0 where
    pub threads : List (Option Proc)
    pub run : ProcessRun g (record c { threads = us }) (record e { threads = threads }) tr
    pub alike : AlikeThreads e.threads threads
    pub ground : HasGroundStore e

  follows_run : (c e : Config) (us : List (Option Proc)) (tr : Trace) → AlikeThreads c.threads us → HasGroundStore c → ProcessRun g c e tr → FollowsRun c us tr e
  follows_run c _ us _ w s starts = record { threads = us; run = starts; alike = w; ground = s }
  follows_run c _ us _ w s (further {c = d} {d = e} {tr = tr} {label = label} r i) =
      let before = follows_run c d us tr w s r in
      let later = follows d e label before.threads i before.alike before.ground in
      record { threads = later.threads; run = further before.run later.step; alike = later.alike; ground = later.ground }

  -- each step, and each run, from a configuration that is alike
  pub alike_step : (c d e : Config) (label : List Fact) → AreAlikeConfigs c d → ProcessStep g c label e → (f : Config) × AreAlikeConfigs e f × ProcessStep g d label f
  alike_step c d e label w i =
      let k = follows c e label d.threads i w.threads w.ground in
      let f : Config = record e { threads = k.threads } in
      (f, record { threads = k.alike; else_one = refl; ground = k.ground }, subst (λ z. ProcessStep g z label f) w.else_one k.step)

  pub alike_run : (c d e : Config) (tr : Trace) → AreAlikeConfigs c d → ProcessRun g c e tr → (f : Config) × AreAlikeConfigs e f × ProcessRun g d f tr
  alike_run c d e tr w r =
      let k = follows_run c e d.threads tr w.threads w.ground r in
      let f : Config = record e { threads = k.threads } in
      (f, record { threads = k.alike; else_one = refl; ground = k.ground }, subst (λ z. ProcessRun g z f tr) w.else_one k.run)

-- where processes that are equal up to names begin
pub alike_starts : (p q : Proc) → AreSameUpToNames p q → AreAlikeConfigs (initial p) (initial q)
alike_starts p q h = record { threads = one_thread (both_run h) no_thread; else_one = refl; ground = λ k v e. cc }
