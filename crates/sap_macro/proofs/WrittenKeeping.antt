-- What holds of each process that runs, and what no run shows where it holds.
use Rattle.std.proofs.Common.{◌≡◌, ℕ, zero, suc, List, [], ◌∷◌, ◌++◌, Option, Some, None, slice_get, slice_set, sym, subst, inl, inr}
use Rattle.std.specs.Prelude.{Contains}
use Rattle.std.proofs.lemmas.List.{append_assoc, append-nil}
use Rattle.sap_terms.specs.AdversaryFacts.{k_fact}
use Rattle.sap_terms.specs.Choice.{Choice}
use Rattle.sap_terms.specs.Equal.{IsTheoryEqual}
use Rattle.sap_terms.specs.Equations.{equations}
use Rattle.sap_terms.specs.Modulo.{IsFormOfFact}
use Rattle.sap_terms.specs.Signature.{Sig}
use Rattle.sap_terms.specs.Trace.{Trace, shown}
use Rattle.sap_terms.specs.Tree.{Tree, fresh}
use Rattle.sap_terms.specs.Variables.{tree_vars}
use Rattle.sap_terms.specs.declared.fact.Fact.{Fact}
use Rattle.sap_process.specs.Action.{Action, new, out, send, input, receive, event, insert, delete, lock, unlock, embedded}
use Rattle.sap_process.specs.Configuration.{ConfigOf, initial}
use Rattle.sap_process.specs.Head as head
use Rattle.sap_process.specs.Head.{Head}
use Rattle.sap_process.specs.ProcessSteps.{ProcessStep, ProcessRun, Fits, behind_choice, behind_term, ends, splits, copies, makes_name, outputs, outputs_on, inputs, inputs_on, meets, agrees, differs, shows, inserts, deletes, finds, misses, locks, unlocks, embeds, adversary_makes, knows, starts, further}
use Rattle.sap_macro.specs.Written.{Written, Definition}
use Rattle.sap_macro.specs.WrittenRuns.{StartsWith, StandsAs, IsWrittenTrace, writing}
use Rattle.sap_terms.proofs.PlainLaws.Items.{cons_cases, none_contained}

-- Q holds of a process where this was shown and these names were made; Bad is what isn't to be shown behind a trace
module _ (g : Sig) (ds : List Definition) (Q : Trace → List ℕ → Written → Type 0) (Bad : Trace → List Fact → Type 0) where
  -- it holds behind the action
  abbrev pub KeepsBehind : Trace → List ℕ → Action → Written → Type 0
  KeepsBehind tr m (new x) p = (n : ℕ) → ¬ Contains m n → Q tr (m ++ n ∷ []) (behind_term (writing ds) x (fresh n) p)
  KeepsBehind tr m (input t) p = (σ : Choice) (x : Tree) → Fits g σ t x → Q (tr ++ (k_fact x ∷ []) ∷ []) m (behind_choice (writing ds) σ (tree_vars t) p)
  KeepsBehind tr m (event f) p = (h : Fact) → IsFormOfFact (equations g) f h → (¬ Bad tr (h ∷ [])) × Q (tr ++ (h ∷ []) ∷ []) m p
  KeepsBehind tr m (insert t u) p = Q tr m p
  KeepsBehind tr m (out t) p = ⊥
  KeepsBehind tr m (send t u) p = ⊥
  KeepsBehind tr m (receive t u) p = ⊥
  KeepsBehind tr m (delete t) p = ⊥
  KeepsBehind tr m (lock t k) p = Q tr m p
  KeepsBehind tr m (unlock t k) p = Q tr m p
  KeepsBehind tr m (embedded l e r) p = ⊥

  -- and behind the head
  abbrev pub Keeps : Trace → List ℕ → Head Written → Type 0
  Keeps tr m head.nil = Unit {0}
  Keeps tr m (head.parallel p q) = Q tr m p × Q tr m q
  Keeps tr m (head.replicated p) = Q tr m p
  Keeps tr m (head.act a p) = KeepsBehind tr m a p
  Keeps tr m (head.test t u p q) = (IsTheoryEqual (equations g) t u → Q tr m p) × (¬ IsTheoryEqual (equations g) t u → Q tr m q)
  Keeps tr m (head.lookup t x p q) = ⊥

  -- it stays, and holds behind each head
  pub record Holds : Type 0 where
    pub more_made : (tr : Trace) (m : List ℕ) (n : ℕ) (w : Written) → Q tr m w → Q tr (m ++ n ∷ []) w
    pub more_shown : (tr : Trace) (m : List ℕ) (fs : List Fact) (w : Written) → Q tr m w → Q (tr ++ fs ∷ []) m w
    pub heads : (tr : Trace) (m : List ℕ) (w : Written) (h : Head Written) → Q tr m w → StartsWith ds w h → Keeps tr m h
    pub known : (tr : Trace) (t : Tree) → ¬ Bad tr (k_fact t ∷ [])

  abbrev Of : Trace → List ℕ → Option Written → Type 0
  Of tr m None = Unit {0}
  Of tr m (Some w) = Q tr m w

  abbrev OfAll : Trace → List ℕ → List (Option Written) → Type 0
  OfAll tr m [] = Unit {0}
  OfAll tr m (o ∷ os) = Of tr m o × OfAll tr m os

  got : (tr : Trace) (m : List ℕ) (os : List (Option Written)) (t : ℕ) (w : Written) → OfAll tr m os → slice_get os t ≡ Some (Some w) → Q tr m w
  got tr m [] t w h e = absurd (cc)
  got tr m (o ∷ os) zero w h e = let is : o ≡ Some w = cc in subst (Of tr m) is h.0
  got tr m (o ∷ os) (suc t) w h e = got tr m os t w h.1 e

  put : (tr : Trace) (m : List ℕ) (os : List (Option Written)) (t : ℕ) (o : Option Written) → OfAll tr m os → Of tr m o → OfAll tr m (slice_set os t o)
  put tr m [] t o h k = tt
  put tr m (q ∷ os) zero o h k = (k, h.1)
  put tr m (q ∷ os) (suc t) o h k = (h.0, put tr m os t o h.1 k)

  pushed : (tr : Trace) (m : List ℕ) (os : List (Option Written)) (o : Option Written) → OfAll tr m os → Of tr m o → OfAll tr m (os ++ o ∷ [])
  pushed tr m [] o h k = (k, tt)
  pushed tr m (q ∷ os) o h k = (h.0, pushed tr m os o h.1 k)

  moved_one : (tr us : Trace) (m n : List ℕ) → ((w : Written) → Q tr m w → Q us n w) → (o : Option Written) → Of tr m o → Of us n o
  moved_one tr us m n f None h = tt
  moved_one tr us m n f (Some w) h = f w h

  moved : (tr us : Trace) (m n : List ℕ) → ((w : Written) → Q tr m w → Q us n w) → (os : List (Option Written)) → OfAll tr m os → OfAll us n os
  moved tr us m n f [] h = tt
  moved tr us m n f (o ∷ os) h = (moved_one tr us m n f o h.0, moved tr us m n f os h.1)

  -- what is shown isn't bad
  abbrev IsFine : Trace → List Fact → Type 0
  IsFine tr [] = Unit {0}
  IsFine tr (f ∷ fs) = ¬ Bad tr (f ∷ fs)

  abbrev Further : Trace → ConfigOf (writing ds) → List Fact → Type 0
  Further tr d label = OfAll (tr ++ shown label) d.made d.threads × IsFine tr label

  module _ (holds : Holds) where
    behind : (tr : Trace) (m : List ℕ) (os : List (Option Written)) (t : ℕ) (h : Head Written) → OfAll tr m os → StandsAs ds os t h → Keeps tr m h
    behind tr m os t h all s = holds.heads tr m s.process h (got tr m os t s.process all s.runs) s.head

    -- where nothing is shown
    quiet : (tr : Trace) (m : List ℕ) (os : List (Option Written)) → OfAll tr m os → OfAll (tr ++ []) m os × Unit {0}
    quiet tr m os h = (subst (λ us. OfAll us m os) (sym (append-nil tr)) h, tt)

    goes_on : {c d : ConfigOf (writing ds)} {label : List Fact} → ProcessStep g c label d → (tr : Trace) → OfAll tr c.made c.threads → Further tr d label
    goes_on (ends {c = c} t r) tr all = quiet tr c.made (slice_set c.threads t None) (put tr c.made c.threads t None all tt)
    goes_on (splits {c = c} {p = p} {q = q} t r) tr all =
        let k = behind tr c.made c.threads t (head.parallel p q) all r in
        quiet tr c.made (slice_set c.threads t (Some p) ++ Some q ∷ [])
        (pushed tr c.made (slice_set c.threads t (Some p)) (Some q) (put tr c.made c.threads t (Some p) all k.0) k.1)
    goes_on (copies {c = c} {p = p} t r) tr all =
        quiet tr c.made (c.threads ++ Some p ∷ []) (pushed tr c.made c.threads (Some p) all (behind tr c.made c.threads t (head.replicated p) all r))
    goes_on (makes_name {c = c} {x = x} {p = p} t n r i) tr all =
        let m = c.made ++ n ∷ [] in
        let o : Option Written = Some (behind_term (writing ds) x (fresh n) p) in
        quiet tr m (slice_set c.threads t o)
        (put tr m c.threads t o (moved tr tr c.made m (λ w. holds.more_made tr c.made n w) c.threads all)
        (behind tr c.made c.threads t (head.act (new x) p) all r n i.0))
    goes_on (outputs {c = c} {m = m} {p = p} t r i) tr all = absurd (behind tr c.made c.threads t (head.act (out m) p) all r)
    goes_on (outputs_on {c = c} {m = m} {n = n} {p = p} t r i j o) tr all = absurd (behind tr c.made c.threads t (head.act (send m n) p) all r)
    goes_on (inputs {c = c} {n = n} {x = x} {p = p} t σ r i j) tr all =
        let us = tr ++ (k_fact x ∷ []) ∷ [] in
        let o : Option Written = Some (behind_choice (writing ds) σ (tree_vars n) p) in (
          put us c.made c.threads t o (moved tr us c.made c.made (λ w. holds.more_shown tr c.made (k_fact x ∷ []) w) c.threads all)
              (behind tr c.made c.threads t (head.act (input n) p) all r σ x j),
          holds.known tr x,
        )
    goes_on (inputs_on {c = c} {m = m} {n = n} {p = p} t σ r i j o) tr all = absurd (behind tr c.made c.threads t (head.act (receive m n) p) all r)
    goes_on (meets {c = c} {m = m} {n = n} {p = p} s t σ r k i j) tr all = absurd (behind tr c.made c.threads s (head.act (send m n) p) all r)
    goes_on (agrees {c = c} {m = m} {n = n} {p = p} {q = q} t r i) tr all =
        quiet tr c.made (slice_set c.threads t (Some p)) (put tr c.made c.threads t (Some p) all ((behind tr c.made c.threads t (head.test m n p q) all r).0 i))
    goes_on (differs {c = c} {m = m} {n = n} {p = p} {q = q} t r i) tr all =
        quiet tr c.made (slice_set c.threads t (Some q)) (put tr c.made c.threads t (Some q) all ((behind tr c.made c.threads t (head.test m n p q) all r).1 i))
    goes_on (shows {c = c} {f = f} {h = h} {p = p} t r i) tr all =
        let us = tr ++ (h ∷ []) ∷ [] in
        let k = behind tr c.made c.threads t (head.act (event f) p) all r h i in
        (put us c.made c.threads t (Some p) (moved tr us c.made c.made (λ w. holds.more_shown tr c.made (h ∷ []) w) c.threads all) k.1, k.0)
    goes_on (inserts {c = c} {m = m} {n = n} {p = p} t r i j) tr all =
        quiet tr c.made (slice_set c.threads t (Some p)) (put tr c.made c.threads t (Some p) all (behind tr c.made c.threads t (head.act (insert m n) p) all r))
    goes_on (deletes {c = c} {m = m} {p = p} t r i) tr all = absurd (behind tr c.made c.threads t (head.act (delete m) p) all r)
    goes_on (finds {c = c} {m = m} {x = x} {p = p} {q = q} t r i j) tr all = absurd (behind tr c.made c.threads t (head.lookup m x p q) all r)
    goes_on (misses {c = c} {m = m} {x = x} {p = p} {q = q} t r i j) tr all = absurd (behind tr c.made c.threads t (head.lookup m x p q) all r)
    goes_on (locks {c = c} {m = m} {i = k} {p = p} t r i j) tr all =
        quiet tr c.made (slice_set c.threads t (Some p)) (put tr c.made c.threads t (Some p) all (behind tr c.made c.threads t (head.act (lock m k) p) all r))
    goes_on (unlocks {c = c} {m = m} {i = k} {p = p} t r i) tr all =
        quiet tr c.made (slice_set c.threads t (Some p)) (put tr c.made c.threads t (Some p) all (behind tr c.made c.threads t (head.act (unlock m k) p) all r))
    goes_on (embeds {c = c} {l = l} {e = e} {r = rs} {p = p} t ks σ left acts right r m i j k o) tr all = absurd (behind tr c.made c.threads t (head.act (embedded l e rs) p) all r)
    goes_on (adversary_makes {c = c} k i) tr all = quiet tr c.made c.threads all
    goes_on (knows {c = c} x i) tr all = (
      moved tr (tr ++ (k_fact x ∷ []) ∷ []) c.made c.made (λ w. holds.more_shown tr c.made (k_fact x ∷ []) w) c.threads all,
      holds.known tr x,
    )

  -- nothing in the second is bad behind what stands before it, the first trace in front of all
  abbrev pub IsCleanBehind : Trace → Trace → Type 0
  IsCleanBehind before [] = Unit {0}
  IsCleanBehind before (fs ∷ tr) = (¬ Bad before fs) × IsCleanBehind (before ++ fs ∷ []) tr

  clean_further : (before tr : Trace) (fs : List Fact) → IsCleanBehind before tr → ¬ Bad (before ++ tr) fs → IsCleanBehind before (tr ++ fs ∷ [])
  clean_further before [] fs c n = (subst (λ b. ¬ Bad b fs) (append-nil before) n, tt)
  clean_further before (gs ∷ tr) fs c n = (c.0, clean_further (before ++ gs ∷ []) tr fs c.1 (subst (λ b. ¬ Bad b fs) (sym (append_assoc before (gs ∷ []) tr)) n))

  clean_label : (tr : Trace) (label : List Fact) → IsCleanBehind [] tr → IsFine tr label → IsCleanBehind [] (tr ++ shown label)
  clean_label tr [] c f = subst (IsCleanBehind []) (sym (append-nil tr)) c
  clean_label tr (f ∷ fs) c n = clean_further [] tr (f ∷ fs) c n

  run_keeps : Holds → (p : Written) → Q [] [] p → {c : ConfigOf (writing ds)} {tr : Trace} → ProcessRun g (initial p) c tr → OfAll tr c.made c.threads × IsCleanBehind [] tr
  run_keeps holds p q starts = ((q, tt), tt)
  run_keeps holds p q (further {tr = tr} {label = label} run step) =
      let before = run_keeps holds p q run in
      let on = goes_on holds step tr before.0 in
      (on.0, clean_label tr label before.1 on.1)

  -- no run shows what is bad
  pub shows_none : Holds → (p : Written) → Q [] [] p → (tr : Trace) → IsWrittenTrace g ds p tr → IsCleanBehind [] tr
  shows_none holds p q tr is = (run_keeps holds p q is.1).1

  -- what stands in such a trace isn't bad behind something
  pub is_not_shown : (before tr : Trace) (fs : List Fact) → IsCleanBehind before tr → Contains tr fs → (b : Trace) × (¬ Bad b fs)
  is_not_shown before [] fs c m = absurd (none_contained m)
  is_not_shown before (gs ∷ tr) fs c m = elim (cons_cases gs tr fs m) [
    | inl e ↦ (before, subst (λ k. ¬ Bad before k) e c.0)
    | inr k ↦ is_not_shown (before ++ gs ∷ []) tr fs c.1 k
  ]
