-- Wherever runs of a ready process lead to, threads are plain; so what lines match, they match exactly.
use Rattle.std.proofs.Common.{◌≡◌, ℕ, zero, suc, List, [], ◌∷◌, ◌++◌, Option, Some, None, refl, subst, ◌⊎◌, inl, inr, arith, slice_get, slice_set}
use Rattle.std.specs.Prelude.{All}
use Rattle.std.specs.Option.{option_map_or}
use Rattle.sap_terms.specs.Choice.{Choice}
use Rattle.sap_terms.specs.Equations.{equations}
use Rattle.sap_terms.specs.Ground.{IsGround}
use Rattle.sap_terms.specs.Laws.{DestructorsHeadLeftSides, LeavesAreNormal}
use Rattle.sap_terms.specs.Message.{IsMessageChoice}
use Rattle.sap_terms.specs.Normal.{IsNormal}
use Rattle.sap_terms.specs.Signature.{Sig, HoldsBuiltins}
use Rattle.sap_terms.specs.Trace.{Trace}
use Rattle.sap_terms.specs.Tree.{Tree, variable, fresh}
use Rattle.sap_terms.specs.Variables.{tree_vars, facts_vars}
use Rattle.sap_terms.specs.declared.fact.Fact.{Fact}
use Rattle.sap_terms.specs.declared.var.Var.{Var}
use Rattle.sap_rewrite.specs.Pattern.{IsPattern}
use Rattle.sap_process.specs.Action as action
use Rattle.sap_process.specs.Configuration.{Config, initial, becomes}
use Rattle.sap_process.specs.Flaws.{IsWellFormed, binder_of}
use Rattle.sap_process.specs.GroundProcess.{IsGroundConfig}
use Rattle.sap_process.specs.Heads.{patterns}
use Rattle.sap_process.specs.Proc as whole
use Rattle.sap_process.specs.Proc.{Proc, act}
use Rattle.sap_process.specs.ProcessSteps.{ProcessStep, ProcessRun, chosen, with_choice, with_term}
use Rattle.sap_runs.specs.Limits.{AnySize}
use Rattle.sap_lines.specs.Answers.{RunsMatchExactly}
use Rattle.sap_lines.specs.Runs.{ProcessLinesAreRuns}
use Rattle.sap_lines.proofs.Fits.{all_each}
use Rattle.sap_lines.proofs.Plain.{IsPlain, Keeps, plain_instance}
use Rattle.sap_lines.proofs.Ready.{ready_plain}
use Rattle.sap_terms.proofs.PlainLaws.Items.{contains_got}

abbrev Every : (Proc → Type 0) → List (Option Proc) → Type 0
Every P xs = (t : ℕ) (p : Proc) → slice_get xs t ≡ Some (Some p) → P p

every_set : (P : Proc → Type 0) (xs : List (Option Proc)) (t : ℕ) (o : Option Proc) → Every P xs → ((p : Proc) → o ≡ Some p → P p) → Every P (slice_set xs t o)
every_set P [] t o all h k p e = cc
every_set P (x ∷ xs) zero o all h zero p e = h p (cc)
every_set P (x ∷ xs) zero o all h (suc k) p e = all (suc k) p e
every_set P (x ∷ xs) (suc t) o all h zero p e = all zero p e
every_set P (x ∷ xs) (suc t) o all h (suc k) p e = every_set P xs t o (λ j b g. all (suc j) b g) h k p e

every_push : (P : Proc → Type 0) (xs : List (Option Proc)) (q : Proc) → Every P xs → P q → Every P (xs ++ Some q ∷ [])
every_push P [] q all h zero p e = let same : q ≡ p = cc in subst P same h
every_push P [] q all h (suc k) p e = cc
every_push P (x ∷ xs) q all h zero p e = all zero p e
every_push P (x ∷ xs) q all h (suc k) p e = every_push P xs q (λ j b g. all (suc j) b g) h k p e

module _ (leaves : LeavesAreNormal) (g : Sig) where
  Threads : Config → Type 0
  Threads c = Every (IsPlain g) c.threads

  goes_on : (c : Config) (t : ℕ) (p : Proc) → Threads c → IsPlain g p → Every (IsPlain g) (slice_set c.threads t (Some p))
  unfolding Threads
  goes_on c t p h plain = every_set (IsPlain g) c.threads t (Some p) h (λ q e. (let same : p ≡ q = cc in subst (IsPlain g) same plain))

  chosen_keeps : (σ : Choice) (vs : List Var) → ((v : Var) → IsGround (σ v) × IsNormal (equations g) (σ v)) → Keeps g (chosen σ vs)
  chosen_keeps σ vs h v = at (binder_of vs v.name) where
    at : (o : Option Var) → (option_map_or σ o (variable v) ≡ variable v) ⊎ (IsGround (option_map_or σ o (variable v)) × IsNormal (equations g) (option_map_or σ o (variable v)))
    at None = inl refl
    at (Some w) = inr (h w)

  message_plain : (σ : Choice) (vs : List Var) (p : Proc) → IsMessageChoice g σ → IsPlain g p → IsPlain g (with_choice σ vs p)
  message_plain σ vs p m h = plain_instance g p (chosen σ vs) (chosen_keeps σ vs (λ v. ((m v).ground, (m v).normal))) h

  term_plain : (x : Var) (t : Tree) (p : Proc) → IsGround t → IsNormal (equations g) t → IsPlain g p → IsPlain g (with_term x t p)
  term_plain x t p ground normal h = plain_instance g p (chosen (λ v. t) (x ∷ [])) (chosen_keeps (λ v. t) (x ∷ []) (λ v. (ground, normal))) h

  step_plain : (c d : Config) (label : List Fact) → IsGroundConfig g c → ProcessStep g c label d → Threads c → Threads d
  unfolding Threads
  step_plain c d label ground (ProcessStep.ends t r) h = every_set (IsPlain g) c.threads t None h (λ q e. absurd (cc))
  step_plain c d label ground (ProcessStep.splits {p = p} {q = q} t r) h =
      let b = h t (whole.parallel p q) r in every_push (IsPlain g) (slice_set c.threads t (Some p)) q (goes_on c t p h b.0) b.1
  step_plain c d label ground (ProcessStep.copies {p = p} t r) h = every_push (IsPlain g) c.threads p h (h t (whole.replicated p) r)
  step_plain c d label ground (ProcessStep.makes_name {x = x} {p = p} t n r u) h =
      let b = h t (act (action.new x) p) r in goes_on c t (with_term x (fresh n) p) h (term_plain x (fresh n) p tt (leaves.of_fresh_name (equations g) n) b.2)
  step_plain c d label ground (ProcessStep.outputs {m = m} {p = p} t r f) h = goes_on c t p h (h t (act (action.out m) p) r).2
  step_plain c d label ground (ProcessStep.outputs_on {m = m} {n = n} {p = p} t r f can e) h = goes_on c t p h (h t (act (action.send m n) p) r).2
  step_plain c d label ground (ProcessStep.inputs {n = n} {p = p} t σ r can f) h =
      goes_on c t (with_choice σ (tree_vars n) p) h (message_plain σ (tree_vars n) p f.messages (h t (act (action.input n) p) r).2)
  step_plain c d label ground (ProcessStep.inputs_on {m = m} {n = n} {p = p} t σ r can f e) h =
      goes_on c t (with_choice σ (tree_vars n) p) h (message_plain σ (tree_vars n) p f (h t (act (action.receive m n) p) r).2)
  step_plain c d label ground (ProcessStep.meets {m = m} {n = n} {l = l} {r = u} {p = p} {q = q} s t σ r e agree f) h =
      goes_on (becomes c s (Some p)) t (with_choice σ (tree_vars u) q) (goes_on c s p h (h s (act (action.send m n) p) r).2) (message_plain σ (tree_vars u) q f.messages (h t (act (action.receive l u) q) e).2)
  step_plain c d label ground (ProcessStep.agrees {m = m} {n = n} {p = p} {q = q} t r e) h = goes_on c t p h (h t (whole.test m n p q) r).0
  step_plain c d label ground (ProcessStep.differs {m = m} {n = n} {p = p} {q = q} t r e) h = goes_on c t q h (h t (whole.test m n p q) r).1
  step_plain c d label ground (ProcessStep.shows {f = f} {p = p} t r e) h = goes_on c t p h (h t (act (action.event f) p) r).2
  step_plain c d label ground (ProcessStep.inserts {m = m} {n = n} {p = p} t r e f) h = goes_on c t p h (h t (act (action.insert m n) p) r).2
  step_plain c d label ground (ProcessStep.deletes {m = m} {p = p} t r e) h = goes_on c t p h (h t (act (action.delete m) p) r).2
  step_plain c d label ground (ProcessStep.finds {m = m} {k = k} {v = v} {x = x} {p = p} {q = q} t r e f) h =
      let value = (ground.store k v f).1 in goes_on c t (with_term x v p) h (term_plain x v p value.ground value.normal (h t (whole.lookup m x p q) r).0)
  step_plain c d label ground (ProcessStep.misses {m = m} {x = x} {p = p} {q = q} t r e f) h = goes_on c t q h (h t (whole.lookup m x p q) r).1
  step_plain c d label ground (ProcessStep.locks {m = m} {i = i} {p = p} t r e f) h = goes_on c t p h (h t (act (action.lock m i) p) r).2
  step_plain c d label ground (ProcessStep.unlocks {m = m} {i = i} {p = p} t r e) h = goes_on c t p h (h t (act (action.unlock m i) p) r).2
  step_plain c d label ground (ProcessStep.embeds {l = l} {e = e} {r = u} {p = p} t ks σ left acts right r m eq takes shows adds) h =
      goes_on c t (with_choice σ (facts_vars (l ++ (e ++ u))) p) h (message_plain σ (facts_vars (l ++ (e ++ u))) p m (h t (act (action.embedded l e u) p) r).2)
  step_plain c d label ground (ProcessStep.adversary_makes n u) h = h
  step_plain c d label ground (ProcessStep.knows x can) h = h

  run_plain : (p : Proc) → ((c : Config) (tr : Trace) → ProcessRun g (initial p) c tr → IsGroundConfig g c) → IsPlain g p → (c : Config) (tr : Trace) → ProcessRun g (initial p) c tr → Threads c
  unfolding Threads
  run_plain p ground h c tr ProcessRun.starts = start
    where
      start : (t : ℕ) (q : Proc) → slice_get (Some p ∷ []) t ≡ Some (Some q) → IsPlain g q
      start zero q e = let same : p ≡ q = cc in subst (IsPlain g) same h
      start (suc t) q e = cc
  run_plain p ground h d full (ProcessRun.further {c = c} {tr = tr} {label = label} run step) = step_plain c d label (ground c tr run) step (run_plain p ground h c tr run)

  plain_patterns : (p : Proc) → IsPlain g p → All (IsPattern (equations g)) (patterns p)
  plain_patterns whole.nil h = all_each (IsPattern (equations g)) [] (λ x m. absurd (omega (arith, m.1)))
  plain_patterns (whole.parallel p q) h = all_each (IsPattern (equations g)) [] (λ x m. absurd (omega (arith, m.1)))
  plain_patterns (whole.replicated p) h = all_each (IsPattern (equations g)) [] (λ x m. absurd (omega (arith, m.1)))
  plain_patterns (act a p) h = h.0
  plain_patterns (whole.test t u p q) h = all_each (IsPattern (equations g)) [] (λ x m. absurd (omega (arith, m.1)))
  plain_patterns (whole.lookup t x p q) h = all_each (IsPattern (equations g)) [] (λ x m. absurd (omega (arith, m.1)))

pub runs_match_exactly : LeavesAreNormal → DestructorsHeadLeftSides → ProcessLinesAreRuns AnySize → ((g : Sig) (p : Proc) (c : Config) (tr : Trace) → HoldsBuiltins g → IsWellFormed g p → ProcessRun g (initial p) c tr → IsGroundConfig g c) → RunsMatchExactly
unfolding Threads
runs_match_exactly leaves heads are_runs ground g p lines c es tr marks holds ready legal =
    let run = are_runs g p lines c es tr marks legal in
    let threads = run_plain leaves g p (λ d t r. ground g p d t holds ready.well_formed r) (ready_plain heads g p ready) c tr run.0 in
    let config = ground g p c tr holds ready.well_formed run.0 in
    record {
      patterns_are = λ t q r. plain_patterns leaves g q (threads t q r);
      sorts = λ t l e r q runs. (threads t (act (action.embedded l e r) q) runs).1;
      entries = all_each (IsNormal (equations g)) es (λ x m. (run.1 x m).normal);
      facts = λ k f e. all_each (IsNormal (equations g)) f.args (λ t m. (config.facts f (contains_got c.facts (Some f) k e) t m).normal);
    }
