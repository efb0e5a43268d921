-- A line is refused for one cause.
use Rattle.std.proofs.Common.{◌≡◌, ℕ, zero, suc, ◌+◌, ◌<◌, Bool, true, false, List, [], ◌∷◌, length, Option, Some, None, map, take, slice_get, arith, refl, sym, ap, subst, ◌∙◌, ◌⊎◌, inl, inr}
use Rattle.std.proofs.lemmas.List.{length-map}
use Rattle.std.proofs.lemmas.Bool.{cases_lt}
use Rattle.sap_terms.specs.Choice.{Choice}
use Rattle.sap_terms.specs.Equations.{app2, pair_name}
use Rattle.sap_terms.specs.Modulo.{instance_fact, instance_facts}
use Rattle.sap_terms.specs.Piles.{Pile, Takes, one, used}
use Rattle.sap_terms.specs.Signature.{Sig, IsPublic, arity_of}
use Rattle.sap_terms.specs.Tree.{Tree}
use Rattle.sap_terms.specs.declared.binding.Binding.{Binding}
use Rattle.sap_terms.specs.declared.fact.Fact.{Fact}
use Rattle.sap_facts.specs.Facts.{fact_at}
use Rattle.sap_facts.specs.Missing.{IsFirstMissing}
use Rattle.sap_terms.specs.Deduce.{IsFirstUnknown}
use Rattle.sap_process.specs.Action as action
use Rattle.sap_process.specs.Configuration.{Config, Runs}
use Rattle.sap_process.specs.Proc as whole
use Rattle.sap_process.specs.Proc.{Proc, act}
use Rattle.sap_process.specs.ProcessSteps.{Fits}
use Rattle.sap_runs.specs.Limits.{HasFewNodes}
use Rattle.sap_runs.specs.declared.process_step.PStep.{PStep}
use Rattle.sap_runs.specs.declared.process_step.PStep.TheVariants as line
use Rattle.sap_lines.specs.Answers.{RefusalsAreOne}
use Rattle.sap_lines.specs.Faults.{IsRefused, IsUnfit, HasEntry, EvaluateLarge, FitsNothing, thread_of, has_form, is_send, is_receive, evaluated, AreRight, FitsFacts}
use Rattle.sap_lines.specs.Lines.{EvaluateWithin, left_open}
use Rattle.sap_lines.specs.declared.fault.PFault.{PFault}
use Rattle.sap_lines.specs.declared.fault.PFault.TheVariants as fault
use Rattle.sap_lines.proofs.Answers.{large_small, nothing_large, never_missing, none_unknown, one_live}
use Rattle.sap_lines.proofs.Fits.{takes_one, takes_length, equal_length}
use Rattle.sap_lines.proofs.Outcomes.{one_thread, one_entry}

-- tests one after another: each passes, or gives one fault
data Chain : Type 1 where
  passed : Chain
  test : (P : Type 0) (N : PFault → Type 0) → (P → (e : PFault) → N e → ⊥) → ((e f : PFault) → N e → N f → e ≡ f) → Chain → Chain

-- the first that fails gives the fault
abbrev Fails : Chain → PFault → Type 0
Fails passed e = ⊥
Fails (test P N never same rest) e = N e ⊎ (P × Fails rest e)

one_fault : (tests : Chain) (e f : PFault) → Fails tests e → Fails tests f → e ≡ f
one_fault passed e f h k = absurd h
one_fault (test P N never same rest) e f (inl h) (inl k) = same e f h k
one_fault (test P N never same rest) e f (inl h) (inr k) = absurd (never k.0 e h)
one_fault (test P N never same rest) e f (inr h) (inl k) = absurd (never h.0 f k)
one_fault (test P N never same rest) e f (inr h) (inr k) = one_fault rest e f h.1 k.1

-- a test that gives this fault
abbrev single : (P A : Type 0) (f : PFault) → (P → A → ⊥) → Chain → Chain
single P A f never rest = test P (λ e. A × (e ≡ f)) (λ p e h. never p h.0) (λ e k h j. h.1 ∙ sym j.1) rest

-- the last one
abbrev last : PFault → Chain
last f = test ⊥ (λ e. e ≡ f) (λ p e h. p) (λ e k h j. h ∙ sym j) passed

-- the first missing one is one
missing_later : (facts : Pile) (ks : List ℕ) {rest left : Pile} {fs before : List Fact} (at after number : ℕ) → at < after → slice_get ks at ≡ Some number → Takes facts (take after ks) fs rest → Takes facts (take at ks) before left → fact_at left number ≡ None → ⊥
missing_later facts [] at after number less here_is t u gone = cc
missing_later facts (k ∷ ks) at zero number less here_is t u gone = omega (arith, less)
missing_later facts (k ∷ ks) zero (suc after) number less here_is t u gone = never_missing zero number t (let e : k ≡ number = cc in ap (λ n. Some n) e) u gone
missing_later facts (k ∷ ks) {left = left} (suc at) (suc after) number less here_is (one {f = f} a t) (one {f = h} {fs = hs} b u) gone =
    let e : h ≡ f = one_live facts k f h a b in
    missing_later (used facts k f) ks at after number (omega (arith, less)) here_is t (subst (λ x. Takes (used facts k x) (take at ks) hs left) e u) gone

missing_one : (facts : Pile) (ks : List ℕ) (i j : ℕ) → IsFirstMissing facts ks i → IsFirstMissing facts ks j → i ≡ j
missing_one facts ks i j h k = h.index_is ∙ ap (λ n. n + 1) same ∙ sym k.index_is where
  same : h.at ≡ k.at
  same = elim (cases_lt h.at k.at) [
    | inl less ↦ absurd (missing_later facts ks h.at k.at h.number less h.here k.takes h.takes h.gone)
    | inr most ↦ elim (cases_lt k.at h.at) [
      | inl less ↦ absurd (missing_later facts ks k.at h.at k.number less k.here h.takes k.takes k.gone)
      | inr least ↦ omega (arith, most, least)
    ]
  ]

module _ (g : Sig) (c : Config) (es : List Tree) where
  form_never : (t : ℕ) (form : Proc → Bool) → ((p : Proc) × Runs c t p × (form p ≡ true)) → ((p : Proc) × Runs c t p × (form p ≡ false)) → ⊥
  form_never t form (p, runs, passes) (q, also, fails) = let there : form q ≡ true = subst (λ r. form r ≡ true) (one_thread c t p q runs also) passes in cc

  -- the thread runs, and as a process of the form
  abbrev thread : ℕ → (Proc → Bool) → Chain → Chain
  thread t form rest =
      single ((p : Proc) × Runs c t p) ((p : Proc) → ¬ Runs c t p) (fault.NoThread t) (λ h never. never h.0 h.1)
      (single ((p : Proc) × Runs c t p × (form p ≡ true)) ((p : Proc) × Runs c t p × (form p ≡ false)) (fault.WrongForm t)
      (form_never t form) rest)

  -- the entry that a line names besides a thread
  abbrev entry_of : PStep → Option ℕ
  entry_of (line.Send t k) = Some k
  entry_of (line.In t k) = Some k
  entry_of _ = None

  abbrev NoEntryOf : PStep → PFault → Type 0
  NoEntryOf step e = (k : ℕ) × (entry_of step ≡ Some k) × (slice_get es k ≡ None) × (e ≡ fault.NoEntry k)

  entry_never : (step : PStep) → HasEntry es step → (e : PFault) → NoEntryOf step e → ⊥
  entry_never (line.Send t k) h e r = let same : k ≡ r.0 = cc in let gone : slice_get es k ≡ None = subst (λ n. slice_get es n ≡ None) (sym same) r.2 in let there = h.1 in cc
  entry_never (line.In t k) h e r = let same : k ≡ r.0 = cc in let gone : slice_get es k ≡ None = subst (λ n. slice_get es n ≡ None) (sym same) r.2 in let there = h.1 in cc
  entry_never _ h e r = let never = r.1 in cc

  entry_same : (step : PStep) (e f : PFault) → NoEntryOf step e → NoEntryOf step f → e ≡ f
  entry_same step e f h k =
      let a = h.1 in
      let b = k.1 in
      let same : h.0 ≡ k.0 = cc in
      h.3 ∙ ap (λ n. fault.NoEntry n) same ∙ sym k.3

  abbrev small : ℕ → Chain → Chain
  small t rest =
      single ((p : Proc) × Runs c t p × EvaluateWithin g HasFewNodes (evaluated p)) ((p : Proc) × Runs c t p × EvaluateLarge g (evaluated p)) fault.TermLarge
      (λ h k. (let is : h.0 ≡ k.0 = one_thread c t h.0 k.0 h.1 k.1 in large_small g (evaluated k.0) k.2 (subst (λ p. EvaluateWithin g HasFewNodes (evaluated p)) is h.2))) rest

  -- what an input asks of its entry: that it is a pair whose second part fits
  abbrev InFits : ℕ → ℕ → Type 0
  InFits t k = (m : Tree) × (n : Tree) × (p : Proc) × (x : Tree) × (y : Tree) × (z : Tree) × (σ : Choice) × Runs c t (act (action.receive m n) p) × (slice_get es k ≡ Some x) × (x ≡ app2 pair_name y z) × Fits g σ n z

  abbrev InFails : ℕ → ℕ → Type 0
  InFails t k =
      ((n : Tree) × (p : Proc) × Runs c t (act (action.input n) p))
      ⊎ ((m : Tree) × (n : Tree) × (p : Proc) × (x : Tree) × Runs c t (act (action.receive m n) p) × (slice_get es k ≡ Some x) × ((y z : Tree) → x ≡ app2 pair_name y z → FitsNothing g n z))

  in_never : (t k : ℕ) → InFits t k → InFails t k → ⊥
  in_never t k (m, n, p, x, y, z, σ, runs, entry, pair, fits) (inl (l, q, r)) = let is = one_thread c t (act (action.receive m n) p) (act (action.input l) q) runs r in cc
  in_never t k (m, n, p, x, y, z, σ, runs, entry, pair, fits) (inr (l, u, q, w, r, e, never)) =
      let is = one_thread c t (act (action.receive m n) p) (act (action.receive l u) q) runs r in
      let pattern : n ≡ u = cc in
      never y z (one_entry es k w x e entry ∙ pair) σ (subst (λ i. Fits g σ i z) pattern fits)

  -- an embedded rule of the thread
  record Rule (t : ℕ) : Type 0 where
    left : List Fact
    acts : List Fact
    right : List Fact
    behind : Proc
    runs : Runs c t (act (action.embedded left acts right) behind)

  abbrev OfRule : (t : ℕ) → (Rule t → Type 0) → Type 0
  OfRule t F = (r : Rule t) × F r

  rule_left : (t : ℕ) (r s : Rule t) → (r.left ≡ s.left) × (r.acts ≡ s.acts) × (r.right ≡ s.right)
  rule_left t r s =
      let is = one_thread c t (act (action.embedded r.left r.acts r.right) r.behind) (act (action.embedded s.left s.acts s.right) s.behind) r.runs s.runs in
      (cc, cc, cc)

  abbrev Missing : List ℕ → PFault → Type 0
  Missing ks e = (i : ℕ) × IsFirstMissing c.facts ks i × (e ≡ fault.FactMissing i)

  missing_same : (ks : List ℕ) (e f : PFault) → Missing ks e → Missing ks f → e ≡ f
  missing_same ks e f h k = h.2 ∙ ap (λ n. fault.FactMissing n) (missing_one c.facts ks h.0 k.0 h.1 k.1) ∙ sym k.2

  missing_never : (ks : List ℕ) → ((left : List Fact) × (rest : Pile) × Takes c.facts ks left rest) → (e : PFault) → Missing ks e → ⊥
  missing_never ks (left, rest, takes) e (i, h, is) = never_missing h.at h.number takes h.here h.takes h.gone

  rule_fits_never : (t : ℕ) (ks : List ℕ) (b : List Binding) → OfRule t (λ r. (left : List Fact) × (rest : Pile) × (σ : Choice) × Takes c.facts ks left rest × FitsFacts g r.left b left σ) → OfRule t (λ r. (left : List Fact) × (rest : Pile) × Takes c.facts ks left rest × ((σ : Choice) → ¬ FitsFacts g r.left b left σ)) → ⊥
  rule_fits_never t ks b (r, (left, rest, σ, takes, fits)) (s, (left_too, rest_too, takes_too, never)) =
      never σ (subst (λ l. FitsFacts g l b left_too σ) (rule_left t r s).0 (subst (λ l. FitsFacts g r.left b l σ) (takes_one takes takes_too).0 fits))

  abbrev rule_chain : ℕ → List ℕ → List Binding → Chain
  rule_chain t ks b =
      single (OfRule t (λ r. length ks ≡ length r.left)) (OfRule t (λ r. ¬ (length ks ≡ length r.left))) fault.FactCount (λ h k. k.1 (h.1 ∙ ap length (rule_left t h.0 k.0).0))
      (test ((left : List Fact) × (rest : Pile) × Takes c.facts ks left rest) (Missing ks) (missing_never ks) (missing_same ks)
      (single (OfRule t (λ r. AreRight g (left_open r.left r.acts r.right) b)) (OfRule t (λ r. ¬ AreRight g (left_open r.left r.acts r.right) b)) fault.BadBinding
      (λ h k. (let same = rule_left t h.0 k.0 in k.1 (subst (λ vs. AreRight g vs b) (λ i. left_open (same.0 i) (same.1 i) (same.2 i)) h.1)))
      (single (OfRule t (λ r. (left : List Fact) × (rest : Pile) × (σ : Choice) × Takes c.facts ks left rest × FitsFacts g r.left b left σ)) (OfRule t (λ r. (left : List Fact) × (rest : Pile) × Takes c.facts ks left rest × ((σ : Choice) → ¬ FitsFacts g r.left b left σ))) fault.NoMatch (rule_fits_never t ks b)
      (last fault.TermLarge))))

  -- the sender and the receiver of a meeting
  record Meeting (s t : ℕ) : Type 0 where
    channel : Tree
    message : Tree
    other : Tree
    pattern : Tree
    sender : Proc
    receiver : Proc
    sends : Runs c s (act (action.send channel message) sender)
    receives : Runs c t (act (action.receive other pattern) receiver)

  meeting_same : (s t : ℕ) (m n : Meeting s t) → (m.channel ≡ n.channel) × (m.message ≡ n.message) × (m.other ≡ n.other) × (m.pattern ≡ n.pattern)
  meeting_same s t m n =
      let first = one_thread c s (act (action.send m.channel m.message) m.sender) (act (action.send n.channel n.message) n.sender) m.sends n.sends in
      let second = one_thread c t (act (action.receive m.other m.pattern) m.receiver) (act (action.receive n.other n.pattern) n.receiver) m.receives n.receives in
      (cc, cc, cc, cc)

  abbrev meeting_chain : ℕ → ℕ → Chain
  meeting_chain s t =
      single ((m : Meeting s t) × EvaluateWithin g HasFewNodes (m.channel ∷ m.message ∷ m.other ∷ [])) ((m : Meeting s t) × EvaluateLarge g (m.channel ∷ m.message ∷ m.other ∷ [])) fault.TermLarge
      (λ h k. (let same = meeting_same s t h.0 k.0 in large_small g (k.0.channel ∷ k.0.message ∷ k.0.other ∷ []) k.1 (subst (EvaluateWithin g HasFewNodes) (λ i. same.0 i ∷ same.1 i ∷ same.2 i ∷ []) h.1)))
      (single ((m : Meeting s t) × (σ : Choice) × Fits g σ m.pattern m.message) ((m : Meeting s t) × FitsNothing g m.pattern m.message) fault.NoMatch
      (λ h k. (let same = meeting_same s t h.0 k.0 in k.1 h.1 (subst (λ x. Fits g h.1 x k.0.message) same.3 (subst (λ x. Fits g h.1 h.0.pattern x) same.1 h.2))))
      (last fault.Unequal))

  abbrev Unknown : List ℕ → PFault → Type 0
  Unknown ks e = (k : ℕ) × IsFirstUnknown (length es) ks k × (e ≡ fault.NoEntry k)

  unknown_never : (ks : List ℕ) → ((ts : List Tree) × (map (slice_get es) ks ≡ map Some ts)) → (e : PFault) → Unknown ks e → ⊥
  unknown_never ks (ts, known) e (k, unknown, is) = let never = none_unknown es ks ts known in cc

  unknown_same : (ks : List ℕ) (e f : PFault) → Unknown ks e → Unknown ks f → e ≡ f
  unknown_same ks e f (j, a, is) (k, b, also) = let same : j ≡ k = cc in is ∙ ap (λ n. fault.NoEntry n) same ∙ sym also

  -- the tests of a line behind those of its thread
  abbrev own_chain : PStep → Chain
  own_chain (line.New t n) = last (fault.UsedName n)
  own_chain (line.Send t k) = last fault.Unequal
  own_chain (line.In t k) = single (InFits t k) (InFails t k) fault.NoMatch (in_never t k) (last fault.Unequal)
  own_chain (line.Sync s t) = thread s is_send (thread t is_receive (meeting_chain s t))
  own_chain (line.Then t) = last fault.Unequal
  own_chain (line.Else t) = last fault.Equal
  own_chain (line.Found t) = last fault.Unset
  own_chain (line.Missing t) = last fault.Set
  own_chain (line.Lock t) = last fault.Held
  own_chain (line.Embedded t ks b) = rule_chain t ks b
  own_chain (line.Name n) = last (fault.UsedName n)
  own_chain (line.Apply f ks) =
      single (IsPublic g f) (¬ IsPublic g f) (fault.NotPublic f) (λ h k. k h)
      (single (arity_of g f ≡ Some (length ks)) (¬ (arity_of g f ≡ Some (length ks))) (fault.Arity f) (λ h k. k h)
      (test ((ts : List Tree) × (map (slice_get es) ks ≡ map Some ts)) (Unknown ks)
      (unknown_never ks) (unknown_same ks) (last fault.TermLarge)))
  own_chain (line.Know k) = last (fault.NoEntry k)
  own_chain _ = passed

  abbrev chain_of : Option ℕ → PStep → Chain
  chain_of None step = own_chain step
  chain_of (Some t) step = thread t (has_form step) (test (HasEntry es step) (NoEntryOf step) (entry_never step) (entry_same step) (small t (own_chain step)))

  abbrev chain : PStep → Chain
  chain step = chain_of (thread_of step) step

  -- behind what passed
  behind_thread : (t : ℕ) (form : Proc → Bool) (rest : Chain) (p : Proc) (e : PFault) → Runs c t p → form p ≡ true → Fails rest e → Fails (thread t form rest) e
  behind_thread t form rest p e runs passes h = inr ((p, runs), inr ((p, runs, passes), h))

  behind_all : (t : ℕ) (step : PStep) (p : Proc) (e : PFault) → Runs c t p → has_form step p ≡ true → HasEntry es step → EvaluateWithin g HasFewNodes (evaluated p) → Fails (own_chain step) e → Fails (chain_of (Some t) step) e
  behind_all t step p e runs passes entry is_small h =
      behind_thread t (has_form step) (test (HasEntry es step) (NoEntryOf step) (entry_never step) (entry_same step) (small t (own_chain step))) p e runs passes (inr (entry, inr ((p, runs, is_small), h)))

  unfit_fails : (t : ℕ) (form : Proc → Bool) (rest : Chain) (e : PFault) → IsUnfit c t form e → Fails (thread t form rest) e
  unfit_fails t form rest _ (IsUnfit.not_running never) = inl (never, refl)
  unfit_fails t form rest _ (IsUnfit.other_form {p = p} runs other) = inr ((p, runs), inl ((p, runs, other), refl))

  new_small : (t n : ℕ) (p : Proc) → has_form (line.New t n) p ≡ true → EvaluateWithin g HasFewNodes (evaluated p)
  new_small t n (act (action.new x) p) h = nothing_large g
  new_small t n _ h = absurd (cc)

  abbrev meeting : (s t : ℕ) (m n l r : Tree) (p q : Proc) → Runs c s (act (action.send m n) p) → Runs c t (act (action.receive l r) q) → Meeting s t
  meeting s t m n l r p q a b = record { channel = m; message = n; other = l; pattern = r; sender = p; receiver = q; sends = a; receives = b }

  met : (s t : ℕ) (e : PFault) → Meeting s t → Fails (meeting_chain s t) e → Fails (chain (line.Sync s t)) e
  met s t e m h =
      behind_thread s is_send (thread t is_receive (meeting_chain s t)) (act (action.send m.channel m.message) m.sender) e m.sends refl
      (behind_thread t is_receive (meeting_chain s t) (act (action.receive m.other m.pattern) m.receiver) e m.receives refl h)

  abbrev rule : (t : ℕ) (l e r : List Fact) (p : Proc) → Runs c t (act (action.embedded l e r) p) → Rule t
  rule t l e r p runs = record { left = l; acts = e; right = r; behind = p; runs = runs }

  ruled : (t : ℕ) (ks : List ℕ) (b : List Binding) (e : PFault) → Rule t → Fails (rule_chain t ks b) e → Fails (chain (line.Embedded t ks b)) e
  ruled t ks b e r h = behind_all t (line.Embedded t ks b) (act (action.embedded r.left r.acts r.right) r.behind) e r.runs refl tt (nothing_large g) h

  fails : (step : PStep) (e : PFault) → IsRefused g c es step e → (e ≡ fault.Mem) ⊎ Fails (chain step) e
  fails _ _ (IsRefused.no_memory step) = inl refl
  fails step e (IsRefused.unfit t named h) = inr (subst (λ o. Fails (chain_of o step) e) (sym named) (unfit_fails t (has_form step) (test (HasEntry es step) (NoEntryOf step) (entry_never step) (entry_same step) (small t (own_chain step))) e h))
  fails _ e (IsRefused.unfit_sender s t h) = inr (unfit_fails s is_send (thread t is_receive (meeting_chain s t)) e h)
  fails _ e (IsRefused.unfit_receiver {m = m} {n = n} {p = p} s t runs h) =
      inr (behind_thread s is_send (thread t is_receive (meeting_chain s t)) (act (action.send m n) p) e runs refl (unfit_fails t is_receive (meeting_chain s t) e h))
  fails _ _ (IsRefused.used_name {p = p} t n runs form used) = inr (behind_all t (line.New t n) p (fault.UsedName n) runs form tt (new_small t n p form) (inl refl))
  fails _ _ (IsRefused.used_own n used) = inr (inl refl)
  fails _ _ (IsRefused.unknown_channel {p = p} t k runs form gone) = inr (inr ((p, runs), inr ((p, runs, form), inl (k, refl, gone, refl))))
  fails _ _ (IsRefused.unknown_input {p = p} t k runs form gone) = inr (inr ((p, runs), inr ((p, runs, form), inl (k, refl, gone, refl))))
  fails _ _ (IsRefused.unknown_shown k gone) = inr (inl refl)
  fails step _ (IsRefused.large {p = p} running entry large) =
      inr (subst (λ o. Fails (chain_of o step) fault.TermLarge) (sym running.named) (inr ((p, running.runs), inr ((p, running.runs, running.form), inr (entry, inl ((p, running.runs, large), refl))))))
  fails _ _ (IsRefused.large_meeting {m = m} {n = n} {l = l} {r = r} {p = p} {q = q} s t a b large) =
      let w = meeting s t m n l r p q a b in inr (met s t fault.TermLarge w (inl ((w, large), refl)))
  fails _ _ (IsRefused.other_channel {m = m} {n = n} {x = x} {p = p} t k runs e is_small other) = inr (behind_all t (line.Send t k) (act (action.send m n) p) fault.Unequal runs refl (x, e) is_small (inl refl))
  fails _ _ (IsRefused.unfitting {n = n} {x = x} {p = p} t k runs e never) =
      inr (behind_all t (line.In t k) (act (action.input n) p) fault.NoMatch runs refl (x, e) (nothing_large g) (inl (inl (n, p, runs), refl)))
  fails _ _ (IsRefused.unfitting_part {m = m} {n = n} {x = x} {p = p} t k runs e is_small never) =
      inr (behind_all t (line.In t k) (act (action.receive m n) p) fault.NoMatch runs refl (x, e) is_small (inl (inr (m, n, p, x, runs, e, never), refl)))
  fails _ _ (IsRefused.other_part {m = m} {n = n} {x = x} {y = y} {z = z} {p = p} t k σ runs e is_small pair fits other) =
      inr (behind_all t (line.In t k) (act (action.receive m n) p) fault.Unequal runs refl (x, e) is_small (inr ((m, n, p, x, y, z, σ, runs, e, pair, fits), inl refl)))
  fails _ _ (IsRefused.unfitting_message {m = m} {n = n} {l = l} {r = r} {p = p} {q = q} s t a b is_small never) =
      let w = meeting s t m n l r p q a b in inr (met s t fault.NoMatch w (inr ((w, is_small), inl ((w, never), refl))))
  fails _ _ (IsRefused.channels_differ {m = m} {n = n} {l = l} {r = r} {p = p} {q = q} s t σ a b is_small fits other) =
      let w = meeting s t m n l r p q a b in inr (met s t fault.Unequal w (inr ((w, is_small), inr ((w, σ, fits), inl refl))))
  fails _ _ (IsRefused.terms_differ {m = m} {n = n} {p = p} {q = q} t runs is_small other) = inr (behind_all t (line.Then t) (whole.test m n p q) fault.Unequal runs refl tt is_small (inl refl))
  fails _ _ (IsRefused.terms_agree {m = m} {n = n} {p = p} {q = q} t runs is_small equal) = inr (behind_all t (line.Else t) (whole.test m n p q) fault.Equal runs refl tt is_small (inl refl))
  fails _ _ (IsRefused.unset {m = m} {x = x} {p = p} {q = q} t runs is_small f gone) = inr (behind_all t (line.Found t) (whole.lookup m x p q) fault.Unset runs refl tt is_small (inl refl))
  fails _ _ (IsRefused.set {m = m} {x = x} {p = p} {q = q} t runs is_small f there) = inr (behind_all t (line.Missing t) (whole.lookup m x p q) fault.Set runs refl tt is_small (inl refl))
  fails _ _ (IsRefused.held {m = m} {i = i} {p = p} t runs is_small f there) = inr (behind_all t (line.Lock t) (act (action.lock m i) p) fault.Held runs refl tt is_small (inl refl))
  fails _ _ (IsRefused.fact_count {l = l} {e = e} {r = r} {p = p} t ks b runs other) =
      let w = rule t l e r p runs in inr (ruled t ks b fault.FactCount w (inl ((w, other), refl)))
  fails _ _ (IsRefused.fact_missing {l = l} {e = e} {r = r} {p = p} t ks b index runs count missing) =
      let w = rule t l e r p runs in inr (ruled t ks b (fault.FactMissing index) w (inr ((w, count), inl (index, missing, refl))))
  fails _ _ (IsRefused.bad_binding {l = l} {e = e} {r = r} {left = left} {rest = rest} {p = p} t ks b runs count takes wrong) =
      let w = rule t l e r p runs in inr (ruled t ks b fault.BadBinding w (inr ((w, count), inr ((left, rest, takes), inl ((w, wrong), refl)))))
  fails _ _ (IsRefused.unfitting_facts {l = l} {e = e} {r = r} {left = left} {rest = rest} {p = p} t ks b runs count takes right_ never) =
      let w = rule t l e r p runs in inr (ruled t ks b fault.NoMatch w (inr ((w, count), inr ((left, rest, takes), inr ((w, right_), inl ((w, (left, rest, takes, never)), refl))))))
  fails _ _ (IsRefused.large_rule {l = l} {e = e} {r = r} {left = left} {rest = rest} {p = p} t ks b σ runs takes right_ fits large) =
      let w = rule t l e r p runs in
      let count : length ks ≡ length l = takes_length takes ∙ equal_length g (instance_facts σ l) left fits.equal ∙ length-map l (instance_fact σ) in
      inr (ruled t ks b fault.TermLarge w (inr ((w, count), inr ((left, rest, takes), inr ((w, right_), inr ((w, (left, rest, σ, takes, fits)), inl refl))))))
  fails _ _ (IsRefused.not_public f ks private) = inr (inl (private, refl))
  fails _ _ (IsRefused.other_arity f ks p other) = inr (inr (p, inl (other, refl)))
  fails _ _ (IsRefused.unknown_argument f ks k p a unknown) = inr (inr (p, inr (a, inl (k, unknown, refl))))
  fails _ _ (IsRefused.large_application f ks ts x p a known form large) = inr (inr (p, inr (a, inr ((ts, known), inl refl))))

pub refusals_are_one : RefusalsAreOne
refusals_are_one g c es step e f h k = elim (fails g c es step e h) [
  | inl is ↦ inl is
  | inr a ↦ elim (fails g c es step f k) [ inl is ↦ inr (inl is) | inr b ↦ inr (inr (one_fault (chain g c es step) e f a b)) ]
]
