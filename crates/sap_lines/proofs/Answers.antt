-- A line that is possible within the limit is refused for want of memory alone.
use Rattle.std.proofs.Common.{◌≡◌, ℕ, zero, suc, ◌<◌, ◌≤◌, Bool, true, false, List, [], ◌∷◌, ◌++◌, length, Some, None, map, take, find, nat_le, slice_get, arith, rules, refl, sym, ap, subst, ◌∙◌, inl, inr}
use Rattle.std.specs.Prelude.{All}
use Rattle.std.proofs.lemmas.List.{length-map}
use Rattle.std.proofs.lemmas.List.Elements.{All-nil, All-cons, All-contains}
use Rattle.std.proofs.lemmas.Option.{slice_get_within}
use Rattle.sap_terms.specs.Choice.{Choice, instance}
use Rattle.sap_terms.specs.Equal.{IsTheoryEqual}
use Rattle.sap_terms.specs.Equations.{equations, app2, pair_name}
use Rattle.sap_terms.specs.Message.{IsMessage, IsMessageChoice}
use Rattle.sap_terms.specs.Modulo.{instance_fact, instance_facts, AreEqualFacts}
use Rattle.sap_terms.specs.Normal.{IsNormal, IsNormalForm}
use Rattle.sap_terms.specs.Piles.{Pile, Takes, nothing, one, used}
use Rattle.sap_terms.specs.Signature.{Sig}
use Rattle.sap_terms.specs.Tree.{Tree, Trees, none, more, trees_of, apply, node_count}
use Rattle.sap_terms.specs.View.{tree}
use Rattle.sap_terms.specs.declared.binding.Binding.{Binding}
use Rattle.sap_terms.specs.declared.fact.Fact.{Fact}
use Rattle.sap_terms.specs.declared.limits.TheConstants.{MOST_TERM_NODES}
use Rattle.sap_facts.specs.Facts.{standing, fact_at}
use Rattle.sap_rewrite.specs.Large.{SomeSubterm, SomeSubtermWithin, HasLargeForm, itself, below, here, later}
use Rattle.sap_rewrite.specs.Match.{Agrees}
use Rattle.sap_process.specs.Action as action
use Rattle.sap_process.specs.Configuration.{Config, Runs, IsUnused}
use Rattle.sap_process.specs.Heads.{facts_terms}
use Rattle.sap_process.specs.Proc as whole
use Rattle.sap_process.specs.Proc.{Proc, act}
use Rattle.sap_process.specs.ProcessSteps.{Fits}
use Rattle.sap_runs.specs.Inner.{InnerAction}
use Rattle.sap_runs.specs.Limits.{HasFewNodes}
use Rattle.sap_runs.specs.declared.process_step.PStep.{PStep}
use Rattle.sap_lines.specs.Answers.{MatchesExactly, ProcessLinesHaveOneAnswer}
use Rattle.sap_lines.specs.Faults.{IsRefused, IsUnfit, IsUsed, EvaluateLarge, thread_of, has_form, is_send, is_receive, evaluated}
use Rattle.sap_lines.specs.Lines.{IsProcessLine, EvaluateWithin, left_open}
use Rattle.sap_lines.specs.declared.fault.PFault.{PFault}
use Rattle.sap_lines.specs.declared.fault.PFault.TheVariants as fault
use Rattle.sap_lines.proofs.Fits.{pair_parts, takes_one, takes_length, equal_length}
use Rattle.sap_lines.proofs.Outcomes.{one_thread, one_entry, same_terms, embedded_agree}
use Rattle.sap_lines.proofs.Premises.{Laws}
use Rattle.sap_terms.proofs.PlainLaws.Choices.{facts_agree}
use Rattle.sap_terms.proofs.PlainLaws.Items.{contains_got}

-- what holds of some subterm, by some other tree
mutual
  pulled : (P A : Tree → Type 0) (F : Tree → Tree → Type 0) → ((t : Tree) → P t → (n : Tree) × A n × F n t) → (t : Tree) → SomeSubterm P t → (n : Tree) × A n × SomeSubterm (F n) t
  pulled P A F by t (itself h) = let r = by t h in (r.0, r.1, itself r.2)
  pulled P A F by (apply f ts) (below h) = let r = pulled_within P A F by ts h in (r.0, r.1, below r.2)

  pulled_within : (P A : Tree → Type 0) (F : Tree → Tree → Type 0) → ((t : Tree) → P t → (n : Tree) × A n × F n t) → (ts : Trees) → SomeSubtermWithin P ts → (n : Tree) × A n × SomeSubtermWithin (F n) ts
  pulled_within P A F by none h = elim h [ ]
  pulled_within P A F by (more t ts) (here h) = let r = pulled P A F by t h in (r.0, r.1, here r.2)
  pulled_within P A F by (more t ts) (later h) = let r = pulled_within P A F by ts h in (r.0, r.1, later r.2)

pub too_large : (n : Tree) → MOST_TERM_NODES < node_count n → node_count n ≤ MOST_TERM_NODES → ⊥
too_large n a b = omega arith

-- what is too large isn't within the limit
pub large_small : (g : Sig) (ts : List Tree) → EvaluateLarge g ts → EvaluateWithin g HasFewNodes ts → ⊥
large_small g ts h small =
    let r = pulled_within (HasLargeForm (equations g) MOST_TERM_NODES) (λ n. MOST_TERM_NODES < node_count n) (λ n u. IsNormalForm (equations g) u n) (λ t k. (k.form, k.large, k.is_form)) (trees_of ts) h in
    too_large r.0 r.1 (small r.0 r.2)

-- where numbers can be taken, none of them is missing
live_at : (facts : Pile) (k n : ℕ) (f : Fact) → slice_get facts k ≡ Some (Some f) → k ≡ n → fact_at facts n ≡ None → ⊥
live_at facts k n f a e gone =
    let live : fact_at facts n ≡ Some f = ap (fact_at facts) (sym e) ∙ ap standing a in
    cc

pub one_live : (facts : Pile) (k : ℕ) (f h : Fact) → slice_get facts k ≡ Some (Some f) → slice_get facts k ≡ Some (Some h) → h ≡ f
one_live facts k f h a b = cc

pub never_missing : {facts rest left : Pile} {ks : List ℕ} {fs before : List Fact} (at number : ℕ) → Takes facts ks fs rest → slice_get ks at ≡ Some number → Takes facts (take at ks) before left → fact_at left number ≡ None → ⊥
never_missing at number nothing at_number t gone = cc
never_missing {facts = facts} zero number (one {k = k} {f = f} a others) at_number nothing gone = live_at facts k number f a (cc) gone
never_missing {facts = facts} {left = left} (suc at) number (one {k = k} {ks = ks} {f = f} a others) at_number (one {f = h} {fs = hs} b t) gone =
    let e : h ≡ f = one_live facts k f h a b in
    never_missing at number others at_number (subst (λ x. Takes (used facts k x) (take at ks) hs left) e t) gone

-- where each number is an entry's, none is unknown
known_test : (n k : ℕ) → k < n → nat_le n k ≡ false
known_test n k h = by (nat_le n k) refl where
  by : (t : Bool) → nat_le n k ≡ t → t ≡ false
  by true e = let le : n ≤ k = search (rules, e) in absurd (omega (arith, h, le))
  by false e = refl

pub none_unknown : (xs : List Tree) (ks : List ℕ) (ts : List Tree) → map (slice_get xs) ks ≡ map Some ts → find (nat_le (length xs)) ks ≡ None
none_unknown xs [] ts h = refl
none_unknown xs (k ∷ ks) [] h = cc
none_unknown xs (k ∷ ks) (t ∷ ts) h =
    let head : slice_get xs k ≡ Some t = cc in
    let tail : map (slice_get xs) ks ≡ map Some ts = cc in
    rw (known_test (length xs) k (slice_get_within xs k t head)) (none_unknown xs ks ts tail)

-- bindings that a choice of messages agrees with are to messages
pub good_terms : (g : Sig) (σ : Choice) (b : List Binding) → IsMessageChoice g σ → Agrees b σ → All (λ (e : Binding). IsMessage g e.var.sort (tree e.term)) b
good_terms g σ [] m a = All-nil (λ (e : Binding). IsMessage g e.var.sort (tree e.term))
good_terms g σ (x ∷ xs) m a = All-cons (λ (e : Binding). IsMessage g e.var.sort (tree e.term)) x xs (subst (IsMessage g x.var.sort) a.0 (m x.var)) (good_terms g σ xs m a.1)

not_used : (c : Config) (n : ℕ) → IsUnused c n → IsUsed c n → ⊥
not_used c n h (inl k) = h.0 k
not_used c n h (inr k) = h.1 k

-- the thread of a line that is possible has the form that the line asks of it, and is evaluated within the limit
record HasRun (g : Sig) (c : Config) (step : PStep) (t : ℕ) : Type 0 where
  process : Proc
  runs : Runs c t process
  form : has_form step process ≡ true
  within : EvaluateWithin g HasFewNodes (evaluated process)

pub nothing_large : (g : Sig) → EvaluateWithin g HasFewNodes []
nothing_large g n h = elim h [ ]

the_thread : (step : PStep) (s t : ℕ) → thread_of step ≡ Some s → thread_of step ≡ Some t → s ≡ t
the_thread step s t a b = cc

module _ (g : Sig) where
  -- the same, for the number that the line names
  abbrev run : {c : Config} {step : PStep} (s t : ℕ) → thread_of step ≡ Some s → thread_of step ≡ Some t → (p : Proc) → Runs c s p → has_form step p ≡ true → EvaluateWithin g HasFewNodes (evaluated p) → HasRun g c step t
  run {c} {step} s t a b p r f w = record { process = p; runs = subst (λ n. Runs c n p) (the_thread step s t a b) r; form = f; within = w }

  has_run : (c d : Config) (es fs : List Tree) (step : PStep) (inner : List InnerAction) (label : List Fact) → IsProcessLine g HasFewNodes c es step inner label d fs → (t : ℕ) → thread_of step ≡ Some t → HasRun g c step t
  has_run c d es fs step inner label (IsProcessLine.ends s r) t e = run s t refl e _ r refl (nothing_large g)
  has_run c d es fs step inner label (IsProcessLine.splits s r) t e = run s t refl e _ r refl (nothing_large g)
  has_run c d es fs step inner label (IsProcessLine.copies s r) t e = run s t refl e _ r refl (nothing_large g)
  has_run c d es fs step inner label (IsProcessLine.makes_name s n r u) t e = run s t refl e _ r refl (nothing_large g)
  has_run c d es fs step inner label (IsProcessLine.outputs s r f v) t e = run s t refl e _ r refl v
  has_run c d es fs step inner label (IsProcessLine.outputs_on s k r h f i v) t e = run s t refl e _ r refl v
  has_run c d es fs step inner label (IsProcessLine.inputs s k σ r h f) t e = run s t refl e _ r refl (nothing_large g)
  has_run c d es fs step inner label (IsProcessLine.inputs_on s k σ r h m q v) t e = run s t refl e _ r refl v
  has_run c d es fs step inner label (IsProcessLine.meets a b σ r h m q v) t e = absurd (cc)
  has_run c d es fs step inner label (IsProcessLine.agrees s r f h same v) t e = run s t refl e _ r refl v
  has_run c d es fs step inner label (IsProcessLine.differs s r f h differ v) t e = run s t refl e _ r refl v
  has_run c d es fs step inner label (IsProcessLine.shows s r f v) t e = run s t refl e _ r refl v
  has_run c d es fs step inner label (IsProcessLine.inserts s r f h v) t e = run s t refl e _ r refl v
  has_run c d es fs step inner label (IsProcessLine.deletes s r f v) t e = run s t refl e _ r refl v
  has_run c d es fs step inner label (IsProcessLine.finds s r f h v) t e = run s t refl e _ r refl v
  has_run c d es fs step inner label (IsProcessLine.misses s r f h v) t e = run s t refl e _ r refl v
  has_run c d es fs step inner label (IsProcessLine.locks s r f h v) t e = run s t refl e _ r refl v
  has_run c d es fs step inner label (IsProcessLine.unlocks s r f v) t e = run s t refl e _ r refl v
  has_run c d es fs step inner label (IsProcessLine.embeds s ks b σ left acts right r m q a i j k l v) t e = run s t refl e _ r refl (nothing_large g)
  has_run c d es fs step inner label (IsProcessLine.names n u) t e = absurd (cc)
  has_run c d es fs step inner label (IsProcessLine.writes a) t e = absurd (cc)
  has_run c d es fs step inner label (IsProcessLine.applies f ks ts x p a h n v) t e = absurd (cc)
  has_run c d es fs step inner label (IsProcessLine.knows k x h) t e = absurd (cc)

never_unfit : (c : Config) (t : ℕ) (form : Proc → Bool) (e : PFault) (p : Proc) → Runs c t p → form p ≡ true → IsUnfit c t form e → ⊥
never_unfit c t form e p r f (IsUnfit.not_running never) = never p r
never_unfit c t form e p r f (IsUnfit.other_form {p = q} s other) =
    let same : p ≡ q = one_thread c t p q r s in
    let passes : form q ≡ true = subst (λ z. form z ≡ true) same f in
    cc

module _ (laws : Laws) (g : Sig) (c : Config) (es : List Tree) (exact : MatchesExactly g c es) where
  large_head : (t : ℕ) (p q : Proc) → Runs c t p → Runs c t q → EvaluateWithin g HasFewNodes (evaluated p) → EvaluateLarge g (evaluated q) → ⊥
  large_head t p q r s small large = large_small g (evaluated q) large (subst (λ z. EvaluateWithin g HasFewNodes (evaluated z)) (one_thread c t p q r s) small)

  refute : (step : PStep) (e : PFault) (d : Config) (fs : List Tree) (inner : List InnerAction) (label : List Fact) → IsRefused g c es step e → IsProcessLine g HasFewNodes c es step inner label d fs → e ≡ fault.Mem
  refute _ _ d fs inner label (IsRefused.no_memory step) h = refl
  refute _ e d fs inner label (IsRefused.unfit {step = step} t named unfit) h = let k = has_run g c d es fs step inner label h t named in absurd (never_unfit c t (has_form step) e k.process k.runs k.form unfit)
  refute _ e d fs inner label (IsRefused.unfit_sender s t unfit) (IsProcessLine.meets s' t' σ r q k f v) = absurd (never_unfit c s is_send e _ r refl unfit)
  refute _ e d fs inner label (IsRefused.unfit_receiver s t a unfit) (IsProcessLine.meets s' t' σ r q k f v) = absurd (never_unfit c t is_receive e _ q refl unfit)
  refute _ _ d fs inner label (IsRefused.used_name t n r f u) (IsProcessLine.makes_name t' n' r' v) = absurd (not_used c n v u)
  refute _ _ d fs inner label (IsRefused.used_own n u) (IsProcessLine.names n' v) = absurd (not_used c n v u)
  refute _ _ d fs inner label (IsRefused.unknown_channel t k r f gone) (IsProcessLine.outputs_on t' k' r' e n i v) = absurd (cc (gone, e))
  refute _ _ d fs inner label (IsRefused.unknown_input t k r f gone) (IsProcessLine.inputs t' k' σ r' e i) = absurd (cc (gone, e))
  refute _ _ d fs inner label (IsRefused.unknown_input t k r f gone) (IsProcessLine.inputs_on t' k' σ r' e m i v) = absurd (cc (gone, e))
  refute _ _ d fs inner label (IsRefused.unknown_shown k gone) (IsProcessLine.knows k' x e) = absurd (cc (gone, e))
  refute _ _ d fs inner label (IsRefused.large {step = step} {p = p} running entry large) h =
      let k = has_run g c d es fs step inner label h running.thread running.named in absurd (large_head running.thread k.process p k.runs running.runs k.within large)
  refute _ _ d fs inner label (IsRefused.large_meeting {m = m} {n = n} {l = l} {r = u} {p = p} {q = q} s t a b large) (IsProcessLine.meets {m = m'} {n = n'} {l = l'} {r = u'} {p = p'} {q = q'} s' t' σ a' b' k f v) =
      let sender = one_thread c s (act (action.send m n) p) (act (action.send m' n') p') a a' in
      let receiver = one_thread c t (act (action.receive l u) q) (act (action.receive l' u') q') b b' in
      let first : m ≡ m' = cc in
      let second : n ≡ n' = cc in
      let third : l ≡ l' = cc in
      absurd (large_small g (m' ∷ n' ∷ l' ∷ []) (subst (EvaluateLarge g) (λ i. first i ∷ second i ∷ third i ∷ []) large) v)
  refute _ _ d fs inner label (IsRefused.other_channel {m = m} {n = n} {x = x} {p = p} t k a e small other) (IsProcessLine.outputs_on {m = m'} {n = n'} {x = x'} {p = p'} t' k' a' e' f' i' v') =
      let is = one_thread c t (act (action.send m n) p) (act (action.send m' n') p') a a' in
      let channel : m ≡ m' = cc in
      let entry = one_entry es k x x' e e' in
      absurd (other (subst (λ z. IsNormalForm (equations g) z x) (sym channel) (subst (λ z. IsNormalForm (equations g) m' z) (sym entry) f')))
  refute _ _ d fs inner label (IsRefused.unfitting {n = n} {x = x} {p = p} t k a e never) (IsProcessLine.inputs {n = n'} {x = x'} {p = p'} t' k' σ a' e' f') =
      let is = one_thread c t (act (action.input n) p) (act (action.input n') p') a a' in
      let pattern : n ≡ n' = cc in
      let entry = one_entry es k x x' e e' in
      absurd (never σ (subst (λ z. Fits g σ z x) (sym pattern) (subst (λ z. Fits g σ n' z) (sym entry) f')))
  refute _ _ d fs inner label (IsRefused.unfitting {n = n} {p = p} t k a e never) (IsProcessLine.inputs_on {m = m'} {n = n'} {p = p'} t' k' σ a' e' mσ f' v') =
      let is = one_thread c t (act (action.input n) p) (act (action.receive m' n') p') a a' in absurd (cc)
  refute _ _ d fs inner label (IsRefused.unfitting_part {m = m} {n = n} {p = p} t k a e small never) (IsProcessLine.inputs {n = n'} {p = p'} t' k' σ a' e' f') =
      let is = one_thread c t (act (action.receive m n) p) (act (action.input n') p') a a' in absurd (cc)
  refute _ _ d fs inner label (IsRefused.unfitting_part {m = m} {n = n} {x = x} {p = p} t k a e small never) (IsProcessLine.inputs_on {m = m'} {n = n'} {x = x'} {p = p'} t' k' σ a' e' mσ f' v') =
      let is = one_thread c t (act (action.receive m n) p) (act (action.receive m' n') p') a a' in
      let pattern : n ≡ n' = cc in
      let entry = one_entry es k x x' e e' in
      let parts = pair_parts laws g m' (instance σ n') x' (All-contains (IsNormal (equations g)) es x' exact.entries (contains_got es x' k e')) f' in
      absurd (never parts.first parts.second (entry ∙ parts.is) σ (record { messages = mσ; equal = subst (λ z. IsTheoryEqual (equations g) (instance σ z) parts.second) (sym pattern) parts.second_form.equal }))
  refute _ _ d fs inner label (IsRefused.other_part {m = m} {n = n} {p = p} t k τ a e small pair fits other) (IsProcessLine.inputs {n = n'} {p = p'} t' k' σ a' e' f') =
      let is = one_thread c t (act (action.receive m n) p) (act (action.input n') p') a a' in absurd (cc)
  refute _ _ d fs inner label (IsRefused.other_part {m = m} {n = n} {x = x} {y = y} {z = z} {p = p} t k τ a e small pair fits other) (IsProcessLine.inputs_on {m = m'} {n = n'} {x = x'} {p = p'} t' k' σ a' e' mσ f' v') =
      let is = one_thread c t (act (action.receive m n) p) (act (action.receive m' n') p') a a' in
      let channel : m ≡ m' = cc in
      let entry = one_entry es k x x' e e' in
      let parts = pair_parts laws g m' (instance σ n') x' (All-contains (IsNormal (equations g)) es x' exact.entries (contains_got es x' k e')) f' in
      let both : app2 pair_name y z ≡ app2 pair_name parts.first parts.second = sym pair ∙ entry ∙ parts.is in
      let first : y ≡ parts.first = cc in
      absurd (other (subst (λ w. IsNormalForm (equations g) w y) (sym channel) (subst (λ w. IsNormalForm (equations g) m' w) (sym first) parts.first_form)))
  refute _ _ d fs inner label (IsRefused.unfitting_message {m = m} {n = n} {l = l} {r = u} {p = p} {q = q} s t a b small never) (IsProcessLine.meets {m = m'} {n = n'} {l = l'} {r = u'} {p = p'} {q = q'} s' t' σ a' b' k f v) =
      let sender = one_thread c s (act (action.send m n) p) (act (action.send m' n') p') a a' in
      let receiver = one_thread c t (act (action.receive l u) q) (act (action.receive l' u') q') b b' in
      let sent : n ≡ n' = cc in
      let pattern : u ≡ u' = cc in
      absurd (never σ (subst (λ z. Fits g σ z n) (sym pattern) (subst (λ z. Fits g σ u' z) (sym sent) f)))
  refute _ _ d fs inner label (IsRefused.channels_differ {m = m} {n = n} {l = l} {r = u} {p = p} {q = q} s t τ a b small fits other) (IsProcessLine.meets {m = m'} {n = n'} {l = l'} {r = u'} {p = p'} {q = q'} s' t' σ a' b' k f v) =
      let sender = one_thread c s (act (action.send m n) p) (act (action.send m' n') p') a a' in
      let receiver = one_thread c t (act (action.receive l u) q) (act (action.receive l' u') q') b b' in
      let first : m ≡ m' = cc in
      let third : l ≡ l' = cc in
      absurd (other (subst (λ z. IsTheoryEqual (equations g) z l) (sym first) (subst (λ z. IsTheoryEqual (equations g) m' z) (sym third) k)))
  refute _ _ d fs inner label (IsRefused.terms_differ {m = m} {n = n} {p = p} {q = q} t a small other) (IsProcessLine.agrees {m = m'} {n = n'} {x = x} {y = y} {p = p'} {q = q'} t' a' f h same v) =
      let is = one_thread c t (whole.test m n p q) (whole.test m' n' p' q') a a' in
      let first : m ≡ m' = cc in
      let second : n ≡ n' = cc in
      absurd (other (subst (λ z. IsTheoryEqual (equations g) z n) (sym first) (subst (λ z. IsTheoryEqual (equations g) m' z) (sym second) ((laws.decide (equations g) m' n' x y f h).1 same))))
  refute _ _ d fs inner label (IsRefused.terms_agree {m = m} {n = n} {p = p} {q = q} t a small equal) (IsProcessLine.differs {m = m'} {n = n'} {x = x} {y = y} {p = p'} {q = q'} t' a' f h differ v) =
      let is = one_thread c t (whole.test m n p q) (whole.test m' n' p' q') a a' in
      let first : m ≡ m' = cc in
      let second : n ≡ n' = cc in
      absurd (differ ((laws.decide (equations g) m' n' x y f h).0 (subst (λ z. IsTheoryEqual (equations g) z n') first (subst (λ z. IsTheoryEqual (equations g) m z) second equal))))
  refute _ _ d fs inner label (IsRefused.unset {m = m} {k = k} {x = x} {p = p} {q = q} t a small f nothing_there) (IsProcessLine.finds {m = m'} {k = k'} {x = x'} {p = p'} {q = q'} t' a' f' e' v') =
      let is = one_thread c t (whole.lookup m x p q) (whole.lookup m' x' p' q') a a' in
      let term : m ≡ m' = cc in
      let key : k ≡ k' = laws.one_form (equations g) m' k k' (subst (λ z. IsNormalForm (equations g) z k) term f) f' in
      let gone : c.store k' ≡ None = subst (λ z. c.store z ≡ None) key nothing_there in
      absurd (cc (gone, e'))
  refute _ _ d fs inner label (IsRefused.set {m = m} {k = k} {v = y} {x = x} {p = p} {q = q} t a small f some) (IsProcessLine.misses {m = m'} {k = k'} {x = x'} {p = p'} {q = q'} t' a' f' e' v') =
      let is = one_thread c t (whole.lookup m x p q) (whole.lookup m' x' p' q') a a' in
      let term : m ≡ m' = cc in
      let key : k ≡ k' = laws.one_form (equations g) m' k k' (subst (λ z. IsNormalForm (equations g) z k) term f) f' in
      let there : c.store k' ≡ Some y = subst (λ z. c.store z ≡ Some y) key some in
      absurd (cc (there, e'))
  refute _ _ d fs inner label (IsRefused.held {m = m} {k = k} {i = n} {p = p} t a small f is_held) (IsProcessLine.locks {m = m'} {k = k'} {i = n'} {p = p'} t' a' f' e' v') =
      let is = one_thread c t (act (action.lock m n) p) (act (action.lock m' n') p') a a' in
      let term : m ≡ m' = cc in
      let key : k ≡ k' = laws.one_form (equations g) m' k k' (subst (λ z. IsNormalForm (equations g) z k) term f) f' in
      let there : c.held k' ≡ true = subst (λ z. c.held z ≡ true) key is_held in
      absurd (cc (there, e'))
  refute _ _ d fs inner label (IsRefused.fact_count {l = l} {e = e} {r = r} {p = p} t ks b a other) (IsProcessLine.embeds {l = l'} {e = e'} {r = r'} {p = p'} t' ks' b' σ left acts right a' m q i j k x y v) =
      let is = one_thread c t (act (action.embedded l e r) p) (act (action.embedded l' e' r') p') a a' in
      let ls : l' ≡ l = cc in
      absurd (other (takes_length k ∙ equal_length g (instance_facts σ l') left j ∙ length-map l' (instance_fact σ) ∙ ap length ls))
  refute _ _ d fs inner label (IsRefused.fact_missing t ks b index a count missing) (IsProcessLine.embeds t' ks' b' σ left acts right a' m q i j k x y v) = absurd (never_missing missing.at missing.number k missing.here missing.takes missing.gone)
  refute _ _ d fs inner label (IsRefused.bad_binding {l = l} {e = e} {r = r} {p = p} t ks b a count takes wrong) (IsProcessLine.embeds {l = l'} {e = e'} {r = r'} {p = p'} t' ks' b' σ left acts right a' m q i j k x y v) =
      let is = one_thread c t (act (action.embedded l e r) p) (act (action.embedded l' e' r') p') a a' in
      let ls : l' ≡ l = cc in
      let mids : e' ≡ e = cc in
      let rs : r' ≡ r = cc in
      absurd (wrong (record { vars = q ∙ (λ z. left_open (ls z) (mids z) (rs z)); terms = good_terms g σ b m i }))
  refute _ _ d fs inner label (IsRefused.unfitting_facts {l = l} {e = e} {r = r} {left = taken} {p = p} t ks b a count takes right_ never) (IsProcessLine.embeds {l = l'} {e = e'} {r = r'} {p = p'} t' ks' b' σ left acts right a' m q i j k x y v) =
      let is = one_thread c t (act (action.embedded l e r) p) (act (action.embedded l' e' r') p') a a' in
      let ls : l' ≡ l = cc in
      let facts : left ≡ taken = (takes_one k takes).0 in
      absurd (never σ (record { messages = m; agrees = i; equal = subst (λ z. AreEqualFacts (equations g) (instance_facts σ z) taken) ls (subst (λ z. AreEqualFacts (equations g) (instance_facts σ l') z) facts j) }))
  refute _ _ d fs inner label (IsRefused.large_rule {l = l} {e = e} {r = r} {left = taken} {rest = rest} {p = p} t ks b τ a takes right_ fits large) (IsProcessLine.embeds {l = l'} {e = e'} {r = r'} {p = p'} t' ks' b' σ left acts right a' m q i j k x y v) =
      let is = one_thread c t (act (action.embedded l e r) p) (act (action.embedded l' e' r') p') a a' in
      let ls : l' ≡ l = cc in
      let mids : e' ≡ e = cc in
      let rs : r' ≡ r = cc in
      let facts : left ≡ taken = (takes_one k takes).0 in
      let equal_too = subst (λ z. AreEqualFacts (equations g) (instance_facts σ z) taken) ls (subst (λ z. AreEqualFacts (equations g) (instance_facts σ l') z) facts j) in
      let agree = embedded_agree laws g c es exact t l e r taken rest p ks b τ σ a right_.vars fits.messages m fits.agrees i takes fits.equal equal_too in
      let same : instance_facts τ (l ++ (e ++ r)) ≡ instance_facts σ (l' ++ (e' ++ r')) = facts_agree τ σ (l ++ (e ++ r)) agree ∙ (λ z. instance_facts σ (sym ls z ++ (sym mids z ++ sym rs z))) in
      absurd (large_small g (facts_terms (instance_facts σ (l' ++ (e' ++ r')))) (subst (λ z. EvaluateLarge g (facts_terms z)) same large) v)
  refute _ _ d fs inner label (IsRefused.not_public f ks private) (IsProcessLine.applies f' ks' ts x p a h n v) = absurd (private p)
  refute _ _ d fs inner label (IsRefused.other_arity f ks p other) (IsProcessLine.applies f' ks' ts x p' a h n v) = absurd (other a)
  refute _ _ d fs inner label (IsRefused.unknown_argument f ks k p a unknown) (IsProcessLine.applies f' ks' ts x p' a' h n v) =
      let never = none_unknown es ks ts h in
      absurd (cc (never, unknown))
  refute _ _ d fs inner label (IsRefused.large_application f ks ts x p a h n large) (IsProcessLine.applies f' ks' ts' x' p' a' h' n' v') =
      let terms : ts ≡ ts' = same_terms ts ts' (sym h ∙ h') in
      let form : x ≡ x' = laws.one_form (equations g) (apply f (trees_of ts')) x x' (subst (λ z. IsNormalForm (equations g) (apply f (trees_of z)) x) terms n) n' in
      absurd (too_large x large (subst (λ z. node_count z ≤ MOST_TERM_NODES) (sym form) v'))

pub one_answer : Laws → ProcessLinesHaveOneAnswer
one_answer laws g c d es fs step inner label e exact line refused = refute laws g c es exact step e d fs inner label refused line
