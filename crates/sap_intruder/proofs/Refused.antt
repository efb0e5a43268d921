-- A step of a short run is refused for one cause, and not where it is possible.
use Rattle.std.proofs.Common.{◌≡◌, ℕ, Bool, true, false, List, [], ◌∷◌, refl, sym, ap, subst, ◌⊎◌, inl, inr}
use Rattle.std.proofs.lemmas.List.Elements.{All-nil, All-cons}
use Rattle.sap_terms.specs.Equations.{equations}
use Rattle.sap_terms.specs.Normal.{IsNormal, IsNormalForm}
use Rattle.sap_terms.specs.Signature.{Sig}
use Rattle.sap_terms.specs.Tree.{Tree}
use Rattle.sap_terms.specs.View.{tree}
use Rattle.sap_terms.specs.declared.fact.Fact.{Fact}
use Rattle.sap_terms.specs.declared.term.Term.{Term}
use Rattle.sap_rewrite.specs.Laws.{FormIsOne}
use Rattle.sap_process.specs.Action.{send}
use Rattle.sap_process.specs.Configuration.{Config, Runs, CanGive}
use Rattle.sap_process.specs.Proc.{Proc, act}
use Rattle.sap_runs.specs.Inner.{InnerAction}
use Rattle.sap_runs.specs.Limits.{HasFewNodes}
use Rattle.sap_runs.specs.declared.process_step.PStep.{PStep}
use Rattle.sap_runs.specs.declared.process_step.PStep.TheVariants as line
use Rattle.sap_runs.specs.declared.short_step.SStep.{SStep}
use Rattle.sap_runs.specs.declared.short_step.SStep.TheVariants as short
use Rattle.sap_lines.specs.Answers.{MatchesExactly, RefusalsAreOne, ProcessLinesHaveOneAnswer}
use Rattle.sap_lines.specs.Channels.{SendsOn, HasNoChannel, too_large, ChannelsAreOne, ChannelsHaveOneAnswer, MissingChannelsAreOne}
use Rattle.sap_lines.specs.Faults.{IsRefused, IsUnfit, not_running, other_form, has_form, evaluated, EvaluateLarge}
use Rattle.sap_lines.specs.Lines.{IsProcessLine}
use Rattle.sap_lines.specs.declared.fault.PFault.{PFault}
use Rattle.sap_lines.specs.declared.fault.PFault.TheVariants as fault
use Rattle.sap_intruder.specs.ShortLines.{IsGiven, IsShortLine, acts, takes, sends, knows}
use Rattle.sap_intruder.specs.Refusals.{IsNotGiven, bad, not_deduced, IsShortRefused, line_refused, unfit_taker, input_not_given, input_refused, no_channel, channel_not_given, known_not_given}
use Rattle.sap_intruder.specs.OneAnswer.{ShortRefusalsAreOne, ShortLinesAreNotRefused}
use Rattle.sap_intruder.specs.declared.fill_fault.FillFault.{FillFault}
use Rattle.sap_intruder.specs.declared.fill_fault.FillFault.TheVariants as fill

-- of two faults that are one or want of memory, neither being that, they are one
settled : (e f : PFault) → (e ≡ fault.Mem) ⊎ ((f ≡ fault.Mem) ⊎ (e ≡ f)) → ¬ (e ≡ fault.Mem) → ¬ (f ≡ fault.Mem) → e ≡ f
settled e f (inl is) n m = absurd (n is)
settled e f (inr (inl is)) n m = absurd (m is)
settled e f (inr (inr same)) n m = same

-- a thread that runs in the form isn't unfit, and being unfit is no want of memory
pub unfit_runs : (c : Config) (t : ℕ) (form : Proc → Bool) (e : PFault) (p : Proc) → IsUnfit c t form e → Runs c t p → form p ≡ true → ⊥
unfit_runs c t form _ p (not_running never) r f = never p r
unfit_runs c t form _ p (other_form {p = q} s is) r f =
    let same : q ≡ p = cc (s, r) in
    let there : form p ≡ false = subst (λ (u : Proc). form u ≡ false) same is in
    absurd (cc (f, there))

pub unfit_cause : (c : Config) (t : ℕ) (form : Proc → Bool) (e : PFault) → IsUnfit c t form e → ¬ (e ≡ fault.Mem)
unfit_cause c t form _ (not_running never) = λ is. absurd (cc)
unfit_cause c t form _ (other_form r f) = λ is. absurd (cc)

module _ (one : FormIsOne) (g : Sig) (c : Config) where
  pub given_same : (u : Term) (x y : Tree) → IsGiven g c u x → IsGiven g c u y → x ≡ y
  given_same u x y h k = one (equations g) (tree u) x y h.form k.form

  -- a term that is given isn't refused
  given_not : (u : Term) (x : Tree) (f : FillFault) → IsGiven g c u x → IsNotGiven g c u f → ⊥
  given_not u x _ h (bad n) = n h.over
  given_not u x _ h (not_deduced {x = y} over form never) = never (subst (CanGive g c) (one (equations g) (tree u) x y h.form form) h.gives)

  not_given_one : (u : Term) (e f : FillFault) → IsNotGiven g c u e → IsNotGiven g c u f → e ≡ f
  not_given_one u _ _ (bad n) (bad m) = refl
  not_given_one u _ _ (bad n) (not_deduced over form never) = absurd (n over)
  not_given_one u _ _ (not_deduced over form never) (bad m) = absurd (m over)
  not_given_one u _ _ (not_deduced over form never) (not_deduced over_too form_too never_too) = refl

  -- ---- two causes

  module _ (causes : RefusalsAreOne) (channels : ChannelsAreOne) (answer : ChannelsHaveOneAnswer) (missing : MissingChannelsAreOne) where
    one_line : (s : PStep) (e : PFault) (f : FillFault) → IsRefused g c [] s e → ¬ (e ≡ fault.Mem) → IsShortRefused g c (short.Act s) f → fill.Process e ≡ f
    one_line s e _ h n (line_refused {e = d} m k o) = ap fill.Process (settled e d (causes g c [] s e d h k) n o)

    one_unfit : (t : ℕ) (u : Term) (e : PFault) (f : FillFault) → IsUnfit c t (has_form (line.In t 0)) e → IsShortRefused g c (short.In t u) f → fill.Process e ≡ f
    one_unfit t u e _ h (unfit_taker {e = d} k) =
        ap fill.Process (settled e d (causes g c [] (line.In t 0) e d (IsRefused.unfit t refl h) (IsRefused.unfit t refl k))
        (unfit_cause c t (has_form (line.In t 0)) e h) (unfit_cause c t (has_form (line.In t 0)) d k))
    one_unfit t u e f h (input_not_given {p = p} r form fails) = absurd (unfit_runs c t (has_form (line.In t 0)) e p h r form)
    one_unfit t u e _ h (input_refused {x = x} {e = d} given k n) =
        ap fill.Process (settled e d (causes g c (x ∷ []) (line.In t 0) e d (IsRefused.unfit t refl h) k) (unfit_cause c t (has_form (line.In t 0)) e h) n)

    one_not_given : (t : ℕ) (u : Term) (p : Proc) (e f : FillFault) → Runs c t p → has_form (line.In t 0) p ≡ true → IsNotGiven g c u e → IsShortRefused g c (short.In t u) f → e ≡ f
    one_not_given t u p e _ r form h (unfit_taker {e = d} k) = absurd (unfit_runs c t (has_form (line.In t 0)) d p k r form)
    one_not_given t u p e f r form h (input_not_given s too k) = not_given_one u e f h k
    one_not_given t u p e _ r form h (input_refused {x = x} given k n) = absurd (given_not u x e given h)

    one_input : (t : ℕ) (u : Term) (x : Tree) (e : PFault) (f : FillFault) → IsGiven g c u x → IsRefused g c (x ∷ []) (line.In t 0) e → ¬ (e ≡ fault.Mem) → IsShortRefused g c (short.In t u) f
        → fill.Process e ≡ f
    one_input t u x e _ given h n (unfit_taker {e = d} k) =
        ap fill.Process (settled e d (causes g c (x ∷ []) (line.In t 0) e d h (IsRefused.unfit t refl k)) n (unfit_cause c t (has_form (line.In t 0)) d k))
    one_input t u x e f given h n (input_not_given r form fails) = absurd (given_not u x f given fails)
    one_input t u x e _ given h n (input_refused {x = y} {e = d} too k m) =
        let there : IsRefused g c (x ∷ []) (line.In t 0) d = subst (λ (v : Tree). IsRefused g c (v ∷ []) (line.In t 0) d) (given_same u y x too given) k in
        ap fill.Process (settled e d (causes g c (x ∷ []) (line.In t 0) e d h there) n m)

    one_missing : (t : ℕ) (e : PFault) (f : FillFault) → HasNoChannel g c t e → ¬ (e ≡ fault.Mem) → IsShortRefused g c (short.Send t) f → fill.Process e ≡ f
    one_missing t e _ h n (no_channel {e = d} k m) = ap fill.Process (settled e d (missing g c t e d h k) n m)
    one_missing t e _ h n (channel_not_given {x = x} on never) = absurd (n (answer g c t x e on h))

    one_sending : (t : ℕ) (x : Tree) (f : FillFault) → SendsOn g c t x → IsShortRefused g c (short.Send t) f → fill.NotDeduced ≡ f
    one_sending t x _ on (no_channel {e = d} k m) = absurd (m (answer g c t x d on k))
    one_sending t x _ on (channel_not_given too never) = refl

    one_known : (u : Term) (e f : FillFault) → IsNotGiven g c u e → IsShortRefused g c (short.Know u) f → e ≡ f
    one_known u e f h (known_not_given k) = not_given_one u e f h k

    one_cause : (s : SStep) (e f : FillFault) → IsShortRefused g c s e → IsShortRefused g c s f → e ≡ f
    one_cause _ _ f (line_refused {s = s} {e = e} m h n) k = one_line s e f h n k
    one_cause _ _ f (unfit_taker {t = t} {u = u} {e = e} h) k = one_unfit t u e f h k
    one_cause _ e f (input_not_given {t = t} {u = u} {p = p} r form h) k = one_not_given t u p e f r form h k
    one_cause _ _ f (input_refused {t = t} {u = u} {x = x} {e = e} given h n) k = one_input t u x e f given h n k
    one_cause _ _ f (no_channel {t = t} {e = e} h n) k = one_missing t e f h n k
    one_cause _ _ f (channel_not_given {t = t} {x = x} on never) k = one_sending t x f on k
    one_cause _ e f (known_not_given {u = u} h) k = one_known u e f h k

  -- a line that sends on the thread's own channel is refused for the cause for which it has none
  pub missing : (t : ℕ) (ch n x : Tree) (q : Proc) (e : PFault) → Runs c t (act (send ch n) q) → IsNormalForm (equations g) ch x → IsRefused g c (x ∷ []) (line.Send t 0) e → ¬ (e ≡ fault.Mem)
      → HasNoChannel g c t e
  missing t ch n x q _ r form (IsRefused.no_memory _) not_mem = absurd (not_mem refl)
  missing t ch n x q e r form (IsRefused.unfit u named h) not_mem =
      let same : t ≡ u = cc in
      absurd (unfit_runs c t (has_form (line.Send t 0)) e (act (send ch n) q) (subst (λ (v : ℕ). IsUnfit c v (has_form (line.Send t 0)) e) (sym same) h) r refl)
  missing t ch n x q _ r form (IsRefused.unknown_channel _ _ r2 f gone) not_mem = absurd (cc)
  missing t ch n x q _ r form (IsRefused.large {p = p} running has_entry big) not_mem =
      let named = running.named in
      let same : t ≡ running.thread = cc in
      let r2 : Runs c t p = subst (λ (v : ℕ). Runs c v p) (sym same) running.runs in
      let is : p ≡ act (send ch n) q = cc (r, r2) in
      too_large r (subst (λ (v : Proc). EvaluateLarge g (evaluated v)) is big)
  missing t ch n x q _ r form (IsRefused.other_channel {m = ch2} {n = n2} {x = y} {p = p} _ _ r2 here small differs) not_mem =
      let a : ch ≡ ch2 = cc (r, r2) in
      let b : x ≡ y = cc (here) in
      absurd (differs (subst (λ (v : Tree). IsNormalForm (equations g) ch2 v) b (subst (λ (v : Tree). IsNormalForm (equations g) v x) a form)))

  -- ---- possible and refused

  -- a line that sends to the adversary sends on the entry's term
  pub sends_on : (t : ℕ) (x : Tree) (d : Config) (inner : List InnerAction) (label : List Fact) (fs : List Tree) → IsProcessLine g HasFewNodes c (x ∷ []) (line.Send t 0) inner label d fs
      → SendsOn g c t x
  sends_on t x d inner label fs (IsProcessLine.outputs_on {m = ch} {n = n} {x = y} {p = p} _ _ r here f o v) =
      let same : y ≡ x = cc (here) in
      record { channel = ch; message = n; behind = p; runs = r; form = subst (IsNormalForm (equations g) ch) same f; small = v }

  -- entries that are normal, behind which lines match exactly as behind none
  pub matches_one : MatchesExactly g c [] → (x : Tree) → CanGive g c x → MatchesExactly g c (x ∷ [])
  matches_one m x h = record {
    patterns_are = m.patterns_are;
    sorts = m.sorts;
    entries = All-cons (IsNormal (equations g)) x [] h.normal (All-nil (IsNormal (equations g)));
    facts = m.facts;
  }

  module _ (answer : ProcessLinesHaveOneAnswer) (channel_answer : ChannelsHaveOneAnswer) (channels : ChannelsAreOne) (m : MatchesExactly g c []) where
    not_act : (d : Config) (s : PStep) (inner : List InnerAction) (label : List Fact) (fs : List Tree) (e : FillFault) → IsProcessLine g HasFewNodes c [] s inner label d fs
        → IsShortRefused g c (short.Act s) e → ⊥
    not_act d s inner label fs _ h (line_refused {e = e} stands k n) = n (answer g c d [] fs s inner label e m h k)

    not_in : (d : Config) (t : ℕ) (u : Term) (x : Tree) (inner : List InnerAction) (label : List Fact) (fs : List Tree) (e : FillFault) → IsGiven g c u x
        → IsProcessLine g HasFewNodes c (x ∷ []) (line.In t 0) inner label d fs → IsShortRefused g c (short.In t u) e → ⊥
    not_in d t u x inner label fs _ given h (unfit_taker {e = e} k) =
        unfit_cause c t (has_form (line.In t 0)) e k (answer g c d (x ∷ []) fs (line.In t 0) inner label e (matches_one m x given.gives) h (IsRefused.unfit t refl k))
    not_in d t u x inner label fs e given h (input_not_given r form fails) = given_not u x e given fails
    not_in d t u x inner label fs _ given h (input_refused {x = y} {e = e} too k n) =
        let there : IsRefused g c (x ∷ []) (line.In t 0) e = subst (λ (v : Tree). IsRefused g c (v ∷ []) (line.In t 0) e) (given_same u y x too given) k in
        n (answer g c d (x ∷ []) fs (line.In t 0) inner label e (matches_one m x given.gives) h there)

    not_send : (d : Config) (t : ℕ) (x : Tree) (inner : List InnerAction) (label : List Fact) (fs : List Tree) (e : FillFault) → CanGive g c x
        → IsProcessLine g HasFewNodes c (x ∷ []) (line.Send t 0) inner label d fs → IsShortRefused g c (short.Send t) e → ⊥
    not_send d t x inner label fs _ gives h (no_channel {e = e} k n) = n (channel_answer g c t x e (sends_on t x d inner label fs h) k)
    not_send d t x inner label fs _ gives h (channel_not_given {x = y} on never) =
        never (subst (CanGive g c) (channels g c t x y (sends_on t x d inner label fs h) on) gives)

    not_know : (u : Term) (x : Tree) (e : FillFault) → IsGiven g c u x → IsShortRefused g c (short.Know u) e → ⊥
    not_know u x e given (known_not_given fails) = given_not u x e given fails

    not_refused : (d : Config) (s : SStep) (inner : List InnerAction) (label : List Fact) (e : FillFault) → IsShortLine g HasFewNodes c s inner label d → IsShortRefused g c s e → ⊥
    not_refused d _ inner label e (acts {s = s} {fs = fs} stands h) k = not_act d s inner label fs e h k
    not_refused d _ inner label e (takes {t = t} {u = u} {x = x} {fs = fs} given h) k = not_in d t u x inner label fs e given h k
    not_refused d _ inner label e (sends {t = t} {x = x} {fs = fs} gives h) k = not_send d t x inner label fs e gives h k
    not_refused _ _ _ _ e (knows {u = u} {x = x} given) k = not_know u x e given k

pub short_refusals_are_one : FormIsOne → RefusalsAreOne → ChannelsAreOne → ChannelsHaveOneAnswer → MissingChannelsAreOne → ShortRefusalsAreOne
short_refusals_are_one one causes channels answer missing g c s e f h k = one_cause one g c causes channels answer missing s e f h k

pub short_lines_are_not_refused : FormIsOne → ProcessLinesHaveOneAnswer → ChannelsHaveOneAnswer → ChannelsAreOne → ShortLinesAreNotRefused
short_lines_are_not_refused one answer channel_answer channels g c d s inner label e m h k = not_refused one g c answer channel_answer channels m d s inner label e h k
