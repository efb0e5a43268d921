-- The lines of a run, one after the other.
use Rattle.std.proofs.Common.{◌≡◌, ℕ, zero, suc, ◌+◌, ◌≤◌, ◌++◌, take, drop, List, [], ◌∷◌, Some, refl, sym, ap, ◌∙◌, subst, slice_get, length, arith, take-append-drop}
use Rattle.sap_terms.specs.Signature.{Sig}
use Rattle.sap_terms.specs.Trace.{Trace}
use Rattle.sap_terms.specs.Tree.{Tree}
use Rattle.sap_terms.proofs.PlainLaws.Lists.{take_got, drop_got}
use Rattle.sap_deduce.specs.Entries.{terms_of}
use Rattle.sap_process.specs.Configuration.{Config, initial}
use Rattle.sap_process.specs.Proc.{Proc}
use Rattle.sap_runs.specs.Limits.{HasFewNodes}
use Rattle.sap_runs.specs.Marks.{Mark}
use Rattle.sap_runs.specs.declared.process_step.PStep.{PStep}
use Rattle.sap_runs.specs.declared.rule_step.RStep.{RStep}
use Rattle.sap_lines.specs.Faults.{IsRefused}
use Rattle.sap_lines.specs.Runs.{IsLegalProcessRun}
use Rattle.sap_lines.specs.declared.fault.PFault.{PFault}
use Rattle.sap_lines.specs.FirstRefused.{IsFirstRefusedOfProcess}
use Rattle.sap_calc.specs.Replays.{AreDone, DoneLinesAreLegal}
use Rattle.sap_calc.specs.Running.{Running, configuration, IsDeniedAt}
use Rattle.sap_forward.specs.Answered.{Draws}
use Rattle.sap_forward.specs.Converted.{IsConvertedToRules, IsShownByLines}
use Rattle.sap_rule_lines.specs.Least.{names_drawn}
use Rattle.sap_rule_lines.specs.RuleLines.{head_for, init_line}
use Rattle.sap_forward.specs.code.Begun.{IsBegun, GoesOn, EndsConverted}
use Rattle.sap_forward.specs.code.Taken.{AreDoneUntil, IsTaken, IsShown}
use Rattle.sap_forward.specs.declared.desk.Desk.{Desk}
use Rattle.sap_forward.proofs.Going.{draws_among}

-- the item with this number, between those before it and those behind it
pub cut_got : {A : Type 0} (xs : List A) (k : ℕ) (x : A) → slice_get xs k ≡ Some x → xs ≡ take k xs ++ x ∷ drop (k + 1) xs
cut_got xs k x e = sym (take-append-drop k xs) ∙ ap (λ zs. take k xs ++ zs) (drop_got xs k x e)

pub length_before : {A : Type 0} (xs : List A) (k : ℕ) (x : A) → slice_get xs k ≡ Some x → length (take k xs) ≡ k
length_before [] k x e = absurd (cc)
length_before (y ∷ xs) zero x e = refl
length_before (y ∷ xs) (suc k) x e = ap suc (length_before xs k x e)

pub take_all : {A : Type 0} (xs : List A) (k : ℕ) → length xs ≤ k → take k xs ≡ xs
take_all [] zero h = refl
take_all [] (suc k) h = refl
take_all (x ∷ xs) zero h = absurd (omega arith)
take_all (x ∷ xs) (suc k) h = ap (λ zs. x ∷ zs) (take_all xs k (omega arith))

-- a line that is refused behind a legal run is the first
pub first_refused : {g : Sig} {q : Proc} {before : List PStep} {c : Config} {es : List Tree} {tr : Trace} {ms : List Mark} → IsLegalProcessRun g HasFewNodes q before c es tr ms → (run after : List PStep) (step : PStep) (r : Running) → run ≡ before ++ step ∷ after
    → r.sig ≡ g → configuration r ≡ c → terms_of r.known ≡ es → (number n : ℕ) (fault : PFault) → number ≡ length before + 1 → IsDeniedAt r step number n fault → IsFirstRefusedOfProcess g q run n fault
first_refused {g = g} {before = before} {c = c} {es = es} {tr = tr} {ms = ms} legal run after step r cut sig conf known number n fault counts h = record {
  before = before;
  line = step;
  after = after;
  cut = cut;
  counts = h.same ∙ counts;
  config = c;
  entries = es;
  trace = tr;
  marks = ms;
  legal = legal;
  refused = subst (λ x. IsRefused x c es step fault) sig (subst (λ x. IsRefused r.sig x es step fault) conf (subst (λ x. IsRefused r.sig (configuration r) x step fault) known h.denied));
  cause = h.cause;
}

-- of conversions

pub one_more_taken : {g : Sig} {q : Proc} {r z : Running} {d e : Desk} {before after : List RStep} → GoesOn g q → (run : List PStep) (k : ℕ) (step : PStep) → slice_get run k ≡ Some step → IsBegun g q (names_drawn run) (take k run) r d before
    → IsTaken r z d e step before after → IsBegun g q (names_drawn run) (take (k + 1) run) z e after
one_more_taken {g = g} {q = q} {r = r} {z = z} {d = d} {e = e} {before = before} {after = after} goes run k step got b t =
    let draws : Draws (names_drawn run) step = subst (λ x. Draws (names_drawn x) step) (sym (cut_got run k step got)) (draws_among (take k run) (drop (k + 1) run) step) in
    subst (λ x. IsBegun g q (names_drawn run) x z e after) (sym (take_got run k step got)) (goes (names_drawn run) (take k run) r z d e step before after b draws t)

-- what has begun has begun at what is the same
pub begun_at : {g : Sig} {q : Proc} {drawn : List ℕ} {lines : List PStep} {r z : Running} {d e : Desk} {before after : List RStep} → r ≡ z → d ≡ e → before ≡ after → IsBegun g q drawn lines r d before → IsBegun g q drawn lines z e after
begun_at {g = g} {q = q} {drawn = drawn} {lines = lines} {r = r} {z = z} {d = d} {e = e} {before = before} configs desks written b =
    subst (λ x. IsBegun g q drawn lines z e x) written (subst (λ x. IsBegun g q drawn lines z x before) desks (subst (λ x. IsBegun g q drawn lines x d before) configs b))

pub refused_here : {g : Sig} {q : Proc} {drawn : List ℕ} {r : Running} {d : Desk} {written : List RStep} (run : List PStep) (k n : ℕ) (step : PStep) (fault : PFault) → slice_get run k ≡ Some step → IsBegun g q drawn (take k run) r d written
    → IsDeniedAt r step (k + 1) n fault → IsFirstRefusedOfProcess g q run n fault
refused_here {r = r} run k n step fault got b h =
    first_refused b.legal run (drop (k + 1) run) step r (cut_got run k step got) b.sig refl refl (k + 1) n fault (ap (λ m. m + 1) (sym (length_before run k step got))) h

pub all_converted : {g : Sig} {q : Proc} {r : Running} {d : Desk} {head written : List RStep} → EndsConverted g q → (run : List PStep) → head ≡ head_for run → (length head ≡ 0 → ⊥) → IsBegun g q (names_drawn run) run r d written → IsConvertedToRules g q run written
all_converted ends [] is some b = absurd (some (ap length is))
all_converted {r = r} {d = d} {written = written} ends (step ∷ lines) is some b = ends step lines r d written b

-- what stands before all lines is the one that starts the rules, unless there are none
pub headed : {written : List RStep} (run : List PStep) → written ≡ head_for run → (length written ≡ 0 → ⊥) → written ≡ init_line ∷ []
headed [] is some = absurd (some (ap length is))
headed (step ∷ lines) is some = is

pub none_converted : {g : Sig} {q : Proc} → IsConvertedToRules g q [] [] → (run : List PStep) (written : List RStep) → written ≡ head_for run → length written ≡ 0 → IsConvertedToRules g q run written
none_converted {g = g} {q = q} h [] written is none = subst (λ x. IsConvertedToRules g q [] x) (sym is) h
none_converted h (step ∷ lines) written is none = absurd (let one : length written ≡ 1 = ap length is in omega (arith, one, none))

-- of traces

pub one_more_shown : {r y z : Running} {before after : Trace} (run : List PStep) (k : ℕ) (step : PStep) → slice_get run k ≡ Some step → AreDone r (take k run) y before → IsShown y z step before after → AreDone r (take (k + 1) run) z after
one_more_shown {r = r} {z = z} {after = after} run k step got h t =
    subst (λ x. AreDone r x z after) (sym (take_got run k step got)) (subst (λ x. AreDone r (take k run ++ step ∷ []) z x) (sym t.grows) (AreDone.one_more step t.label h t.done))

pub refused_there : {g : Sig} {q : Proc} {r : Running} → DoneLinesAreLegal → r.sig ≡ g → r.known ≡ [] → configuration r ≡ initial q → (run : List PStep) (n : ℕ) (fault : PFault) → AreDoneUntil r run n fault → IsFirstRefusedOfProcess g q run n fault
refused_there {g = g} {q = q} {r = r} legal sig known conf run n fault h =
    let k = h.before in
    let all = legal q r h.behind (take k run) h.trace known conf h.done in
    subst (λ x. IsFirstRefusedOfProcess x q run n fault) sig (first_refused all.run run (drop (k + 1) run) h.line h.behind (cut_got run k h.line h.there) all.sig refl refl (k + 1) n fault (ap (λ m. m + 1) (sym (length_before run k h.line h.there))) h.refused)

pub all_shown : {g : Sig} {q : Proc} {r z : Running} {tr : Trace} → DoneLinesAreLegal → r.sig ≡ g → r.known ≡ [] → configuration r ≡ initial q → (run : List PStep) → AreDone r run z tr → IsShownByLines g q run tr
all_shown {g = g} {q = q} {r = r} {z = z} {tr = tr} legal sig known conf run done =
    let h = legal q r z run tr known conf done in
    subst (λ x. IsShownByLines x q run tr) sig (record { config = configuration z; entries = terms_of z.known; marks = h.marks; legal = h.run })
