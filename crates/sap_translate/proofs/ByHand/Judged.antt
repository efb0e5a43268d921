-- A theory whose restrictions speak of a hidden fact: they are judged on the full traces of its runs.
use Rattle.std.proofs.Common.{◌≡◌, ◌<◌, ◌⊎◌, inl, inr, ℕ, zero, suc, List, [], ◌∷◌, ◌++◌, Bool, true, false, not, if◌then◌else◌, length, refl, sym, ap, subst, arith}
use Rattle.std.specs.Prelude.{codes}
use Rattle.std.specs.List.{AllZip}
use Rattle.std.specs.Str.{bytes_eq}
use Rattle.sap_formula.specs.Hide.{hide, is_hidden, visible}
use Rattle.sap_formula.specs.Truth.{AnyIn, IsTrueOn, Shows, facts_at}
use Rattle.sap_restrict.specs.ReservedFacts.{init_fact}
use Rattle.sap_rule.specs.RuleSteps.{IsFullTrace, RuleRun, RuleState, RuleStep, empty_state}
use Rattle.sap_rule.specs.declared.rule.Rule.{Rule}
use Rattle.sap_terms.specs.Choice.{Choice, instance}
use Rattle.sap_terms.specs.Equal.{IsTheoryEqual}
use Rattle.sap_terms.specs.Equations.{equations}
use Rattle.sap_terms.specs.Modulo.{instance_facts, AreFormsOfFacts}
use Rattle.sap_terms.specs.Normal.{IsNormalForm}
use Rattle.sap_terms.specs.Piles.{Takes}
use Rattle.sap_terms.specs.Signature.{Sig}
use Rattle.sap_terms.specs.Trace.{Trace, shown}
use Rattle.sap_terms.specs.Tree.{Tree, variable}
use Rattle.sap_terms.specs.declared.fact.Fact.{Fact}
use Rattle.sap_translate.specs.Examples.{plain_fact}
use Rattle.sap_translate.specs.Faithful.{IsShownBy}
use Rattle.sap_translate.specs.Members.{Member}
use Rattle.sap_translate.specs.ShownExamples.{must_start, never_starts, some_start, starting_rule, starting_theory}
use Rattle.sap_translate.proofs.ByHand.Parts.{all_named, names_messages}
use Rattle.sap_translate.proofs.Premises.LowerLaws.{Laws}
use Rattle.sap_translate.proofs.Terms.Derive.{member}

-- a run that uses the rule twice: both times show Init(), which isn't seen

abbrev both_facts : List Fact
both_facts = init_fact ∷ plain_fact ∷ []

used_twice : (laws : Laws) (g : Sig) → IsFullTrace g (starting_rule ∷ []) (both_facts ∷ both_facts ∷ [])
used_twice laws g = (
  _,
  RuleRun.further (RuleRun.further RuleRun.starts
      (RuleStep.uses starting_rule [] (all_named []) [] both_facts [] (0, omega arith, refl) Takes.nothing (record {
        messages = names_messages laws g [];
        takes = tt;
        shows = (record { name = refl; persistent = refl; args = tt }, (record { name = refl; persistent = refl; args = tt }, tt));
        adds = tt;
      })))
      (RuleStep.uses starting_rule [] (all_named []) [] both_facts [] (0, omega arith, refl) Takes.nothing (record {
        messages = names_messages laws g [];
        takes = tt;
        shows = (record { name = refl; persistent = refl; args = tt }, (record { name = refl; persistent = refl; args = tt }, tt));
        adds = tt;
      })),
)

pub shown_twice : (laws : Laws) (g : Sig) → IsShownBy (starting_theory g (must_start ∷ [])) ((plain_fact ∷ []) ∷ (plain_fact ∷ []) ∷ [])
shown_twice laws g = (both_facts ∷ both_facts ∷ [], used_twice laws g, ((0, omega arith, inl (refl, tt)), tt), refl)

-- the run without a step
pub shown_at_rest : (g : Sig) → IsShownBy (starting_theory g (never_starts ∷ [])) []
shown_at_rest g = ([], (empty_state, RuleRun.starts), (λ h. h.2, tt), refl)

-- what is seen at a time of the hidden trace stands at some time of the whole one

seen_fact : (Q : Fact → Type 0) (p : List Fact) → AnyIn Q (visible p) → AnyIn Q p
seen_fact Q [] h = h
seen_fact Q (f ∷ fs) h = by (is_hidden f.name) (seen_fact Q fs) h
  where
    by : (b : Bool) → (AnyIn Q (visible fs) → AnyIn Q fs) → AnyIn Q (if not b then f ∷ visible fs else visible fs) → Q f ⊎ AnyIn Q fs
    by true rest h = inr (rest h)
    by false rest (inl q) = inl q
    by false rest (inr h) = inr (rest h)

seen_time : (Q : Fact → Type 0) (full : Trace) (k : ℕ) → AnyIn Q (facts_at (hide full) k) → (m : ℕ) × AnyIn Q (facts_at full m)
seen_time Q [] k h = absurd h
seen_time Q (p ∷ ps) k h = by (visible p) (seen_fact Q p) (seen_time Q ps) k h
  where
    by : (v : List Fact) → (AnyIn Q v → AnyIn Q p) → ((k : ℕ) → AnyIn Q (facts_at (hide ps) k) → (m : ℕ) × AnyIn Q (facts_at ps m)) → (k : ℕ) → AnyIn Q (facts_at (shown v ++ hide ps) k) → (m : ℕ) × AnyIn Q (facts_at (p ∷ ps) m)
    by [] here rest k h =
        let x = rest k h in
        (suc x.0, x.1)
    by (f ∷ fs) here rest zero h = (0, here h)
    by (f ∷ fs) here rest (suc k) h =
        let x = rest k h in
        (suc x.0, x.1)

-- a time with facts is one of the trace
within : (Q : Fact → Type 0) (tr : Trace) (k : ℕ) → AnyIn Q (facts_at tr k) → k < length tr
within Q [] k a = absurd a
within Q (p ∷ ps) zero a = omega arith
within Q (p ∷ ps) (suc k) a = let below = within Q ps k a in omega arith

-- each time of a run that shows A() shows Init()

abbrev IsPlain : Fact → Type 0
IsPlain f = codes "A" ≡ f.name

abbrev IsStart : Sig → Fact → Type 0
IsStart g f = Shows (equations g) (λ v. variable v) init_fact f

no_args : (R S : Tree → Tree → Type 0) (ts : List Tree) → AllZip R [] ts → AllZip S [] ts
no_args R S [] h = h
no_args R S (t ∷ ts) h = h

start_first : (g : Sig) (σ : Choice) (acts : List Fact) → AreFormsOfFacts (equations g) (instance_facts σ both_facts) acts → AnyIn (IsStart g) acts
start_first g σ [] h = absurd h
start_first g σ (f ∷ fs) h =
    inl (sym h.0.name, no_args (IsNormalForm (equations g)) (λ s t. IsTheoryEqual (equations g) (instance (λ v. variable v) s) t) f.args h.0.args)

the_rule : (r : Rule) → Member r (starting_rule ∷ []) → r ≡ starting_rule
the_rule r Member.here = refl
the_rule r (Member.later m) = elim m [ ]

differ : true ≡ false → ⊥
differ e = absurd (cc)

not_known : codes "A" ≡ codes "K" → ⊥
not_known e = differ (ap (bytes_eq (codes "A")) e)

acts_start : (g : Sig) {s z : RuleState} {acts : List Fact} → RuleStep g (starting_rule ∷ []) s acts z → AnyIn IsPlain acts → AnyIn (IsStart g) acts
acts_start g (RuleStep.makes_name n u) a = absurd a
acts_start g (RuleStep.learns k x takes) a = absurd a
acts_start g (RuleStep.owns k n takes) a = absurd a
acts_start g (RuleStep.knows_public n) a = absurd a
acts_start g (RuleStep.applies f ts x p b all n) a = absurd a
acts_start g (RuleStep.gives x m) (inl e) = absurd (not_known e)
acts_start g (RuleStep.gives x m) (inr a) = absurd a
acts_start g (RuleStep.uses r ks σ left acts right m takes fits) a =
    start_first g σ acts (subst (λ z. AreFormsOfFacts (equations g) (instance_facts σ z.acts) acts) (the_rule r (member r (starting_rule ∷ []) m)) fits.shows)

one_more : (P Q : Fact → Type 0) (tr : Trace) (p : List Fact) → ((k : ℕ) → AnyIn P (facts_at tr k) → AnyIn Q (facts_at tr k)) → (AnyIn P p → AnyIn Q p) → (k : ℕ) → AnyIn P (facts_at (tr ++ p ∷ []) k) → AnyIn Q (facts_at (tr ++ p ∷ []) k)
one_more P Q [] p before last zero a = last a
one_more P Q [] p before last (suc k) a = absurd a
one_more P Q (x ∷ xs) p before last zero a = before 0 a
one_more P Q (x ∷ xs) p before last (suc k) a = one_more P Q xs p (λ m. before (suc m)) last k a

run_starts : (g : Sig) {s : RuleState} {full : Trace} → RuleRun g (starting_rule ∷ []) s full → (k : ℕ) → AnyIn IsPlain (facts_at full k) → AnyIn (IsStart g) (facts_at full k)
run_starts g RuleRun.starts k a = absurd a
run_starts g (RuleRun.further {full = full} {acts = acts} run step) k a = one_more IsPlain (IsStart g) full acts (run_starts g run) (acts_start g step) k a

-- so a run of which A() is seen shows Init()
started : (g : Sig) (tr full : Trace) → IsFullTrace g (starting_rule ∷ []) full → hide full ≡ (plain_fact ∷ []) ∷ tr → IsTrueOn g some_start full
started g tr full run seen =
    let at = seen_time IsPlain full 0 (subst (λ t. AnyIn IsPlain (facts_at t 0)) (sym seen) (inl refl)) in
    let start = run_starts g run.1 at.0 at.1 in
    (at.0, within (IsStart g) full at.0 start, start)

pub not_shown : (g : Sig) (tr : Trace) → IsShownBy (starting_theory g (never_starts ∷ [])) ((plain_fact ∷ []) ∷ tr) → ⊥
not_shown g tr w = w.2.0 (started g tr w.0 w.1 w.3)

pub not_shown_by_second : (g : Sig) (tr : Trace) → IsShownBy (starting_theory g (must_start ∷ never_starts ∷ [])) ((plain_fact ∷ []) ∷ tr) → ⊥
not_shown_by_second g tr w = w.2.1.0 (started g tr w.0 w.1 w.3)
