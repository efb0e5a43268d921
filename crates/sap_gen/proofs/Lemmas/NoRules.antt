-- A theory without rules keeps no file whose process shows an event.
use Rattle.std.proofs.Common.{◌≡◌, ℕ, zero, suc, inl, inr, List, [], ◌∷◌, ◌++◌, refl, subst, sym, arith}
use Rattle.std.specs.Prelude.{codes}
use Rattle.sap_formula.specs.Truth.{AnyIn, facts_at}
use Rattle.sap_rule.specs.RuleSteps.{RuleRun, RuleState, RuleStep}
use Rattle.sap_rule.specs.declared.theory.Theory.{Theory}
use Rattle.sap_terms.specs.Laws.{LeavesAreNormal}
use Rattle.sap_terms.specs.Signature.{Sig}
use Rattle.sap_terms.specs.Trace.{Trace}
use Rattle.sap_terms.specs.declared.fact.Fact.{Fact}
use Rattle.sap_gen.specs.Kept.{KeepsFile}
use Rattle.sap_gen.specs.LemmaExamples.{secret_file}
use Rattle.sap_gen.proofs.Lemmas.Hiding.{Seen, seen_time}
use Rattle.sap_gen.proofs.Lemmas.Secret.{leaking, leaks}

abbrev IsSecret : Fact → Type 0
IsSecret f = codes "Secret" ≡ f.name

one_more : (Q : Fact → Type 0) (tr : Trace) (p : List Fact) → ((k : ℕ) → AnyIn Q (facts_at tr k) → ⊥) → (AnyIn Q p → ⊥) → (k : ℕ) → AnyIn Q (facts_at (tr ++ p ∷ []) k) → ⊥
one_more Q [] p before last zero a = last a
one_more Q [] p before last (suc k) a = a
one_more Q (x ∷ xs) p before last zero a = before 0 a
one_more Q (x ∷ xs) p before last (suc k) a = one_more Q xs p (λ m. before (suc m)) last k a

no_act : {g : Sig} {s z : RuleState} {acts : List Fact} → RuleStep g [] s acts z → AnyIn IsSecret acts → ⊥
no_act (RuleStep.makes_name n u) a = a
no_act (RuleStep.learns k x takes) a = a
no_act (RuleStep.owns k n takes) a = a
no_act (RuleStep.knows_public n) a = a
no_act (RuleStep.applies f ts x p b all n) a = a
no_act (RuleStep.gives x m) (inl e) = absurd (cc)
no_act (RuleStep.gives x m) (inr a) = a
no_act (RuleStep.uses r ks σ left acts right m takes fits) a = let below = m.1 in absurd (omega arith)

no_secret : {g : Sig} {s : RuleState} {full : Trace} → RuleRun g [] s full → (k : ℕ) → AnyIn IsSecret (facts_at full k) → ⊥
no_secret RuleRun.starts k a = a
no_secret (RuleRun.further {full = full} {acts = acts} run step) k a = one_more IsSecret full acts (no_secret run) (no_act step) k a

pub rules_are_wanted : (leaves : LeavesAreNormal) (g : Sig) (t : Theory) → t.rules ≡ [] → KeepsFile (secret_file g) t → ⊥
rules_are_wanted leaves g t none keeps =
    let w = (keeps.shows leaking).0 (leaks leaves g) in
    let seen = seen_time IsSecret w.0 0 (subst (λ tr. AnyIn IsSecret (facts_at tr 0)) (sym w.3) (inl refl)) in
    no_secret (subst (λ rules. RuleRun t.signature rules w.1.0 w.0) none w.1.1) seen.0 (first_part (facts_at w.0 seen.0) seen.1)
  where
    first_part : (fs : List Fact) → AnyIn (Seen IsSecret) fs → AnyIn IsSecret fs
    first_part [] h = h
    first_part (f ∷ fs) (inl h) = inl h.0
    first_part (f ∷ fs) (inr h) = inr (first_part fs h)
