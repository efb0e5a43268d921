-- The steps that answer a line, as lines.
use Rattle.std.proofs.Common.{◌≡◌, ℕ, List, [], ◌∷◌, ◌++◌, Some, slice_get, refl, sym, ap, ◌∙◌, subst, append-nil, append_assoc}
use Rattle.std.specs.List.{Contains}
use Rattle.sap_terms.specs.AdversaryFacts.{fr_fact}
use Rattle.sap_terms.specs.Choice.{Choice}
use Rattle.sap_terms.specs.Piles.{Takes}
use Rattle.sap_terms.specs.Signature.{Sig}
use Rattle.sap_terms.specs.Trace.{Trace}
use Rattle.sap_terms.specs.Tree.{Tree}
use Rattle.sap_terms.specs.declared.binding.Binding.{Binding}
use Rattle.sap_terms.specs.declared.fact.Fact.{Fact}
use Rattle.sap_rule.specs.Named.{rule_named}
use Rattle.sap_rule.specs.RuleSteps.{makes, RuleState, RuleStep, IsUse}
use Rattle.sap_rule.specs.declared.rule.Rule.{Rule}
use Rattle.sap_runs.specs.declared.rule_step.RStep.{RStep}
use Rattle.sap_runs.specs.declared.rule_step.RStep.TheVariants.{Fresh, Own, Know, Rule as RuleLine}
use Rattle.sap_steps.specs.Lines.{IsLine, Binds, IsEvaluated}
use Rattle.sap_steps.specs.Runs.{IsLegalRun}
use Rattle.sap_forward.specs.Answered.{AreLines}
use Rattle.sap_translate.specs.relation.RuleMoves as move
use Rattle.sap_translate.specs.relation.RuleMoves.{RuleMove, RuleMoves, IsRuleMove, rule_move}

module _ (W : Tree → Type 0) (g : Sig) (rules : List Rule) (own : (r : Rule) → Contains rules r → rule_named rules r.name ≡ Some r) (s : RuleState) where
  -- a rule is used
  pub used_line : (z : RuleState) (acts : List Fact) (r : Rule) (ks : List ℕ) (σ : Choice) (b : List Binding) → Binds g r b σ → ((n : Tree) → IsEvaluated g r σ n → W n) → IsRuleMove g rules s (move.uses r ks σ) acts z → IsLine g rules W s (RuleLine r.name ks b) acts z
  used_line z acts r ks σ b binds within h = of h.step h.chooses where
    of : {a : List Fact} {y : RuleState} (step : RuleStep g rules s a y) → rule_move step ≡ move.uses r ks σ → IsLine g rules W s (RuleLine r.name ks b) a y
    of (RuleStep.uses {rest = rest} q js τ left acts right among takes used) e =
        let rule_is : q ≡ r = cc in
        let facts_are : js ≡ ks = cc in
        let choice_is : τ ≡ σ = cc in
        record {
          rule = r;
          named = own r (subst (λ x. Contains rules x) rule_is among);
          left = left;
          right = right;
          rest = rest;
          takes = subst (λ x. Takes s.facts x left rest) facts_are takes;
          fires = record {
            choice = σ;
            binds = binds;
            use_ = subst (λ x. IsUse g r x left acts right) choice_is (subst (λ x. IsUse g x τ left acts right) rule_is used);
            within = within;
          };
          becomes = refl;
        }
    of (RuleStep.makes_name n u) e = absurd (cc)
    of (RuleStep.learns k t u) e = absurd (cc)
    of (RuleStep.owns k n u) e = absurd (cc)
    of (RuleStep.knows_public a) e = absurd (cc)
    of (RuleStep.applies f ts t p a all n) e = absurd (cc)
    of (RuleStep.gives t u) e = absurd (cc)

  -- Fr is made of a name
  pub made_line : (z : RuleState) (acts : List Fact) (n : ℕ) → IsRuleMove g rules s (move.makes_name n) acts z → IsLine g rules W s (Fresh n) acts z
  made_line z acts n h = of h.step h.chooses where
    of : {a : List Fact} {y : RuleState} (step : RuleStep g rules s a y) → rule_move step ≡ move.makes_name n → IsLine g rules W s (Fresh n) a y
    of (RuleStep.makes_name m u) e = let same : m ≡ n = cc in subst (λ x. IsLine g rules W s (Fresh x) [] (makes s m)) same (record { new = u; silent = refl; becomes = refl })
    of (RuleStep.uses r ks σ left acts right m k u) e = absurd (cc)
    of (RuleStep.learns k t u) e = absurd (cc)
    of (RuleStep.owns k m u) e = absurd (cc)
    of (RuleStep.knows_public a) e = absurd (cc)
    of (RuleStep.applies f ts t p a all m) e = absurd (cc)
    of (RuleStep.gives t u) e = absurd (cc)

  -- the adversary takes a name
  pub owned_line : (z : RuleState) (acts : List Fact) (k n : ℕ) → IsRuleMove g rules s (move.owns k n) acts z → IsLine g rules W s (Own k) acts z
  owned_line z acts k n h = of h.step h.chooses where
    of : {a : List Fact} {y : RuleState} (step : RuleStep g rules s a y) → rule_move step ≡ move.owns k n → IsLine g rules W s (Own k) a y
    of (RuleStep.owns {rest = rest} j m u) e =
        let same : j ≡ k = cc in
        (m, record { rest = rest; takes = subst (λ x. Takes s.facts (x ∷ []) (fr_fact m ∷ []) rest) same u; silent = refl; becomes = refl })
    of (RuleStep.makes_name m u) e = absurd (cc)
    of (RuleStep.uses r ks σ left acts right m j u) e = absurd (cc)
    of (RuleStep.learns j t u) e = absurd (cc)
    of (RuleStep.knows_public a) e = absurd (cc)
    of (RuleStep.applies f ts t p a all m) e = absurd (cc)
    of (RuleStep.gives t u) e = absurd (cc)

  -- it gives the entry of a number
  pub given_line : (z : RuleState) (acts : List Fact) (j : ℕ) (t : Tree) → slice_get s.known j ≡ Some t → IsRuleMove g rules s (move.gives t) acts z → IsLine g rules W s (Know j) acts z
  given_line z acts j t entry h = of h.step h.chooses where
    of : {a : List Fact} {y : RuleState} (step : RuleStep g rules s a y) → rule_move step ≡ move.gives t → IsLine g rules W s (Know j) a y
    of (RuleStep.gives x u) e =
        let same : t ≡ x = cc in
        record { term = x; entry = entry ∙ ap Some same; shows = refl; becomes = refl }
    of (RuleStep.makes_name m u) e = absurd (cc)
    of (RuleStep.uses r ks σ left acts right m k u) e = absurd (cc)
    of (RuleStep.learns k x u) e = absurd (cc)
    of (RuleStep.owns k m u) e = absurd (cc)
    of (RuleStep.knows_public a) e = absurd (cc)
    of (RuleStep.applies f ts x p a all m) e = absurd (cc)

pub one_line : {W : Tree → Type 0} {g : Sig} {rules : List Rule} {s z : RuleState} {line : RStep} {acts : List Fact} → IsLine g rules W s line acts z → AreLines W g rules s (line ∷ []) (acts ∷ []) z
one_line h = AreLines.further h AreLines.stays

pub lines_join : {W : Tree → Type 0} {g : Sig} {rules : List Rule} {s y z : RuleState} {lines more : List RStep} {full rest : Trace} → AreLines W g rules s lines full y → AreLines W g rules y more rest z → AreLines W g rules s (lines ++ more) (full ++ rest) z
lines_join AreLines.stays k = k
lines_join (AreLines.further h t) k = AreLines.further h (lines_join t k)

-- a line that a move is, from this state on
abbrev pub Writes : (Tree → Type 0) → Sig → List Rule → RuleState → RuleMove → RStep → Type 0
Writes W g rules s m line = (acts : List Fact) (z : RuleState) → IsRuleMove g rules s m acts z → IsLine g rules W s line acts z

-- from this state on, and from each that the first leads to
abbrev pub WriteAll : (Tree → Type 0) → Sig → List Rule → RuleState → List RuleMove → List RStep → Type 0
WriteAll W g rules s [] [] = Unit {0}
WriteAll W g rules s (m ∷ ms) (line ∷ lines) = Writes W g rules s m line × ((y : RuleState) → WriteAll W g rules y ms lines)
WriteAll W g rules s _ _ = ⊥

pub lines_of : (W : Tree → Type 0) (g : Sig) (rules : List Rule) (s z : RuleState) (ms : List RuleMove) (lines : List RStep) (full : Trace) → WriteAll W g rules s ms lines → RuleMoves g rules s ms full z → AreLines W g rules s lines full z
lines_of W g rules s z [] [] full h RuleMoves.stays = AreLines.stays
lines_of W g rules s z [] (line ∷ lines) full h k = absurd h
lines_of W g rules s z (m ∷ ms) [] full h k = absurd h
lines_of W g rules s z (m ∷ ms) (line ∷ lines) full h (RuleMoves.further {y = y} {acts = acts} {full = rest} k more) = AreLines.further (h.0 acts y k) (lines_of W g rules y z ms lines rest (h.1 y) more)

-- lines behind a legal run
pub legal_join : (W : Tree → Type 0) (g : Sig) (rules : List Rule) (before lines : List RStep) (s z : RuleState) (full more : Trace) → IsLegalRun g rules W before s full → AreLines W g rules s lines more z → IsLegalRun g rules W (before ++ lines) z (full ++ more)
legal_join W g rules before lines s z full more h AreLines.stays = subst (λ x. IsLegalRun g rules W x s (full ++ [])) (sym (append-nil before)) (subst (λ x. IsLegalRun g rules W before s x) (sym (append-nil full)) h)
legal_join W g rules before lines s z full more h (AreLines.further {y = y} {line = line} {acts = acts} {lines = rest} {full = later} is t) =
    subst (λ x. IsLegalRun g rules W x z (full ++ (acts ∷ later))) (append_assoc before (line ∷ []) rest) (subst (λ x. IsLegalRun g rules W ((before ++ line ∷ []) ++ rest) z x) (append_assoc full (acts ∷ []) later)
    (legal_join W g rules (before ++ line ∷ []) rest y z (full ++ acts ∷ []) later (IsLegalRun.further line acts h is) t))
