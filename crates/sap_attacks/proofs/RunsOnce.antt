-- A short run of rules leads to one state, or one line of it is the first that is refused.
use Rattle.std.proofs.Common.{◌≡◌, suc, ◌+◌, List, [], ◌∷◌, ◌++◌, length, refl, sym, ap, subst, ◌∙◌}
use Rattle.sap_terms.specs.Signature.{Sig}
use Rattle.sap_terms.specs.Tree.{Tree}
use Rattle.sap_process.specs.Proc.{Proc}
use Rattle.sap_restrict.specs.ReservedFacts.{init_fact}
use Rattle.sap_rewrite.specs.Laws.{FormIsOne}
use Rattle.sap_runs.specs.Limits.{HasFewNodes}
use Rattle.sap_templates.specs.Templates.{init_rule}
use Rattle.sap_attacks.specs.OneAnswer.{IsProper, ShortRuleLinesHaveOneEnd, ShortRuleRunsHaveOneEnd, ShortRuleLinesAreNotRefused, ShortRuleRefusalsAreOne, LegalShortRuleRunsAreNotRefused, FirstRuleRefusalsAreOne}
use Rattle.sap_attacks.specs.RuleRefusals.{IsShortRuleRefused}
use Rattle.sap_attacks.specs.ShortRuleLines.{IsShortRuleLine}
use Rattle.sap_attacks.specs.ShortRuleRuns.{Begins, unstarted, LeadOn, ends, further, IsLegalShortRuleRun}
use Rattle.sap_attacks.specs.ShortRuleStates.{ShortState, AreOneState}
use Rattle.sap_attacks.specs.declared.rule_fill_fault.RuleFillFault.{RuleFillFault}
use Rattle.sap_attacks.specs.declared.short_rule_step.ShortRuleStep.{ShortRuleStep}
use Rattle.sap_attacks.proofs.LinesOnce.{line_once}
use Rattle.sap_attacks.proofs.RefusedOnce.{line_or_refused, refused_once}
use Rattle.sap_attacks.proofs.SilentOnce.{silent_once}
use Rattle.sap_attacks.proofs.StatesOnce.{adds_once, one-refl, one-sym}

module _ (one : FormIsOne) (g : Sig) (p : Proc) (h : IsProper g p) where
  begins_once : (W : Tree → Type 0) (s z : ShortState) → Begins g W p s → Begins g W p z → AreOneState s z
  begins_once W s z a b = adds_once g W p unstarted unstarted init_rule.right ((init_fact ∷ []) ∷ []) s z (silent_once one g p h.outputs W) (one-refl unstarted) a b

  leads_once : (W : Tree → Type 0) (s z : ShortState) (ls : List ShortRuleStep) (y x : ShortState) → AreOneState s z → LeadOn g W p s ls y → LeadOn g W p z ls x → AreOneState y x
  leads_once W s z [] _ _ a ends ends = a
  leads_once W s z (l ∷ ls) y x a (further u m d) (further v n e) = leads_once W u v ls y x (line_once one g W p h s z u v l a m n) d e

  runs_once : (W : Tree → Type 0) (ls : List ShortRuleStep) (s z : ShortState) → IsLegalShortRuleRun g W p ls s → IsLegalShortRuleRun g W p ls z → AreOneState s z
  runs_once W ls s z a b = leads_once W a.start b.start ls s z (begins_once W a.start b.start a.begins b.begins) a.lines b.lines

  -- where lines lead on, none of them is refused
  leads_or_refused : (s z : ShortState) (ls before behind : List ShortRuleStep) (l : ShortRuleStep) (y t : ShortState) (e : RuleFillFault) → AreOneState s z
      → ls ≡ before ++ l ∷ behind → LeadOn g HasFewNodes p s ls y → LeadOn g HasFewNodes p z before t → IsShortRuleRefused g HasFewNodes p t l e → ⊥
  leads_or_refused s z [] [] behind l y t e a c d k r = absurd (cc)
  leads_or_refused s z [] (x ∷ before) behind l y t e a c d k r = absurd (cc)
  leads_or_refused s z (x ∷ ls) [] behind l y _ e a c (further u m d) ends r =
      let same : l ≡ x = cc in
      line_or_refused one g HasFewNodes p h s z u x e a m (subst (λ q. IsShortRuleRefused g HasFewNodes p z q e) same r)
  leads_or_refused s z (x ∷ ls) (w ∷ before) behind l y t e a c (further u m d) (further v n k) r =
      let same : w ≡ x = cc in
      let rest : ls ≡ before ++ l ∷ behind = cc in
      leads_or_refused u v ls before behind l y t e (line_once one g HasFewNodes p h s z u v x a m (subst (λ q. IsShortRuleLine g HasFewNodes p z q v) same n)) rest d k r

  -- two first refused lines are one
  first_once : (s z : ShortState) (before more behind others : List ShortRuleStep) (l k : ShortRuleStep) (t x : ShortState) (d e : RuleFillFault) → AreOneState s z
      → before ++ l ∷ behind ≡ more ++ k ∷ others → LeadOn g HasFewNodes p s before t → LeadOn g HasFewNodes p z more x → IsShortRuleRefused g HasFewNodes p t l d
      → IsShortRuleRefused g HasFewNodes p x k e → (length before ≡ length more) × (d ≡ e)
  first_once s z [] [] behind others l k _ _ d e a c ends ends m n =
      let same : k ≡ l = cc in
      (refl, refused_once one g HasFewNodes p h s z l d e a m (subst (λ q. IsShortRuleRefused g HasFewNodes p z q e) same n))
  first_once s z [] (w ∷ more) behind others l k _ x d e a c ends (further v o q) m n =
      let same : l ≡ w = cc in
      absurd (line_or_refused one g HasFewNodes p h z s v w d (one-sym s z a) o (subst (λ r. IsShortRuleRefused g HasFewNodes p s r d) same m))
  first_once s z (w ∷ before) [] behind others l k t _ d e a c (further v o q) ends m n =
      let same : k ≡ w = cc in
      absurd (line_or_refused one g HasFewNodes p h s z v w e a o (subst (λ r. IsShortRuleRefused g HasFewNodes p z r e) same n))
  first_once s z (w ∷ before) (b ∷ more) behind others l k t x d e a c (further u i q) (further v j r) m n =
      let same : b ≡ w = cc in
      let rest : before ++ l ∷ behind ≡ more ++ k ∷ others = cc in
      let f = first_once u v before more behind others l k t x d e (line_once one g HasFewNodes p h s z u v w a i (subst (λ y. IsShortRuleLine g HasFewNodes p z y v) same j)) rest q r m n in
      (ap suc f.0, f.1)

pub lines_have_one_end : FormIsOne → (W : Tree → Type 0) → ShortRuleLinesHaveOneEnd W
lines_have_one_end one W g p s z y x l h a m n = line_once one g W p h s z y x l a m n

pub runs_have_one_end : FormIsOne → (W : Tree → Type 0) → ShortRuleRunsHaveOneEnd W
runs_have_one_end one W g p ls s z h a b = runs_once one g p h W ls s z a b

pub lines_are_not_refused : FormIsOne → (W : Tree → Type 0) → ShortRuleLinesAreNotRefused W
lines_are_not_refused one W g p s z y l e h a m r = line_or_refused one g W p h s z y l e a m r

pub refusals_are_one : FormIsOne → (W : Tree → Type 0) → ShortRuleRefusalsAreOne W
refusals_are_one one W g p s z l d e h a m n = refused_once one g W p h s z l d e a m n

pub legal_runs_are_not_refused : FormIsOne → LegalShortRuleRunsAreNotRefused
legal_runs_are_not_refused one g p ls s number e h a f =
    leads_or_refused one g p h a.start f.legal.start ls f.before f.behind f.line s f.state e (begins_once one g p h HasFewNodes a.start f.legal.start a.begins f.legal.begins) f.cut a.lines f.legal.lines f.refused

pub first_refusals_are_one : FormIsOne → FirstRuleRefusalsAreOne
first_refusals_are_one one g p ls number other d e h a b =
    let f = first_once one g p h a.legal.start b.legal.start a.before b.before a.behind b.behind a.line b.line a.state b.state d e
    (begins_once one g p h HasFewNodes a.legal.start b.legal.start a.legal.begins b.legal.begins) (sym a.cut ∙ b.cut) a.legal.lines b.legal.lines a.refused b.refused in
    (a.counts ∙ ap (λ n. n + 1) f.0 ∙ sym b.counts, f.1)
