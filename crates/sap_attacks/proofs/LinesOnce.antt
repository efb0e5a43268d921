-- A line leads from one state to one.
use Rattle.std.proofs.Common.{◌≡◌, ℕ, List, [], ◌∷◌, ◌++◌, Some, inl, inr, sym, ap, subst, ◌∙◌}
use Rattle.std.specs.List.{sum_by}
use Rattle.std.proofs.lemmas.Option.{same_Some}
use Rattle.sap_terms.specs.AdversaryFacts.{k_fact}
use Rattle.sap_terms.specs.Choice.{Choice}
use Rattle.sap_terms.specs.Equations.{equations}
use Rattle.sap_terms.specs.Signature.{Sig}
use Rattle.sap_terms.specs.Trace.{shown}
use Rattle.sap_terms.specs.Tree.{Tree, fresh}
use Rattle.sap_terms.specs.View.{tree}
use Rattle.sap_terms.specs.declared.binding.Binding.{Binding}
use Rattle.sap_terms.proofs.PlainLaws.Choices.{Agree}
use Rattle.sap_process.specs.Proc.{Proc}
use Rattle.sap_rewrite.specs.Laws.{FormIsOne}
use Rattle.sap_rewrite.specs.Match.{bound_vars, HaveOneSort}
use Rattle.sap_rule.specs.Named.{rule_named}
use Rattle.sap_rule.specs.Variables.{rule_vars}
use Rattle.sap_rule.specs.WellMade.{IsWellMade}
use Rattle.sap_rule.specs.declared.rule.Rule.{Rule}
use Rattle.sap_templates.specs.Templates.{rules_of}
use Rattle.sap_attacks.specs.OneAnswer.{IsProper}
use Rattle.sap_attacks.specs.ShortRuleLines.{Fits, IsChosen, IsRuleNamed, IsUsed, IsNamed, IsShortRuleLine, LeavesOut}
use Rattle.sap_attacks.specs.ShortRuleStates.{ShortState, Adds, AreOneState}
use Rattle.sap_attacks.specs.SilentUses.{IsInstance, MayBeLeftOut, use_of, variables_of}
use Rattle.sap_attacks.specs.Taking.{TakesEach}
use Rattle.sap_attacks.specs.declared.short_rule_step.ShortRuleStep.{ShortRuleStep}
use Rattle.sap_attacks.specs.declared.short_rule_step.ShortRuleStep.TheVariants.{Rule as Using, Know, Name}
use Rattle.sap_attacks.proofs.Alikes.{alike-middle, alike-uncons}
use Rattle.sap_attacks.proofs.Chosen.{agree_all, agree_use, bound_agree, instance_one, named_has, use_agrees}
use Rattle.sap_attacks.proofs.SameFacts.{var_among}
use Rattle.sap_attacks.proofs.SilentOnce.{silent_once}
use Rattle.sap_attacks.proofs.StatesOnce.{adds_once, each_once, fits_moved, one-sym, one_as}

-- a rule of the process has no variable with two sorts
pub one_sort : (g : Sig) (p : Proc) (name : List ℕ) (r : Rule) → IsProper g p → rule_named (rules_of p) name ≡ Some r → HaveOneSort (rule_vars r)
one_sort g p name r h e = (named_has (IsWellMade g) (rules_of p) name r h.rules e).shape.sorts

-- what fits, as a line says that its choice does
pub chosen_fits : (g : Sig) (p : Proc) (s : ShortState) (r : Rule) (b : List Binding) (σ : Choice) → LeavesOut r b → IsChosen g p s r b σ → Fits g p s r b σ
chosen_fits g p s r b σ l c = record { messages = c.messages; agrees = c.agrees; first = c.first l }

-- in states that are one a line names one choice
pub chosen_once : (g : Sig) (p : Proc) (s z : ShortState) (r : Rule) (b : List Binding) (σ τ : Choice) → AreOneState s z → IsChosen g p s r b σ → IsChosen g p z r b τ
    → Agree σ τ (variables_of r)
chosen_once g p s z r b σ τ a x y v c = elim (var_among (bound_vars b) v) [
  | inl m ↦ bound_agree b σ τ x.agrees y.agrees v m
  | inr n ↦
      let left : LeavesOut r b = (v, c, n) in
      let one : use_of r τ ≡ use_of r σ = x.only left τ (fits_moved g p z s r b τ (one-sym s z a) (chosen_fits g p z r b τ left y)) in
      use_agrees r σ τ (sym one) v c
]

-- two lines name one rule
pub rules_one : (p : Proc) (name : List ℕ) (q r : Rule) → rule_named (rules_of p) name ≡ Some q → rule_named (rules_of p) name ≡ Some r → q ≡ r
rules_one p name q r e k = same_Some q r (sym e ∙ k)

-- what a line names, in two states that are one: one rule, and choices that are one on its variables
pub record AreNamedAlike (g : Sig) (W : Tree → Type 0) (p : Proc) (z : ShortState) (name : List ℕ) (b : List Binding) (r q : Rule) (σ τ : Choice) : Type 0 where
  pub rules : q ≡ r
  pub uses : Agree σ τ (variables_of r)
  pub all : Agree σ τ (rule_vars r)

pub named_once : (g : Sig) (W : Tree → Type 0) (p : Proc) (s z : ShortState) (name : List ℕ) (b : List Binding) (r q : Rule) (σ τ : Choice) → IsProper g p → AreOneState s z
    → IsRuleNamed g W p s name b r σ → IsRuleNamed g W p z name b q τ → AreNamedAlike g W p z name b r q σ τ
named_once g W p s z name b r q σ τ h a x y =
    let same = rules_one p name q r y.named x.named in
    let uses = chosen_once g p s z r b σ τ a x.chosen (subst (λ k. IsChosen g p z k b τ) same y.chosen) in
    record { rules = same; uses = uses; all = agree_all r σ τ (one_sort g p name r h x.named) uses }

module _ (one : FormIsOne) (g : Sig) (W : Tree → Type 0) (p : Proc) (h : IsProper g p) where
  used_once : (s z y x : ShortState) (name : List ℕ) (b : List Binding) → AreOneState s z → IsUsed g W p s name b y → IsUsed g W p z name b x → AreOneState y x
  used_once s z y x name b a m n =
      let c = named_once g W p s z name b m.rule n.rule m.choice n.choice h a m.is n.is in
      let i = instance_one one g m.rule m.choice n.choice m.left n.left m.acts n.acts m.right n.right c.all m.is_instance
      (subst (λ q. IsInstance g q n.choice n.left n.acts n.right) c.rules n.is_instance) in
      let taken = each_once g s z m.left m.taken n.taken a m.takes (subst (λ fs. TakesEach g z fs n.taken) (sym i.left_is) n.takes) in
      adds_once g W p m.taken n.taken m.right (shown m.acts) y x (silent_once one g p h.outputs W) taken m.adds
      (subst (λ fs. Adds g W p n.taken fs (shown m.acts) x) (sym i.right_is) (subst (λ fs. Adds g W p n.taken n.right (shown fs) x) (sym i.acts_is) n.adds))

  uses_one : (s z : ShortState) (name : List ℕ) (b : List Binding) (r q : Rule) (σ τ : Choice) → AreOneState s z → IsRuleNamed g W p s name b r σ → IsRuleNamed g W p z name b q τ
      → use_of r σ ≡ use_of q τ
  uses_one s z name b r q σ τ a x y =
      let c = named_once g W p s z name b r q σ τ h a x y in
      agree_use r σ τ c.uses ∙ sym (ap (λ k. use_of k τ) c.rules)

  done_once : (s z y x : ShortState) (name : List ℕ) (b : List Binding) → AreOneState s z → IsNamed g W p s name b y → IsNamed g W p z name b x → AreOneState y x
  done_once s z y x name b a m n =
      let u = use_of m.rule m.choice in
      let same = uses_one s z name b m.rule n.rule m.choice n.choice a m.is n.is in
      let second : z.unnamed ≡ n.earlier ++ u ∷ n.later = n.cut ∙ ap (λ v. n.earlier ++ v ∷ n.later) (sym same) in
      one_as (record s { unnamed = m.earlier ++ m.later }) (record z { unnamed = n.earlier ++ n.later }) y x m.becomes n.becomes
      (record {
        facts = a.facts;
        known = a.known;
        made = a.made;
        unnamed = alike-uncons u (m.earlier ++ m.later) (n.earlier ++ n.later)
            (λ w. alike-middle u m.earlier m.later w ∙ sym (ap (sum_by w) m.cut) ∙ a.unnamed w ∙ ap (sum_by w) second ∙ sym (alike-middle u n.earlier n.later w));
        shown = a.shown;
      })

  used_or_done : (s z y x : ShortState) (name : List ℕ) (b : List Binding) → AreOneState s z → IsUsed g W p s name b y → IsNamed g W p z name b x → ⊥
  used_or_done s z y x name b a m n = m.happens (subst (λ q. MayBeLeftOut p q) (rules_one p name n.rule m.rule n.is.named m.is.named) n.left_out)

  pub line_once : (s z y x : ShortState) (l : ShortRuleStep) → AreOneState s z → IsShortRuleLine g W p s l y → IsShortRuleLine g W p z l x → AreOneState y x
  line_once s z y x (Using name b) a (inl m) (inl n) = used_once s z y x name b a m n
  line_once s z y x (Using name b) a (inl m) (inr n) = absurd (used_or_done s z y x name b a m n)
  line_once s z y x (Using name b) a (inr m) (inl n) = absurd (used_or_done z s x y name b (one-sym s z a) n m)
  line_once s z y x (Using name b) a (inr m) (inr n) = done_once s z y x name b a m n
  line_once s z y x (Know u) a m n =
      let forms = one (equations g) (tree u) m.form n.form m.is_form n.is_form in
      one_as (record s { shown = s.shown ++ (k_fact m.form ∷ []) ∷ [] }) (record z { shown = z.shown ++ (k_fact n.form ∷ []) ∷ [] }) y x m.becomes n.becomes
      (record { facts = a.facts; known = a.known; made = a.made; unnamed = a.unnamed; shown = (λ j. a.shown j ++ (k_fact (forms j) ∷ []) ∷ []) })
  line_once s z y x (Name k) a m n =
      one_as (record s { known = s.known ++ fresh k ∷ []; made = s.made ++ k ∷ [] }) (record z { known = z.known ++ fresh k ∷ []; made = z.made ++ k ∷ [] }) y x m.becomes n.becomes
      (record { facts = a.facts; known = (λ j. a.known j ++ fresh k ∷ []); made = (λ j. a.made j ++ k ∷ []); unnamed = a.unnamed; shown = a.shown })
