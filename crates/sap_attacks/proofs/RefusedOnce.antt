-- A line is refused for one cause, and isn't possible then.
use Rattle.std.proofs.Common.{◌≡◌, ℕ, suc, ◌+◌, List, [], ◌∷◌, ◌++◌, Some, None, length, inl, inr, refl, sym, ap, subst, ◌∙◌}
use Rattle.std.specs.Prelude.{Contains}
use Rattle.sap_terms.specs.Choice.{Choice}
use Rattle.sap_terms.specs.Deduce.{IsDeducible}
use Rattle.sap_terms.specs.Equations.{equations}
use Rattle.sap_terms.specs.Signature.{Sig}
use Rattle.sap_terms.specs.Trace.{shown}
use Rattle.sap_terms.specs.Tree.{Tree}
use Rattle.sap_terms.specs.View.{tree}
use Rattle.sap_terms.specs.declared.binding.Binding.{Binding}
use Rattle.sap_terms.specs.declared.fact.Fact.{Fact}
use Rattle.sap_terms.proofs.PlainLaws.Choices.{Agree}
use Rattle.sap_terms.proofs.PlainLaws.Items.{first_item}
use Rattle.sap_process.specs.Proc.{Proc}
use Rattle.sap_restrict.specs.Answer.{IsOnlyFalse}
use Rattle.sap_restrict.specs.Standard.{IsAdmitted}
use Rattle.sap_rewrite.specs.Laws.{FormIsOne}
use Rattle.sap_rule.specs.Named.{rule_named}
use Rattle.sap_rule.specs.Variables.{rule_vars}
use Rattle.sap_rule.specs.declared.rule.Rule.{Rule}
use Rattle.sap_steps.specs.Lines.{IsEvaluated}
use Rattle.sap_steps.specs.declared.fault.RFault.TheVariants as line
use Rattle.sap_templates.specs.Templates.{init_rule, rules_of}
use Rattle.sap_attacks.specs.OneAnswer.{IsProper}
use Rattle.sap_attacks.specs.RuleRefusals.{IsNotTaken, drawn, not_given, missing, IsStuck, IsNotChosen, nothing_fits, more_fits, IsRefusedUnder, too_large, not_taken, breaks, not_used, starts_again, IsRefusedRule, bad_binding, no_choice, of_choice, IsShortRuleRefused, no_rule, rule_refused, bad_term, not_deduced, drawn as drawn_name}
use Rattle.sap_attacks.specs.Settling.{Use}
use Rattle.sap_attacks.specs.ShortRuleLines.{Fits, IsChosen, IsWithin, IsUsed, IsNamed, IsShortRuleLine, LeavesOut}
use Rattle.sap_attacks.specs.ShortRuleStates.{ShortState, AreOneState}
use Rattle.sap_attacks.specs.Silent.{IsSilentRule}
use Rattle.sap_attacks.specs.SilentUses.{IsInstance, init_use, use_of, variables_of}
use Rattle.sap_attacks.specs.Taking.{Takes, draws, is_given, stays, goes, TakesEach, none_left, then_on}
use Rattle.sap_attacks.specs.declared.rule_fill_fault.RuleFillFault.{RuleFillFault}
use Rattle.sap_attacks.specs.declared.rule_fill_fault.RuleFillFault.TheVariants.{Rule as Line, Broken}
use Rattle.sap_attacks.specs.declared.short_rule_step.ShortRuleStep.{ShortRuleStep}
use Rattle.sap_attacks.specs.declared.short_rule_step.ShortRuleStep.TheVariants.{Rule as Using, Know, Name}
use Rattle.sap_attacks.proofs.Alikes.{facts_have, stands_in, uses_have}
use Rattle.sap_attacks.proofs.Chosen.{agree_all, agree_use, evaluated_one, instance_one}
use Rattle.sap_attacks.proofs.LinesOnce.{chosen_fits, chosen_once, one_sort, rules_one}
use Rattle.sap_attacks.proofs.SilentOnce.{start_is_loud}
use Rattle.sap_attacks.proofs.StatesOnce.{each_once, fits_moved, message_passes, name_or_message, name_passes, one-sym, same_message, same_name, takes_once}
use Rattle.sap_attacks.proofs.Which.{which_once}

-- a fact that is taken isn't one that can't be
taken_or_not : (g : Sig) (s z : ShortState) (f : Fact) (y : ShortState) (k : ℕ) (e : RuleFillFault) → AreOneState s z → Takes g s f y → IsNotTaken g z k f e → ⊥
taken_or_not g s z f y k _ a (draws n q c _) (drawn m r d) =
    c (subst (λ ns. Contains ns n) (sym a.made) (subst (λ x. Contains z.made x) (sym (same_name f n m q r)) d))
taken_or_not g s z f y k _ a (draws n q _ _) (not_given u r _) = name_or_message f n u q r
taken_or_not g s z f y k _ a (draws n q _ _) (missing r _) = name_passes f n q r
taken_or_not g s z f y k _ a (is_given t _ q _ _ _) (drawn m r _) = name_or_message f m t r q
taken_or_not g s z f y k _ a (is_given t _ q d _ _) (not_given u r n) =
    n (subst (λ ts. IsDeducible g [] ts u) a.known (subst (λ x. IsDeducible g [] s.known x) (same_message f t u q r) d))
taken_or_not g s z f y k _ a (is_given t _ q _ _ _) (missing r _) = message_passes f t q r
taken_or_not g s z f y k _ a (stays q _ _ _) (drawn m r _) = name_passes f m r q
taken_or_not g s z f y k _ a (stays q _ _ _) (not_given u r _) = message_passes f u r q
taken_or_not g s z f y k _ a (stays _ _ c _) (missing _ n) = n (facts_have s.facts z.facts f a.facts c)
taken_or_not g s z f y k _ a (goes _ q _ _ _) (drawn m r _) = name_passes f m r q
taken_or_not g s z f y k _ a (goes _ q _ _ _) (not_given u r _) = message_passes f u r q
taken_or_not g s z f y k _ a (goes rest _ _ c _) (missing _ n) = n (facts_have (f ∷ rest) z.facts f (λ w. sym (c w) ∙ a.facts w) (first_item f rest))

not_taken_once : (g : Sig) (s z : ShortState) (f : Fact) (k : ℕ) (e h : RuleFillFault) → AreOneState s z → IsNotTaken g s k f e → IsNotTaken g z k f h → e ≡ h
not_taken_once g s z f k _ _ a (drawn n q _) (drawn m r _) = ap (λ x. Line (line.UsedName x)) (same_name f n m q r)
not_taken_once g s z f k _ _ a (drawn n q _) (not_given u r _) = absurd (name_or_message f n u q r)
not_taken_once g s z f k _ _ a (drawn n q _) (missing r _) = absurd (name_passes f n q r)
not_taken_once g s z f k _ _ a (not_given t q _) (drawn m r _) = absurd (name_or_message f m t r q)
not_taken_once g s z f k _ _ a (not_given t q _) (not_given u r _) = refl
not_taken_once g s z f k _ _ a (not_given t q _) (missing r _) = absurd (message_passes f t q r)
not_taken_once g s z f k _ _ a (missing q _) (drawn m r _) = absurd (name_passes f m r q)
not_taken_once g s z f k _ _ a (missing q _) (not_given u r _) = absurd (message_passes f u r q)
not_taken_once g s z f k _ _ a (missing q _) (missing r _) = refl

-- a left side that is taken isn't one that can't be
each_or_stuck : (g : Sig) (s z : ShortState) (left before behind : List Fact) (f : Fact) (y t : ShortState) (k : ℕ) (e : RuleFillFault) → AreOneState s z
    → left ≡ before ++ f ∷ behind → TakesEach g s left y → TakesEach g z before t → IsNotTaken g t k f e → ⊥
each_or_stuck g s z [] [] behind f y t k e a c d q n = absurd (cc)
each_or_stuck g s z [] (h ∷ before) behind f y t k e a c d q n = absurd (cc)
each_or_stuck g s z (l ∷ ls) [] behind f y _ k e a c (then_on u r d) none_left n =
    let same : l ≡ f = cc in
    taken_or_not g s z f u k e a (subst (λ x. Takes g s x u) same r) n
each_or_stuck g s z (l ∷ ls) (h ∷ before) behind f y t k e a c (then_on u r d) (then_on v o q) n =
    let same : l ≡ h = cc in
    let rest : ls ≡ before ++ f ∷ behind = cc in
    each_or_stuck g u v ls before behind f y t k e (takes_once g s z h u v a (subst (λ x. Takes g s x u) same r) o) rest d q n

-- a left side is stuck at one fact
record AreStuckAlike (t x : ShortState) (before more : List Fact) (f h : Fact) : Type 0 where
  lengths : length before ≡ length more
  facts : f ≡ h
  states : AreOneState t x

stuck_at : (g : Sig) (s z : ShortState) (before more behind others : List Fact) (f h : Fact) (t x : ShortState) (j k : ℕ) (d e : RuleFillFault) → AreOneState s z
    → before ++ f ∷ behind ≡ more ++ h ∷ others → TakesEach g s before t → TakesEach g z more x → IsNotTaken g t j f d → IsNotTaken g x k h e → AreStuckAlike t x before more f h
stuck_at g s z [] [] behind others f h _ _ j k d e a c none_left none_left m n = record { lengths = refl; facts = (let same : f ≡ h = cc in same); states = a }
stuck_at g s z [] (l ∷ more) behind others f h _ x j k d e a c none_left (then_on v o q) m n =
    let same : f ≡ l = cc in
    absurd (taken_or_not g z s l v j d (one-sym s z a) o (subst (λ u. IsNotTaken g s j u d) same m))
stuck_at g s z (l ∷ before) [] behind others f h t _ j k d e a c (then_on v o q) none_left m n =
    let same : h ≡ l = cc in
    absurd (taken_or_not g s z l v k e a o (subst (λ u. IsNotTaken g z k u e) same n))
stuck_at g s z (l ∷ before) (b ∷ more) behind others f h t x j k d e a c (then_on u r p) (then_on v o q) m n =
    let same : l ≡ b = cc in
    let rest : before ++ f ∷ behind ≡ more ++ h ∷ others = cc in
    let i = stuck_at g u v before more behind others f h t x j k d e (takes_once g s z b u v a (subst (λ y. Takes g s y u) same r) o) rest p q m n in
    record { lengths = ap suc i.lengths; facts = i.facts; states = i.states }

stuck_once : (g : Sig) (s z : ShortState) (left : List Fact) (d e : RuleFillFault) → AreOneState s z → IsStuck g s left d → IsStuck g z left e → d ≡ e
stuck_once g s z left d e a m n =
    let i = stuck_at g s z m.before n.before m.behind n.behind m.fact n.fact m.taken n.taken (length m.before + 1) (length n.before + 1) d e a (sym m.cut ∙ n.cut) m.takes n.takes m.not_taken n.not_taken in
    not_taken_once g m.taken n.taken n.fact (length n.before + 1) d e i.states
    (subst (λ f. IsNotTaken g m.taken (length n.before + 1) f d) i.facts (subst (λ k. IsNotTaken g m.taken (k + 1) m.fact d) i.lengths m.not_taken)) n.not_taken

module _ (one : FormIsOne) (g : Sig) (W : Tree → Type 0) (p : Proc) where
  -- choices that are one on a rule's variables, in states that are one
  large_or_not : (r : Rule) (σ τ : Choice) (n : Tree) → Agree σ τ (rule_vars r) → IsEvaluated g r σ n → ¬ W n → IsWithin g W r τ → ⊥
  large_or_not r σ τ n all e l w = l (w n (evaluated_one g r σ τ n all e))

  stuck_or_taken : (s z : ShortState) (r : Rule) (σ τ : Choice) (l m b o k d : List Fact) (e : RuleFillFault) (x : ShortState) → AreOneState s z → Agree σ τ (rule_vars r)
      → IsInstance g r σ l b k → IsInstance g r τ m o d → IsStuck g s l e → TakesEach g z m x → ⊥
  stuck_or_taken s z r σ τ l m b o k d e x a all i j c t =
      let same = instance_one one g r σ τ l m b o k d all i j in
      each_or_stuck g z s l c.before c.behind c.fact x c.taken (length c.before + 1) e (one-sym s z a) c.cut (subst (λ fs. TakesEach g z fs x) (sym same.left_is) t) c.takes c.not_taken

  -- what is shown once the left side is taken
  shown_one : (s z : ShortState) (r : Rule) (σ τ : Choice) (l m b o k d : List Fact) (t x : ShortState) → AreOneState s z → Agree σ τ (rule_vars r)
      → IsInstance g r σ l b k → IsInstance g r τ m o d → TakesEach g s l t → TakesEach g z m x → t.shown ++ shown b ≡ x.shown ++ shown o
  shown_one s z r σ τ l m b o k d t x a all i j c e =
      let same = instance_one one g r σ τ l m b o k d all i j in
      let u = each_once g s z l t x a c (subst (λ fs. TakesEach g z fs x) (sym same.left_is) e) in
      λ q. u.shown q ++ shown (same.acts_is q)

  silent_or_start : (r : Rule) → IsSilentRule p r → r ≡ init_rule → ⊥
  silent_or_start r l e = start_is_loud p (subst (λ q. IsSilentRule p q) e l)

  under_once : (s z : ShortState) (r : Rule) (σ τ : Choice) (d e : RuleFillFault) → AreOneState s z → Agree σ τ (rule_vars r) → IsRefusedUnder g W p s r σ d
      → IsRefusedUnder g W p z r τ e → d ≡ e
  under_once s z r σ τ d e a all x y = go d e x y
    where
      back : Agree τ σ (rule_vars r)
      back v c = sym (all v c)

      go : (d e : RuleFillFault) → IsRefusedUnder g W p s r σ d → IsRefusedUnder g W p z r τ e → d ≡ e
      go _ _ (too_large _ _ _) (too_large _ _ _) = refl
      go _ _ (too_large n i l) (not_taken _ _ _ w _ _ _) = absurd (large_or_not r σ τ n all i l w)
      go _ _ (too_large n i l) (breaks _ _ _ _ _ w _ _ _ _) = absurd (large_or_not r σ τ n all i l w)
      go _ _ (too_large n i l) (not_used w _ _) = absurd (large_or_not r σ τ n all i l w)
      go _ _ (too_large n i l) (starts_again w _ _) = absurd (large_or_not r σ τ n all i l w)
      go _ _ (not_taken _ _ _ w _ _ _) (too_large n i l) = absurd (large_or_not r τ σ n back i l w)
      go d e (not_taken l b k _ _ i c) (not_taken m o q _ _ j t) =
          stuck_once g s z l d e a c (subst (λ fs. IsStuck g z fs e) (sym (instance_one one g r σ τ l m b o k q all i j).left_is) t)
      go d _ (not_taken l b k _ _ i c) (breaks m o q x _ _ _ j t _) = absurd (stuck_or_taken s z r σ τ l m b o k q d x a all i j c t)
      go _ _ (not_taken _ _ _ _ n _ _) (not_used _ l _) = absurd (n (inl l))
      go _ _ (not_taken _ _ _ _ n _ _) (starts_again _ e _) = absurd (n (inr e))
      go _ _ (breaks _ _ _ _ _ w _ _ _ _) (too_large n i l) = absurd (large_or_not r τ σ n back i l w)
      go _ e (breaks l b k y _ _ _ i t _) (not_taken m o q _ _ j c) = absurd (stuck_or_taken z s r τ σ m l o b q k e y (one-sym s z a) back j i c t)
      go _ _ (breaks l b k y v _ _ i c f) (breaks m o q x u _ _ j t h) =
          ap Broken (which_once g (x.shown ++ shown o) v u (subst (λ tr. IsOnlyFalse g tr v) (shown_one s z r σ τ l m b o k q y x a all i j c t) f) h)
      go _ _ (breaks _ _ _ _ _ _ n _ _ _) (not_used _ l _) = absurd (n (inl l))
      go _ _ (breaks _ _ _ _ _ _ n _ _ _) (starts_again _ e _) = absurd (n (inr e))
      go _ _ (not_used w _ _) (too_large n i l) = absurd (large_or_not r τ σ n back i l w)
      go _ _ (not_used _ l _) (not_taken _ _ _ _ n _ _) = absurd (n (inl l))
      go _ _ (not_used _ l _) (breaks _ _ _ _ _ _ n _ _ _) = absurd (n (inl l))
      go _ _ (not_used _ _ _) (not_used _ _ _) = refl
      go _ _ (not_used _ l _) (starts_again _ e _) = absurd (silent_or_start r l e)
      go _ _ (starts_again w _ _) (too_large n i l) = absurd (large_or_not r τ σ n back i l w)
      go _ _ (starts_again _ e _) (not_taken _ _ _ _ n _ _) = absurd (n (inr e))
      go _ _ (starts_again _ e _) (breaks _ _ _ _ _ _ n _ _ _) = absurd (n (inr e))
      go _ _ (starts_again _ e _) (not_used _ l _) = absurd (silent_or_start r l e)
      go _ _ (starts_again _ _ _) (starts_again _ _ _) = refl

  -- bindings name no choice for one cause, and none that is chosen
  not_chosen_once : (s z : ShortState) (r : Rule) (b : List Binding) (d e : RuleFillFault) → AreOneState s z → IsNotChosen g p s r b d → IsNotChosen g p z r b e → d ≡ e
  not_chosen_once s z r b _ _ a (nothing_fits n) (nothing_fits m) = refl
  not_chosen_once s z r b _ _ a (nothing_fits n) (more_fits σ τ f h k) = absurd (n σ (fits_moved g p z s r b σ (one-sym s z a) f))
  not_chosen_once s z r b _ _ a (more_fits σ τ f h k) (nothing_fits n) = absurd (n σ (fits_moved g p s z r b σ a f))
  not_chosen_once s z r b _ _ a (more_fits _ _ _ _ _) (more_fits _ _ _ _ _) = refl

  chosen_or_not : (s z : ShortState) (r : Rule) (b : List Binding) (σ : Choice) (e : RuleFillFault) → AreOneState s z → LeavesOut r b → IsChosen g p s r b σ → IsNotChosen g p z r b e → ⊥
  chosen_or_not s z r b σ _ a l c (nothing_fits n) = n σ (fits_moved g p s z r b σ a (chosen_fits g p s r b σ l c))
  chosen_or_not s z r b σ _ a l c (more_fits τ υ f h n) =
      let back : (χ : Choice) → Fits g p z r b χ → use_of r χ ≡ use_of r σ = λ χ i. c.only l χ (fits_moved g p z s r b χ (one-sym s z a) i) in
      n (back τ f ∙ sym (back υ h))

  module _ (h : IsProper g p) where
    -- a rule with these bindings is refused for one cause
    rule_once : (s z : ShortState) (name : List ℕ) (r : Rule) (b : List Binding) (d e : RuleFillFault) → AreOneState s z → rule_named (rules_of p) name ≡ Some r
        → IsRefusedRule g W p s r b d → IsRefusedRule g W p z r b e → d ≡ e
    rule_once s z name r b d e a k x y = go d e x y where
      go : (d e : RuleFillFault) → IsRefusedRule g W p s r b d → IsRefusedRule g W p z r b e → d ≡ e
      go _ _ (bad_binding _) (bad_binding _) = refl
      go _ _ (bad_binding n) (no_choice c _ _) = absurd (n c)
      go _ _ (bad_binding n) (of_choice _ c _ _) = absurd (n c)
      go _ _ (no_choice c _ _) (bad_binding n) = absurd (n c)
      go d e (no_choice _ _ q) (no_choice _ _ u) = not_chosen_once s z r b d e a q u
      go d _ (no_choice _ l q) (of_choice σ _ u _) = absurd (chosen_or_not z s r b σ d (one-sym s z a) l u q)
      go _ _ (of_choice _ c _ _) (bad_binding n) = absurd (n c)
      go _ e (of_choice σ _ u _) (no_choice _ l q) = absurd (chosen_or_not s z r b σ e a l u q)
      go d e (of_choice σ _ u i) (of_choice τ _ v j) =
          under_once s z r σ τ d e a (agree_all r σ τ (one_sort g p name r h k) (chosen_once g p s z r b σ τ a u v)) i j

    pub refused_once : (s z : ShortState) (l : ShortRuleStep) (d e : RuleFillFault) → AreOneState s z → IsShortRuleRefused g W p s l d → IsShortRuleRefused g W p z l e → d ≡ e
    refused_once s z (Using name b) _ _ a (no_rule n) (no_rule m) = refl
    refused_once s z (Using name b) _ _ a (no_rule n) (rule_refused r k x) = absurd (let no : None ≡ Some r = sym n ∙ k in cc)
    refused_once s z (Using name b) _ _ a (rule_refused r k x) (no_rule n) = absurd (let no : None ≡ Some r = sym n ∙ k in cc)
    refused_once s z (Using name b) d e a (rule_refused r k x) (rule_refused q m y) =
        rule_once s z name r b d e a k x (subst (λ u. IsRefusedRule g W p z u b e) (rules_one p name q r m k) y)
    refused_once s z (Know u) _ _ a (bad_term n) (bad_term m) = refl
    refused_once s z (Know u) _ _ a (bad_term n) (not_deduced _ o _ _) = absurd (n o)
    refused_once s z (Know u) _ _ a (not_deduced _ o _ _) (bad_term n) = absurd (n o)
    refused_once s z (Know u) _ _ a (not_deduced _ _ _ _) (not_deduced _ _ _ _) = refl
    refused_once s z (Name n) _ _ a (drawn_name _) (drawn_name _) = refl

    -- a rule that is used isn't refused, nor is one that is named
    used_or_refused : (s z y : ShortState) (name : List ℕ) (b : List Binding) (r : Rule) (e : RuleFillFault) → AreOneState s z → rule_named (rules_of p) name ≡ Some r
        → IsUsed g W p s name b y → IsRefusedRule g W p z r b e → ⊥
    used_or_refused s z y name b r e a k m x = go r (rules_one p name m.rule r m.is.named k) e x where
      under : (τ : Choice) (e : RuleFillFault) → Agree m.choice τ (rule_vars m.rule) → IsRefusedUnder g W p z m.rule τ e → ⊥
      under τ _ all (too_large n i l) = large_or_not m.rule τ m.choice n (λ v c. sym (all v c)) i l m.is.within
      under τ e all (not_taken l b k _ _ i c) =
          stuck_or_taken z s m.rule τ m.choice l m.left b m.acts k m.right e m.taken (one-sym s z a) (λ v c. sym (all v c)) i m.is_instance c m.takes
      under τ _ all (breaks l b k t w _ _ i c f) =
          f.this (subst (λ tr. IsAdmitted g tr) (shown_one s z m.rule m.choice τ m.left l m.acts b m.right k m.taken t a all m.is_instance i m.takes c) m.admitted w)
      under τ _ all (not_used _ l _) = m.happens (inl l)
      under τ _ all (starts_again _ l _) = m.happens (inr l)

      at : (e : RuleFillFault) → IsRefusedRule g W p z m.rule b e → ⊥
      at _ (bad_binding n) = n m.is.bindings
      at e (no_choice _ l q) = chosen_or_not s z m.rule b m.choice e a l m.is.chosen q
      at e (of_choice τ _ v j) = under τ e (agree_all m.rule m.choice τ (one_sort g p name m.rule h m.is.named) (chosen_once g p s z m.rule b m.choice τ a m.is.chosen v)) j

      go : (r : Rule) → m.rule ≡ r → (e : RuleFillFault) → IsRefusedRule g W p z r b e → ⊥
      go r same e x = at e (subst (λ q. IsRefusedRule g W p z q b e) (sym same) x)

    done_or_refused : (s z y : ShortState) (name : List ℕ) (b : List Binding) (r : Rule) (e : RuleFillFault) → AreOneState s z → rule_named (rules_of p) name ≡ Some r
        → IsNamed g W p s name b y → IsRefusedRule g W p z r b e → ⊥
    done_or_refused s z y name b r e a k m x = go r (rules_one p name m.rule r m.is.named k) e x where
      u : Use
      u = use_of m.rule m.choice

      there : (v : Use) → u ≡ v → Contains z.unnamed v
      there v same = uses_have s.unnamed z.unnamed v a.unnamed (subst (λ us. Contains us v) (sym m.cut) (subst (λ w. Contains (m.earlier ++ w ∷ m.later) v) (sym same) (stands_in m.earlier m.later v)))

      under : (τ : Choice) (e : RuleFillFault) → Agree m.choice τ (rule_vars m.rule) → Agree m.choice τ (variables_of m.rule) → IsRefusedUnder g W p z m.rule τ e → ⊥
      under τ _ all some (too_large n i l) = large_or_not m.rule τ m.choice n (λ v c. sym (all v c)) i l m.is.within
      under τ _ all some (not_taken _ _ _ _ n _ _) = n m.left_out
      under τ _ all some (breaks _ _ _ _ _ _ n _ _ _) = n m.left_out
      under τ _ all some (not_used _ _ n) = n (there (use_of m.rule τ) (agree_use m.rule m.choice τ some))
      under τ _ all some (starts_again _ l n) = n (there init_use (ap (λ q. use_of q m.choice) l))

      at : (e : RuleFillFault) → IsRefusedRule g W p z m.rule b e → ⊥
      at _ (bad_binding n) = n m.is.bindings
      at e (no_choice _ l q) = chosen_or_not s z m.rule b m.choice e a l m.is.chosen q
      at e (of_choice τ _ v j) =
          let some = chosen_once g p s z m.rule b m.choice τ a m.is.chosen v in
          under τ e (agree_all m.rule m.choice τ (one_sort g p name m.rule h m.is.named) some) some j

      go : (r : Rule) → m.rule ≡ r → (e : RuleFillFault) → IsRefusedRule g W p z r b e → ⊥
      go r same e x = at e (subst (λ q. IsRefusedRule g W p z q b e) (sym same) x)

    pub line_or_refused : (s z y : ShortState) (l : ShortRuleStep) (e : RuleFillFault) → AreOneState s z → IsShortRuleLine g W p s l y → IsShortRuleRefused g W p z l e → ⊥
    line_or_refused s z y (Using name b) _ a (inl m) (no_rule n) = absurd (let no : None ≡ Some m.rule = sym n ∙ m.is.named in cc)
    line_or_refused s z y (Using name b) _ a (inr m) (no_rule n) = absurd (let no : None ≡ Some m.rule = sym n ∙ m.is.named in cc)
    line_or_refused s z y (Using name b) e a (inl m) (rule_refused r k x) = used_or_refused s z y name b r e a k m x
    line_or_refused s z y (Using name b) e a (inr m) (rule_refused r k x) = done_or_refused s z y name b r e a k m x
    line_or_refused s z y (Know u) _ a m (bad_term n) = n m.over
    line_or_refused s z y (Know u) _ a m (not_deduced form _ i n) =
        n (subst (λ ts. IsDeducible g [] ts form) a.known (subst (λ t. IsDeducible g [] s.known t) (one (equations g) (tree u) m.form form m.is_form i) m.can_give))
    line_or_refused s z y (Name n) _ a m (drawn_name c) = m.new (subst (λ ns. Contains ns n) (sym a.made) c)
