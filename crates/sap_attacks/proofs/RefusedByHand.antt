-- Lines that are refused, by hand.
use Rattle.std.proofs.Common.{◌≡◌, ℕ, true, false, [], ◌∷◌, ◌⊎◌, inl, inr, refl, ap, arith}
use Rattle.std.specs.Prelude.{Contains, codes}
use Rattle.std.proofs.lemmas.List.Elements.{All-nil, All-head}
use Rattle.sap_terms.specs.AdversaryFacts.{fr_fact, in_fact}
use Rattle.sap_terms.specs.Choice.{Choice}
use Rattle.sap_terms.specs.Laws.{NamesAreMessages}
use Rattle.sap_terms.specs.Message.{IsMessage}
use Rattle.sap_terms.specs.Subterms.{itself, here}
use Rattle.sap_terms.specs.Trace.{Trace}
use Rattle.sap_terms.specs.Tree.{fresh, variable}
use Rattle.sap_terms.specs.View.{term, tree}
use Rattle.sap_terms.specs.declared.binding.Binding.{Binding}
use Rattle.sap_terms.specs.declared.var.Sort.TheVariants.{Fresh, Msg}
use Rattle.sap_terms.proofs.PlainLaws.Items.{none_contained, first_item, item_cases, later_item}
use Rattle.sap_formula.specs.Truth.{IsTrueOn}
use Rattle.sap_place.specs.StateFacts.{state_fact}
use Rattle.sap_restrict.specs.Answer.{IsOnlyFalse}
use Rattle.sap_restrict.specs.Laws.{QuietLaw}
use Rattle.sap_restrict.specs.Quiet.{premise_name}
use Rattle.sap_restrict.specs.ReservedFacts.{eq_fact, input_fact}
use Rattle.sap_restrict.specs.Standard.{standard}
use Rattle.sap_restrict.specs.declared.which.Which.TheVariants.{Eq, In, InEv, Init, Lock, NotEq, NotIn}
use Rattle.sap_restrict.specs.declared.which.Which.{Which}
use Rattle.sap_rewrite.specs.Laws.{FormIsOne}
use Rattle.sap_rule.specs.declared.rule.Rule.{Rule}
use Rattle.sap_runs.specs.Limits.{AnySize}
use Rattle.sap_steps.specs.declared.fault.RFault.TheVariants as line
use Rattle.sap_templates.specs.ChannelFacts.{fresh_fact}
use Rattle.sap_templates.specs.Templates.{init_rule, then_rule}
use Rattle.sap_attacks.specs.RuleRefusals.{drawn as name_drawn, not_given, missing, nothing_fits, more_fits, too_large, not_taken, breaks, not_used, starts_again, bad_binding, no_choice, of_choice, IsShortRuleRefused, no_rule, rule_refused, bad_term, not_deduced, drawn}
use Rattle.sap_attacks.specs.Settling.{Use}
use Rattle.sap_attacks.specs.ShortRuleExamples.{a, at_start, b, bare, drawing, ended_with, message_x, name_s, NoSize, RefusedByHand, s_is, taking, testing, where_stand, with_name, x_is}
use Rattle.sap_attacks.specs.ShortRuleLines.{AreBindings, first_vars, Fits, HasFirst, it_stands, was_taken, IsChosen, LeavesOut}
use Rattle.sap_attacks.specs.ShortRuleStates.{ShortState}
use Rattle.sap_attacks.specs.SilentUses.{MayBeLeftOut, use_of, variables_of}
use Rattle.sap_attacks.specs.Taking.{goes, none_left, then_on}
use Rattle.sap_attacks.specs.declared.rule_fill_fault.RuleFillFault.TheVariants.{Rule as Line, Broken, BadTerm, NotDeduced, MoreThanOne}
use Rattle.sap_attacks.specs.declared.short_rule_step.ShortRuleStep.TheVariants.{Rule as Using, Know}
use Rattle.sap_attacks.proofs.ByHand.{fresh_form, named_so, not_gives, one_shown, public_form, shows_one, so_messages, takes_two, x_messages, x_so}
use Rattle.sap_attacks.proofs.LinesByHand.{in_named, ins, new_instance, new_named, news, nil_silent, nil_unbound, nils, none_out, one_bound}

-- Eq('a','b')
abbrev differing : Trace
differing = (eq_fact a b ∷ []) ∷ []

-- the variable of `New_` can't be left out, stand twice or be a public name
unbound : AreBindings bare news [] → ⊥
unbound h = elim (All-head (λ w. Contains [] w ⊎ Contains (first_vars news.left) w) name_s [] h.others) [ inl c ↦ none_contained c | inr c ↦ none_contained c ]

bound_twice : AreBindings bare news (s_is (fresh 1) ∷ s_is (fresh 1) ∷ []) → ⊥
bound_twice h = h.apart.0 (first_item name_s [])

unsorted : AreBindings bare news (s_is a ∷ []) → ⊥
unsorted h =
    let m = All-head (λ (e : Binding). IsMessage bare e.var.sort (tree e.term)) (s_is a) [] h.terms in
    let no : false ≡ true = m.sorted in
    absurd (cc)

foreign : AreBindings bare init_rule (x_is a ∷ []) → ⊥
foreign h = none_contained (All-head (Contains (variables_of init_rule)) message_x [] h.own)

not_bad_term : IsShortRuleRefused bare AnySize taking (where_stand [] []) (Know (term a)) BadTerm → ⊥
not_bad_term (bad_term n) = n tt

module _ (all : NamesAreMessages) where
  -- `Nil_1` without bindings
  left_out : LeavesOut nils []
  left_out = (name_s, first_item name_s [], none_contained)

  nothing : (σ : Choice) → Fits bare drawing (where_stand [] []) nils [] σ → ⊥
  nothing σ f = at f.first where
    at : HasFirst bare drawing (where_stand [] []) nils σ → ⊥
    at (it_stands first h others e i c) = none_contained c
    at (was_taken l c) = none_contained c

  fitting : (s : ShortState) (n : ℕ) → HasFirst bare drawing s nils (named_so n) → Fits bare drawing s nils [] (named_so n)
  fitting s n h = record { messages = so_messages all bare n; agrees = tt; first = h }

  apart : use_of nils (named_so 1) ≡ use_of nils (named_so 2) → ⊥
  apart e =
      let terms : fresh 1 ∷ [] ≡ fresh 2 ∷ [] = ap (λ (u : Use). u.terms) e in
      let names : fresh 1 ≡ fresh 2 = cc in
      let numbers : ◌≡◌ {A = ℕ} 1 2 = cc in
      absurd (omega (arith, numbers))

  two_uses : IsShortRuleRefused bare AnySize drawing (where_stand [] (ended_with (fresh 1) ∷ ended_with (fresh 2) ∷ [])) (Using (codes "Nil_1") []) MoreThanOne
  two_uses =
      let s = where_stand [] (ended_with (fresh 1) ∷ ended_with (fresh 2) ∷ []) in
      rule_refused nils refl (no_choice nil_unbound left_out (more_fits (named_so 1) (named_so 2)
      (fitting s 1 (was_taken (inl nil_silent) (first_item (ended_with (fresh 1)) (ended_with (fresh 2) ∷ []))))
      (fitting s 2 (was_taken (inl nil_silent) (later_item (ended_with (fresh 1)) (ended_with (fresh 2) ∷ []) (ended_with (fresh 2)) (first_item (ended_with (fresh 2)) []))))
      apart))

  use_and_fact : IsShortRuleRefused bare AnySize drawing (where_stand (with_name 2 ∷ []) (ended_with (fresh 1) ∷ [])) (Using (codes "Nil_1") []) MoreThanOne
  use_and_fact =
      let s = where_stand (with_name 2 ∷ []) (ended_with (fresh 1) ∷ []) in
      rule_refused nils refl (no_choice nil_unbound left_out (more_fits (named_so 1) (named_so 2)
      (fitting s 1 (was_taken (inl nil_silent) (first_item (ended_with (fresh 1)) [])))
      (fitting s 2 (it_stands (state_fact (1 ∷ []) (variable name_s ∷ [])) (with_name 2) [] refl
      (record { name = refl; persistent = refl; args = (fresh_form all bare 2, tt) }) (first_item (with_name 2) [])))
      apart))

  -- `Nil_1` with ~s
  nil_bound : (n : ℕ) → AreBindings bare nils (s_is (fresh n) ∷ [])
  nil_bound n = one_bound all nils name_s (fresh n) refl (all.fresh_name bare Fresh n refl)

  nil_chosen : (s : ShortState) (n : ℕ) → IsChosen bare drawing s nils (s_is (fresh n) ∷ []) (named_so n)
  nil_chosen s n = record {
    messages = so_messages all bare n;
    agrees = (refl, tt);
    first = λ l. absurd (none_out nils name_s (fresh n) refl l);
    only = λ l. absurd (none_out nils name_s (fresh n) refl l);
  }

  large : IsShortRuleRefused bare NoSize drawing (where_stand [] []) (Using (codes "Nil_1") (s_is (fresh 1) ∷ [])) (Line line.TermLarge)
  large = rule_refused nils refl (of_choice (named_so 1) (nil_bound 1) (nil_chosen (where_stand [] []) 1) (too_large (fresh 1) (here (itself (fresh_form all bare 1))) (λ x. x)))

  other_use : IsShortRuleRefused bare AnySize drawing (where_stand [] (ended_with (fresh 1) ∷ [])) (Using (codes "Nil_1") (s_is (fresh 2) ∷ [])) (Line (line.FactMissing 1))
  other_use = rule_refused nils refl (of_choice (named_so 2) (nil_bound 2) (nil_chosen (where_stand [] (ended_with (fresh 1) ∷ [])) 2)
      (not_used (λ n e. tt) nil_silent (λ c. apart (item_cases (ended_with (fresh 1)) (ended_with (fresh 2)) c))))

  again : IsShortRuleRefused bare AnySize drawing (where_stand [] []) (Using (codes "Init") []) (Broken Init)
  again = rule_refused init_rule refl (of_choice (named_so 1)
      (record {
        apart = tt;
        own = All-nil (Contains (variables_of init_rule));
        terms = All-nil (λ (e : Binding). IsMessage bare e.var.sort (tree e.term));
        others = All-nil (λ w. Contains [] w ⊎ Contains (first_vars init_rule.left) w);
      })
      (record { messages = so_messages all bare 1; agrees = tt; first = (λ l. absurd (none_contained l.1)); only = (λ l. absurd (none_contained l.1)) })
      (starts_again (λ n e. tt) refl none_contained))

  -- `New_` on what doesn't stand, and with a name that was drawn
  loud : MayBeLeftOut drawing news → ⊥
  loud = takes_two drawing news at_start (fresh_fact (variable name_s)) [] refl

  no_fact : IsShortRuleRefused bare AnySize drawing (record (where_stand [] []) { made = 1 ∷ [] }) (Using (codes "New_") (s_is (fresh 1) ∷ [])) (Line (line.FactMissing 1))
  no_fact =
      let s : ShortState = record (where_stand [] []) { made = 1 ∷ [] } in
      let named = new_named all s in
      rule_refused news refl (of_choice (named_so 1) named.bindings named.chosen (not_taken (at_start ∷ fr_fact 1 ∷ []) [] (with_name 1 ∷ []) (λ n e. tt) loud (new_instance all 1)
      (record { before = []; fact = at_start; behind = fr_fact 1 ∷ []; cut = refl; taken = s; takes = none_left; not_taken = missing refl none_contained })))

  name_used : IsShortRuleRefused bare AnySize drawing (record (where_stand (at_start ∷ []) []) { made = 1 ∷ [] }) (Using (codes "New_") (s_is (fresh 1) ∷ [])) (Line (line.UsedName 1))
  name_used =
      let s : ShortState = record (where_stand (at_start ∷ []) []) { made = 1 ∷ [] } in
      let z : ShortState = record (where_stand [] []) { made = 1 ∷ [] } in
      let named = new_named all s in
      rule_refused news refl (of_choice (named_so 1) named.bindings named.chosen (not_taken (at_start ∷ fr_fact 1 ∷ []) [] (with_name 1 ∷ []) (λ n e. tt) loud (new_instance all 1)
      (record { before = at_start ∷ []; fact = fr_fact 1; behind = []; cut = refl; taken = z; takes = then_on z (goes [] refl refl (λ w. refl) refl) none_left; not_taken = name_drawn 1 refl (first_item 1 []) })))

  module _ (one : FormIsOne) where
    input_refused : IsShortRuleRefused bare AnySize taking (where_stand (at_start ∷ []) []) (Using (codes "In_") (x_is (fresh 1) ∷ [])) NotDeduced
    input_refused =
        let s = where_stand (at_start ∷ []) [] in
        let named = in_named all s (fresh 1) (x_so 1) (all.fresh_name bare Msg 1 refl) (x_messages all bare 1) refl in
        rule_refused ins refl (of_choice (x_so 1) named.bindings named.chosen (not_taken (at_start ∷ in_fact (fresh 1) ∷ []) (input_fact (fresh 1) ∷ []) (state_fact (1 ∷ []) (fresh 1 ∷ []) ∷ []) (λ n e. tt)
        (takes_two taking ins at_start (in_fact (variable message_x)) [] refl)
        (record {
          messages = x_messages all bare 1;
          takes = (record { name = refl; persistent = refl; args = tt }, (record { name = refl; persistent = refl; args = (fresh_form all bare 1, tt) }, tt));
          shows = (record { name = refl; persistent = refl; args = (fresh_form all bare 1, tt) }, tt);
          adds = (record { name = refl; persistent = refl; args = (fresh_form all bare 1, tt) }, tt);
        })
        (record {
          before = at_start ∷ [];
          fact = in_fact (fresh 1);
          behind = [];
          cut = refl;
          taken = where_stand [] [];
          takes = then_on (where_stand [] []) (goes [] refl refl (λ w. refl) refl) none_left;
          not_taken = not_given (fresh 1) refl (not_gives all one 1);
        })))

    not_known : IsShortRuleRefused bare AnySize taking (where_stand [] []) (Know (term (fresh 1))) NotDeduced
    not_known = not_deduced (fresh 1) tt (fresh_form all bare 1) (not_gives all one 1)

  module _ (quiet : QuietLaw) (differ : ¬ IsTrueOn bare (standard Eq) differing) where
    false_alone : IsOnlyFalse bare differing Eq
    false_alone = record { this = differ; others = others_true } where
      others_true : (w : Which) → ¬ (w ≡ Eq) → IsTrueOn bare (standard w) differing
      others_true Init n = quiet Init bare differing (one_shown (eq_fact a b) (premise_name Init) refl)
      others_true Eq n = absurd (n refl)
      others_true NotEq n = quiet NotEq bare differing (one_shown (eq_fact a b) (premise_name NotEq) refl)
      others_true In n = quiet In bare differing (one_shown (eq_fact a b) (premise_name In) refl)
      others_true NotIn n = quiet NotIn bare differing (one_shown (eq_fact a b) (premise_name NotIn) refl)
      others_true Lock n = quiet Lock bare differing (one_shown (eq_fact a b) (premise_name Lock) refl)
      others_true InEv n = quiet InEv bare differing (one_shown (eq_fact a b) (premise_name InEv) refl)

    abbrev thens : Rule
    thens = then_rule [] [] a b

    equal_refused : IsShortRuleRefused bare AnySize testing (where_stand (at_start ∷ []) []) (Using (codes "Then_") []) (Broken Eq)
    equal_refused = rule_refused thens refl (of_choice (named_so 1)
        (record {
          apart = tt;
          own = All-nil (Contains (variables_of thens));
          terms = All-nil (λ (e : Binding). IsMessage bare e.var.sort (tree e.term));
          others = All-nil (λ w. Contains [] w ⊎ Contains (first_vars thens.left) w);
        })
        (record { messages = so_messages all bare 1; agrees = tt; first = (λ l. absurd (none_contained l.1)); only = (λ l. absurd (none_contained l.1)) })
        (breaks (at_start ∷ []) (eq_fact a b ∷ []) (state_fact (1 ∷ []) [] ∷ []) (where_stand [] []) Eq (λ n e. tt)
        (shows_one testing thens (eq_fact a b) at_start [] [] refl refl)
        (record {
          messages = so_messages all bare 1;
          takes = (record { name = refl; persistent = refl; args = tt }, tt);
          shows = (record { name = refl; persistent = refl; args = (public_form all bare (codes "a"), (public_form all bare (codes "b"), tt)) }, tt);
          adds = (record { name = refl; persistent = refl; args = tt }, tt);
        })
        (then_on (where_stand [] []) (goes [] refl refl (λ w. refl) refl) none_left) false_alone))

    pub refused_by_hand : FormIsOne → RefusedByHand
    refused_by_hand one = record {
      no_rule = no_rule refl;
      left_out = rule_refused news refl (bad_binding unbound);
      twice = rule_refused news refl (bad_binding bound_twice);
      wrong_sort = rule_refused news refl (bad_binding unsorted);
      not_its_own = rule_refused init_rule refl (bad_binding foreign);
      nothing_fits = rule_refused nils refl (no_choice nil_unbound left_out (nothing_fits nothing));
      two_uses = two_uses;
      use_and_fact = use_and_fact;
      too_large = large;
      no_fact = no_fact;
      name_used = name_used;
      not_given = input_refused one;
      breaks = equal_refused;
      other_use = other_use;
      starts_again = again;
      bad_term = bad_term (λ over. let held = over.0 in absurd (cc));
      not_bad = not_bad_term;
      not_known = not_known one;
      drawn = drawn (first_item 1 []);
    }
