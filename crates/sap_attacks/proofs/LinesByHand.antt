-- Lines that are possible, by hand.
use Rattle.std.proofs.Common.{◌≡◌, ℕ, List, [], ◌∷◌, ◌++◌, ◌⊎◌, inl, inr, refl, sym, ap, subst}
use Rattle.std.specs.Prelude.{All, Contains, codes}
use Rattle.std.proofs.lemmas.List.Elements.{All-nil, All-cons}
use Rattle.sap_terms.specs.AdversaryFacts.{fr_fact, in_fact, k_fact, out_fact}
use Rattle.sap_terms.specs.Choice.{Choice}
use Rattle.sap_terms.specs.Laws.{NamesAreMessages}
use Rattle.sap_terms.specs.Message.{IsMessage, IsMessageChoice}
use Rattle.sap_terms.specs.Trace.{Trace}
use Rattle.sap_terms.specs.Tree.{Tree, fresh, variable}
use Rattle.sap_terms.specs.View.{term, tree}
use Rattle.sap_terms.specs.declared.binding.Binding.{Binding}
use Rattle.sap_terms.specs.declared.var.Sort.TheVariants.{Fresh, Msg}
use Rattle.sap_terms.specs.declared.var.Var.{Var}
use Rattle.sap_terms.proofs.PlainLaws.Items.{none_contained, cons_cases, first_item, item_cases}
use Rattle.sap_formula.specs.Truth.{IsTrueOn}
use Rattle.sap_terms.proofs.PlainLaws.Known.{two_names}
use Rattle.sap_templates.specs.ChannelFacts.{fresh_fact}
use Rattle.sap_place.specs.StateFacts.{copies_fact, state_fact}
use Rattle.sap_process.specs.Proc.{nil}
use Rattle.sap_restrict.specs.Laws.{QuietLaw}
use Rattle.sap_restrict.specs.Quiet.{premise_name}
use Rattle.sap_restrict.specs.ReservedFacts.{input_fact}
use Rattle.sap_restrict.specs.Standard.{IsAdmitted, standard}
use Rattle.sap_restrict.specs.declared.which.Which.TheVariants.{Eq, In, InEv, Init, Lock, NotEq, NotIn}
use Rattle.sap_rule.specs.declared.rule.Rule.{Rule}
use Rattle.sap_runs.specs.Limits.{AnySize}
use Rattle.sap_templates.specs.Templates.{in_rule, init_rule, new_rule, nil_rule, rep_copy_rule}
use Rattle.sap_attacks.specs.Settling.{Use, nothing_left, goes_on}
use Rattle.sap_attacks.specs.ShortRuleExamples.{a, at_start, bare, copying, drawing, ended, ended_with, LinesByHand, message_x, name_s, s_is, taking, told, where_stand, with_name, x_is}
use Rattle.sap_attacks.specs.ShortRuleLines.{AreBindings, first_vars, HasFirst, it_stands, was_taken, IsNamed, IsRuleNamed, IsShortRuleLine, LeavesOut}
use Rattle.sap_attacks.specs.ShortRuleStates.{ShortState}
use Rattle.sap_attacks.specs.Silent.{IsSilentRule}
use Rattle.sap_attacks.specs.SilentUses.{IsInstance, IsSilentUse, init_use, use_of, variables_of}
use Rattle.sap_attacks.specs.Taking.{IsPending, Precedes, pending, given, draws, is_given, stays, goes, none_left, then_on}
use Rattle.sap_attacks.specs.declared.short_rule_step.ShortRuleStep.TheVariants.{Rule as Using}
use Rattle.sap_attacks.proofs.Alikes.{stands_in}
use Rattle.sap_attacks.proofs.ByHand.{fresh_form, gives_a, named_so, nothing_shown, public_form, so_messages, takes_other, takes_two, two_shown}
use Rattle.sap_attacks.proofs.Serving.{given-messages-serve}
use Rattle.sap_attacks.proofs.SettlesByHand.{ends, output}

-- K('a'), InEvent('a')
abbrev served_trace : Trace
served_trace = (k_fact a ∷ []) ∷ (input_fact a ∷ []) ∷ []

-- bindings of the one variable of a rule leave nothing out
pub none_out : (r : Rule) (v : Var) (t : Tree) → variables_of r ≡ v ∷ [] → LeavesOut r (record { var = v; term = term t } ∷ []) → ⊥
none_out r v t e l = l.2 (subst (λ vs. Contains vs l.0) e l.1)

-- they are right
pub one_bound : (all : NamesAreMessages) (r : Rule) (v : Var) (t : Tree) → variables_of r ≡ v ∷ [] → IsMessage bare v.sort (tree (term t))
    → AreBindings bare r (record { var = v; term = term t } ∷ [])
one_bound all r v t e m = record {
  apart = (none_contained, tt);
  own = All-cons (Contains (variables_of r)) v [] (subst (λ vs. Contains vs v) (sym e) (first_item v [])) (All-nil (Contains (variables_of r)));
  terms = All-cons (λ (b : Binding). IsMessage bare b.var.sort (tree b.term)) (record { var = v; term = term t }) [] m (All-nil (λ (b : Binding). IsMessage bare b.var.sort (tree b.term)));
  others = subst (λ vs. All (λ w. Contains (v ∷ []) w ⊎ Contains (first_vars r.left) w) vs) (sym e)
      (All-cons (λ w. Contains (v ∷ []) w ⊎ Contains (first_vars r.left) w) v [] (inl (first_item v [])) (All-nil (λ w. Contains (v ∷ []) w ⊎ Contains (first_vars r.left) w)));
}

-- `New_` of new ~s; 0
abbrev pub news : Rule
news = new_rule [] [] name_s

-- `In_` of in(x); 0
abbrev pub ins : Rule
ins = in_rule [] [] (variable message_x)

-- `Nil_1` of new ~s; 0
abbrev pub nils : Rule
nils = nil_rule (1 ∷ []) (name_s ∷ [])

pub nil_silent : IsSilentRule drawing nils
nil_silent = record { path = 1 ∷ []; scope = name_s ∷ []; body = nil; stands = refl; is = refl }

-- its variable may be left out: it stands in the state fact
pub nil_unbound : AreBindings bare nils []
nil_unbound = record {
  apart = tt;
  own = All-nil (Contains (variables_of nils));
  terms = All-nil (λ (b : Binding). IsMessage bare b.var.sort (tree b.term));
  others = All-cons (λ w. Contains [] w ⊎ Contains (first_vars nils.left) w) name_s [] (inr (first_item name_s [])) (All-nil (λ w. Contains [] w ⊎ Contains (first_vars nils.left) w));
}

module _ (all : NamesAreMessages) where
  pub new_instance : (n : ℕ) → IsInstance bare news (named_so n) (at_start ∷ fr_fact n ∷ []) [] (with_name n ∷ [])
  new_instance n = record {
    messages = so_messages all bare n;
    takes = (record { name = refl; persistent = refl; args = tt }, (record { name = refl; persistent = refl; args = (fresh_form all bare n, tt) }, tt));
    shows = tt;
    adds = (record { name = refl; persistent = refl; args = (fresh_form all bare n, tt) }, tt);
  }

  pub new_named : (s : ShortState) → IsRuleNamed bare AnySize drawing s (codes "New_") (s_is (fresh 1) ∷ []) news (named_so 1)
  new_named s = record {
    named = refl;
    bindings = one_bound all news name_s (fresh 1) refl (all.fresh_name bare Fresh 1 refl);
    chosen = record {
      messages = so_messages all bare 1;
      agrees = (refl, tt);
      first = λ l. absurd (none_out news name_s (fresh 1) refl l);
      only = λ l. absurd (none_out news name_s (fresh 1) refl l);
    };
    within = λ n e. tt;
  }

  draws_line : QuietLaw → IsShortRuleLine bare AnySize drawing (where_stand (at_start ∷ []) []) (Using (codes "New_") (s_is (fresh 1) ∷ []))
      (record { facts = []; known = []; made = 1 ∷ []; unnamed = ended_with (fresh 1) ∷ []; shown = [] })
  draws_line quiet = inl (record {
    rule = news;
    choice = named_so 1;
    is = new_named (where_stand (at_start ∷ []) []);
    happens = takes_two drawing news at_start (fresh_fact (variable name_s)) [] refl;
    left = at_start ∷ fr_fact 1 ∷ [];
    acts = [];
    right = with_name 1 ∷ [];
    is_instance = new_instance 1;
    taken = record { facts = []; known = []; made = 1 ∷ []; unnamed = []; shown = [] };
    takes = then_on (where_stand [] []) (goes [] refl refl (λ w. refl) refl)
        (then_on (record { facts = []; known = []; made = 1 ∷ []; unnamed = []; shown = [] }) (draws 1 refl none_contained refl) none_left);
    admitted = nothing_shown quiet bare;
    adds = record { settled = []; uses = ended_with (fresh 1) ∷ []; settles = goes_on (with_name 1) (ended_with (fresh 1)) [] (ends all 1) nothing_left; told = []; put_out = refl; becomes = refl };
  })

  pub in_named : (s : ShortState) (t : Tree) (σ : Choice) → IsMessage bare Msg (tree (term t)) → IsMessageChoice bare σ → σ message_x ≡ tree (term t)
      → IsRuleNamed bare AnySize taking s (codes "In_") (x_is t ∷ []) ins σ
  in_named s t σ m c e = record {
    named = refl;
    bindings = one_bound all ins message_x t refl m;
    chosen = record {
      messages = c;
      agrees = (e, tt);
      first = λ l. absurd (none_out ins message_x t refl l);
      only = λ l. absurd (none_out ins message_x t refl l);
    };
    within = λ n e. tt;
  }

  in_instance : IsInstance bare ins (named_so 0) (at_start ∷ in_fact a ∷ []) (input_fact a ∷ []) (state_fact (1 ∷ []) (a ∷ []) ∷ [])
  in_instance = record {
    messages = so_messages all bare 0;
    takes = (record { name = refl; persistent = refl; args = tt }, (record { name = refl; persistent = refl; args = (public_form all bare (codes "a"), tt) }, tt));
    shows = (record { name = refl; persistent = refl; args = (public_form all bare (codes "a"), tt) }, tt);
    adds = (record { name = refl; persistent = refl; args = (public_form all bare (codes "a"), tt) }, tt);
  }

  took : IsSilentUse bare AnySize taking (state_fact (1 ∷ []) (a ∷ [])) (ended_with a) []
  took = record {
    rule = nil_rule (1 ∷ []) (message_x ∷ []);
    silent = record { path = 1 ∷ []; scope = message_x ∷ []; body = nil; stands = refl; is = refl };
    choice = named_so 0;
    is_instance = record {
      messages = so_messages all bare 0;
      takes = (record { name = refl; persistent = refl; args = (public_form all bare (codes "a"), tt) }, tt);
      shows = tt;
      adds = tt;
    };
    within = λ t e. tt;
    is = refl;
  }

  -- where each use that fits is one, a line without bindings names it
  names_one : (earlier later : List Use) → ((τ : Choice) → Contains (earlier ++ ended_with (fresh 1) ∷ later) (use_of nils τ) → use_of nils τ ≡ ended_with (fresh 1))
      → IsNamed bare AnySize drawing (where_stand [] (earlier ++ ended_with (fresh 1) ∷ later)) (codes "Nil_1") [] (where_stand [] (earlier ++ later))
  names_one earlier later each = record {
    rule = nils;
    choice = named_so 1;
    is = record {
      named = refl;
      bindings = nil_unbound;
      chosen = record {
        messages = so_messages all bare 1;
        agrees = tt;
        first = λ l. was_taken (inl nil_silent) (stands_in earlier later (ended_with (fresh 1)));
        only = λ l τ f. only τ f.first;
      };
      within = λ n e. tt;
    };
    left_out = inl nil_silent;
    earlier = earlier;
    later = later;
    cut = refl;
    becomes = refl;
  } where
    only : (τ : Choice) → HasFirst bare drawing (where_stand [] (earlier ++ ended_with (fresh 1) ∷ later)) nils τ → use_of nils τ ≡ ended_with (fresh 1)
    only τ (it_stands first f others e i c) = absurd (none_contained c)
    only τ (was_taken l c) = each τ c

  start_named : IsNamed bare AnySize drawing (where_stand [] (init_use ∷ ended_with (fresh 1) ∷ [])) (codes "Init") [] (where_stand [] (ended_with (fresh 1) ∷ []))
  start_named = record {
    rule = init_rule;
    choice = named_so 1;
    is = record {
      named = refl;
      bindings = record {
        apart = tt;
        own = All-nil (Contains (variables_of init_rule));
        terms = All-nil (λ (b : Binding). IsMessage bare b.var.sort (tree b.term));
        others = All-nil (λ w. Contains [] w ⊎ Contains (first_vars init_rule.left) w);
      };
      chosen = record { messages = so_messages all bare 1; agrees = tt; first = (λ l. absurd (none_contained l.1)); only = (λ l. absurd (none_contained l.1)) };
      within = λ n e. tt;
    };
    left_out = inr refl;
    earlier = [];
    later = ended_with (fresh 1) ∷ [];
    cut = refl;
    becomes = refl;
  }

  behind_start : (τ : Choice) → Contains (init_use ∷ ended_with (fresh 1) ∷ []) (use_of nils τ) → use_of nils τ ≡ ended_with (fresh 1)
  behind_start τ c = elim (cons_cases init_use (ended_with (fresh 1) ∷ []) (use_of nils τ) c) [
    | inl e ↦ absurd (two_names init_use.name nils.name refl (ap (λ (u : Use). u.name) e))
    | inr d ↦ sym (item_cases (ended_with (fresh 1)) (use_of nils τ) d)
  ]

  twice_there : (τ : Choice) → Contains (ended_with (fresh 1) ∷ ended_with (fresh 1) ∷ []) (use_of nils τ) → use_of nils τ ≡ ended_with (fresh 1)
  twice_there τ c = elim (cons_cases (ended_with (fresh 1)) (ended_with (fresh 1) ∷ []) (use_of nils τ) c) [
    | inl e ↦ sym e
    | inr d ↦ sym (item_cases (ended_with (fresh 1)) (use_of nils τ) d)
  ]

  copied : IsSilentUse bare AnySize copying (state_fact (1 ∷ []) []) ended []
  copied = record {
    rule = nil_rule (1 ∷ []) [];
    silent = record { path = 1 ∷ []; scope = []; body = nil; stands = refl; is = refl };
    choice = named_so 0;
    is_instance = record { messages = so_messages all bare 0; takes = (record { name = refl; persistent = refl; args = tt }, tt); shows = tt; adds = tt };
    within = λ t e. tt;
    is = refl;
  }

  copies_line : QuietLaw → IsShortRuleLine bare AnySize copying (where_stand (copies_fact [] [] ∷ []) []) (Using (codes "RepCopy_") []) (where_stand (copies_fact [] [] ∷ []) (ended ∷ []))
  copies_line quiet = inl (record {
    rule = rep_copy_rule [] [];
    choice = named_so 0;
    is = record {
      named = refl;
      bindings = record {
        apart = tt;
        own = All-nil (Contains (variables_of (rep_copy_rule [] [])));
        terms = All-nil (λ (b : Binding). IsMessage bare b.var.sort (tree b.term));
        others = All-nil (λ w. Contains [] w ⊎ Contains (first_vars (rep_copy_rule [] []).left) w);
      };
      chosen = record { messages = so_messages all bare 0; agrees = tt; first = (λ l. absurd (none_contained l.1)); only = (λ l. absurd (none_contained l.1)) };
      within = λ n e. tt;
    };
    happens = takes_other copying (rep_copy_rule [] []) (copies_fact [] []) [] refl (λ path. refl);
    left = copies_fact [] [] ∷ [];
    acts = [];
    right = state_fact (1 ∷ []) [] ∷ [];
    is_instance = record {
      messages = so_messages all bare 0;
      takes = (record { name = refl; persistent = refl; args = tt }, tt);
      shows = tt;
      adds = (record { name = refl; persistent = refl; args = tt }, tt);
    };
    taken = where_stand (copies_fact [] [] ∷ []) [];
    takes = then_on (where_stand (copies_fact [] [] ∷ []) []) (stays refl refl (first_item (copies_fact [] []) []) refl) none_left;
    admitted = nothing_shown quiet bare;
    adds = record { settled = []; uses = ended ∷ []; settles = goes_on (state_fact (1 ∷ []) []) ended [] copied nothing_left; told = []; put_out = refl; becomes = refl };
  })

  module _ (quiet : QuietLaw) (known : IsTrueOn bare (standard InEv) served_trace) where
    served : IsAdmitted bare served_trace
    served Init = quiet Init bare served_trace (two_shown (k_fact a) (input_fact a) (premise_name Init) refl refl)
    served Eq = quiet Eq bare served_trace (two_shown (k_fact a) (input_fact a) (premise_name Eq) refl refl)
    served NotEq = quiet NotEq bare served_trace (two_shown (k_fact a) (input_fact a) (premise_name NotEq) refl refl)
    served In = quiet In bare served_trace (two_shown (k_fact a) (input_fact a) (premise_name In) refl refl)
    served NotIn = quiet NotIn bare served_trace (two_shown (k_fact a) (input_fact a) (premise_name NotIn) refl refl)
    served Lock = quiet Lock bare served_trace (two_shown (k_fact a) (input_fact a) (premise_name Lock) refl refl)
    served InEv = known

    gives_line : (before : Trace) (tr : Trace) → Precedes tr a before → tr ++ before ≡ (k_fact a ∷ []) ∷ []
        → IsShortRuleLine bare AnySize taking (record (where_stand (at_start ∷ []) []) { shown = tr }) (Using (codes "In_") (x_is a ∷ []))
        (record { facts = []; known = []; made = []; unnamed = ended_with a ∷ []; shown = (k_fact a ∷ []) ∷ (input_fact a ∷ []) ∷ [] })
    gives_line before tr q e = inl (record {
      rule = ins;
      choice = named_so 0;
      is = in_named (record (where_stand (at_start ∷ []) []) { shown = tr }) a (named_so 0) (all.public_name bare Msg (codes "a") refl) (so_messages all bare 0) refl;
      happens = takes_two taking ins at_start (in_fact (variable message_x)) [] refl;
      left = at_start ∷ in_fact a ∷ [];
      acts = input_fact a ∷ [];
      right = state_fact (1 ∷ []) (a ∷ []) ∷ [];
      is_instance = in_instance;
      taken = record { facts = []; known = []; made = []; unnamed = []; shown = tr ++ before };
      takes = then_on (record { facts = []; known = []; made = []; unnamed = []; shown = tr }) (goes [] refl refl (λ w. refl) refl)
          (then_on (record { facts = []; known = []; made = []; unnamed = []; shown = tr ++ before }) (is_given a before refl (gives_a all bare) q refl) none_left);
      admitted = subst (λ z. IsAdmitted bare (z ++ (input_fact a ∷ []) ∷ [])) (sym e) served;
      adds = record {
        settled = [];
        uses = ended_with a ∷ [];
        settles = goes_on (state_fact (1 ∷ []) (a ∷ [])) (ended_with a) [] took nothing_left;
        told = [];
        put_out = refl;
        becomes = ap (λ (z : Trace). record { facts = []; known = []; made = []; unnamed = ended_with a ∷ []; shown = z ++ (input_fact a ∷ []) ∷ [] }) (sym e);
      };
    })

    unserved : IsPending [] a → ⊥
    unserved q = none_contained q.1.known

    pub lines_by_hand : LinesByHand
    lines_by_hand = record {
      begins = record { settled = out_fact a ∷ []; uses = told ∷ ended ∷ []; settles = output all; told = a ∷ []; put_out = refl; becomes = refl };
      copies = copies_line quiet;
      draws = draws_line quiet;
      gives = gives_line ((k_fact a ∷ []) ∷ []) [] (given unserved refl) refl;
      gave = gives_line [] ((k_fact a ∷ []) ∷ []) (pending (given-messages-serve [] a (λ x i c. absurd (none_contained c))).0 refl) refl;
      names = inr (names_one (init_use ∷ []) [] behind_start);
      starts = inr start_named;
      either = inr (names_one [] (ended_with (fresh 1) ∷ []) twice_there);
      shows = record { form = a; over = tt; is_form = public_form all bare (codes "a"); can_give = gives_a all bare; becomes = refl };
      takes_name = record { new = none_contained; becomes = refl };
    }
