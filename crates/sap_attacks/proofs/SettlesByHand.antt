-- What settles in small processes, by hand.
use Rattle.std.proofs.Common.{◌≡◌, ℕ, List, [], ◌∷◌, refl, subst}
use Rattle.std.specs.Prelude.{codes}
use Rattle.std.proofs.lemmas.Option.{same_Some}
use Rattle.sap_terms.specs.AdversaryFacts.{out_fact}
use Rattle.sap_terms.specs.Laws.{NamesAreMessages}
use Rattle.sap_terms.specs.Subterms.{itself, here}
use Rattle.sap_terms.specs.Tree.{Tree, fresh}
use Rattle.sap_terms.specs.declared.fact.Fact.{Fact}
use Rattle.sap_process.specs.Proc.{nil}
use Rattle.sap_place.specs.StateFacts.{state_fact}
use Rattle.sap_runs.specs.Limits.{AnySize}
use Rattle.sap_steps.specs.Lines.{IsEvaluated}
use Rattle.sap_templates.specs.Templates.{nil_rule, out_rule}
use Rattle.sap_attacks.specs.Settling.{Use, nothing_left, stays, goes_on}
use Rattle.sap_attacks.specs.ShortRuleExamples.{a, at_start, bare, drawing, ended, ended_with, name_s, NoSize, SettlesByHand, telling, told, with_name}
use Rattle.sap_attacks.specs.SilentUses.{IsSilentUse, SettlesTo}
use Rattle.sap_attacks.proofs.ByHand.{fresh_form, named_so, other_name, public_form, so_messages}
use Rattle.sap_attacks.proofs.SilentOnce.{taker_of}

module _ (all : NamesAreMessages) where
  -- `new ~s; 0` ends where ~s is this
  pub ends : (n : ℕ) → IsSilentUse bare AnySize drawing (with_name n) (ended_with (fresh n)) []
  ends n = record {
    rule = nil_rule (1 ∷ []) (name_s ∷ []);
    silent = record { path = 1 ∷ []; scope = name_s ∷ []; body = nil; stands = refl; is = refl };
    choice = named_so n;
    is_instance = record {
      messages = so_messages all bare n;
      takes = (record { name = refl; persistent = refl; args = (fresh_form all bare n, tt) }, tt);
      shows = tt;
      adds = tt;
    };
    within = λ t e. tt;
    is = refl;
  }

  -- out('a'); 0 puts out, and ends
  tells : IsSilentUse bare AnySize telling at_start told (out_fact a ∷ state_fact (1 ∷ []) [] ∷ [])
  tells = record {
    rule = out_rule [] [] a;
    silent = record { path = []; scope = []; body = telling; stands = refl; is = refl };
    choice = named_so 0;
    is_instance = record {
      messages = so_messages all bare 0;
      takes = (record { name = refl; persistent = refl; args = tt }, tt);
      shows = tt;
      adds = (record { name = refl; persistent = refl; args = (public_form all bare (codes "a"), tt) }, (record { name = refl; persistent = refl; args = tt }, tt));
    };
    within = λ t e. tt;
    is = refl;
  }

  tells_all : IsSilentUse bare AnySize telling (state_fact (1 ∷ []) []) ended []
  tells_all = record {
    rule = nil_rule (1 ∷ []) [];
    silent = record { path = 1 ∷ []; scope = []; body = nil; stands = refl; is = refl };
    choice = named_so 0;
    is_instance = record { messages = so_messages all bare 0; takes = (record { name = refl; persistent = refl; args = tt }, tt); shows = tt; adds = tt };
    within = λ t e. tt;
    is = refl;
  }

  pub output : SettlesTo bare AnySize telling (at_start ∷ []) (out_fact a ∷ []) (told ∷ ended ∷ [])
  output =
      goes_on at_start told (out_fact a ∷ state_fact (1 ∷ []) [] ∷ []) tells
      (stays (out_fact a) (λ u more s. other_name bare AnySize telling (out_fact a) u more (λ path. refl) s)
      (goes_on (state_fact (1 ∷ []) []) ended [] tells_all nothing_left))

  -- the rule of `new` isn't silent
  waits_there : (W : Tree → Type 0) (u : Use) (more : List Fact) → IsSilentUse bare W drawing at_start u more → ⊥
  waits_there W u more s =
      let e = taker_of bare drawing [] [] drawing at_start refl refl W u more s in
      absurd (cc)

  waits : SettlesTo bare AnySize drawing (at_start ∷ []) (at_start ∷ []) []
  waits = stays at_start (waits_there AnySize) nothing_left

  -- beyond the limit nothing is put out
  too_large : SettlesTo bare NoSize telling (at_start ∷ []) (at_start ∷ []) []
  too_large = stays at_start never nothing_left where
    never : (u : Use) (more : List Fact) → IsSilentUse bare NoSize telling at_start u more → ⊥
    never u more s =
        let e = taker_of bare telling [] [] telling at_start refl refl NoSize u more s in
        let is : out_rule [] [] a ≡ s.rule = same_Some (out_rule [] [] a) s.rule e in
        s.within a (subst (λ r. IsEvaluated bare r s.choice a) is (here (itself (public_form all bare (codes "a")))))

  not_left : SettlesTo bare AnySize telling (at_start ∷ []) (at_start ∷ []) [] → ⊥
  not_left (stays f n d) = n told (out_fact a ∷ state_fact (1 ∷ []) [] ∷ []) tells

  pub settles_by_hand : SettlesByHand
  settles_by_hand = record { output = output; waits = waits; too_large = too_large; not_left = not_left }
