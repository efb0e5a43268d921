-- Runs of a theory's rules, replayed step by step.
use Rattle.std.proofs.Common.{◌≡◌, ◌≤◌, ◌<◌, ◌+◌, ◌-◌, ◌^◌, ℕ, List, [], ◌∷◌, ◌++◌, length, take, drop, min, slice_get, Some, sym, ap, subst, ◌∙◌, arith}
use Rattle.std.proofs.lemmas.Grind.{common_steps}
use Rattle.std.proofs.lemmas.List.{take-append-drop, take_all}
use Rattle.std.proofs.lemmas.List.Elements.{All-append, All-nil, All-cons}
use Rattle.std.proofs.lemmas.Option.{slice_get_within}
use Rattle.sap_terms.proofs.PlainLaws.Lists.{drop_got, take_got}
use Rattle.sap_terms.specs.Message.{AreMessageFacts, IsMessageTrace}
use Rattle.sap_terms.specs.Signature.{Sig}
use Rattle.sap_terms.specs.Trace.{Trace}
use Rattle.sap_rule.specs.RuleSteps.{RuleState, empty_state}
use Rattle.sap_rule.specs.declared.rule.Rule.{Rule}
use Rattle.sap_rule.specs.declared.theory.Theory.{Theory}
use Rattle.sap_runs.specs.Limits.{HasFewNodes}
use Rattle.sap_runs.specs.declared.rule_step.RStep.{RStep}
use Rattle.sap_steps.specs.Faults.{IsLineFault}
use Rattle.sap_steps.specs.Lines.{IsLine}
use Rattle.sap_steps.specs.Runs.{IsLegalRun, starts, further}
use Rattle.sap_steps.specs.State.{State}
use Rattle.sap_replay.specs.code.Checked.{Advances, IsLegalTrace, IsRefusedAt, IsStopped}
use Rattle.sap_replay.specs.declared.checking.Stop.{Stop}
use Rattle.sap_replay.specs.declared.checking.Stop.TheVariants as stop

-- so many steps were taken, from the start on
pub record AreTaken (t : Theory) (steps : List RStep) (k : ℕ) (s : State) (full : Trace) : Type 0 where
  pub sig : s.sig ≡ t.signature
  pub rules : s.rules ≡ t.rules
  pub legal : IsLegalRun t.signature t.rules HasFewNodes (take k steps) s.at full
  pub messages : IsMessageTrace t.signature full

-- none
pub none_taken : (t : Theory) (steps : List RStep) (s : State) (full : Trace) → s.sig ≡ t.signature → s.rules ≡ t.rules → s.at ≡ empty_state → full ≡ []
    → AreTaken t steps 0 s full
none_taken t steps s full sig rules at none = record {
  sig = sig;
  rules = rules;
  legal = subst (λ (x : RuleState). IsLegalRun t.signature t.rules HasFewNodes [] x full) (sym at) (subst (λ (x : Trace). IsLegalRun t.signature t.rules HasFewNodes [] empty_state x) (sym none) starts);
  messages = subst (IsMessageTrace t.signature) (sym none) (All-nil (AreMessageFacts t.signature));
}

module _ (steps : List RStep) (k : ℕ) (line : RStep) (got : slice_get steps k ≡ Some line) where
  parted : steps ≡ take k steps ++ line ∷ drop (k + 1) steps
  parted = sym (take-append-drop k steps) ∙ ap (λ (ls : List RStep). take k steps ++ ls) (drop_got steps k line got)

  one_more_line : take (k + 1) steps ≡ take k steps ++ line ∷ []
  one_more_line = take_got steps k line got

  -- one more
  pub one_taken : (t : Theory) (s z : State) (full more : Trace) → AreTaken t steps k s full → Advances s line full z more → z.sig ≡ s.sig → z.rules ≡ s.rules
      → AreTaken t steps (k + 1) z more
  one_taken t s z full more b a sig rules =
      let possible : IsLine t.signature t.rules HasFewNodes s.at line a.acts z.at =
      subst (λ (g : Sig). IsLine g t.rules HasFewNodes s.at line a.acts z.at) b.sig (subst (λ (rs : List Rule). IsLine s.sig rs HasFewNodes s.at line a.acts z.at) b.rules a.possible) in
      record {
        sig = sig ∙ b.sig;
        rules = rules ∙ b.rules;
        legal =
            subst (λ (ls : List RStep). IsLegalRun t.signature t.rules HasFewNodes ls z.at more) (sym one_more_line)
            (subst (λ (x : Trace). IsLegalRun t.signature t.rules HasFewNodes (take k steps ++ line ∷ []) z.at x) (sym a.shows) (further line a.acts b.legal possible));
        messages =
            subst (IsMessageTrace t.signature) (sym a.shows)
            (All-append (AreMessageFacts t.signature) full (a.acts ∷ []) b.messages
            (All-cons (AreMessageFacts t.signature) a.acts [] (subst (λ (g : Sig). AreMessageFacts g a.acts) b.sig a.messages) (All-nil (AreMessageFacts t.signature))));
      }

  counted : k + 1 ≤ 2 ^ 64 - 1 → min (k + 1) (2 ^ 64 - 1) ≡ length (take k steps) + 1
  counted small = at (slice_get_within steps k line got) small where
    at : k < length steps → k + 1 ≤ 2 ^ 64 - 1 → min (k + 1) (2 ^ 64 - 1) ≡ length (take k steps) + 1
    at inside h = grind (inside, h, arith, common_steps)

  -- the next one stops
  pub stops : (t : Theory) (s : State) (full : Trace) (x : Stop) → AreTaken t steps k s full → k + 1 ≤ 2 ^ 64 - 1 → IsRefusedAt s k line x → IsStopped t steps x
  stops t s full stop.Mem b small r = tt
  stops t s full (stop.Step step e) b small r = record {
    before = take k steps;
    line = line;
    after = drop (k + 1) steps;
    cut = parted;
    counts = r.0 ∙ counted small;
    state = s.at;
    full = full;
    legal = b.legal;
    refused = subst (λ (g : Sig). IsLineFault g t.rules s.at line e) b.sig (subst (λ (rs : List Rule). IsLineFault s.sig rs s.at line e) b.rules r.1);
    cause = r.2;
  }

-- all
pub all_taken : (t : Theory) (steps : List RStep) (k : ℕ) (s : State) (full : Trace) → length steps ≤ k → AreTaken t steps k s full → IsLegalTrace t steps full
all_taken t steps k s full past b = record {
  state = s.at;
  legal = subst (λ (ls : List RStep). IsLegalRun t.signature t.rules HasFewNodes ls s.at full) (take_all k steps past) b.legal;
  messages = b.messages;
}
