-- A run of rules that is legal within the limit has no line that is refused.
use Rattle.std.proofs.Common.{◌≡◌, List, [], ◌∷◌, ◌++◌, inl, inr, refl, sym, ap, subst, ◌∙◌, append_assoc}
use Rattle.std.specs.Prelude.{All}
use Rattle.std.proofs.lemmas.List.{append-nil}
use Rattle.sap_terms.specs.Message.{IsMessageTrace}
use Rattle.sap_terms.specs.Signature.{Sig, HoldsBuiltins}
use Rattle.sap_terms.specs.Trace.{Trace}
use Rattle.sap_terms.specs.declared.fact.Fact.{Fact}
use Rattle.sap_formula.specs.Truth.{IsTrueOn}
use Rattle.sap_restrict.specs.Laws.{PrefixLaw}
use Rattle.sap_restrict.specs.Standard.{standard}
use Rattle.sap_restrict.specs.declared.which.Which.{Which}
use Rattle.sap_rule.specs.Messages.{RunsReachMessages}
use Rattle.sap_rule.specs.RuleSteps.{RuleState}
use Rattle.sap_rule.specs.WellMade.{IsWellMade}
use Rattle.sap_rule.specs.declared.rule.Rule.{Rule}
use Rattle.sap_runs.specs.Limits.{HasFewNodes}
use Rattle.sap_runs.specs.declared.rule_step.RStep.{RStep}
use Rattle.sap_steps.specs.Answers.{ReachedHaveOneAnswer, ReachedHaveOneOutcome}
use Rattle.sap_steps.specs.Faults.{IsLineFault}
use Rattle.sap_steps.specs.Lines.{IsLine}
use Rattle.sap_steps.specs.Runs.{IsLegalRun, starts, further, LinesAreRuns}
use Rattle.sap_steps.specs.declared.fault.RFault.{RFault}
use Rattle.sap_steps.specs.declared.fault.RFault.TheVariants.{Mem}
use Rattle.sap_replay.proofs.Ends.{same_ends, at_end, none_inside}

-- the laws of lines of rules
pub record Laws : Type 0 where
  pub outcome : ReachedHaveOneOutcome HasFewNodes
  pub answer : ReachedHaveOneAnswer
  pub runs : LinesAreRuns HasFewNodes
  pub messages : RunsReachMessages
  pub prefix : PrefixLaw

-- the lines are a legal run within the limit, behind which the line is possible, and shows what stands there in the full trace
pub record Reached (g : Sig) (rules : List Rule) (before : List RStep) (line : RStep) (whole : Trace) : Type 0 where
  pub state : RuleState
  pub full : Trace
  pub legal : IsLegalRun g rules HasFewNodes before state full
  pub acts : List Fact
  pub next : RuleState
  pub possible : IsLine g rules HasFewNodes state line acts next
  pub more : Trace
  pub shows : whole ≡ (full ++ acts ∷ []) ++ more

-- so it is with each line of a legal run
reached : (g : Sig) (rules : List Rule) {lines : List RStep} {s : RuleState} {full : Trace} (before after : List RStep) (line : RStep)
    → IsLegalRun g rules HasFewNodes lines s full → lines ≡ before ++ line ∷ after → Reached g rules before line full
reached g rules before after line starts e = absurd (none_inside before after line e)
reached g rules before after line (further {lines = lines} {s = s} {z = z} {full = full} last acts run possible) e =
    elim (at_end lines before after last line e) [
      | inl h ↦ record {
        state = s;
        full = full;
        legal = subst (λ (ls : List RStep). IsLegalRun g rules HasFewNodes ls s full) h.0 run;
        acts = acts;
        next = z;
        possible = subst (λ (l : RStep). IsLine g rules HasFewNodes s l acts z) h.1 possible;
        more = [];
        shows = sym (append-nil (full ++ acts ∷ []));
      }
      | inr h ↦
          let there = reached g rules before h.0 line run h.1 in
          record {
            state = there.state;
            full = there.full;
            legal = there.legal;
            acts = there.acts;
            next = there.next;
            possible = there.possible;
            more = there.more ++ acts ∷ [];
            shows = ap (λ (x : Trace). x ++ acts ∷ []) there.shows ∙ append_assoc (there.full ++ there.acts ∷ []) there.more (acts ∷ []);
          }
    ]

module _ (laws : Laws) (g : Sig) (rules : List Rule) (hold : HoldsBuiltins g) (made : All (IsWellMade g) rules) where
  -- legal runs with the same lines lead to the same state, and have the same full trace
  pub one_run : {lines others : List RStep} {s z : RuleState} {full other : Trace} → IsLegalRun g rules HasFewNodes lines s full → IsLegalRun g rules HasFewNodes others z other
      → lines ≡ others → (s ≡ z) × (full ≡ other)
  one_run starts starts e = (refl, refl)
  one_run starts (further {lines = ls} line acts run possible) e = absurd (none_inside ls [] line e)
  one_run (further {lines = ls} line acts run possible) starts e = absurd (none_inside ls [] line (sym e))
  one_run (further {lines = ls} {s = s} {z = z} {full = full} line acts run possible) (further {lines = ks} {s = s_too} {z = z_too} line_too acts_too run_too possible_too) e =
      let ends = same_ends ls ks line line_too e in
      let behind = one_run run run_too ends.0 in
      let moved : IsLine g rules HasFewNodes s line acts_too z_too =
      subst (λ (l : RStep). IsLine g rules HasFewNodes s l acts_too z_too) (sym ends.1)
      (subst (λ (x : RuleState). IsLine g rules HasFewNodes x line_too acts_too z_too) (sym behind.0) possible_too) in
      let one = laws.outcome g rules s z z_too full acts acts_too line hold made (laws.runs g rules ls s full run) possible moved in
      (one.1, λ i. behind.1 i ++ one.0 i ∷ [])

  -- no line of a legal run is the first that is refused
  pub never_refused : {lines : List RStep} {s : RuleState} {full : Trace} (before after : List RStep) (line : RStep) (state : RuleState) (shown : Trace) (e : RFault)
      → IsLegalRun g rules HasFewNodes lines s full → lines ≡ before ++ line ∷ after → IsLegalRun g rules HasFewNodes before state shown
      → IsLineFault g rules state line e → ¬ (e ≡ Mem) → ⊥
  never_refused before after line state shown e run cut legal refused cause =
      let there = reached g rules before after line run cut in
      let same = one_run there.legal legal refl in
      cause
      (laws.answer g rules there.state there.next there.full there.acts line e hold made (laws.runs g rules before there.state there.full there.legal) there.possible
      (subst (λ (x : RuleState). IsLineFault g rules x line e) (sym same.0) refused))

  -- nor the first behind which a restriction is false, where all are true behind the last
  pub never_broken : {lines : List RStep} {s : RuleState} {full : Trace} (before after : List RStep) (line : RStep) (state next : RuleState) (shown : Trace) (acts : List Fact) (which : Which)
      → IsLegalRun g rules HasFewNodes lines s full → IsTrueOn g (standard which) full → lines ≡ before ++ line ∷ after → IsLegalRun g rules HasFewNodes before state shown
      → IsLine g rules HasFewNodes state line acts next → ¬ IsTrueOn g (standard which) (shown ++ acts ∷ []) → ⊥
  never_broken {lines = lines} {s = s} {full = full} before after line state next shown acts which run true cut legal possible broken =
      let there = reached g rules before after line run cut in
      let same = one_run there.legal legal refl in
      let moved : IsLine g rules HasFewNodes there.state line acts next = subst (λ (x : RuleState). IsLine g rules HasFewNodes x line acts next) (sym same.0) possible in
      let one = laws.outcome g rules there.state there.next next there.full there.acts acts line hold made
      (laws.runs g rules before there.state there.full there.legal) there.possible moved in
      let is : full ≡ (shown ++ acts ∷ []) ++ there.more = there.shows ∙ (λ i. (same.1 i ++ one.0 i ∷ []) ++ there.more) in
      let messages = (laws.messages g rules s full hold made (laws.runs g rules lines s full run)).0 in
      broken
      (laws.prefix which g (shown ++ acts ∷ []) there.more (subst (IsMessageTrace g) is messages) (subst (λ (tr : Trace). IsTrueOn g (standard which) tr) is true))
