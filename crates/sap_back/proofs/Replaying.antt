-- A run of rules as it is replayed: how it goes on, and why it stops.
use Rattle.std.proofs.Common.{◌≡◌, ◌+◌, ℕ, List, [], ◌∷◌, ◌++◌, Some, sym, subst, ◌∙◌, drop, length, slice_get, take}
use Rattle.std.proofs.lemmas.List.Elements.{All-nil, All-push}
use Rattle.sap_terms.specs.Message.{AreMessageFacts, IsMessageTrace}
use Rattle.sap_terms.specs.Signature.{Sig}
use Rattle.sap_terms.specs.Trace.{Trace}
use Rattle.sap_terms.specs.declared.fact.Fact.{Fact}
use Rattle.sap_terms.proofs.PlainLaws.Lists.{take_got}
use Rattle.sap_process.specs.Proc.{Proc}
use Rattle.sap_restrict.specs.Stands.{Machine, KeepsTrace}
use Rattle.sap_restrict.specs.declared.which.Which.{Which}
use Rattle.sap_rule.specs.RuleSteps.{RuleState, empty_state}
use Rattle.sap_runs.specs.Limits.{HasFewNodes}
use Rattle.sap_runs.specs.declared.rule_step.RStep.{RStep}
use Rattle.sap_steps.specs.Faults.{IsLineFault}
use Rattle.sap_steps.specs.Lines.{IsLine}
use Rattle.sap_steps.specs.Runs.{IsLegalRun}
use Rattle.sap_steps.specs.State.{State}
use Rattle.sap_steps.specs.declared.fault.RFault.{RFault}
use Rattle.sap_templates.specs.Templates.{rules_of}
use Rattle.sap_back.specs.Converted.{IsFirstBroken, IsFirstRefusedOfRules}
use Rattle.sap_back.specs.code.Replayed.{IsReplayed, IsTakenUp, IsStopped, ShowOneReserved}
use Rattle.sap_back.specs.declared.back_at.BackAt.{BackAt}
use Rattle.sap_back.specs.declared.back_at.BackAt.TheVariants.{Step as StepOf, Broken as BrokenAt}
use Rattle.sap_back.proofs.Cuts.{cut_at, count_at}

module _ (g : Sig) (q : Proc) where
  -- before the first line
  pub replayed_first : (s : State) (m : Machine) → s.sig ≡ g → s.rules ≡ rules_of q → s.at ≡ empty_state → KeepsTrace m [] → IsReplayed g q s m [] []
  replayed_first s m sig rules at guarded = record {
    sig = sig;
    rules = rules;
    counted = record {
      legal = subst (λ z. IsLegalRun g (rules_of q) HasFewNodes [] z []) (sym at) IsLegalRun.starts;
      admitted = guarded.admitted g (All-nil (AreMessageFacts g));
    };
    messages = All-nil (AreMessageFacts g);
    guarded = guarded;
  }

  module _ (s : State) (m : Machine) (before : List RStep) (full : Trace) (r : IsReplayed g q s m before full) where
    -- a line that is possible there is one of these rules over this signature
    same_line : (line : RStep) (acts : List Fact) (z : RuleState) → IsLine s.sig s.rules HasFewNodes s.at line acts z → IsLine g (rules_of q) HasFewNodes s.at line acts z
    same_line line acts z h = subst (λ rs. IsLine g rs HasFewNodes s.at line acts z) r.rules (subst (λ i. IsLine i s.rules HasFewNodes s.at line acts z) r.sig h)

    same_fault : (line : RStep) (fault : RFault) → IsLineFault s.sig s.rules s.at line fault → IsLineFault g (rules_of q) s.at line fault
    same_fault line fault h = subst (λ rs. IsLineFault g rs s.at line fault) r.rules (subst (λ i. IsLineFault i s.rules s.at line fault) r.sig h)

    longer : (acts : List Fact) → AreMessageFacts s.sig acts → IsMessageTrace g (full ++ acts ∷ [])
    longer acts h = All-push (AreMessageFacts g) full acts r.messages (subst (λ i. AreMessageFacts i acts) r.sig h)

    -- what a line of them shows has one reserved name, or none
    pub one_shown : ShowOneReserved g (rules_of q) → ShowOneReserved s.sig s.rules
    one_shown h = subst (λ i. ShowOneReserved i s.rules) (sym r.sig) (subst (λ rs. ShowOneReserved g rs) (sym r.rules) h)

    -- the line that is taken up is possible over this signature, and the full trace is admitted behind it
    pub taken_line : (t : State) (n : Machine) (line : RStep) (acts : List Fact) → IsTakenUp s t m n line acts → IsLine g (rules_of q) HasFewNodes s.at line acts t.at
    taken_line t n line acts k = same_line line acts t.at k.possible

    -- behind a line that is taken up
    pub replayed_next : (t : State) (n : Machine) (line : RStep) (acts : List Fact) → IsTakenUp s t m n line acts → IsReplayed g q t n (before ++ line ∷ []) (full ++ acts ∷ [])
    replayed_next t n line acts k =
        let more = longer acts k.messages in
        let stands = k.guarded full r.guarded in
        record {
          sig = k.sig ∙ r.sig;
          rules = k.rules ∙ r.rules;
          counted = record {
            legal = IsLegalRun.further line acts r.counted.legal (same_line line acts t.at k.possible);
            admitted = stands.admitted g more;
          };
          messages = more;
          guarded = stands;
        }

    -- the line at which it stops, which is one of these
    module _ (lines after : List RStep) (line : RStep) (number : ℕ) (cut : lines ≡ before ++ line ∷ after) (counts : number ≡ length before + 1) (e : BackAt) (h : IsStopped s m line number e) where
      pub stops_refused : (step : ℕ) (fault : RFault) → e ≡ StepOf step fault → IsFirstRefusedOfRules g q lines step fault
      stops_refused step fault i =
          let k = subst (λ z. IsStopped s m line number z) i h in
          record {
            before = before;
            line = line;
            after = after;
            cut = cut;
            counts = k.counts ∙ counts;
            state = s.at;
            full = full;
            counted = r.counted;
            refused = same_fault line fault k.refused;
            cause = k.cause;
          }

      pub stops_broken : (step : ℕ) (which : Which) → e ≡ BrokenAt step which → IsFirstBroken g q lines step which
      stops_broken step which i =
          let k = subst (λ z. IsStopped s m line number z) i h in
          record {
            before = before;
            line = line;
            after = after;
            cut = cut;
            counts = k.counts ∙ counts;
            state = s.at;
            full = full;
            counted = r.counted;
            acts = k.acts;
            next = k.next;
            possible = same_line line k.acts k.next k.possible;
            broken = k.broken g full r.guarded (longer k.acts k.messages);
          }

-- the same where a loop over the lines has reached the one with number k
module _ (g : Sig) (q : Proc) (run : List RStep) (k : ℕ) (line : RStep) (there : slice_get run k ≡ Some line) (s : State) (m : Machine) (full : Trace) (r : IsReplayed g q s m (take k run) full) where
  pub looped_next : (t : State) (n : Machine) (acts : List Fact) (longer : Trace) → IsTakenUp s t m n line acts → longer ≡ full ++ acts ∷ [] → IsReplayed g q t n (take (k + 1) run) longer
  looped_next t n acts more h e =
      subst (λ b. IsReplayed g q t n b more) (sym (take_got run k line there)) (subst (λ tr. IsReplayed g q t n (take k run ++ line ∷ []) tr) (sym e) (replayed_next g q s m (take k run) full r t n line acts h))

  pub looped_refused : (e : BackAt) → IsStopped s m line (k + 1) e → (step : ℕ) (fault : RFault) → e ≡ StepOf step fault → IsFirstRefusedOfRules g q run step fault
  looped_refused e h = stops_refused g q s m (take k run) full r run (drop (k + 1) run) line (k + 1) (cut_at run k line there) (count_at run k line there) e h

  pub looped_broken : (e : BackAt) → IsStopped s m line (k + 1) e → (step : ℕ) (which : Which) → e ≡ BrokenAt step which → IsFirstBroken g q run step which
  looped_broken e h = stops_broken g q s m (take k run) full r run (drop (k + 1) run) line (k + 1) (cut_at run k line there) (count_at run k line there) e h
