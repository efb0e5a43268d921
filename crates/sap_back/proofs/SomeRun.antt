-- Written lines of rules count, or one of them is the first that is refused, or behind which a restriction is false.
use Rattle.std.proofs.Common.{◌⊎◌, List, [], ◌∷◌, ◌++◌, length, refl, sym, subst, inl, inr, arith, append_assoc}
use Rattle.std.proofs.lemmas.List.{append-nil}
use Rattle.std.proofs.lemmas.List.Elements.{All-nil, All-cons, All-head, All-tail}
use Rattle.std.specs.Prelude.{◌+◌, All, Contains}
use Rattle.sap_terms.specs.Signature.{Sig, HoldsBuiltins}
use Rattle.sap_terms.specs.Trace.{Trace}
use Rattle.sap_terms.specs.declared.fact.Fact.{Fact}
use Rattle.sap_process.specs.Proc.{Proc}
use Rattle.sap_restrict.specs.Laws.{QuietLaw}
use Rattle.sap_restrict.specs.OneMore.{OneMoreLaw}
use Rattle.sap_restrict.specs.Stands.{HasOneReserved}
use Rattle.sap_rule.specs.Messages.{RunsReachMessages}
use Rattle.sap_rule.specs.RuleSteps.{RuleState, empty_state}
use Rattle.sap_rule.specs.WellMade.{IsWellMade}
use Rattle.sap_runs.specs.Limits.{HasFewNodes}
use Rattle.sap_runs.specs.declared.rule_step.RStep.{RStep}
use Rattle.sap_steps.specs.Answers.{ReachedHaveSomeAnswer}
use Rattle.sap_steps.specs.Lines.{IsLine}
use Rattle.sap_steps.specs.Runs.{IsLegalRun, LinesAreRuns}
use Rattle.sap_templates.specs.Templates.{rules_of}
use Rattle.sap_back.specs.Answers.{IsAdmittedRefusedOrBroken}
use Rattle.sap_back.specs.Converted.{IsAdmittedRun}
use Rattle.sap_back.specs.code.Replayed.{ShowOneReserved}

-- one more is so too
all_push : {X : Type 0} (P : X → Type 0) (xs : List X) (x : X) → All P xs → P x → All P (xs ++ x ∷ [])
all_push P [] x h k = All-cons P x [] k (All-nil P)
all_push P (y ∷ ys) x h k = All-cons P y (ys ++ x ∷ []) (All-head P y ys h) (all_push P ys x (All-tail P y ys h) k)

nothing_in : {X : Type 0} (x : X) → Contains [] x → ⊥
nothing_in x m = let below = m.1 in omega arith

module _ (quiet : QuietLaw) (one_more : OneMoreLaw) (runs : LinesAreRuns HasFewNodes) (reached : RunsReachMessages) (some : ReachedHaveSomeAnswer) (g : Sig) (q : Proc) (hold : HoldsBuiltins g) (well : All (IsWellMade g) (rules_of q)) (shown : ShowOneReserved g (rules_of q)) where
  no_lines : IsAdmittedRun g q [] empty_state []
  no_lines = record { legal = IsLegalRun.starts; admitted = λ w. quiet w g [] (λ k f m named. nothing_in f m) }

  -- one line more behind lines that count: all count, or it stops the run
  next : (done rest : List RStep) (line : RStep) (s : RuleState) (full : Trace) → IsAdmittedRun g q done s full → All HasOneReserved full → ((z : RuleState) × (tr : Trace) × IsAdmittedRun g q (done ++ line ∷ []) z tr × All HasOneReserved tr) ⊎ IsAdmittedRefusedOrBroken g q (done ++ line ∷ rest)
  next done rest line s full counted each = elim (some g (rules_of q) s full line hold well (runs g (rules_of q) done s full counted.legal)) [
    | inr r ↦ inr (inr (inl (
      length done + 1,
      r.0,
      record {
        before = done;
        line = line;
        after = rest;
        cut = refl;
        counts = refl;
        state = s;
        full = full;
        counted = counted;
        refused = r.1;
        cause = r.2;
      },
    )))
    | inl l ↦ possible l.0 l.1 l.2
  ]
    where
      possible : (acts : List Fact) (z : RuleState) → IsLine g (rules_of q) HasFewNodes s line acts z → ((z : RuleState) × (tr : Trace) × IsAdmittedRun g q (done ++ line ∷ []) z tr × All HasOneReserved tr) ⊎ IsAdmittedRefusedOrBroken g q (done ++ line ∷ rest)
      possible acts z is =
          let legal : IsLegalRun g (rules_of q) HasFewNodes (done ++ line ∷ []) z (full ++ acts ∷ []) = IsLegalRun.further line acts counted.legal is in
          let one = shown s z line acts is in
          let messages = (reached g (rules_of q) z (full ++ acts ∷ []) hold well (runs g (rules_of q) (done ++ line ∷ []) z (full ++ acts ∷ []) legal)).0 in
          elim (one_more g full acts each one messages counted.admitted) [
            | inl admitted ↦ inl (z, full ++ acts ∷ [], record { legal = legal; admitted = admitted }, all_push HasOneReserved full acts each one)
            | inr w ↦ inr (inr (inr (
              length done + 1,
              w.0,
              record {
                before = done;
                line = line;
                after = rest;
                cut = refl;
                counts = refl;
                state = s;
                full = full;
                counted = counted;
                acts = acts;
                next = z;
                possible = is;
                broken = w.1;
              },
            )))
          ]

  answer_on : (done rest : List RStep) (s : RuleState) (full : Trace) → IsAdmittedRun g q done s full → All HasOneReserved full → IsAdmittedRefusedOrBroken g q (done ++ rest)
  answer_on done [] s full counted each = inl (s, full, subst (λ ls. IsAdmittedRun g q ls s full) (sym (append-nil done)) counted)
  answer_on done (line ∷ rest) s full counted each = elim (next done rest line s full counted each) [
    | inr h ↦ h
    | inl n ↦ subst (IsAdmittedRefusedOrBroken g q) (append_assoc done (line ∷ []) rest) (answer_on (done ++ line ∷ []) rest n.0 n.1 n.2 n.3)
  ]

  pub some_answer : (lines : List RStep) → IsAdmittedRefusedOrBroken g q lines
  some_answer lines = answer_on [] lines empty_state [] no_lines (All-nil HasOneReserved)
