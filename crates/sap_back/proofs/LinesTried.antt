-- Lines tried by hand.
use Rattle.std.proofs.Common.{◌≡◌, ◌↔◌, ℕ, List, [], ◌∷◌, ◌++◌, Option, Some, None, refl, sym, subst, ap, ◌∙◌, map, slice_get}
use Rattle.std.specs.Prelude.{codes}
use Rattle.sap_terms.specs.Trace.{Trace}
use Rattle.sap_terms.specs.declared.fact.Fact.{Fact}
use Rattle.sap_rule.specs.declared.rule.Rule.{Rule}
use Rattle.sap_runs.specs.declared.process_step.PStep.{PStep}
use Rattle.sap_runs.specs.declared.process_step.PStep.TheVariants as line
use Rattle.sap_runs.specs.declared.rule_step.RStep.{RStep}
use Rattle.sap_runs.specs.declared.rule_step.RStep.TheVariants as rule_line
use Rattle.sap_process_lines.specs.Tables.{ProcessTables}
use Rattle.sap_opposite.specs.StepExamples.{sending_lines, sending_rule_lines, waiting_lines, waiting_rule_lines}
use Rattle.sap_back.specs.LineExamples.{given_rule_lines, given_shown, given_lines, copied_rule_lines, copied_shown, copied_lines, learned_rule_lines, learned_shown, learned_lines, embedded_rules, embedded_rule_lines, embedded_shown, embedded_lines, sending_shown, waiting_shown}
use Rattle.sap_back.specs.LinesFor.{uses, pending_lines, AreProcessLinesFor, AreProcessLinesForAll, no_lines, more, ProcessLinesStandInTurn}
use Rattle.sap_back.proofs.OneConverted.{one_in_turn}

of_public : {tables next : ProcessTables} {count : ℕ} {acts : List Fact} (a : List ℕ) (own : List PStep) → AreProcessLinesFor tables count (rule_line.Public a) acts own next → own ≡ line.Public a ∷ []
of_public a _ (AreProcessLinesFor.writes _) = refl

of_apply : {tables next : ProcessTables} {count : ℕ} {acts : List Fact} (f ks : List ℕ) (own : List PStep) → AreProcessLinesFor tables count (rule_line.Apply f ks) acts own next
    → (js : List ℕ) × (map (slice_get tables.entries) ks ≡ map Some js) × (own ≡ line.Apply f js ∷ [])
of_apply f ks _ (AreProcessLinesFor.applies _ _ js all) = (js, all, refl)

module _ (tables : ProcessTables) where
  -- one entry that is cited is one
  one_entry : (js : List ℕ) (e : ℕ) → slice_get tables.entries 0 ≡ Some e → map (slice_get tables.entries) (0 ∷ []) ≡ map Some js → js ≡ e ∷ []
  one_entry [] e is all = absurd (cc)
  one_entry (j ∷ []) e is all = let same : e ≡ j = cc in ap (λ (i : ℕ). i ∷ []) (sym same)
  one_entry (j ∷ i ∷ js) e is all = absurd (cc)

  pub symbol : (next : ProcessTables) (count e : ℕ) (acts : List Fact) (lines : List PStep) → slice_get tables.entries 0 ≡ Some e → AreProcessLinesFor tables count (rule_line.Apply (codes "f") (0 ∷ [])) acts lines next
      → lines ≡ line.Apply (codes "f") (e ∷ []) ∷ []
  symbol next count e acts lines is here =
      let a = of_apply (codes "f") (0 ∷ []) lines here in a.2 ∙ ap (λ (js : List ℕ). line.Apply (codes "f") js ∷ []) (one_entry a.0 e is a.1)

module _ (rules : List Rule) (tables : ProcessTables) where
  pub alone : (acts : List Fact) (lines : List PStep) (last : ProcessTables) → AreProcessLinesForAll rules tables (rule_line.Public (codes "a") ∷ []) (acts ∷ []) lines last → lines ≡ line.Public (codes "a") ∷ []
  alone acts _ last (more {own = own} here no_lines) = ap (λ (x : List PStep). x ++ []) (of_public (codes "a") own here)

  pub in_order : (acts others : List Fact) (lines : List PStep) (last : ProcessTables) → AreProcessLinesForAll rules tables (rule_line.Public (codes "a") ∷ rule_line.Public (codes "b") ∷ []) (acts ∷ others ∷ []) lines last
      → lines ≡ line.Public (codes "a") ∷ line.Public (codes "b") ∷ []
  in_order acts others _ last (more {own = own} here (more {own = next} later no_lines)) =
      ap (λ (x : List PStep). x ++ (next ++ [])) (of_public (codes "a") own here)
      ∙ ap (λ (x : List PStep). line.Public (codes "a") ∷ (x ++ [])) (of_public (codes "b") next later)

  -- what is given isn't shown at once
  pub waits : (acts others : List Fact) (lines : List PStep) (last : ProcessTables) → tables.pending ≡ None → AreProcessLinesForAll rules tables (rule_line.Know 0 ∷ rule_line.Public (codes "a") ∷ []) (acts ∷ others ∷ []) lines last
      → (lines ≡ line.Public (codes "a") ∷ []) × (last.pending ≡ slice_get tables.entries 0)
  waits acts others _ _ none (more (AreProcessLinesFor.knows k e number) (more (AreProcessLinesFor.writes a) no_lines)) = (ap (λ (p : Option ℕ). pending_lines p ++ line.Public (codes "a") ∷ []) none, sym number)

  -- it is where the next is given, and once
  pub shown_next : (acts others : List Fact) (lines : List PStep) (last : ProcessTables) → tables.pending ≡ None → AreProcessLinesForAll rules tables (rule_line.Know 0 ∷ rule_line.Know 1 ∷ []) (acts ∷ others ∷ []) lines last
      → (lines ≡ pending_lines (slice_get tables.entries 0)) × (last.pending ≡ slice_get tables.entries 1)
  shown_next acts others _ _ none (more (AreProcessLinesFor.knows k e number) (more (AreProcessLinesFor.knows j u second) no_lines)) =
      (ap (λ (p : Option ℕ). pending_lines p ++ line.Know e ∷ []) none ∙ ap (λ (p : Option ℕ). pending_lines p) (sym number), sym second)

-- an input takes what is pending
of_input : {tables next : ProcessTables} {count : ℕ} {step : RStep} {acts : List Fact} {own : List PStep} (ks : List ℕ) → AreProcessLinesFor tables count step acts own next → step ≡ uses (codes "In_") [] ks []
    → (t e : ℕ) × (tables.pending ≡ Some e) × (own ≡ line.In t e ∷ []) × (next.pending ≡ None)
of_input ks (AreProcessLinesFor.inputs t k e path js b number pending) is = (t, e, pending, refl, refl)
of_input ks (AreProcessLinesFor.starts b) is = absurd (cc)
of_input ks (AreProcessLinesFor.starts_copies t k path js b number) is = absurd (cc)
of_input ks (AreProcessLinesFor.sends t k path js b number) is = absurd (cc)
of_input ks (AreProcessLinesFor.goes_on t k path js b number) is = absurd (cc)
of_input ks (AreProcessLinesFor.ends t k path js b number) is = absurd (cc)
of_input ks (AreProcessLinesFor.splits t k path js b number) is = absurd (cc)
of_input ks (AreProcessLinesFor.copies t k path js b number) is = absurd (cc)
of_input ks (AreProcessLinesFor.makes_name t k n j path js b number made) is = absurd (cc)
of_input ks (AreProcessLinesFor.outputs t k path js b number) is = absurd (cc)
of_input ks (AreProcessLinesFor.outputs_on t k e path js b number pending) is = absurd (cc)
of_input ks (AreProcessLinesFor.inputs_on t k e path js b number pending) is = absurd (cc)
of_input ks (AreProcessLinesFor.meets a t k j path js b number sender) is = absurd (cc)
of_input ks (AreProcessLinesFor.shows t k path js b number) is = absurd (cc)
of_input ks (AreProcessLinesFor.inserts t k path js b number) is = absurd (cc)
of_input ks (AreProcessLinesFor.deletes t k path js b number) is = absurd (cc)
of_input ks (AreProcessLinesFor.locks t k path js b number) is = absurd (cc)
of_input ks (AreProcessLinesFor.unlocks t k path js b number) is = absurd (cc)
of_input ks (AreProcessLinesFor.agrees t k path js b number) is = absurd (cc)
of_input ks (AreProcessLinesFor.differs t k path js b number) is = absurd (cc)
of_input ks (AreProcessLinesFor.finds t k path js b number) is = absurd (cc)
of_input ks (AreProcessLinesFor.misses t k path js b number) is = absurd (cc)
of_input ks (AreProcessLinesFor.embeds t k many js taken path b number all counts) is = absurd (cc)
of_input ks (AreProcessLinesFor.makes n) is = absurd (cc)
of_input ks (AreProcessLinesFor.learns k e number) is = absurd (cc)
of_input ks (AreProcessLinesFor.owns k n number) is = absurd (cc)
of_input ks (AreProcessLinesFor.writes a) is = absurd (cc)
of_input ks (AreProcessLinesFor.applies f js is_on all) is = absurd (cc)
of_input ks (AreProcessLinesFor.knows k e number) is = absurd (cc)

module _ (rules : List Rule) (tables : ProcessTables) where
  pub taken : (acts others : List Fact) (lines : List PStep) (last : ProcessTables) → tables.pending ≡ None
      → AreProcessLinesForAll rules tables (rule_line.Know 0 ∷ uses (codes "In_") [] (0 ∷ 1 ∷ []) [] ∷ []) (acts ∷ others ∷ []) lines last
      → (t e : ℕ) × (slice_get tables.entries 0 ≡ Some e) × (lines ≡ line.In t e ∷ []) × (last.pending ≡ None)
  taken acts others _ last none (more (AreProcessLinesFor.knows k e number) (more {own = own} here no_lines)) =
      let i = of_input (0 ∷ 1 ∷ []) here refl in
      let same : e ≡ i.1 = let given : Some e ≡ Some i.1 = i.2 in cc in
      (i.0, i.1, number ∙ ap (λ (n : ℕ). Some n) same, ap (λ (p : Option ℕ). pending_lines p ++ (own ++ [])) none ∙ ap (λ (x : List PStep). x ++ []) i.3, i.4)

  -- and takes nothing where nothing is pending
  pub not_taken : (acts : List Fact) (lines : List PStep) (last : ProcessTables) → tables.pending ≡ None → AreProcessLinesForAll rules tables (uses (codes "In_") [] (0 ∷ 1 ∷ []) [] ∷ []) (acts ∷ []) lines last → ⊥
  not_taken acts _ last none (more here no_lines) = let i = of_input (0 ∷ 1 ∷ []) here refl in let some : None ≡ Some i.1 = sym none ∙ i.2 in cc

-- lines that stand in turn, and no others
only : (rules : List Rule) (rule_lines : List RStep) (full : Trace) (these : List PStep) → ProcessLinesStandInTurn rules rule_lines full these → (lines : List PStep) → ProcessLinesStandInTurn rules rule_lines full lines ↔ (lines ≡ these)
only rules rule_lines full these are lines =
    (λ h. one_in_turn rules rule_lines full lines these h are, λ e. subst (ProcessLinesStandInTurn rules rule_lines full) (sym e) are)

-- each line has its own
pub given : (rules : List Rule) (lines : List PStep) → ProcessLinesStandInTurn rules given_rule_lines given_shown lines ↔ (lines ≡ given_lines)
given rules =
    only rules given_rule_lines given_shown given_lines
    (record {
      own = given_lines;
      last = _;
      each = more (AreProcessLinesFor.starts []) (more (AreProcessLinesFor.writes (codes "x")) (more (AreProcessLinesFor.knows 0 0 refl) (more (AreProcessLinesFor.writes (codes "y")) (more (AreProcessLinesFor.knows 1 1 refl)
          (more (AreProcessLinesFor.inputs 0 0 1 [] (2 ∷ []) [] refl refl) (more (AreProcessLinesFor.knows 1 1 refl) (more (AreProcessLinesFor.shows 0 3 (1 ∷ []) [] [] refl) no_lines)))))));
      is = refl;
    })

pub copied : (rules : List Rule) (lines : List PStep) → ProcessLinesStandInTurn rules copied_rule_lines copied_shown lines ↔ (lines ≡ copied_lines)
copied rules =
    only rules copied_rule_lines copied_shown copied_lines
    (record {
      own = copied_lines;
      last = _;
      each = more (AreProcessLinesFor.starts []) (more (AreProcessLinesFor.starts_copies 0 0 [] [] [] refl) (more (AreProcessLinesFor.copies 0 1 [] [] [] refl) (more (AreProcessLinesFor.copies 0 1 [] [] [] refl)
          (more (AreProcessLinesFor.shows 2 3 (1 ∷ []) [] [] refl) no_lines))));
      is = refl;
    })

pub learned : (rules : List Rule) (lines : List PStep) → ProcessLinesStandInTurn rules learned_rule_lines learned_shown lines ↔ (lines ≡ learned_lines)
learned rules =
    only rules learned_rule_lines learned_shown learned_lines
    (record {
      own = learned_lines;
      last = _;
      each = more (AreProcessLinesFor.starts []) (more (AreProcessLinesFor.outputs 0 0 [] [] [] refl) (more (AreProcessLinesFor.writes (codes "x")) (more (AreProcessLinesFor.writes (codes "x")) (more (AreProcessLinesFor.learns 1 0 refl)
          (more (AreProcessLinesFor.applies (codes "f") (1 ∷ 2 ∷ []) (2 ∷ 0 ∷ []) refl) no_lines)))));
      is = refl;
    })

pub embedded : (lines : List PStep) → ProcessLinesStandInTurn embedded_rules embedded_rule_lines embedded_shown lines ↔ (lines ≡ embedded_lines)
embedded =
    only embedded_rules embedded_rule_lines embedded_shown embedded_lines
    (record {
      own = embedded_lines;
      last = _;
      each = more (AreProcessLinesFor.starts []) (more (AreProcessLinesFor.embeds 0 0 2 [] [] [] [] refl refl refl) (more (AreProcessLinesFor.embeds 0 1 0 (3 ∷ []) (1 ∷ []) (1 ∷ []) [] refl refl refl) no_lines));
      is = refl;
    })

pub waiting : (rules : List Rule) (lines : List PStep) → ProcessLinesStandInTurn rules waiting_rule_lines waiting_shown lines ↔ (lines ≡ waiting_lines)
waiting rules =
    only rules waiting_rule_lines waiting_shown waiting_lines
    (record {
      own = line.New 0 0 ∷ line.Par 0 ∷ line.Public (codes "a") ∷ line.Out 1 ∷ line.Know 0 ∷ line.Event 0 ∷ line.In 1 1 ∷ [];
      last = _;
      each = more (AreProcessLinesFor.starts []) (more (AreProcessLinesFor.makes 0) (more (AreProcessLinesFor.makes_name 0 0 0 1 [] [] [] refl refl) (more (AreProcessLinesFor.splits 0 2 (1 ∷ []) [] [] refl)
          (more (AreProcessLinesFor.writes (codes "a")) (more (AreProcessLinesFor.knows 0 0 refl) (more (AreProcessLinesFor.makes 1) (more (AreProcessLinesFor.outputs 1 4 (1 ∷ 2 ∷ []) [] [] refl)
          (more (AreProcessLinesFor.learns 7 1 refl) (more (AreProcessLinesFor.shows 0 3 (1 ∷ 1 ∷ []) [] [] refl) (more (AreProcessLinesFor.knows 1 1 refl)
          (more (AreProcessLinesFor.inputs 1 8 1 (1 ∷ 2 ∷ 1 ∷ []) (10 ∷ []) [] refl refl) (more (AreProcessLinesFor.knows 0 0 refl) no_lines))))))))))));
      is = refl;
    })

pub sending : (rules : List Rule) (lines : List PStep) → ProcessLinesStandInTurn rules sending_rule_lines sending_shown lines ↔ (lines ≡ sending_lines)
sending rules =
    only rules sending_rule_lines sending_shown sending_lines
    (record {
      own = line.Par 0 ∷ line.Sync 0 1 ∷ line.Public (codes "c") ∷ line.Name 6 ∷ line.Send 1 0 ∷ line.Apply (codes "f") (0 ∷ []) ∷ line.Know 1 ∷ line.Rep 0 ∷ [];
      last = _;
      each = more (AreProcessLinesFor.starts []) (more (AreProcessLinesFor.splits 0 0 [] [] [] refl) (more (AreProcessLinesFor.makes 5) (more (AreProcessLinesFor.sends 0 1 (1 ∷ []) (3 ∷ []) [] refl)
          (more (AreProcessLinesFor.meets 0 1 2 4 (2 ∷ []) [] [] refl refl) (more (AreProcessLinesFor.goes_on 0 5 (1 ∷ []) (6 ∷ []) [] refl) (more (AreProcessLinesFor.writes (codes "c")) (more (AreProcessLinesFor.knows 0 0 refl)
          (more (AreProcessLinesFor.makes 6) (more (AreProcessLinesFor.owns 10 6 refl) (more (AreProcessLinesFor.outputs_on 1 7 0 (2 ∷ 1 ∷ []) (9 ∷ []) [] refl refl) (more (AreProcessLinesFor.knows 1 1 refl)
          (more (AreProcessLinesFor.applies (codes "f") (0 ∷ []) (0 ∷ []) refl) (more (AreProcessLinesFor.starts_copies 0 8 (1 ∷ 1 ∷ []) [] [] refl) (more (AreProcessLinesFor.knows 2 3 refl)
          (more (AreProcessLinesFor.copies 0 14 (1 ∷ 1 ∷ []) [] [] refl) no_lines)))))))))))))));
      is = refl;
    })
