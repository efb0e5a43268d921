-- The lines that are written stand in turn.
use Rattle.std.proofs.Common.{◌≡◌, ◌+◌, ℕ, zero, suc, List, [], ◌∷◌, ◌++◌, Option, codes, refl, sym, subst, append_assoc, arith, length, length-append}
use Rattle.std.proofs.lemmas.List.{append-nil}
use Rattle.sap_terms.specs.Signature.{Sig}
use Rattle.sap_terms.specs.Trace.{Trace}
use Rattle.sap_terms.specs.Tree.{Tree}
use Rattle.sap_terms.specs.declared.fact.Fact.{Fact}
use Rattle.sap_rule.specs.RuleSteps.{RuleState}
use Rattle.sap_rule.specs.declared.rule.Rule.{Rule}
use Rattle.sap_runs.specs.declared.process_step.PStep.{PStep}
use Rattle.sap_runs.specs.declared.rule_step.RStep.{RStep}
use Rattle.sap_runs.specs.declared.rule_step.RStep.TheVariants.{Rule as RuleLine}
use Rattle.sap_rule_lines.specs.RuleLines.{numbers_from}
use Rattle.sap_translate.specs.relation.Agents.{Agent}
use Rattle.sap_back.specs.Followed.{IsWrittenAsProcess}
use Rattle.sap_back.specs.LinesFor.{AreProcessLinesFor, AreProcessLinesForAll, facts_added, no_lines, more}
use Rattle.sap_process_lines.specs.Tables.{ProcessTables, come, with_pile}

-- so many numbers are as many
many_numbers : (n k : ℕ) → length (numbers_from n k) ≡ k
many_numbers n zero = refl
many_numbers n (suc k) = let more = many_numbers (n + 1) k in omega arith

-- so many facts have come behind an embedded rule
pile_count : (tables : ProcessTables) (t many count : ℕ) → length (with_pile tables t many).facts ≡ count → count ≡ length tables.facts + 1 + many
pile_count tables t many count e = omega (arith, many_numbers tables.piled many, length-append tables.facts (t ∷ numbers_from tables.piled many))

-- what is written for a line of rules stands opposite to it
pub written_lines : {g : Sig} {agents : List (Option Agent)} {pending : Option Tree} {s : RuleState} {tables : ProcessTables} {step : RStep} {acts : List Fact} {more : List PStep} {next : List (Option Agent)} {later : Option Tree} {behind : ProcessTables}
    → (count : ℕ) → IsWrittenAsProcess g agents pending s tables step acts more next later behind → length behind.facts ≡ count → AreProcessLinesFor tables count step acts more behind
written_lines {tables = tables} {acts = acts} count (IsWrittenAsProcess.starts t body b a none) many =
    subst (λ (n : ℕ). AreProcessLinesFor tables count (RuleLine (codes "Init") [] b) acts [] (come tables (n ∷ []))) (sym none) (AreProcessLinesFor.starts b)
written_lines count (IsWrittenAsProcess.ends t k path env b seat) many = AreProcessLinesFor.ends t k path [] b seat.number
written_lines count (IsWrittenAsProcess.splits t k path env b p q seat) many = AreProcessLinesFor.splits t k path [] b seat.number
written_lines count (IsWrittenAsProcess.starts_copies t k path env b p seat) many = AreProcessLinesFor.starts_copies t k path [] b seat.number
written_lines count (IsWrittenAsProcess.copies t k path env b p a number) many = AreProcessLinesFor.copies t k path [] b number
written_lines count (IsWrittenAsProcess.makes_name t k j n path env b x p seat a number) many = AreProcessLinesFor.makes_name t k n j path [] b seat.number number
written_lines count (IsWrittenAsProcess.outputs t k path env b u p seat) many = AreProcessLinesFor.outputs t k path [] b seat.number
written_lines count (IsWrittenAsProcess.outputs_on t k j e path env b u n p seat is) many = AreProcessLinesFor.outputs_on t k e path (j ∷ []) b seat.number is
written_lines count (IsWrittenAsProcess.sends t k j i path env b u n x v p seat e f) many = AreProcessLinesFor.sends t k path (j ∷ []) b seat.number
written_lines count (IsWrittenAsProcess.goes_on t k j n path env b v u p a e number) many = AreProcessLinesFor.goes_on t k path (j ∷ []) b number
written_lines count (IsWrittenAsProcess.inputs t k j e path env b u σ p seat is) many = AreProcessLinesFor.inputs t k e path (j ∷ []) b seat.number is
written_lines count (IsWrittenAsProcess.inputs_on t k j e path env b u n σ p seat is) many = AreProcessLinesFor.inputs_on t k e path (j ∷ []) b seat.number is
written_lines count (IsWrittenAsProcess.meets a t k j n at path other env b w u x v l r σ p q d e number seat) many = AreProcessLinesFor.meets a t k j path [] b seat.number number
written_lines count (IsWrittenAsProcess.shows t k path env b f p seat) many = AreProcessLinesFor.shows t k path [] b seat.number
written_lines count (IsWrittenAsProcess.inserts t k path env b u n p seat) many = AreProcessLinesFor.inserts t k path [] b seat.number
written_lines count (IsWrittenAsProcess.deletes t k path env b u p seat) many = AreProcessLinesFor.deletes t k path [] b seat.number
written_lines count (IsWrittenAsProcess.locks t k j n path env b u l p seat) many = AreProcessLinesFor.locks t k path (j ∷ []) b seat.number
written_lines count (IsWrittenAsProcess.unlocks t k path env b u l p seat) many = AreProcessLinesFor.unlocks t k path [] b seat.number
written_lines count (IsWrittenAsProcess.agrees t k path env b u n p q seat) many = AreProcessLinesFor.agrees t k path [] b seat.number
written_lines count (IsWrittenAsProcess.differs t k path env b u n p q seat) many = AreProcessLinesFor.differs t k path [] b seat.number
written_lines count (IsWrittenAsProcess.finds t k path env b u v y p q seat) many = AreProcessLinesFor.finds t k path [] b seat.number
written_lines count (IsWrittenAsProcess.misses t k path env b u y p q seat) many = AreProcessLinesFor.misses t k path [] b seat.number
written_lines {tables = tables} count (IsWrittenAsProcess.embeds t k js ks path env b l a o σ p seat all) many =
    AreProcessLinesFor.embeds t k (length o) js ks path b seat.number all (pile_count tables t (length o) count many)
written_lines count (IsWrittenAsProcess.makes n) many = AreProcessLinesFor.makes n
written_lines count (IsWrittenAsProcess.learns k e number) many = AreProcessLinesFor.learns k e number
written_lines count (IsWrittenAsProcess.owns k n a number) many = AreProcessLinesFor.owns k n number
written_lines count (IsWrittenAsProcess.writes a) many = AreProcessLinesFor.writes a
written_lines count (IsWrittenAsProcess.applies f ks js all) many = AreProcessLinesFor.applies f ks js all
written_lines count (IsWrittenAsProcess.knows k e x a number) many = AreProcessLinesFor.knows k e number

module _ (rules : List Rule) where
  -- the lines for one more line of rules stand behind
  pub one_more : (tables middle last : ProcessTables) (before : List RStep) (full : Trace) (step : RStep) (acts : List Fact) (lines own : List PStep) → AreProcessLinesForAll rules tables before full lines middle
      → AreProcessLinesFor middle (length middle.facts + facts_added rules step) step acts own last → AreProcessLinesForAll rules tables (before ++ step ∷ []) (full ++ acts ∷ []) (lines ++ own) last
  one_more tables _ last _ _ step acts _ own no_lines is = subst (λ (x : List PStep). AreProcessLinesForAll rules tables (step ∷ []) (acts ∷ []) x last) (append-nil own) (more is no_lines)
  one_more tables _ last _ _ step acts _ own (more {next = next} {last = middle} {step = first} {acts = shown} {own = these} {rule_lines = others} {full = seen} {rest = rest} here all) is =
      subst (λ (x : List PStep). AreProcessLinesForAll rules tables (first ∷ (others ++ step ∷ [])) (shown ∷ (seen ++ acts ∷ [])) x last) (sym (append_assoc these rest own))
      (more here (one_more next middle last others seen step acts rest own all is))

  -- so it is with lines that are told by an equation
  pub one_more_is : (tables middle last : ProcessTables) (before : List RStep) (full : Trace) (step : RStep) (acts : List Fact) (lines own all : List PStep) → all ≡ lines ++ own → AreProcessLinesForAll rules tables before full lines middle
      → AreProcessLinesFor middle (length middle.facts + facts_added rules step) step acts own last → AreProcessLinesForAll rules tables (before ++ step ∷ []) (full ++ acts ∷ []) all last
  one_more_is tables middle last before full step acts lines own all e each is =
      subst (λ (x : List PStep). AreProcessLinesForAll rules tables (before ++ step ∷ []) (full ++ acts ∷ []) x last) (sym e) (one_more tables middle last before full step acts lines own each is)
