-- How many lines of the process are written for a line of rules.
use Rattle.std.proofs.Common.{◌≡◌, ◌+◌, ℕ, List, [], ◌∷◌, ◌++◌, Option, Some, None, refl, sym, ap, ◌∙◌, arith, length, length-append}
use Rattle.sap_terms.specs.Signature.{Sig}
use Rattle.sap_terms.specs.Tree.{Tree}
use Rattle.sap_terms.specs.declared.fact.Fact.{Fact}
use Rattle.sap_rule.specs.RuleSteps.{RuleState}
use Rattle.sap_runs.specs.declared.process_step.PStep.{PStep}
use Rattle.sap_runs.specs.declared.process_step.PStep.TheVariants as line
use Rattle.sap_runs.specs.declared.rule_step.RStep.{RStep}
use Rattle.sap_translate.specs.LineCounts.{back_count, back_line}
use Rattle.sap_translate.specs.relation.Agents.{Agent}
use Rattle.sap_back.specs.Along.{count_pending}
use Rattle.sap_back.specs.Followed.{IsWrittenAsProcess, lines_before, left_pending, pending_lines}
use Rattle.sap_process_lines.specs.Tables.{ProcessTables}
use Rattle.sap_back.specs.Tables.{IsPending}

-- what is counted for one more line
pub back_count_next : (before : List RStep) (step : RStep) → back_count (before ++ step ∷ []) ≡ back_count before + back_line step
back_count_next [] step = omega arith
back_count_next (x ∷ before) step = let h = back_count_next before step in omega arith

-- one line is written for what is pending
pub pending_count : (es : List Tree) (pending : Option Tree) (k : Option ℕ) → IsPending es pending k → length (pending_lines k) ≡ count_pending pending
pending_count es None k h = ap (λ o. length (pending_lines o)) h
pending_count es (Some x) k h = ap (λ o. length (pending_lines o)) h.1

-- something is pending, where the table has its number
one_pending : (es : List Tree) (pending : Option Tree) (k : Option ℕ) (e : ℕ) → IsPending es pending k → k ≡ Some e → count_pending pending ≡ 1
one_pending es None k e h i = absurd (let z : None ≡ Some e = sym h ∙ i in cc)
one_pending es (Some x) k e h i = refl

-- with it a line is written behind what is pending
behind_pending : (es : List Tree) (pending : Option Tree) (k : Option ℕ) (l : PStep) → IsPending es pending k → length (pending_lines k ++ l ∷ []) ≡ count_pending pending + 1
behind_pending es pending k l h = length-append (pending_lines k) (l ∷ []) ∙ ap (λ n. n + 1) (pending_count es pending k h)

-- what an embedded rule with these acts has written, and what is pending behind it
embedded_count : (es : List Tree) (pending : Option Tree) (k : Option ℕ) (l : PStep) (acts : List Fact) → IsPending es pending k
    → length (lines_before acts k ++ l ∷ []) + count_pending (left_pending acts pending) ≡ 1 + count_pending pending
embedded_count es pending k l [] h = omega arith
embedded_count es pending k l (f ∷ fs) h = let n = behind_pending es pending k l h in omega arith

-- the lines that are written for a line of rules, with the one for what is pending behind it, are those that are counted for it, with the
-- one for what was pending
pub written_count : {g : Sig} {agents : List (Option Agent)} {pending : Option Tree} {s : RuleState} {tables : ProcessTables} {step : RStep} {acts : List Fact} {more : List PStep} {next : List (Option Agent)} {later : Option Tree} {behind : ProcessTables}
    (es : List Tree) → IsPending es pending tables.pending → IsWrittenAsProcess g agents pending s tables step acts more next later behind
    → length more + count_pending later ≡ back_line step + count_pending pending
written_count es h (IsWrittenAsProcess.starts t body b a e) = refl
written_count es h (IsWrittenAsProcess.ends t k path env b a) = refl
written_count es h (IsWrittenAsProcess.splits t k path env b p q a) = refl
written_count es h (IsWrittenAsProcess.starts_copies t k path env b p a) = refl
written_count es h (IsWrittenAsProcess.copies t k path env b p a e) = refl
written_count es h (IsWrittenAsProcess.makes_name t k j n path env b x p a e i) = refl
written_count es h (IsWrittenAsProcess.outputs t k path env b m p a) = refl
written_count {pending = pending} {tables = tables} es h (IsWrittenAsProcess.outputs_on t k j e path env b m n p a i) = let z = one_pending es pending tables.pending e h i in omega arith
written_count es h (IsWrittenAsProcess.sends t k j i path env b m n x v p a e f) = refl
written_count es h (IsWrittenAsProcess.goes_on t k j n path env b m u p a e i) = refl
written_count {pending = pending} {tables = tables} es h (IsWrittenAsProcess.inputs t k j e path env b m σ p a i) = let z = one_pending es pending tables.pending e h i in omega arith
written_count {pending = pending} {tables = tables} es h (IsWrittenAsProcess.inputs_on t k j e path env b m n σ p a i) = let z = one_pending es pending tables.pending e h i in omega arith
written_count es h (IsWrittenAsProcess.meets a t k j n at path other env b m u x v l r σ p q d e f i) = refl
written_count {pending = pending} {tables = tables} es h (IsWrittenAsProcess.shows t k path env b f p a) = let z = behind_pending es pending tables.pending (line.Event t) h in omega arith
written_count es h (IsWrittenAsProcess.inserts t k path env b m n p a) = refl
written_count es h (IsWrittenAsProcess.deletes t k path env b m p a) = refl
written_count es h (IsWrittenAsProcess.locks t k j n path env b m l p a) = refl
written_count es h (IsWrittenAsProcess.unlocks t k path env b m l p a) = refl
written_count es h (IsWrittenAsProcess.agrees t k path env b m n p q a) = refl
written_count es h (IsWrittenAsProcess.differs t k path env b m n p q a) = refl
written_count es h (IsWrittenAsProcess.finds t k path env b m v y p q a) = refl
written_count es h (IsWrittenAsProcess.misses t k path env b m y p q a) = refl
written_count {pending = pending} {tables = tables} {acts = acts} es h (IsWrittenAsProcess.embeds t k js ks path env b l a o σ p i e) = embedded_count es pending tables.pending (line.Embedded t ks b) acts h
written_count es h (IsWrittenAsProcess.makes n) = refl
written_count es h (IsWrittenAsProcess.learns k e a) = refl
written_count es h (IsWrittenAsProcess.owns k n a e) = refl
written_count es h (IsWrittenAsProcess.writes a) = refl
written_count es h (IsWrittenAsProcess.applies f ks js e) = refl
written_count {pending = pending} {tables = tables} es h (IsWrittenAsProcess.knows k e x a i) = let z = pending_count es pending tables.pending h in omega arith
