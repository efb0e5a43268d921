-- The lines that are written for a line are of its kind, and the names of locks and tags are given in turn.
use Rattle.std.proofs.Common.{◌≡◌, ℕ, ◌+◌, List, [], ◌∷◌, ◌++◌, Option, refl, sym, ap, ◌∙◌, subst, append-nil, append_assoc}
use Rattle.sap_terms.specs.Signature.{Sig}
use Rattle.sap_process.specs.Configuration.{Config}
use Rattle.sap_runs.specs.declared.process_step.PStep.{PStep}
use Rattle.sap_runs.specs.declared.rule_step.RStep.{RStep}
use Rattle.sap_translate.specs.relation.Agents.{Agent}
use Rattle.sap_rule_lines.specs.Least.{not_drawn, numbers_below, IsNext}
use Rattle.sap_forward.specs.LinesFor.{AreRuleLinesFor, AreRuleLinesForAll, no_lines, more}
use Rattle.sap_forward.specs.Tables.{RuleTables}
use Rattle.sap_forward.specs.Written.{IsWrittenAsRules}
use Rattle.sap_forward.proofs.Given.{next_given}

-- the lines of one line, and what the names of the tables get by them
pub record IsFor (drawn : List ℕ) (tables behind : RuleTables) (step : PStep) (lines : List RStep) : Type 0 where
  pub given : List ℕ
  pub are : AreRuleLinesFor step lines given
  pub names : not_drawn drawn (numbers_below behind.next) ≡ not_drawn drawn (numbers_below tables.next) ++ given

none_given : {drawn : List ℕ} {tables behind : RuleTables} {step : PStep} {lines : List RStep} → behind.next ≡ tables.next → AreRuleLinesFor step lines [] → IsFor drawn tables behind step lines
none_given {drawn = drawn} {tables = tables} same are = record { given = []; are = are; names = ap (λ n. not_drawn drawn (numbers_below n)) same ∙ sym (append-nil (not_drawn drawn (numbers_below tables.next))) }

one_given : {drawn : List ℕ} {tables behind : RuleTables} {step : PStep} {lines : List RStep} {n : ℕ} → IsNext drawn tables.next n → behind.next ≡ n + 1 → AreRuleLinesFor step lines (n ∷ []) → IsFor drawn tables behind step lines
one_given {drawn = drawn} {tables = tables} {n = n} next same are = record { given = n ∷ []; are = are; names = ap (λ k. not_drawn drawn (numbers_below k)) same ∙ next_given drawn tables.next n next }

module _ {g : Sig} {drawn : List ℕ} {agents : List (Option Agent)} {c : Config} {tables : RuleTables} where
  pub written_for : {step : PStep} {lines : List RStep} {later : List (Option Agent)} {behind : RuleTables} → IsWrittenAsRules g drawn agents c tables step lines later behind → IsFor drawn tables behind step lines
  written_for (IsWrittenAsRules.ends t k path env sits) = none_given refl (AreRuleLinesFor.ends t path _)
  written_for (IsWrittenAsRules.splits t k path env p q sits) = none_given refl (AreRuleLinesFor.splits t path _)
  written_for (IsWrittenAsRules.copies_first t k path env p sits) = none_given refl (AreRuleLinesFor.copies_first t path _ _)
  written_for (IsWrittenAsRules.copies_more t k path env p sits) = none_given refl (AreRuleLinesFor.copies_more t path _)
  written_for (IsWrittenAsRules.makes_name t k n path env x p sits) = none_given refl (AreRuleLinesFor.makes_name t n path _)
  written_for (IsWrittenAsRules.outputs t k path env m p sits) = none_given refl (AreRuleLinesFor.outputs t _ path _)
  written_for (IsWrittenAsRules.outputs_on t k j path env m n p sits) = none_given refl (AreRuleLinesFor.outputs_on t j _ path _)
  written_for (IsWrittenAsRules.inputs t k j path env m σ p sits) = none_given refl (AreRuleLinesFor.inputs t j path _)
  written_for (IsWrittenAsRules.inputs_on t k j path env m n σ p sits) = none_given refl (AreRuleLinesFor.inputs_on t j path _)
  written_for (IsWrittenAsRules.meets a b j k n path at env other m u l r σ p q sits sits_too next) = one_given next refl (AreRuleLinesFor.meets a b n path at _ _ _)
  written_for (IsWrittenAsRules.agrees t k path env m n p q sits) = none_given refl (AreRuleLinesFor.agrees t path _)
  written_for (IsWrittenAsRules.differs t k path env m n p q sits) = none_given refl (AreRuleLinesFor.differs t path _)
  written_for (IsWrittenAsRules.shows t k path env f p sits) = none_given refl (AreRuleLinesFor.shows t path _)
  written_for (IsWrittenAsRules.inserts t k path env m n p sits) = none_given refl (AreRuleLinesFor.inserts t path _)
  written_for (IsWrittenAsRules.deletes t k path env m p sits) = none_given refl (AreRuleLinesFor.deletes t path _)
  written_for (IsWrittenAsRules.finds t k path env m x v y b p q sits form held var term) = none_given refl (AreRuleLinesFor.finds t b path _)
  written_for (IsWrittenAsRules.misses t k path env m y p q sits) = none_given refl (AreRuleLinesFor.misses t path _)
  written_for (IsWrittenAsRules.locks t k n path env m l p sits next) = one_given next refl (AreRuleLinesFor.locks t n path _)
  written_for (IsWrittenAsRules.unlocks t k path env m l p sits) = none_given refl (AreRuleLinesFor.unlocks t path _)
  written_for (IsWrittenAsRules.embeds t k ks js b path env l e r σ p sits cited) = none_given refl (AreRuleLinesFor.embeds t ks b path _)
  written_for (IsWrittenAsRules.names n) = none_given refl (AreRuleLinesFor.names n _)
  written_for (IsWrittenAsRules.writes a) = none_given refl (AreRuleLinesFor.writes a)
  written_for (IsWrittenAsRules.applies f ks) = none_given refl (AreRuleLinesFor.applies f ks)
  written_for (IsWrittenAsRules.knows k) = none_given refl (AreRuleLinesFor.knows k)

-- one line more
pub for_join : {lines : List PStep} {rest : List RStep} {names : List ℕ} {step : PStep} {own : List RStep} {given : List ℕ} → AreRuleLinesForAll lines rest names → AreRuleLinesFor step own given
    → AreRuleLinesForAll (lines ++ step ∷ []) (rest ++ own) (names ++ given)
for_join {step = step} {own = own} {given = given} no_lines are =
    subst (λ x. AreRuleLinesForAll (step ∷ []) x given) (append-nil own) (subst (λ x. AreRuleLinesForAll (step ∷ []) (own ++ []) x) (append-nil given) (more are no_lines))
for_join {step = step} {own = own} {given = given} (more {step = one} {own = first} {given = got} {lines = lines} {rest = rest} {names = names} is all) are =
    subst (λ x. AreRuleLinesForAll (one ∷ (lines ++ step ∷ [])) x ((got ++ names) ++ given)) (sym (append_assoc first rest own))
    (subst (λ x. AreRuleLinesForAll (one ∷ (lines ++ step ∷ [])) (first ++ (rest ++ own)) x) (sym (append_assoc got names given)) (more is (for_join all are)))
