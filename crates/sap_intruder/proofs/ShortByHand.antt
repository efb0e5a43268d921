-- A small short run, the run that fills it, and steps that are refused.
use Rattle.std.proofs.Common.{◌≡◌, ℕ, List, [], ◌∷◌, refl, subst, arith}
use Rattle.std.specs.Prelude.{codes}
use Rattle.sap_terms.specs.AdversaryFacts.{k_fact}
use Rattle.sap_terms.specs.Deduce.{IsDerived, a_public, a_name, given, applied}
use Rattle.sap_terms.specs.Equal.{same}
use Rattle.sap_terms.specs.Equations.{equations}
use Rattle.sap_terms.specs.Laws.{LeavesAreNormal}
use Rattle.sap_terms.specs.Normal.{IsNormalForm}
use Rattle.sap_terms.specs.Tree.{Tree, fresh}
use Rattle.sap_terms.specs.View.{term}
use Rattle.sap_rewrite.specs.Laws.{FormIsOne}
use Rattle.sap_process.specs.Configuration.{CanGive, initial}
use Rattle.sap_process.specs.Head.{trees}
use Rattle.sap_process.specs.Proc as whole
use Rattle.sap_process.specs.StepExamples.{a}
use Rattle.sap_runs.specs.Limits.{HasFewNodes}
use Rattle.sap_runs.specs.declared.process_step.PStep.TheVariants as line
use Rattle.sap_runs.specs.declared.short_step.SStep.TheVariants as short
use Rattle.sap_lines.specs.Faults.{not_running, other_form}
use Rattle.sap_lines.specs.Lines.{IsProcessLine}
use Rattle.sap_lines.specs.declared.fault.PFault.TheVariants as fault
use Rattle.sap_intruder.specs.FilledRuns.{Fills, knowing, IsFilledRun}
use Rattle.sap_intruder.specs.Refusals.{IsShortRefused, known_not_given, unfit_taker, bad, not_deduced}
use Rattle.sap_intruder.specs.ShortExamples.{bare, unheld, know_a, know_a_lines, know_a_trace}
use Rattle.sap_intruder.specs.ShortLines.{IsGiven, knows}
use Rattle.sap_intruder.specs.ShortRuns.{IsLegalShortRun}
use Rattle.sap_intruder.specs.declared.fill_fault.FillFault.TheVariants as fill

module _ (leaves : LeavesAreNormal) where
  pub own_form : IsNormalForm (equations bare) a a
  own_form = record { equal = same; normal = leaves.of_public_name (equations bare) (codes "a") }

  given_a : IsGiven bare (initial whole.nil) (term a) a
  given_a = record {
    over = tt;
    form = own_form;
    gives = record {
      deducible = record { form = a; is_form = own_form; earlier = []; derivation = (a_public (codes "a") refl, tt) };
      normal = leaves.of_public_name (equations bare) (codes "a");
    };
  }

  pub legal : IsLegalShortRun bare HasFewNodes whole.nil know_a (initial whole.nil) know_a_trace []
  legal = IsLegalShortRun.further (short.Know (term a)) [] (k_fact a ∷ []) IsLegalShortRun.starts (knows given_a)

  pub filled : IsFilledRun bare HasFewNodes whole.nil know_a know_a_lines (initial whole.nil) (a ∷ []) know_a_trace []
  filled =
      IsFilledRun.follows (short.Know (term a)) (line.Know 0) [] (k_fact a ∷ [])
      (IsFilledRun.finds (line.Public (codes "a")) IsFilledRun.starts tt (IsProcessLine.writes (codes "a")))
      (knowing (record { term = a; entry = refl; over = tt; form = own_form })) (IsProcessLine.knows 0 a refl)

-- nothing is deduced by one step from nothing but public names, where no symbol is held
pub no_fresh : (ts : List Tree) (t : Tree) (k : ℕ) → IsDerived bare [] [] ts t → t ≡ fresh k → ⊥
no_fresh ts t k (a_public n e) is = cc
no_fresh ts t k (a_name n m e) is = omega (arith, m.1)
no_fresh ts t k (given m) is = omega (arith, m.1)
no_fresh ts t k (applied f us free arity all form) is = absurd free

module _ (leaves : LeavesAreNormal) (one : FormIsOne) where
  pub fresh_form : IsNormalForm (equations bare) (fresh 1) (fresh 1)
  fresh_form = record { equal = same; normal = leaves.of_fresh_name (equations bare) 1 }

  not_given : CanGive bare {k = trees} (initial whole.nil) (fresh 1) → ⊥
  not_given h =
      let d = h.deducible in
      no_fresh d.earlier d.form 1 d.derivation.0 (one (equations bare) (fresh 1) d.form (fresh 1) d.is_form fresh_form)

  pub underivable : IsShortRefused bare (initial whole.nil) (short.Know (term (fresh 1))) fill.NotDeduced
  underivable = known_not_given (not_deduced tt fresh_form not_given)

  pub derivable : IsShortRefused bare (initial whole.nil) (short.Know (term a)) fill.NotDeduced → ⊥
  derivable (known_not_given (not_deduced {x = x} over form never)) =
      never (subst (CanGive bare (initial whole.nil)) (one (equations bare) a a x (own_form leaves) form) (given_a leaves).gives)

pub bad_term : IsShortRefused bare (initial whole.nil) (short.Know (term unheld)) fill.BadTerm
bad_term = known_not_given (bad (λ over. (let held = over.0 in absurd (cc))))

pub thread_first : IsShortRefused bare (initial whole.nil) (short.In 1 (term unheld)) (fill.Process (fault.NoThread 1))
thread_first = unfit_taker (not_running (λ p runs. absurd (cc)))

pub form_next : IsShortRefused bare (initial whole.nil) (short.In 0 (term unheld)) (fill.Process (fault.WrongForm 0))
form_next = unfit_taker (other_form {p = whole.nil} refl refl)

pub not_bad : IsShortRefused bare (initial whole.nil) (short.Know (term a)) fill.BadTerm → ⊥
not_bad (known_not_given (bad never)) = never tt

pub no_entry : Fills bare [] (short.Know (term a)) (line.Know 0) → ⊥
no_entry (knowing cites) = let entry = cites.entry in absurd (cc)
