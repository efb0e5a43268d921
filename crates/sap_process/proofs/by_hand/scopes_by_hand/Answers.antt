use Rattle.std.proofs.Common.{◌≡◌, List, [], ◌∷◌, Some, refl, ap, lit<}
use Rattle.std.specs.Prelude.{codes, ◌++◌}
use Rattle.std.proofs.lemmas.Fmt.{decimal_digit}
use Rattle.sap_terms.specs.declared.var.Sort.TheVariants.{Msg, Fresh, Pub}
use Rattle.sap_terms.specs.declared.var.Var.{Var}
use Rattle.sap_process.specs.ScopeExamples.{y_of, z_of, seventh_lock}
use Rattle.sap_process.specs.Scopes.{lock_var}
use Rattle.sap_process.specs.StepExamples.{fresh_x}
use Rattle.sap_process.proofs.by_hand.scopes_by_hand.Goals as goal

seventh : lock_var 7 ≡ seventh_lock
seventh = λ i. record { name = codes "sapic_lock" ++ decimal_digit 7 (lit< tt) i; sort = Fresh }

-- a name, the lock, and these
with_lock : (vs : List Var) → Some (fresh_x ∷ lock_var 7 ∷ vs) ≡ Some (fresh_x ∷ seventh_lock ∷ vs)
with_lock vs = ap (λ (v : Var). Some (fresh_x ∷ v ∷ vs)) seventh

pub returns-clause-none : goal.returns-clause-none
returns-clause-none c = refl

pub returns-clause-one : goal.returns-clause-one
returns-clause-one c = refl

pub returns-clause-outermost_first : goal.returns-clause-outermost_first
returns-clause-outermost_first c = refl

pub returns-clause-before_unlock : goal.returns-clause-before_unlock
returns-clause-before_unlock c = refl

pub returns-clause-outer_ended : goal.returns-clause-outer_ended
returns-clause-outer_ended c = refl

pub returns-clause-beside : goal.returns-clause-beside
returns-clause-beside c = refl

pub returns-clause-replicated : goal.returns-clause-replicated
returns-clause-replicated c = refl

pub returns-clause-no_place : goal.returns-clause-no_place
returns-clause-no_place c = refl

pub returns-clause-ended : goal.returns-clause-ended
returns-clause-ended c = refl

pub returns-clause-not_by_label : goal.returns-clause-not_by_label
returns-clause-not_by_label c = refl

pub returns-clause-inner_ended : goal.returns-clause-inner_ended
returns-clause-inner_ended c = refl

pub returns-clause-other_label : goal.returns-clause-other_label
returns-clause-other_label c = refl

pub returns-clause-named : goal.returns-clause-named
returns-clause-named c = refl

pub returns-clause-locked : goal.returns-clause-locked
returns-clause-locked c = with_lock []

pub returns-clause-found : goal.returns-clause-found
returns-clause-found c = with_lock (y_of Msg ∷ [])

pub returns-clause-taken : goal.returns-clause-taken
returns-clause-taken c = with_lock (y_of Msg ∷ z_of Msg ∷ [])

pub returns-clause-missing : goal.returns-clause-missing
returns-clause-missing c = with_lock []

pub returns-clause-by_rule : goal.returns-clause-by_rule
returns-clause-by_rule c = with_lock (z_of Pub ∷ [])
