use Rattle.std.proofs.Common.{◌≡◌, Bool, true, false, ap, refl, [], ◌∷◌}
use Rattle.sap_terms.specs.Same.{same_tree}
use Rattle.sap_process.specs.Proc.{Proc, nil, parallel, test, lookup}
use Rattle.sap_locks.specs.Annotation.{without, over}
use Rattle.sap_locks.specs.LockExamples.{s, t, x, locking, unlocking}
use Rattle.sap_locks.proofs.Annotated.{accepted, refused, one_annotation}
use Rattle.sap_locks.proofs.laws.branches_by_hand.Goals as goal

pub returns-clause-both_unlock : goal.returns-clause-both_unlock
returns-clause-both_unlock c = accepted (locking s 0 (test s t (unlocking s 0 nil) (unlocking s 0 nil))) refl

pub returns-clause-one_unlocks : goal.returns-clause-one_unlocks
returns-clause-one_unlocks c = accepted (locking s 0 (test s t (unlocking s 0 (locking s 0 nil)) (locking s 0 (unlocking s 0 nil)))) refl

pub returns-clause-looked_up : goal.returns-clause-looked_up
returns-clause-looked_up c = accepted (locking s 0 (lookup t x (locking t 0 (unlocking s 0 nil)) (locking t 0 (unlocking t 0 nil)))) refl

pub returns-clause-not_beside : goal.returns-clause-not_beside
returns-clause-not_beside c = refused (test s t (locking s 0 nil) (unlocking s 0 nil)) without (2 ∷ []) refl

pub returns-clause-not_beside_in_lookup : goal.returns-clause-not_beside_in_lookup
returns-clause-not_beside_in_lookup c = refused (lookup t x (locking s 0 nil) (unlocking s 0 nil)) without (2 ∷ []) refl

pub returns-clause-twice_in_lookup : goal.returns-clause-twice_in_lookup
returns-clause-twice_in_lookup c =
    refused (locking s 0 (lookup t x (unlocking s 0 (unlocking s 0 nil)) (unlocking s 0 nil))) without (1 ∷ 1 ∷ 1 ∷ []) refl

pub returns-clause-over_in_branch : goal.returns-clause-over_in_branch
returns-clause-over_in_branch c = refused (locking s 0 (test s t nil (parallel nil (unlocking s 0 nil)))) over (1 ∷ 2 ∷ []) refl

pub returns-clause-no_other_label : goal.returns-clause-no_other_label
returns-clause-no_other_label c a =
    let e : locking s 1 (test s t (unlocking s 1 nil) (unlocking s 2 nil)) ≡ locking s 1 (test s t (unlocking s 1 nil) (unlocking s 1 nil)) =
    one_annotation (locking s 0 (test s t (unlocking s 0 nil) (unlocking s 0 nil))) (locking s 1 (test s t (unlocking s 1 nil) (unlocking s 2 nil))) a in
    cc

pub returns-clause-not_numbered_again : goal.returns-clause-not_numbered_again
returns-clause-not_numbered_again c a =
    let e : lookup t x (locking s 1 nil) (locking s 1 nil) ≡ lookup t x (locking s 1 nil) (locking s 2 nil) =
    one_annotation (lookup t x (locking s 0 nil) (locking s 0 nil)) (lookup t x (locking s 1 nil) (locking s 1 nil)) a in
    cc

pub returns-clause-not_without_labels : goal.returns-clause-not_without_labels
returns-clause-not_without_labels c a =
    let e : lookup t x (locking s 0 (unlocking s 0 nil)) nil ≡ lookup t x (locking s 1 (unlocking s 1 nil)) nil =
    one_annotation (lookup t x (locking s 0 (unlocking s 0 nil)) nil) (lookup t x (locking s 0 (unlocking s 0 nil)) nil) a in
    cc

-- what is compared first is 's'
abbrev compares_s : Proc → Bool
compares_s (test u v p q) = same_tree u s
compares_s _ = false

pub returns-clause-no_other_process : goal.returns-clause-no_other_process
returns-clause-no_other_process c a =
    let e : test t s (locking s 1 nil) nil ≡ test s t (locking s 1 nil) nil =
    one_annotation (test s t (locking s 0 nil) nil) (test t s (locking s 1 nil) nil) a in
    let z : false ≡ true = ap compares_s e in
    cc

pub returns-clause-nothing : goal.returns-clause-nothing
returns-clause-nothing c = accepted nil refl
