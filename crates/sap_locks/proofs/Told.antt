-- What the faults that the code tells say of the process.
use Rattle.std.proofs.Common.{◌≡◌, ℕ, List, Option, Some, None, Err, refl, sym, ap, subst, ◌∙◌}
use Rattle.std.specs.Prelude.{IsErrOf}
use Rattle.std.specs.Option.{option_map}
use Rattle.sap_process.specs.Proc.{Proc}
use Rattle.sap_locks.specs.Annotation.{LockFlaw, without, over, IsAnnotation, IsFirstLockFlaw}
use Rattle.sap_locks.specs.code.Labels.{labelled, first_flaw}
use Rattle.sap_locks.specs.code.Seen.{told}
use Rattle.sap_locks.specs.declared.fault.LockFault.{LockFault}
use Rattle.sap_locks.specs.declared.fault.LockFault.TheVariants.{UnlockWithoutLock, LockOverParallel}
use Rattle.sap_locks.proofs.Annotated.{accepted, refused}

none_told : (o : Option (LockFlaw × List ℕ)) → option_map told o ≡ None → o ≡ None
none_told None e = refl
none_told (Some x) e = cc

pub accepts : (p q : Proc) → q ≡ labelled p → None ≡ option_map told (first_flaw q) → IsAnnotation p q
accepts p q e h = subst (IsAnnotation p) (sym e) (accepted p (none_told (first_flaw (labelled p)) (ap (λ z. option_map told (first_flaw z)) (sym e) ∙ sym h)))

path_without : (a b : List ℕ) → UnlockWithoutLock a ≡ UnlockWithoutLock b → a ≡ b
path_without a b e = cc

path_over : (a b : List ℕ) → LockOverParallel a ≡ LockOverParallel b → a ≡ b
path_over a b e = cc

was_without : (o : Option (LockFlaw × List ℕ)) (path : List ℕ) → option_map told o ≡ Some (UnlockWithoutLock path) → o ≡ Some (without, path)
was_without None path e = cc
was_without (Some (without, b)) path e = let same : UnlockWithoutLock b ≡ UnlockWithoutLock path = cc in ap (λ z. Some (without, z)) (path_without b path same)
was_without (Some (over, b)) path e = cc

was_over : (o : Option (LockFlaw × List ℕ)) (path : List ℕ) → option_map told o ≡ Some (LockOverParallel path) → o ≡ Some (over, path)
was_over None path e = cc
was_over (Some (without, b)) path e = cc
was_over (Some (over, b)) path e = let same : LockOverParallel b ≡ LockOverParallel path = cc in ap (λ z. Some (over, z)) (path_over b path same)

pub refuses_without : (p q : Proc) (f : LockFault) (path : List ℕ) → q ≡ labelled p → Some f ≡ option_map told (first_flaw q) → f ≡ UnlockWithoutLock path → IsFirstLockFlaw p without path
refuses_without p q f path e h is = refused p without path (was_without (first_flaw (labelled p)) path (ap (λ z. option_map told (first_flaw z)) (sym e) ∙ sym h ∙ ap Some is))

pub refuses_over : (p q : Proc) (f : LockFault) (path : List ℕ) → q ≡ labelled p → Some f ≡ option_map told (first_flaw q) → f ≡ LockOverParallel path → IsFirstLockFlaw p over path
refuses_over p q f path e h is = refused p over path (was_over (first_flaw (labelled p)) path (ap (λ z. option_map told (first_flaw z)) (sym e) ∙ sym h ∙ ap Some is))

-- an error that is this one
pub err_is : (f h : LockFault) → IsErrOf {T = Unit {0}} (Err f) h → f ≡ h
err_is f h e = cc
