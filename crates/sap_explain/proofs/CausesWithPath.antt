-- A cause with a path stands where it leads, and one without a path doesn't.
use Rattle.std.proofs.Common.{◌≡◌, ℕ, List, Option, Some, None, Ok, Err, sym, subst, ◌∙◌}
use Rattle.std.specs.Prelude.{IfOk, IfSome, Result}
use Rattle.sap_terms.specs.declared.mem.Mem.{Mem}
use Rattle.sap_locks.specs.declared.fault.LockFault.{LockFault}
use Rattle.sap_read.specs.declared.fault.ReadFault.{ReadFault}
use Rattle.sap_read.specs.declared.fault.ReadFault.TheVariants.{Lock}
use Rattle.sap_stretches.specs.declared.stretch.Stretch.{Stretch}
use Rattle.sap_read_places.specs.declared.told.Told.{Told}
use Rattle.sap_read_places.specs.Placed.{IsAtPath, path_of}
use Rattle.sap_read_places.specs.ReadPlaces.{IsReadPlace}
use Rattle.sap_explain.specs.Told.{IsPlaceOf, by_path, by_reading, by_words}
use Rattle.sap_where.specs.Where.{IsWhere}
use Rattle.sap_explain.proofs.OnePlace.{placed_without_path}
use Rattle.sap_explain.proofs.ReadPlaces.{no_path_is, read_without_path}

some_path : {p q : List ℕ} → ◌≡◌ {A = Option (List ℕ)} (Some p) (Some q) → p ≡ q
some_path e = cc (e)

-- a cause without a path that the words of the file don't place has no place
pub without_path : (z : List ℕ) (e : ReadFault) → path_of e ≡ None → ((t : Told) → IsReadPlace z e t → ⊥) → ((s : Stretch) → IsWhere z e s → ⊥) → (t : Told) → IsPlaceOf z e t → ⊥
without_path z e n unread none t (by_words w u) = none t.word w
without_path z e n unread none t (by_path h a) = no_path_is n h
without_path z e n unread none t (by_reading r) = unread t r

module _ (z : List ℕ) (e : ReadFault) (path : List ℕ) (is : path_of e ≡ Some path) where
  pub path_is_told : (r : Result (Option Told) Mem) → IfOk r (λ o. IfSome o (λ t. IsAtPath z path t)) → IfOk r (λ o. IfSome o (λ t. IsPlaceOf z e t))
  path_is_told (Ok None) h = tt
  path_is_told (Ok (Some t)) h = (by_path is h)
  path_is_told (Err m) h = tt

  none_at : ((t : Told) → IsAtPath z path t → ⊥) → (t : Told) → IsPlaceOf z e t → ⊥
  none_at none t (by_words w u) = placed_without_path w is
  none_at none t (by_reading r) = read_without_path z e t path is r
  none_at none t (by_path h a) = none t (subst (λ (p : List ℕ). IsAtPath z p t) (some_path (sym h ∙ is)) a)

  pub path_is_nowhere : (r : Result (Option Told) Mem) → IfOk r (λ o. o ≡ None → (t : Told) → IsAtPath z path t → ⊥) → IfOk r (λ o. o ≡ None → (t : Told) → IsPlaceOf z e t → ⊥)
  path_is_nowhere (Ok o) h = λ n. none_at (h n)
  path_is_nowhere (Err m) h = tt

-- of a lock without a path the words of the file place nothing
no_words : {z : List ℕ} {f : LockFault} {s : Stretch} → IsWhere z (Lock f) s → ⊥
no_words w = elim w [ ]

pub lock_without_path : (z : List ℕ) (f : LockFault) → path_of (Lock f) ≡ None → (t : Told) → IsPlaceOf z (Lock f) t → ⊥
lock_without_path z f n = without_path z (Lock f) n (λ t h. h) (λ s w. no_words w)
