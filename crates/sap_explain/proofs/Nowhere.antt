-- Where nothing is told, the cause has no place.
use Rattle.std.proofs.Common.{◌≡◌, ℕ, List, Option, None, Some, Ok, Err, refl, sym, ap, subst, ◌∙◌}
use Rattle.std.specs.Prelude.{IfOk, IfSome, Result}
use Rattle.sap_terms.specs.declared.mem.Mem.{Mem}
use Rattle.sap_locks.specs.declared.fault.LockFault.{LockFault}
use Rattle.sap_read.specs.Files.{IsRead}
use Rattle.sap_read.specs.declared.fault.ReadFault.{ReadFault}
use Rattle.sap_read.specs.declared.fault.ReadFault.TheVariants.{Lock}
use Rattle.sap_stretches.specs.declared.stretch.Stretch.{Stretch}
use Rattle.sap_read_places.specs.declared.told.Told.{Told}
use Rattle.sap_read_places.specs.Placed.{IsAtPath, path_of}
use Rattle.sap_read_places.specs.ReadPlaces.{IsReadCause, IsReadPlace}
use Rattle.sap_where.specs.Where.{HasStretch, IsWhere}
use Rattle.sap_explain.specs.Told.{HasPlace, IsPlaceOf, by_path, by_reading, by_words, parallels_have, reading_has, unlocks_have, words_have}
use Rattle.sap_explain.proofs.CausesWithPath.{without_path}
use Rattle.sap_explain.proofs.ReadPlaces.{no_path_is, read_has_no_path, read_is_cause, words_place_none}

-- ---- of a lock

no_stretch : {A : Type 0} {f : LockFault} → HasStretch (Lock f) → A
no_stretch h = elim h [ ]

module _ (z : List ℕ) (e : ReadFault) (f : LockFault) (is : e ≡ Lock f) where
  pub lock_place : (r : Result (Option Told) Mem) → IfOk r (λ o. IfSome o (λ t. IsPlaceOf z (Lock f) t)) → IfOk r (λ o. IfSome o (λ t. IsPlaceOf z e t))
  lock_place r h = subst (λ (g : ReadFault). IfOk r (λ o. IfSome o (λ t. IsPlaceOf z g t))) (sym is) h

  pub lock_nowhere : (r : Result (Option Told) Mem) → IfOk r (λ o. o ≡ None → (t : Told) → IsPlaceOf z (Lock f) t → ⊥) → IfOk r (λ o. o ≡ None → (t : Told) → IsPlaceOf z e t → ⊥)
  lock_nowhere r h = subst (λ (g : ReadFault). IfOk r (λ o. o ≡ None → (t : Told) → IsPlaceOf z g t → ⊥)) (sym is) h

  has_none : (o : Option Told) → (o ≡ None → (t : Told) → IsPlaceOf z e t → ⊥) → ((path : List ℕ) → path_of e ≡ Some path → IsRead z (Err e) → (t : Told) × IsAtPath z path t)
      → (g : ReadFault) → e ≡ g → HasPlace g → IsRead z (Err e) → o ≡ None → ⊥
  has_none o nowhere lead g same (words_have h) read none = no_stretch (subst (λ (d : ReadFault). HasStretch d) (sym same ∙ is) h)
  has_none o nowhere lead g same (unlocks_have path) read none =
      let at = lead path (ap path_of same) read in nowhere none at.0 (by_path (ap path_of same) at.1)
  has_none o nowhere lead g same (parallels_have path) read none =
      let at = lead path (ap path_of same) read in nowhere none at.0 (by_path (ap path_of same) at.1)
  has_none o nowhere lead g same (reading_has h) read none = subst (λ (d : ReadFault). IsReadCause d) (sym same ∙ is) h

  pub lock_stands : (r : Result (Option Told) Mem) → IfOk r (λ o. o ≡ None → (t : Told) → IsPlaceOf z e t → ⊥)
      → ((path : List ℕ) → path_of e ≡ Some path → IsRead z (Err e) → (t : Told) × IsAtPath z path t) → HasPlace e → IsRead z (Err e) → IfOk r (λ o. o ≡ None → ⊥)
  lock_stands (Ok o) nowhere lead h read = has_none o nowhere lead e refl h read
  lock_stands (Err m) nowhere lead h read = tt

-- ---- of a cause that is found when the items have been read

module _ (z : List ℕ) (e : ReadFault) (is : IsReadCause e) where
  pub read_place : (r : Result (Option Told) Mem) → IfOk r (λ o. IfSome o (λ t. IsReadPlace z e t)) → IfOk r (λ o. IfSome o (λ t. IsPlaceOf z e t))
  read_place (Ok None) h = tt
  read_place (Ok (Some t)) h = by_reading h
  read_place (Err m) h = tt

  only_read : (t : Told) → IsPlaceOf z e t → IsReadPlace z e t
  only_read t (by_words w u) = words_place_none w is
  only_read t (by_path h a) = no_path_is (read_has_no_path e is) h
  only_read t (by_reading r) = r

  pub read_nowhere : (r : Result (Option Told) Mem) → IfOk r (λ o. o ≡ None → (t : Told) → IsReadPlace z e t → ⊥) → IfOk r (λ o. o ≡ None → (t : Told) → IsPlaceOf z e t → ⊥)
  read_nowhere (Ok o) h = λ none t p. h none t (only_read t p)
  read_nowhere (Err m) h = tt

  pub read_stands : (r : Result (Option Told) Mem) → IfOk r (λ o. o ≡ None → (t : Told) → IsReadPlace z e t → ⊥) → (IsReadCause e → IsRead z (Err e) → (t : Told) × IsReadPlace z e t)
      → IsRead z (Err e) → IfOk r (λ o. o ≡ None → ⊥)
  read_stands (Ok o) h some read = λ none. let at = some is read in h none at.0 at.1
  read_stands (Err m) h some read = tt

-- ---- of a cause that the words of the file place

pub words_nowhere : (z : List ℕ) (e : ReadFault) → path_of e ≡ None → (IsReadCause e → ⊥) → ((s : Stretch) → IsWhere z e s → ⊥) → (t : Told) → IsPlaceOf z e t → ⊥
words_nowhere z e n unread = without_path z e n (λ t r. unread (read_is_cause z e t r))

has_stretch : (e : ReadFault) → ((f : LockFault) → e ≡ Lock f → ⊥) → (IsReadCause e → ⊥) → (g : ReadFault) → e ≡ g → HasPlace g → HasStretch e
has_stretch e other unread g same (words_have h) = subst (λ (d : ReadFault). HasStretch d) (sym same) h
has_stretch e other unread g same (unlocks_have path) = absurd (other _ same)
has_stretch e other unread g same (parallels_have path) = absurd (other _ same)
has_stretch e other unread g same (reading_has h) = absurd (unread (subst (λ (d : ReadFault). IsReadCause d) (sym same) h))

pub words_stand : (e : ReadFault) → ((f : LockFault) → e ≡ Lock f → ⊥) → (IsReadCause e → ⊥) → HasPlace e → HasStretch e
words_stand e other unread h = has_stretch e other unread e refl h
