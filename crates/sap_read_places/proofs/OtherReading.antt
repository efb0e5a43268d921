-- The other place of what is found when the items of a file have been read.
use Rattle.std.proofs.Common.{◌≡◌, ℕ, List, Option, Some, None, Ok, Err, refl, sym, subst, ◌∙◌}
use Rattle.std.specs.Prelude.{IfOk, IfSome, Result}
use Rattle.sap_terms.specs.declared.mem.Mem.{Mem}
use Rattle.sap_text.specs.declared.fault.Lex.{Lex}
use Rattle.sap_process.specs.declared.flaw.Flaw.{Flaw}
use Rattle.sap_read.specs.Files.{IsRead}
use Rattle.sap_read.specs.SaidFiles.{IsOfItems, IsOfUses, IsOfWords}
use Rattle.sap_read.specs.declared.fault.ReadFault.{ReadFault}
use Rattle.sap_read.specs.declared.fault.ReadFault.TheVariants.{Ill, Lex as LexFault}
use Rattle.sap_read_places.specs.declared.told.Told.{Told}
use Rattle.sap_read_places.specs.OtherFlawPlaces.{HasOtherNode, IsOtherFlawPlace}
use Rattle.sap_read_places.specs.OtherReadPlaces.{HasOtherReadPlace, IsOtherReadPlace, flaws_have_other, other_of_flaw}

-- ---- one, and some

pub of_flaw : (z : List ℕ) (w : Flaw) (path : List ℕ) (t : Told) → IsOtherReadPlace z (Ill w path) t → IsOtherFlawPlace z w path t
of_flaw z w path t (other_of_flaw h) = h

pub one_other_read : ((z : List ℕ) (w : Flaw) (path : List ℕ) (s t : Told) → IsOtherFlawPlace z w path s → IsOtherFlawPlace z w path t → s ≡ t)
    → (z : List ℕ) (e : ReadFault) (s t : Told) → IsOtherReadPlace z e s → IsOtherReadPlace z e t → s ≡ t
one_other_read one z _ s t (other_of_flaw {w = w} {path = path} a) b = one z w path s t a (of_flaw z w path t b)

pub some_other_read : ((z : List ℕ) (w : Flaw) (path : List ℕ) → HasOtherNode w → IsRead z (Err (Ill w path)) → (t : Told) × IsOtherFlawPlace z w path t)
    → (z : List ℕ) (e : ReadFault) → HasOtherReadPlace e → IsRead z (Err e) → (t : Told) × IsOtherReadPlace z e t
some_other_read some z _ (flaws_have_other {w = w} path of) read = let h = some z w path of read in (h.0, other_of_flaw h.1)

-- ---- where nothing is told

pub judged_alone : (z : List ℕ) (e : ReadFault) (t : Told) → IsOtherReadPlace z e t → (w : Flaw) × (path : List ℕ) × (e ≡ Ill w path)
judged_alone z _ t (other_of_flaw {w = w} {path = path} h) = (w, path, refl)

has_alone : (e : ReadFault) → HasOtherReadPlace e → (w : Flaw) × (path : List ℕ) × (e ≡ Ill w path)
has_alone _ (flaws_have_other {w = w} path of) = (w, path, refl)

-- the cause is no flaw of the process
abbrev pub IsElsewhere : ReadFault → Type 0
IsElsewhere e = (w : Flaw) (path : List ℕ) → e ≡ Ill w path → ⊥

pub none_elsewhere : (z : List ℕ) (e : ReadFault) → IsElsewhere e → (t : Told) → IsOtherReadPlace z e t → ⊥
none_elsewhere z e none t h = let a = judged_alone z e t h in none a.0 a.1 a.2

pub has_none_elsewhere : (e : ReadFault) → IsElsewhere e → HasOtherReadPlace e → ⊥
has_none_elsewhere e none h = let a = has_alone e h in none a.0 a.1 a.2

pub bytes_elsewhere : (e : ReadFault) → (f : Lex) × (e ≡ LexFault f) → IsElsewhere e
bytes_elsewhere e h = λ w path is. let clash : LexFault h.0 ≡ Ill w path = sym h.1 ∙ is in absurd (cc (clash))

pub words_elsewhere : (e : ReadFault) → IsOfWords e → IsElsewhere e
words_elsewhere e h = λ w path is. subst IsOfWords is h

pub items_elsewhere : (e : ReadFault) → IsOfItems e → IsElsewhere e
items_elsewhere e h = λ w path is. subst IsOfItems is h

pub uses_elsewhere : (e : ReadFault) → IsOfUses e → IsElsewhere e
uses_elsewhere e h = λ w path is. subst IsOfUses is h

-- ---- of a flaw of the process

module _ (z : List ℕ) (e : ReadFault) (w : Flaw) (path : List ℕ) (is : e ≡ Ill w path)
    (some : (z : List ℕ) (e : ReadFault) → HasOtherReadPlace e → IsRead z (Err e) → (t : Told) × IsOtherReadPlace z e t) (read : IsRead z (Err e)) where
  -- it is told
  told_there : HasOtherNode w → (t : Told) × IsOtherFlawPlace z w path t
  told_there of =
      let h = some z (Ill w path) (flaws_have_other path of) (subst (λ (q : ReadFault). IsRead z (Err q)) is read) in
      (h.0, of_flaw z w path h.0 h.1)

  pub flaw_place : (r : Result (Option Told) Mem) → IfOk r (λ o. (t : Told) → IsOtherFlawPlace z w path t → o ≡ Some t) → IfOk r (λ o. IfSome o (λ t. HasOtherNode w))
      → IfOk r (λ o. IfSome o (λ t. IsOtherReadPlace z e t))
  flaw_place (Ok None) only kind = tt
  flaw_place (Ok (Some t)) only kind =
      let h = told_there kind in
      let same : t ≡ h.0 = some_same (only h.0 h.1) in
      subst (λ (q : ReadFault). IsOtherReadPlace z q t) (sym is) (other_of_flaw (subst (λ (u : Told). IsOtherFlawPlace z w path u) (sym same) h.1))
    where
      some_same : {a b : Told} → ◌≡◌ {A = Option Told} (Some a) (Some b) → a ≡ b
      some_same k = cc (k)
  flaw_place (Err m) only kind = tt

  pub flaw_none : (r : Result (Option Told) Mem) → IfOk r (λ o. (t : Told) → IsOtherFlawPlace z w path t → o ≡ Some t)
      → IfOk r (λ o. o ≡ None → (t : Told) → IsOtherReadPlace z e t → ⊥)
  flaw_none (Ok o) only = λ none t h.
      let clash : ◌≡◌ {A = Option Told} None (Some t) = sym none ∙ only t (of_flaw z w path t (subst (λ (q : ReadFault). IsOtherReadPlace z q t) is h)) in
      absurd (cc (clash))
  flaw_none (Err m) only = tt

  pub flaw_told : (r : Result (Option Told) Mem) → IfOk r (λ o. (t : Told) → IsOtherFlawPlace z w path t → o ≡ Some t) → HasOtherReadPlace e → IfOk r (λ o. o ≡ None → ⊥)
  flaw_told (Ok o) only has = λ none.
      let h = some z e has read in
      let clash : ◌≡◌ {A = Option Told} None (Some h.0) = sym none ∙ only h.0 (of_flaw z w path h.0 (subst (λ (q : ReadFault). IsOtherReadPlace z q h.0) is h.1)) in
      cc (clash)
  flaw_told (Err m) only has = tt
