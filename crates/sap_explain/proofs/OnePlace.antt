-- A cause stands at one place.
use Rattle.std.proofs.Common.{◌≡◌, ℕ, List, sym, ◌∙◌, subst, Option, Some}
use Rattle.sap_read.specs.declared.fault.ReadFault.{ReadFault}
use Rattle.sap_stretches.specs.declared.stretch.Stretch.{Stretch}
use Rattle.sap_read_places.specs.declared.told.Told.{Told}
use Rattle.sap_read_places.specs.Placed.{IsAtPath, path_of}
use Rattle.sap_read_places.specs.ReadPlaces.{IsReadPlace}
use Rattle.sap_where.specs.Where.{IsWhere, at_byte, at_declaration, at_header, at_item, at_name, at_parameter, at_process}
use Rattle.sap_explain.specs.Told.{IsPlaceOf, by_path, by_reading, by_words}
use Rattle.sap_explain.proofs.ReadPlaces.{read_without_path, read_without_words}

some_path : {p q : List ℕ} → ◌≡◌ {A = Option (List ℕ)} (Some p) (Some q) → p ≡ q
some_path e = cc (e)

-- no path leads to what the words of a file place
pub placed_without_path : {A : Type 0} {z : List ℕ} {e : ReadFault} {s : Stretch} {path : List ℕ} → IsWhere z e s → path_of e ≡ Some path → A
placed_without_path (at_byte a l f) h = absurd (cc (h))
placed_without_path (at_header a w f) h = absurd (cc (h))
placed_without_path (at_item a w f) h = absurd (cc (h))
placed_without_path (at_process a w f) h = absurd (cc (h))
placed_without_path (at_name a w f) h = absurd (cc (h))
placed_without_path (at_parameter a w f) h = absurd (cc (h))
placed_without_path (at_declaration a w f) h = absurd (cc (h))

pub one_place_of : (z : List ℕ) (e : ReadFault) (s t : Told) → ((s t : Stretch) → IsWhere z e s → IsWhere z e t → s ≡ t)
    → ((z path : List ℕ) (s t : Told) → IsAtPath z path s → IsAtPath z path t → s ≡ t) → (IsReadPlace z e s → IsReadPlace z e t → s ≡ t) → IsPlaceOf z e s → IsPlaceOf z e t → s ≡ t
one_place_of z e s t only one read (by_words w n) (by_words v m) =
    let word : s.word ≡ t.word = only s.word t.word w v in
    let uses : s.uses ≡ t.uses = n ∙ sym m in
    λ i. record { word = word i; uses = uses i }
one_place_of z e s t only one read (by_words w n) (by_path h a) = placed_without_path w h
one_place_of z e s t only one read (by_words w n) (by_reading r) = read_without_words t w r
one_place_of z e s t only one read (by_path h a) (by_words w n) = placed_without_path w h
one_place_of z e s t only one read (by_path {path = p} h a) (by_path {path = q} g b) =
    let same : q ≡ p = some_path (sym g ∙ h) in
    one z p s t a (subst (λ (r : List ℕ). IsAtPath z r t) same b)
one_place_of z e s t only one read (by_path {path = p} h a) (by_reading r) = read_without_path z e t p h r
one_place_of z e s t only one read (by_reading r) (by_words w n) = read_without_words s w r
one_place_of z e s t only one read (by_reading r) (by_path {path = p} h a) = read_without_path z e s p h r
one_place_of z e s t only one read (by_reading r) (by_reading q) = read r q
