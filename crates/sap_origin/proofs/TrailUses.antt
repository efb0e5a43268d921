-- The uses on the way are those above the place.
use Rattle.std.proofs.Common.{◌≡◌, ℕ, ◌+◌, List, [], ◌∷◌, ◌++◌, map, reverse, append_assoc, refl, ap, ◌∙◌, sym}
use Rattle.std.proofs.lemmas.List.{append-nil, reverse-append}
use Rattle.sap_macro.specs.Located.{Located}
use Rattle.sap_origin.specs.Definitions.{LocatedDefinition}
use Rattle.sap_origin.specs.Reached.{Standing, number_of, ReachesBy, reaches_here, reaches_use, reaches_left, reaches_right, reaches_copy, reaches_behind, reaches_then, reaches_else, reaches_found, reaches_missing}
use Rattle.sap_origin.specs.UsesAlong.{UseAt, uses_along, word_of}
use Rattle.sap_origin.specs.Origins.{words_left}
use Rattle.sap_origin.specs.Trails.{AreUses, IsTrailBy, use_word}
use Rattle.sap_origin.specs.declared.trail.Replaced.{Replaced}
use Rattle.sap_origin.specs.declared.trail.Trail.{Trail}
use Rattle.sap_origin.specs.declared.trail.Use.{Use}

pub above_place : (ds : List LocatedDefinition) (v : Replaced) {s z : Standing} {p q : Located} {path : List ℕ} (r : ReachesBy ds v s p path z q)
    → z.uses ≡ reverse (map word_of (uses_along r)) ++ s.uses
above_place ds v (reaches_here f) = refl
above_place ds v (reaches_use {s = s} {k = k} e g r) =
    above_place ds v r
    ∙ sym (append_assoc (reverse (map word_of (uses_along r))) ((k + s.behind) ∷ []) s.uses)
    ∙ ap (λ (xs : List ℕ). xs ++ s.uses) (sym (reverse-append ((k + s.behind) ∷ []) (map word_of (uses_along r))))
above_place ds v (reaches_left r) = above_place ds v r
above_place ds v (reaches_right r) = above_place ds v r
above_place ds v (reaches_copy r) = above_place ds v r
above_place ds v (reaches_behind r) = above_place ds v r
above_place ds v (reaches_then r) = above_place ds v r
above_place ds v (reaches_else r) = above_place ds v r
above_place ds v (reaches_found r) = above_place ds v r
above_place ds v (reaches_missing r) = above_place ds v r

-- the program has their names
names_same : (ds : List LocatedDefinition) (us : List UseAt) (vs : List Use) → AreUses ds us vs → map word_of us ≡ map words_left (map use_word vs)
names_same ds [] [] a = refl
names_same ds [] (v ∷ vs) a = absurd a
names_same ds (u ∷ us) [] a = absurd a
names_same ds (u ∷ us) (v ∷ vs) a =
    let rest = names_same ds us vs a.1 in
    let place = a.0.place_is in
    let behind = a.0.behind_is in
    λ i. (number_of (place i) + behind i) ∷ rest i

pub trail_words : (ds : List LocatedDefinition) (v : Replaced) (p : Located) (behind : ℕ) (path : List ℕ) (t : Trail) (h : IsTrailBy ds v p behind path t)
    → reverse (map words_left (map use_word t.uses)) ≡ h.standing.uses
trail_words ds v p behind path t h =
    ap reverse (sym (names_same ds (uses_along h.reaches) t.uses h.uses))
    ∙ sym (above_place ds v h.reaches ∙ append-nil (reverse (map word_of (uses_along h.reaches))))
