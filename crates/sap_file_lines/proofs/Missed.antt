-- Whether nobody wrote a place, by the word of the one above it.
use Rattle.std.proofs.Common.{◌≡◌, ℕ, ◌-◌, Bool, true, false, List, [], ◌∷◌, ◌++◌, length, take, refl, sym, ap, subst, ◌∙◌, arith}
use Rattle.std.proofs.lemmas.Grind.{common_steps}
use Rattle.std.specs.Bool.{Decides}
use Rattle.std.specs.Prelude.{not}
use Rattle.sap_macro.specs.Located.{Located}
use Rattle.sap_origin.specs.Definitions.{LocatedDefinition}
use Rattle.sap_origin.specs.Origins.{start, words_left}
use Rattle.sap_origin.specs.Reached.{Reaches, Standing}
use Rattle.sap_file_lines.specs.FileLines.{words_from}
use Rattle.sap_file_lines.specs.code.Spots.{IsMissed, IsSpot}
use Rattle.sap_file_lines.specs.declared.places.Spot.{Spot}
use Rattle.sap_file_lines.proofs.Lines.{OneReach, one_front}

pub not_false : (b : Bool) → not b ≡ false → b ≡ true
not_false true e = refl
not_false false e = absurd (cc (e))

-- what is in front of the last digit
take_front : (front : List ℕ) (d : ℕ) → take (length (front ++ d ∷ []) - 1) (front ++ d ∷ []) ≡ front
take_front front d = grind (arith, common_steps)

pub in_front : (path front : List ℕ) (d : ℕ) → path ≡ front ++ d ∷ [] → take (length path - 1) path ≡ front
in_front path front d e = ap (λ (i : List ℕ). take (length i - 1) i) e ∙ take_front front d

module _ (one : OneReach) (ds : List LocatedDefinition) (p : Located) (behind : ℕ) where
  pub missed : (path front : List ℕ) (d : ℕ) (s above : Spot) (b : Bool) → path ≡ front ++ d ∷ [] → s.is_nothing ≡ true → IsSpot ds p behind front above → Decides b (words_left above.word ≡ words_left s.word)
      → IsMissed ds p behind path s b
  missed path front d s above b last nothing up decides = λ h. (
    λ yes. record {
      nothing = sym h.nothing_is ∙ nothing;
      front = front;
      digit = d;
      path_is = last;
      standing = up.standing;
      above = up.place;
      reaches = up.reaches;
      one_word = sym up.word_is ∙ decides.0 yes ∙ h.word_is;
    },
    λ m.
        let fronts : m.front ≡ front = one_front m.front front m.digit d (sym m.path_is ∙ last) in
        let here : Reaches ds (start behind) p front m.standing m.above = subst (λ (i : List ℕ). Reaches ds (start behind) p i m.standing m.above) fronts m.reaches in
        let same = one ds (start behind) up.standing m.standing p up.place m.above front up.reaches here in
        decides.1 (up.word_is ∙ ap (λ (q : Located). words_from up.standing q) same.1 ∙ ap (λ (z : Standing). words_from z m.above) same.0 ∙ m.one_word ∙ sym h.word_is),
  )
