-- What is told of a refused file behind the line that refuses it: where its cause stands, and its other place, what is expected there, and what to change.
use Rattle.std.specs.Prelude.{◌≡◌, ◌-◌, ℕ, zero, suc, codes, decimal, List, [], ◌∷◌, ◌++◌, length, take}
use Rattle.sap_read.specs.declared.fault.ReadFault.{ReadFault}
use Rattle.sap_stretches.specs.declared.position.Position.{Position}
use Rattle.sap_stretches.specs.declared.stretch.Stretch.{Stretch}
use Rattle.sap_read_places.specs.declared.told.Told.{Told}
use Rattle.sap_explain.specs.BytesIn.{bytes_in}
use Rattle.sap_explain.specs.Cures.{IsAdvice}
use Rattle.sap_explain.specs.ExpectedTold.{IsExpectedTold}
use Rattle.sap_explain.specs.OtherTold.{IsOtherTold}
use Rattle.sap_stretches.specs.Positions.{IsPosition, IsPlaceText}
use Rattle.sap_explain.specs.Told.{IsPlaceOf}

-- the text names a process name by the stretch at which it is used, with the line of this
pub record IsUseText (z : List ℕ) (u : Stretch) (t : List ℕ) : Type 0 where
  pub position : Position
  pub is_position : IsPosition z u.from position
  pub text : t
      ≡ (codes "in " ++ bytes_in z u)
      ++ (codes ", used at line " ++ (decimal position.line ++ (10 ∷ [])))

-- the text names each of these uses, in order
pub data AreUseTexts (z : List ℕ) : List Stretch → List ℕ → Type 0 where
  no_use : AreUseTexts z [] []
  a_use : {u : Stretch} {us : List Stretch} {t rest : List ℕ} → IsUseText z u t
      → AreUseTexts z us rest → AreUseTexts z (u ∷ us) (t ++ rest)

-- how many more there are, if there are more
abbrev pub more_text : ℕ → List ℕ
more_text zero = []
more_text (suc n) = codes "and " ++ (decimal (suc n) ++ codes " more\n")

-- the text names the uses, of which the innermost stands first: eight at most, and behind these how many more there are
pub record AreUsesTold (z : List ℕ) (us : List Stretch) (t : List ℕ) : Type 0 where
  pub texts : List ℕ
  pub are : AreUseTexts z (take 8 us) texts
  pub text : t ≡ texts ++ more_text (length us - 8)

-- the text shows a place where the cause stands, and tells where what is written there is used; or it is empty, and the cause stands
-- nowhere
pub data IsPlaceTold (z : List ℕ) (e : ReadFault) : List ℕ → Type 0 where
  somewhere : {t : Told} {place user : List ℕ} → IsPlaceOf z e t → IsPlaceText z t.word place
      → AreUsesTold z t.uses user → IsPlaceTold z e (place ++ user)
  nowhere : ((t : Told) → IsPlaceOf z e t → ⊥) → IsPlaceTold z e []

-- the text tells where the cause stands, and its other place, where it has two; then, of a word with which no file goes on, what is expected
-- there; and then, on a line of its own, what to change
pub record IsExplanation (z : List ℕ) (e : ReadFault) (t : List ℕ) : Type 0 where
  pub place : List ℕ
  pub is_place : IsPlaceTold z e place
  pub other : List ℕ
  pub is_other : IsOtherTold z e other
  pub wanted : List ℕ
  pub is_wanted : IsExpectedTold z e wanted
  pub change : List ℕ
  pub is_change : IsAdvice z e change
  pub text : t ≡ place ++ (other ++ (wanted ++ (change ++ (10 ∷ []))))
