-- Bytes between the marks of a picture: what is written for them, and what a text there stands for.
-- Bytes by their codes: 34 is `"`, 38 `&`, 39 `'`, 60 `<`, 62 `>`.
use Rattle.std.specs.Prelude.{◌≡◌, ◌==◌, ◌||◌, ℕ, Bool, false, not, cond, codes, List, [], ◌∷◌, ◌++◌, flat_map}

-- the byte has a meaning of its own between marks
abbrev pub has_meaning : ℕ → Bool
has_meaning x = (x == 34) || ((x == 38) || ((x == 39) || ((x == 60) || (x == 62))))

-- text between marks that stands for one byte: a reference for each byte that has a meaning of its own, and else the byte itself
pub data IsWrittenByte : List ℕ → ℕ → Type 0 where
  itself : (x : ℕ) → has_meaning x ≡ false → IsWrittenByte (x ∷ []) x
  quotation : IsWrittenByte (codes "&quot;") 34
  ampersand : IsWrittenByte (codes "&amp;") 38
  apostrophe : IsWrittenByte (codes "&apos;") 39
  less : IsWrittenByte (codes "&lt;") 60
  greater : IsWrittenByte (codes "&gt;") 62

-- text between marks, and the bytes that it stands for
pub data StandsFor : List ℕ → List ℕ → Type 0 where
  nothing : StandsFor [] []
  further : {t z : List ℕ} (p : List ℕ) (x : ℕ) → IsWrittenByte p x → StandsFor t z
      → StandsFor (p ++ t) (x ∷ z)

-- what is written for a byte
unfoldable pub escaped_byte : ℕ → List ℕ
escaped_byte x =
    cond (x == 34) (codes "&quot;")
    (cond (x == 38) (codes "&amp;")
    (cond (x == 39) (codes "&apos;")
    (cond (x == 60) (codes "&lt;")
    (cond (x == 62) (codes "&gt;") (x ∷ [])))))

-- and for each of these
abbrev pub escaped : List ℕ → List ℕ
escaped = flat_map escaped_byte

-- the byte begins or ends no mark and no value in one
abbrev pub is_no_mark : ℕ → Bool
is_no_mark x = not ((x == 34) || ((x == 39) || ((x == 60) || (x == 62))))
