-- Which stretches of a file's bytes are told.
use Rattle.std.specs.Prelude.{◌≤◌, ◌-◌, ℕ, List, [], ◌∷◌, slice_get, take, drop, Option, Some, None}
use Rattle.sap_text.specs.declared.token.Token.{Token}
use Rattle.sap_stretches.specs.declared.stretch.Stretch.{Stretch}

-- the stretch is one of so many bytes
abbrev pub IsInBytes : ℕ → Stretch → Type 0
IsInBytes size s = (s.from ≤ s.to) × (s.to ≤ size)

-- one token's bytes; no byte, behind the last of the tokens
abbrev pub of_token : Token → Stretch
of_token t = record { from = t.from; to = t.to }

abbrev pub end_of : List Token → ℕ
end_of [] = 0
end_of (t ∷ []) = t.to
end_of (t ∷ u ∷ ts) = end_of (u ∷ ts)

-- the token of this number, or what stands behind them all
abbrev pub stretch_of : List Token → Option Token → Stretch
stretch_of ts (Some t) = of_token t
stretch_of ts None = record { from = end_of ts; to = end_of ts }

abbrev pub stretch_at : List Token → ℕ → Stretch
stretch_at ts k = stretch_of ts (slice_get ts k)

-- the bytes of a stretch: those from its first up to the one before its end
abbrev pub bytes_in : List ℕ → Stretch → List ℕ
bytes_in z s = take (s.to - s.from) (drop s.from z)
