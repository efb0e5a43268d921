-- Where in the bytes of a file an offset stands, and what is shown of it. A byte 10 is a line feed, 32 a blank, 94 `^`.
use Rattle.std.specs.Prelude.{◌≡◌, ◌≤◌, ◌<◌, ℕ, ◌+◌, ◌-◌, ◌&&◌, ◌||◌, nat_le, codes, decimal, List, [], ◌∷◌, ◌++◌, length, take, drop, get_or, map, if◌then◌else◌}
use Rattle.std.proofs.Math.ListN.{replicate}
use Rattle.sap_text.specs.Tokens.{line_feeds}
use Rattle.sap_stretches.specs.declared.position.Position.{Position}
use Rattle.sap_stretches.specs.declared.stretch.Stretch.{Stretch}

-- a line feed stands at this offset
abbrev pub IsFeed : List ℕ → ℕ → Type 0
IsFeed z k = get_or z k 0 ≡ 10

-- the line in which an offset stands begins at `from`: the bytes begin there, or a line feed stands before it, and none stands
-- between it and the offset
pub record LineBegins (z : List ℕ) (at from : ℕ) : Type 0 where
  pub order : from ≤ at
  pub begins : (k : ℕ) → k + 1 ≡ from → IsFeed z k
  pub no_feed : (k : ℕ) → from ≤ k → k < at → IsFeed z k → ⊥

-- that line ends at `to`: the first line feed from the offset on stands there, or there is none and the bytes end there
pub record LineEnds (z : List ℕ) (at to : ℕ) : Type 0 where
  pub order : at ≤ to
  pub inside : to ≤ length z
  pub ends : to < length z → IsFeed z to
  pub no_feed : (k : ℕ) → at ≤ k → k < to → IsFeed z k → ⊥

-- the line's number is one more than the line feeds before the offset, the column one more than the bytes of its line before it
pub record IsPosition (z : List ℕ) (at : ℕ) (p : Position) : Type 0 where
  pub from : ℕ
  pub begins : LineBegins z at from
  pub line : p.line ≡ line_feeds (take at z) + 1
  pub column : p.column ≡ (at - from) + 1

-- where what is shown of a line begins: with the line, where it has at most 120 bytes; else up to 60 bytes before the offset
abbrev pub shown_from : (from to at : ℕ) → ℕ
shown_from from to at = if nat_le to (from + 120) then from
    else if nat_le at (from + 60) then from else at - 60

-- where it ends: with the line, or up to 60 bytes behind the offset
abbrev pub shown_to : (from to at : ℕ) → ℕ
shown_to from to at = if nat_le to (from + 120) then to
    else if nat_le to (at + 60) then to else at + 60

-- what is shown of a byte: itself, where it is printable ASCII, and else a blank
abbrev pub shown : ℕ → ℕ
shown b = if nat_le 32 b && nat_le b 126 then b else 32

-- how many bytes of the stretch stand before this end, or one where none does
abbrev pub carets : Stretch → ℕ → ℕ
carets s end = if nat_le end s.from || nat_le s.to s.from then 1
    else if nat_le s.to end then s.to - s.from else end - s.from

-- the bytes from one offset up to another as they are shown, and below them a caret below each that is of the stretch
abbrev pub picture : List ℕ → Stretch → (from to : ℕ) → List ℕ
picture z s from to =
    map shown (take (to - from) (drop from z)) ++ (10 ∷ [])
    ++ replicate (s.from - from) 32 ++ replicate (carets s to) 94 ++ (10 ∷ [])

-- the text names line and column of the stretch's first byte, and shows its line
pub record IsPlaceText (z : List ℕ) (s : Stretch) (t : List ℕ) : Type 0 where
  pub position : Position
  pub is_position : IsPosition z s.from position
  pub from : ℕ
  pub begins : LineBegins z s.from from
  pub to : ℕ
  pub ends : LineEnds z s.from to
  pub text : t ≡ codes "line " ++ decimal position.line ++ codes ", column "
      ++ decimal position.column ++ (10 ∷ [])
      ++ picture z s (shown_from from to s.from) (shown_to from to s.from)
