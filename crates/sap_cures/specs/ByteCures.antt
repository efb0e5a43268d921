-- What to write at a byte that begins no token, by the bytes round it. 10 is a line feed, 39 a quote.
use Rattle.std.specs.Prelude.{ℕ, Bool, false, not, ◌&&◌, ◌==◌, ◌-◌, List, [], ◌∷◌, drop, take, length, Option, None, Some, if◌then◌else◌}
use Rattle.std.specs.Option.{option_or}
use Rattle.std.specs.Str.{bytes_eq}
use Rattle.sap_cures.specs.Tests.{ByteRow}
use Rattle.sap_cures.specs.ByteRows.{mark_rows, sign_rows}

-- whether a quote is open behind a byte, where one was open before it or none
abbrev pub is_open_behind : Bool → ℕ → Bool
is_open_behind quoted b = if b == 10 then false else if b == 39 then not quoted else quoted

abbrev pub is_open_after : Bool → List ℕ → Bool
is_open_after quoted [] = quoted
is_open_after quoted (b ∷ z) = is_open_after (is_open_behind quoted b) z

-- a quote is open behind the bytes: an odd number of them stands on their last line
abbrev pub is_in_quotes : List ℕ → Bool
is_in_quotes z = is_open_after false z

-- the part stands first in the bytes, and last
abbrev pub stands_first : List ℕ → List ℕ → Bool
stands_first p z = bytes_eq (take (length p) z) p

abbrev pub stands_last : List ℕ → List ℕ → Bool
stands_last p z = bytes_eq (drop (length z - length p) z) p

-- the row fits between bytes: what it has before stands last in the ones, and what it has from there on first in the others
abbrev pub fits : List ℕ → List ℕ → ByteRow → Bool
fits before from r = stands_last r.0 before && stands_first r.1 from

-- what the first of the rows says that fits
abbrev pub first_cure : List ℕ → List ℕ → List ByteRow → Option (List ℕ)
first_cure before from [] = None
first_cure before from (r ∷ rs) = if fits before from r then Some r.2 else first_cure before from rs

-- what to write at this offset: in quotes no row says it
abbrev pub byte_cure : List ℕ → ℕ → Option (List ℕ)
byte_cure z at =
    if is_in_quotes (take at z)
    then None
    else option_or (first_cure (take at z) (drop at z) mark_rows) (first_cure (take at z) (drop at z) sign_rows)
