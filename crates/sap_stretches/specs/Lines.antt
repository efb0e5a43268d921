-- Lines of a file's bytes, each with an offset that stands in it.
use Rattle.std.specs.Prelude.{◌≡◌, ◌≤◌, ℕ, ◌+◌, List, length, take}
use Rattle.sap_text.specs.Tokens.{line_feeds}
use Rattle.sap_stretches.specs.Positions.{LineBegins, LineEnds}
use Rattle.sap_stretches.specs.declared.line.Line.{Line}

-- it is the line of its offset: it begins and ends where that line does, and its number is one more than the line feeds before the offset
pub record IsLineOf (z : List ℕ) (l : Line) : Type 0 where
  pub inside : l.at ≤ length z
  pub begins : LineBegins z l.at l.from
  pub ends : LineEnds z l.at l.to
  pub number : l.number ≡ line_feeds (take l.at z) + 1
