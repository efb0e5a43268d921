use Rattle.std.proofs.Common.{◌≡◌, drop}
use Rattle.sap_expect.specs.code.SeenWords.{seen}
use Rattle.std.specs.Prelude.{map}
use Rattle.sap_expect.specs.FileTable.{row_among}
use Rattle.sap_expect.specs.code.WantedView.{row_of}
use Rattle.sap_expect.proofs.walk.row_among.Given as goal

abbrev pub invariant-loop-row : goal.invariant-loop-row
invariant-loop-row l = row_among (map row_of l.rows) (seen l.word) ≡ row_among (map row_of (drop l.row-index l.rows)) (seen l.word)
