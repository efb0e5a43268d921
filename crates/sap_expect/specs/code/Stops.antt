-- Where the walk stops.
use Rattle.std.specs.Prelude.{◌≡◌, [], List, take}
use Rattle.sap_grammar.specs.Words.{Word}
use Rattle.sap_expect.specs.FileWords.{IsFileWords}
use Rattle.sap_expect.specs.FirstWrong.{IsFirstWrong}
use Rattle.sap_expect.specs.OpenMarks.{open_behind}
use Rattle.sap_expect.specs.declared.wrong.Stop.{Stop}
use Rattle.sap_expect.specs.code.Going.{StandsBehind}
use Rattle.sap_expect.specs.code.WantedView.{stacked}

-- at the first wrong word, behind those before it, of which this is open
pub record IsStop (ws : List Word) (s : Stop) : Type 0 where
  pub first : IsFirstWrong IsFileWords ws s.number
  pub stands : StandsBehind ws s.number s.way.walk.levels (stacked s.way.walk.stack.items)
  pub open_there : s.way.marks.items ≡ open_behind 0 [] (take s.number ws)
