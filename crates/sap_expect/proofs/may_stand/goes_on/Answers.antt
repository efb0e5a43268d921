use Rattle.std.proofs.Common.{refl, subst}
use Rattle.sap_grammar.specs.Words.{Word}
use Rattle.sap_expect.specs.FileTable.{every_level}
use Rattle.sap_expect.specs.code.Attempts.{on_top}
use Rattle.sap_expect.specs.code.Going.{witness_of}
use Rattle.sap_expect.specs.code.SeenWords.{seen}
use Rattle.sap_expect.specs.code.Steps.{Taken}
use Rattle.sap_expect.specs.code.WantedView.{stacked}
use Rattle.sap_expect.proofs.KindRows.{taken_can}
use Rattle.sap_expect.proofs.SeenTokens.{seen_witness}
use Rattle.sap_expect.proofs.may_stand.goes_on.Goals as goal

pub returns : goal.returns
returns c =
    taken_can every_level c.args.walk.now.levels c.goes.new.self.levels (stacked c.args.walk.now.stack.items) (stacked c.args.walk.now.stack.items)
    (stacked (on_top c.args.walk.now.stack.items c.goes.new.self.left c.goes.new.self.more.items)) (witness_of c.args.word) c.in_ok-taken.taken refl
    (subst (λ (w : Word). Taken every_level c.args.walk.now.levels (stacked c.args.walk.now.stack.items) w c.goes.new.self.levels
    (stacked (on_top c.args.walk.now.stack.items c.goes.new.self.left c.goes.new.self.more.items)) c.in_ok-taken.taken)
    (seen_witness c.args.word (seen c.look.result) c.as_bytes.result.now c.look.ensures c.as_bytes.ensures.value) c.in_ok-taken.ensures)
