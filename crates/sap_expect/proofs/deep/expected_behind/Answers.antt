use Rattle.std.specs.Prelude.{map, take}
use Rattle.sap_grammar.specs.Words.{words_of}
use Rattle.sap_expect.specs.Expected.{may_stand, too_deep}
use Rattle.sap_expect.specs.Kinds.{kind_of}
use Rattle.sap_expect.specs.code.WantedView.{stacked}
use Rattle.sap_expect.proofs.KindNames.{wanted_list}
use Rattle.sap_expect.proofs.deep.expected_behind.Goals as goal

pub returns-in-Some : goal.returns-in-Some
returns-in-Some c =
    let h = rw c.in-Some.is at c.in_ok-nested.ensures in
    too_deep h

pub returns-in_ok-kinds-in-None : goal.returns-in_ok-kinds-in-None
returns-in_ok-kinds-in-None c =
    let h = rw c.in-None.is at c.in_ok-nested.ensures in
    may_stand h (wanted_list (take c.args.k (words_of c.args.bytes.now c.args.tokens.now)) c.args.walk.now.levels (stacked c.args.walk.now.stack.items) c.requires.stands.0
    (map kind_of c.in_ok-kinds-in-None.kinds.items) c.in_ok-kinds-in-None.ensures)
