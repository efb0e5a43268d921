use Rattle.std.proofs.Common.{◌≡◌, true, false, ◌∙◌, sym}
use Rattle.std.specs.Prelude.{codes}
use Rattle.sap_grammar.specs.Words.{words_of, starts}
use Rattle.sap_theory.proofs.ItemTurns.{ruled_tried, declaration_added, stated_tried}
use Rattle.sap_theory.proofs.reading.items.read_item.Goals as goal

pub returns-then-starts : goal.returns-then-starts
returns-then-starts c =
    let begins : starts (codes "rule") (words_of c.args.bytes.now c.args.item.now) ≡ true = sym c.starts.ensures ∙ c.if-starts.true in
    ruled_tried c.args.sig.now c.args.bytes.now c.args.item.now c.args.contents.now.rules _ c.args.contents.now.statements c.read_ruled.result begins c.read_ruled.ensures

pub returns-then-branch : goal.returns-then-branch
returns-then-branch c =
    declaration_added c.item_laws.ensures c.args.sig.now c.args.bytes.now c.args.item.now c.args.contents.now.rules c.args.contents.now.statements (sym c.in_ok-is_declaration.ensures ∙ c.if-branch.true)

pub returns-else-branch : goal.returns-else-branch
returns-else-branch c =
    let begins : starts (codes "rule") (words_of c.args.bytes.now c.args.item.now) ≡ false = sym c.starts.ensures ∙ c.if-starts.false in
    stated_tried c.item_laws.ensures c.args.sig.now c.args.bytes.now c.args.item.now c.args.contents.now.rules c.args.contents.now.statements _ c.read_stated.result begins
    (sym c.in_ok-is_declaration.ensures ∙ c.if-branch.false) c.read_stated.ensures
