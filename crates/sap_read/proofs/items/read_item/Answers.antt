use Rattle.std.proofs.Common.{◌≡◌, false, ◌∙◌, sym}
use Rattle.std.specs.Prelude.{codes}
use Rattle.sap_grammar.specs.Words.{words_of, starts}
use Rattle.sap_read.proofs.ItemTurns.{declaration_added, said_tried, stated_tried}
use Rattle.sap_read.proofs.items.read_item.Goals as goal

pub returns-in_ok-read_definition : goal.returns-in_ok-read_definition
returns-in_ok-read_definition c =
    said_tried c.args.sig.now c.args.bytes.now c.args.item.now c.args.behind c.args.entries.now _ c.args.statements.now c.push.result c.in_ok-read_definition.field-0 c.in_ok-read_definition.ensures c.push.ensures.pushed

pub returns-in_ok-read_main : goal.returns-in_ok-read_main
returns-in_ok-read_main c =
    said_tried c.args.sig.now c.args.bytes.now c.args.item.now c.args.behind c.args.entries.now _ c.args.statements.now c.push-then-starts-2.result c.in_ok-read_main.field-0 c.in_ok-read_main.ensures
    c.push-then-starts-2.ensures.pushed

pub returns-then-branch : goal.returns-then-branch
returns-then-branch c =
    let no_name : starts (codes "let") (words_of c.args.bytes.now c.args.item.now) ≡ false = sym c.starts.ensures ∙ c.if-starts.false in
    let no_process : starts (codes "process") (words_of c.args.bytes.now c.args.item.now) ≡ false = sym c.starts-else-starts.ensures ∙ c.if-starts-2.false in
    declaration_added c.item_laws.ensures c.args.sig.now c.args.bytes.now c.args.item.now c.args.behind c.args.entries.now c.args.statements.now no_name no_process (sym c.in_ok-is_declaration.ensures ∙ c.if-branch.true)

pub returns-else-branch : goal.returns-else-branch
returns-else-branch c =
    let no_name : starts (codes "let") (words_of c.args.bytes.now c.args.item.now) ≡ false = sym c.starts.ensures ∙ c.if-starts.false in
    let no_process : starts (codes "process") (words_of c.args.bytes.now c.args.item.now) ≡ false = sym c.starts-else-starts.ensures ∙ c.if-starts-2.false in
    stated_tried c.item_laws.ensures c.args.sig.now c.args.bytes.now c.args.item.now c.args.behind c.args.entries.now c.args.statements.now _ c.read_stated.result no_name no_process
    (sym c.in_ok-is_declaration.ensures ∙ c.if-branch.false) c.read_stated.ensures
