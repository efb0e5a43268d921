use Rattle.std.proofs.Common.{ap}
use Rattle.std.specs.Prelude.{map}
use Rattle.sap_expect.specs.Kinds.{kind_of}
use Rattle.sap_expect.specs.code.Going.{kind_row_of}
use Rattle.sap_expect.specs.code.WantedView.{stacked}
use Rattle.sap_expect.proofs.KindRows.{four_named}
use Rattle.sap_expect.proofs.may_stand.named_kinds.Goals as goal

pub returns : goal.returns
returns c =
    four_named c.args.walk.now.levels (stacked c.args.walk.now.stack.items) (map kind_row_of c.wide_rows.result.now) (map kind_row_of c.sign_rows.result.now)
    (map kind_row_of c.word_rows.result.now) (map kind_row_of c.name_rows.result.now) c.wide_rows.ensures c.sign_rows.ensures c.word_rows.ensures c.name_rows.ensures
    (map kind_of c.new-list.result.items) (map kind_of c.push_named.new.list.items) (map kind_of c.push_named-2.new.list.items) (map kind_of c.push_named-3.new.list.items)
    (map kind_of c.push_named-4.new.list.items) (ap (map kind_of) c.new-list.ensures.items)
    c.in_ok-push_named.ensures c.in_ok-push_named-2.ensures c.in_ok-push_named-3.ensures c.in_ok-push_named-4.ensures
