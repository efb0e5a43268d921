use Rattle.std.proofs.Common.{◌++◌}
use Rattle.sap_chart.proofs.Pushed.{ok_along}
use Rattle.sap_chart.specs.ChartText.{arrow_text}
use Rattle.sap_chart.proofs.rows.push_met.Goals as goal

pub returns : goal.returns
returns c =
    ok_along c.push_arrow.result c.push_arrow.new.text _ _
    (λ i. c.args.text.now ++ arrow_text (c.in_ok-from.ensures i) (c.in_ok-to.ensures i) c.args.label.now)
    c.push_arrow.ensures
