use Rattle.std.proofs.Common.{ℕ, codes, decimal, List, ◌++◌, ◌∙◌}
use Rattle.sap_tell.specs.Escaped.{escaped}
use Rattle.sap_chart.proofs.Pushed.{ok_along, behind, behind_two}
use Rattle.sap_chart.specs.ChartText.{entry_text, figure_text, margin_text}
use Rattle.sap_chart.proofs.rows.push_row.Goals as goal

pub returns : goal.returns
returns c =
    let short : List ℕ = c.as_bytes.result.now in
    let margin = margin_text c.args.number c.args.figure in
    let entry = entry_text c.args.entry in
    let drawn = figure_text c.args.lifelines.now.entries c.args.figure in
    let end = codes "</g>\n" in
    let told = escaped c.args.told.now in
    let start = codes "<g transform='translate(0," in
    let one = codes ")'><title>" in
    let two = codes "</title>" in
    let last = drawn short ++ end in
    ok_along c.push_bytes-2.result c.push_bytes-2.new.self _ _
    (behind c.push_entry.new.text c.push_figure.new.text (drawn short) end c.in_ok-push_figure.ensures
    ∙ behind c.push_margin.new.text c.push_entry.new.text entry last c.in_ok-push_entry.ensures
    ∙ behind c.push_bytes.new.self c.push_margin.new.text margin (entry ++ last) c.in_ok-push_margin.ensures
    ∙ behind c.push_spelled.new.text c.push_bytes.new.self two (margin ++ (entry ++ last)) c.in_ok-push_bytes.ensures.ok
    ∙ behind_two c.push_numbered.new.text c.push_spelled.new.text one told (two ++ (margin ++ (entry ++ last))) c.in_ok-push_spelled.ensures
    ∙ behind_two c.args.text.now c.push_numbered.new.text start (decimal c.in_ok-y.y) (one ++ (told ++ (two ++ (margin ++ (entry ++ last))))) c.in_ok-push_numbered.ensures
    ∙ (λ i. c.args.text.now ++ (start ++ (decimal (c.in_ok-y.ensures i) ++ (one ++ (told ++ (two ++ (margin ++ (entry ++ (drawn ((c.as_bytes.ensures ∙ c.in_ok-short.ensures.value) i) ++ end)))))))))
    )
    c.push_bytes-2.ensures.ok
