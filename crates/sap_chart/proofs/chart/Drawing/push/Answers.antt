use Rattle.std.proofs.Common.{◌∙◌, ◌++◌, ℕ, List, codes}
use Rattle.sap_chart.specs.ChartText.{head_text, heads_text, start_text}
use Rattle.sap_chart.proofs.Pushed.{ok_along, behind}
use Rattle.sap_chart.proofs.chart.Drawing.push.Goals as goal

pub returns : goal.returns
returns c =
    let d = c.args.self.now in
    let body : List ℕ = c.as_bytes.result.now in
    let end = codes "</svg>\n" in
    let heads = heads_text 1 d.lifelines.entries in
    let adversary = head_text 0 (codes "adversary") in
    let rest = adversary ++ (heads ++ (body ++ end)) in
    ok_along c.push_bytes-2.result c.push_bytes-2.new.self _ _
    (behind c.push_heads.new.text c.push_bytes.new.self body end c.in_ok-push_bytes.ensures.ok
    ∙ behind c.push_head.new.text c.push_heads.new.text heads (body ++ end) c.in_ok-push_heads.ensures
    ∙ behind c.push_start.new.text c.push_head.new.text adversary (heads ++ (body ++ end)) c.in_ok-push_head.ensures
    ∙ behind c.args.text.now c.push_start.new.text (start_text c.len.result d.rows) rest c.in_ok-push_start.ensures
    ∙ (λ i. c.args.text.now ++ (start_text (c.len.ensures.len i) d.rows ++ (adversary ++ (heads ++ (c.as_bytes.ensures i ++ end))))))
    c.push_bytes-2.ensures.ok
