use Rattle.std.proofs.Common.{ℕ, codes, decimal, List, ◌++◌, ◌∙◌, ap}
use Rattle.sap_tell.specs.Escaped.{escaped}
use Rattle.sap_chart.specs.Rows.{shortened}
use Rattle.sap_chart.proofs.Pushed.{ok_along, behind_two}
use Rattle.sap_chart.proofs.lifelines.push_head.Goals as goal

pub returns : goal.returns
returns c =
    let start = codes "<g transform='translate(" in
    let one = codes ",0)'><title>" in
    let two = codes "</title><line y1='32' y2='100%' stroke='black' stroke-dasharray='2,4'/><text y='24' text-anchor='middle'>" in
    let end = codes "</text></g>\n" in
    let name = escaped c.args.name.now in
    let short : List ℕ = c.as_bytes.result.now in
    ok_along c.push_bytes.result c.push_bytes.new.self _ _
    (behind_two c.push_spelled.new.text c.push_spelled-2.new.text two (escaped short) end c.in_ok-push_spelled-2.ensures
    ∙ behind_two c.push_numbered.new.text c.push_spelled.new.text one name (two ++ (escaped short ++ end)) c.in_ok-push_spelled.ensures
    ∙ behind_two c.args.text.now c.push_numbered.new.text start (decimal c.in_ok-x.x) (one ++ (name ++ (two ++ (escaped short ++ end)))) c.in_ok-push_numbered.ensures
    ∙ (λ i. c.args.text.now ++ (start ++ (decimal (c.in_ok-x.ensures.value i) ++ (one ++ (name ++ (two ++ (escaped ((c.as_bytes.ensures ∙ c.in_ok-short.ensures.value ∙ ap (shortened 18) c.head_of.ensures) i) ++ end))))))))
    c.push_bytes.ensures.ok
