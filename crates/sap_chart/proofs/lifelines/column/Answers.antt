use Rattle.std.proofs.Common.{◌≡◌, ◌+◌, List, nat_eq, ap, sym, ◌∙◌, length}
use Rattle.std.proofs.lemmas.List.{length-map}
use Rattle.std.specs.List.{position_or_len}
use Rattle.sap_chart.specs.ChartText.{Lifeline, drawn_threads}
use Rattle.sap_chart.proofs.Found.{not_found}
use Rattle.sap_chart.proofs.lifelines.column.Goals as goal

pub returns-in-None : goal.returns-in-None
returns-in-None c =
    let ls : List Lifeline = c.args.lifelines.now.entries in
    let none = not_found (nat_eq c.args.t) (drawn_threads ls) (sym c.get_index_of.ensures.index ∙ c.in-None.is) in
    let all : position_or_len (nat_eq c.args.t) (drawn_threads ls) ≡ length ls = none ∙ length-map ls (λ (l : Lifeline). l.0) in
    ap (λ n. n + 1) (c.len-count.ensures.len ∙ sym all)
