use Rattle.std.proofs.Common.{◌≡◌, ◌<◌, ◌++◌, ℕ, List, codes, map, length, OnOk, ap, subst, ◌∙◌, arith}
use Rattle.sap_called.specs.NamedTerms.{named_fact}
use Rattle.sap_grammar.specs.FactText.{fact_text}
use Rattle.sap_grammar.specs.Pieces.{joined}
use Rattle.sap_called.proofs.Lists.{side-behind}
use Rattle.sap_called.proofs.facts.push_facts.Goals as goal

pub returns : goal.returns
returns c =
    let some : 0 < length c.args.facts.now = omega arith in
    let list = joined (codes ", ") (map (λ f. fact_text (named_fact c.args.names.now f)) c.args.facts.now) in
    let same =
    ap (λ z. z ++ codes " ]") (c.in_ok-push_each_fact.ensures ∙ ap (λ z. z ++ list) c.in_ok-push_bytes.ensures.ok) ∙ side-behind c.args.names.now c.args.text.now c.args.facts.now some in
    subst (λ (t : List ℕ). OnOk c.push_bytes-3.result (c.push_bytes-3.new.self ≡ t)) same c.push_bytes-3.ensures.ok
