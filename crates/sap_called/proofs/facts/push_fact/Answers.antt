use Rattle.std.proofs.Common.{◌≡◌, ◌++◌, ℕ, List, [], codes, map, OnOk, sym, ap, subst, ◌∙◌}
use Rattle.std.proofs.lemmas.List.{append-nil}
use Rattle.std.specs.Prelude.{if◌then◌else◌}
use Rattle.sap_called.specs.NamedTerms.{named}
use Rattle.sap_grammar.specs.Pieces.{joined}
use Rattle.sap_grammar.specs.TermText.{tree_text}
use Rattle.sap_called.proofs.Lists.{fact-behind}
use Rattle.sap_called.proofs.facts.push_fact.Goals.{then-fact+in_ok-push_byte, else-fact}
use Rattle.sap_called.proofs.facts.push_fact.Goals as goal

pub returns : goal.returns
returns c =
    let text = c.args.text.now in
    let f = c.args.fact.now in
    let args = joined (codes ",") (map (λ t. tree_text (named c.args.names.now t)) f.args) in
    let marked : c.if-fact.text ≡ text ++ (if f.persistent then codes "!" else []) =
    elim c.if-fact.branch [
      | then-fact+in_ok-push_byte w ↦ w.text-is ∙ w.in_ok-push_byte.ensures.ok ∙ ap (λ b. text ++ (if b then codes "!" else [])) (sym w.if-fact.true)
      | else-fact w ↦ w.text-is ∙ sym (append-nil text) ∙ ap (λ b. text ++ (if b then codes "!" else [])) (sym w.if-fact.false)
    ] in
    let same =
    ap (λ z. z ++ codes ")") (c.in_ok-push_terms.ensures
    ∙ ap (λ z. z ++ args) (c.in_ok-push_byte-2.ensures.ok ∙ ap (λ z. z ++ codes "(") (c.in_ok-push_bytes.ensures.ok ∙ ap (λ z. c.if-fact.text ++ z) c.as_bytes.ensures)))
    ∙ fact-behind c.args.names.now text c.if-fact.text f marked in
    subst (λ (t : List ℕ). OnOk c.push_byte-3.result (c.push_byte-3.new.self ≡ t)) same c.push_byte-3.ensures.ok
