use Rattle.std.proofs.Common.{◌≡◌, ℕ, List, ap, ◌∙◌, ◌++◌, OnOk, subst, true}
use Rattle.std.specs.Prelude.{slice_get}
use Rattle.sap_deduce.specs.Entries.{terms_of}
use Rattle.sap_teller.specs.code.Doings.{action_of, outcomes_of}
use Rattle.sap_teller.specs.code.Outcomes.{outcomes_from, shown_texts}
use Rattle.sap_teller.proofs.Pieces.{body_pushed}
use Rattle.sap_teller.proofs.telling.push_body.Goals as goal

pub returns : goal.returns
returns c =
    let shown = shown_texts c.args.names.now c.args.label.now c.args.entries (slice_get (terms_of c.args.config.now.known) c.args.entries) in
    let others = outcomes_of c.args.names.now c.args.doing.now in
    let action = action_of c.args.names.now c.args.label.now c.args.doing.now in
    let same = ap (λ t. t ++ outcomes_from c.in_ok-first.first others) c.in_ok-first.ensures.text
    ∙ ap (λ t. (t ++ outcomes_from true shown) ++ outcomes_from c.in_ok-first.first others) c.in_ok-push_action.ensures
    ∙ ap (λ b. ((c.args.text.now ++ action) ++ outcomes_from true shown) ++ outcomes_from b others) c.in_ok-first.ensures.first
    ∙ body_pushed c.args.text.now action shown others in
    subst (λ (t : List ℕ). OnOk c.push_outcomes.result (c.push_outcomes.new.text ≡ t)) same c.push_outcomes.ensures
