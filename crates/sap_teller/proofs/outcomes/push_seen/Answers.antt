use Rattle.std.proofs.Common.{ap, ◌∙◌, ◌++◌, nat_eq, true, map}
use Rattle.std.specs.Prelude.{slice_get}
use Rattle.sap_terms.specs.View.{tree}
use Rattle.sap_deduce.specs.Entries.{terms_of}
use Rattle.sap_tell.specs.ToldText.{knows_text, shows_text}
use Rattle.sap_teller.specs.code.Outcomes.{before_outcome, outcomes_from}
use Rattle.sap_teller.proofs.Pieces.{seen_known}
use Rattle.sap_teller.proofs.outcomes.push_seen.Goals as goal

pub returns-in_ok-push_known-in-Some-clause-text : goal.returns-in_ok-push_known-in-Some-clause-text
returns-in_ok-push_known-in-Some-clause-text c =
    let x = tree c.in-Some.x.now in
    let known = knows_text c.args.names.now c.args.number x in
    c.in_ok-push_known-in-Some.ensures ∙ ap (λ t. t ++ (before_outcome (nat_eq c.len-none.result 0) ++ known)) c.in_ok-push_shows.ensures
    ∙ ap (λ n. (c.args.text.now ++ outcomes_from true (map (shows_text c.args.names.now) c.args.label.now)) ++ (before_outcome (nat_eq n 0) ++ known)) c.len-none.ensures
    ∙ seen_known c.args.names.now c.args.text.now c.args.label.now c.args.number (slice_get (terms_of c.args.config.now.known) c.args.number) x c.in-Some.ensures
