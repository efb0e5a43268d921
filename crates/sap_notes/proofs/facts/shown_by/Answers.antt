use Rattle.std.proofs.Common.{List, ℕ, [], ap, ◌∙◌}
use Rattle.sap_terms.specs.NameSet.{with_name}
use Rattle.sap_process.specs.Proc.{proc}
use Rattle.sap_notes.specs.Facts.{process_shown}
use Rattle.sap_notes.specs.code.Gathered.{gathered}
use Rattle.sap_notes.proofs.facts.shown_by.Goals as goal

pub returns : goal.returns
returns c = c.in_ok-add_shown.ensures ∙ ap (λ (m : List (List ℕ)). gathered m (process_shown (proc c.args.p.now)))
    (c.in_ok-insert.ensures.ok ∙ (ap (λ (m : List (List ℕ)). with_name m c.in_ok-known.known) c.new-names.ensures ∙ ap (λ (n : List ℕ). with_name [] n) c.in_ok-known.ensures))
