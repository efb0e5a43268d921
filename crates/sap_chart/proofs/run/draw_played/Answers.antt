use Rattle.std.proofs.Common.{◌≡◌}
use Rattle.std.proofs.lemmas.Result.{on_ok_weaker}
use Rattle.sap_chart.proofs.run.draw_played.Goals as goal

pub returns-clause-ok : goal.returns-clause-ok
returns-clause-ok c =
    on_ok_weaker c.draw_next.result
    (λ next. record { next = next; notes = c.in_ok-note_players.ensures.noted; count = c.in_ok-note_players.ensures.same }) c.draw_next.ensures.ok
