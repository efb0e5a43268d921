use Rattle.std.proofs.Common.{ℕ, true, take, sym, subst, ◌≡◌}
use Rattle.std.specs.List.{list_all}
use Rattle.sap_text.specs.Tokens.{is_not_feed}
use Rattle.sap_run_texts.proofs.Fronts.{front_passes}
use Rattle.sap_run_texts.proofs.reader.next_phase.Goals as goal

pub phase_with-requires-clause-no_feed : goal.phase_with-requires-clause-no_feed
phase_with-requires-clause-no_feed c =
    subst (λ (n : ℕ). list_all is_not_feed (take n c.args.bytes.now) ≡ true) (sym c.open_len-count.ensures.is) (front_passes is_not_feed c.args.bytes.now)
