use Rattle.sap_gen.proofs.ShownByHand as hand
use Rattle.sap_gen.proofs.trace_examples.short_traces_by_hand.Goals as goal

pub returns : goal.returns
returns c = record {
  known_before = λ f t run s e. hand.both_show f t _ _ (c.theories_keep_files.ensures.plain f run) (c.short_theories_keep_files.ensures f t run s) e (hand.told_before c.leaves_are_normal.ensures);
  known_behind = λ f t run s e. hand.both_show f t _ _ (c.theories_keep_files.ensures.plain f run) (c.short_theories_keep_files.ensures f t run s) e (hand.told_behind c.leaves_are_normal.ensures);
  drawn_known_before = λ f t run s e. hand.both_show f t _ _ (c.theories_keep_files.ensures.plain f run) (c.short_theories_keep_files.ensures f t run s) e (hand.drawn_before c.leaves_are_normal.ensures);
  drawn_known_behind = λ f t run s e. hand.both_show f t _ _ (c.theories_keep_files.ensures.plain f run) (c.short_theories_keep_files.ensures f t run s) e (hand.drawn_behind c.leaves_are_normal.ensures);
  ended = λ f t run s e. hand.both_show f t _ _ (c.theories_keep_files.ensures.plain f run) (c.short_theories_keep_files.ensures f t run s) e hand.alone_shown;
  one_behind_other = λ f t run s e. hand.both_show f t _ _ (c.theories_keep_files.ensures.plain f run) (c.short_theories_keep_files.ensures f t run s) e hand.in_turn;
  never_at_once = λ f t tr fs run s e m a b. hand.neither_shows f t _ tr (c.theories_keep_files.ensures.plain f run) (c.short_theories_keep_files.ensures f t run s) e (hand.never_both tr fs m a b);
}
