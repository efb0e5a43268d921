use Rattle.std.proofs.Common.{arith}
use Rattle.sap_formula.specs.Form.{LemmaForm}
use Rattle.sap_formula.specs.Laws.{IsClosed}
use Rattle.sap_replay.specs.Verdicts.{judged_lemmas}
use Rattle.sap_replay.proofs.Lines.{nothing_behind, lemma_behind, lemmas_put, each_at}
use Rattle.sap_replay.proofs.verdicts.push_lemmas.Goals as goal

pub loop-k-init : goal.loop-k-init
loop-k-init c = λ g m h. nothing_behind g c.args.trace.now (judged_lemmas c.args.lemmas.now) c.args.text.now

pub loop-k-preserved : goal.loop-k-preserved
loop-k-preserved c = λ g m h.
    lemma_behind g c.args.trace.now c.args.lemmas.now c.loop-k.k c.at.result.now _ _ _ c.at.ensures (c.loop-k.invariant g m h)
    (c.in_ok-push_lemma.ensures g m (each_at (λ (x : LemmaForm). IsClosed g x.formula) c.args.lemmas.now c.loop-k.k c.at.result.now h c.at.ensures))

pub returns : goal.returns
returns c = λ g m h. lemmas_put g c.args.trace.now c.args.lemmas.now c.loop-k.k _ _ (omega arith) (c.loop-k.invariant g m h)
