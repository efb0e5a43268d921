use Rattle.std.proofs.Common.{arith}
use Rattle.sap_formula.specs.Form.{LemmaForm}
use Rattle.sap_formula.specs.Laws.{IsClosed}
use Rattle.sap_verdicts.specs.Findings.{stated_lemma}
use Rattle.sap_verdicts.proofs.Finds.{before_all, one_found, all_found, each_at}
use Rattle.sap_verdicts.proofs.finding.find_lemmas.Goals as goal

pub loop-k-init : goal.loop-k-init
loop-k-init c = λ g m h. before_all stated_lemma g c.args.trace.now c.args.lemmas.now _

pub loop-k-preserved : goal.loop-k-preserved
loop-k-preserved c = λ g m h.
    one_found stated_lemma g c.args.trace.now c.args.lemmas.now c.loop-k.k c.at.result.now _ _ _ c.at.ensures (c.loop-k.invariant g m h)
    (c.in_ok-find_lemma.ensures g m (each_at (λ (x : LemmaForm). IsClosed g x.formula) c.args.lemmas.now c.loop-k.k c.at.result.now h c.at.ensures))

pub returns : goal.returns
returns c = λ g m h. all_found stated_lemma g c.args.trace.now c.args.lemmas.now c.loop-k.k _ _ (omega arith) (c.loop-k.invariant g m h)
