use Rattle.std.proofs.Common.{ℕ, List, subst}
use Rattle.sap_outside.specs.Pieces.{pieces}
use Rattle.sap_outside.specs.Stream.{Gained}
use Rattle.sap_replay.specs.Sample.{sample_text}
use Rattle.sap_tool.specs.ToldAtOnce.{sample, help}
use Rattle.sap_tool.proofs.at_once_laws.samples_and_help_are_told.Goals as goal

pub returns-clause-sample : goal.returns-clause-sample
returns-clause-sample c = λ k n is given.
    subst (λ (t : List ℕ). Gained k.out (pieces t) t) (c.one_text_at_once.ensures k.words given.text (sample_text n) given.asked (sample n is)) given.out

pub returns-clause-help : goal.returns-clause-help
returns-clause-help c = λ k text is given.
    subst (λ (t : List ℕ). Gained k.out (pieces t) t) (c.one_text_at_once.ensures k.words given.text text given.asked (help text is)) given.out

pub returns-clause-must_sample : goal.returns-clause-must_sample
returns-clause-must_sample c = λ k status n promises is open_out. promises.must_tell (sample_text n) (sample n is) open_out

pub returns-clause-must_help : goal.returns-clause-must_help
returns-clause-must_help c = λ k status text promises is open_out. promises.must_tell text (help text is) open_out
