use Rattle.sap_explain.specs.Told.{by_words}
use Rattle.sap_explain.proofs.Nowhere.{words_nowhere}
use Rattle.sap_explain.proofs.told.told_by_words.Goals as goal

pub returns-in-Some-clause-place : goal.returns-in-Some-clause-place
returns-in-Some-clause-place c = by_words (rw c.in-Some.is at c.in_ok-word.ensures.place) c.new.ensures

pub returns-in-None-clause-none : goal.returns-in-None-clause-none
returns-in-None-clause-none c = λ e. words_nowhere c.args.bytes.now c.args.fault.now c.requires.no_path c.requires.unread (c.in_ok-word.ensures.none c.in-None.is)

pub returns-in-None-clause-told : goal.returns-in-None-clause-told
returns-in-None-clause-told c = λ h read e. c.in_ok-word.ensures.told h read c.in-None.is
