use Rattle.sap_grammar.proofs.Cuts.{cut_sound, one_cut}
use Rattle.sap_grammar.proofs.laws.words_are_cut.Goals as goal

pub returns-clause-cut : goal.returns-clause-cut
returns-clause-cut c = cut_sound

pub returns-clause-one : goal.returns-clause-one
returns-clause-one c = one_cut
