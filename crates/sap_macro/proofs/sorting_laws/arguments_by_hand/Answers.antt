use Rattle.std.proofs.Common.{refl}
use Rattle.std.proofs.lemmas.Bool.{false≢true}
use Rattle.sap_macro.proofs.sorting_laws.arguments_by_hand.Goals as goal

pub returns-clause-nothing_asked : goal.returns-clause-nothing_asked
returns-clause-nothing_asked c = tt

pub returns-clause-pattern : goal.returns-clause-pattern
returns-clause-pattern c = (refl, (refl, tt))

pub returns-clause-new_name : goal.returns-clause-new_name
returns-clause-new_name c = (refl, tt)

pub returns-clause-above : goal.returns-clause-above
returns-clause-above c = (refl, tt)

pub returns-clause-open : goal.returns-clause-open
returns-clause-open c = λ h. false≢true h.0

pub returns-clause-beside : goal.returns-clause-beside
returns-clause-beside c = λ h. false≢true h.1.0

pub returns-clause-found : goal.returns-clause-found
returns-clause-found c = ((refl, tt), (refl, tt))

pub returns-clause-other_branch : goal.returns-clause-other_branch
returns-clause-other_branch c = λ h. false≢true h.1.0
