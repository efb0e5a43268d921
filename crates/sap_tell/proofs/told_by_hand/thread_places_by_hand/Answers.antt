use Rattle.std.proofs.Common.{[], ◌∷◌, refl, inl, inr}
use Rattle.sap_terms.specs.Tree.{variable}
use Rattle.sap_process.specs.Places.{place}
use Rattle.sap_tell.proofs.PlacesByHand.{other_variable, other_form, further, nowhere}
use Rattle.sap_tell.specs.ToldExamples.{hi, showing, taking, x}
use Rattle.sap_tell.proofs.told_by_hand.thread_places_by_hand.Goals as goal

pub returns-clause-written : goal.returns-clause-written
returns-clause-written c = record { place = place (1 ∷ 1 ∷ []) tt (showing (variable x)); there = refl; choice = λ v. variable v; replaces = λ v. inr refl; is = refl }

pub returns-clause-replaced : goal.returns-clause-replaced
returns-clause-replaced c = record { place = place (1 ∷ 1 ∷ []) tt (showing (variable x)); there = refl; choice = λ v. hi; replaces = λ v. inl tt; is = refl }

pub returns-clause-at_root : goal.returns-clause-at_root
returns-clause-at_root c = record { place = place [] tt taking; there = refl; choice = λ v. variable v; replaces = λ v. inr refl; is = refl }

pub returns-clause-other_variable : goal.returns-clause-other_variable
returns-clause-other_variable c = other_variable

pub returns-clause-other_form : goal.returns-clause-other_form
returns-clause-other_form c = other_form

pub returns-clause-further : goal.returns-clause-further
returns-clause-further c = further

pub returns-clause-nowhere : goal.returns-clause-nowhere
returns-clause-nowhere c = nowhere
