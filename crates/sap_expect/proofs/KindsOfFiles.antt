-- What may stand behind small files.
use Rattle.std.proofs.Common.{[], ◌∷◌, refl}
use Rattle.std.specs.Prelude.{codes}
use Rattle.sap_expect.specs.ItemExamples.{headed, running}
use Rattle.sap_expect.specs.KindExamples.{behind_out, behind_variable, in_longer_tuple, in_tuple}
use Rattle.sap_expect.specs.Kinds.{a_process, a_term, an_item, this_mark}
use Rattle.sap_expect.specs.MayStand.{IsWantedList}
use Rattle.sap_expect.proofs.KindsByHand.{computed}

pub after_header : IsWantedList (headed []) (an_item ∷ this_mark (codes "end") ∷ [])
after_header = computed (headed []) (an_item ∷ this_mark (codes "end") ∷ []) refl refl refl refl

pub after_process : IsWantedList (running []) (a_process ∷ [])
after_process = computed (running []) (a_process ∷ []) refl refl refl refl

pub after_out : IsWantedList behind_out (a_term ∷ [])
after_out = computed behind_out (a_term ∷ []) refl refl refl refl

pub after_variable : IsWantedList behind_variable (this_mark (codes ",") ∷ this_mark (codes "(") ∷ this_mark (codes ")") ∷ [])
after_variable = computed behind_variable (this_mark (codes ",") ∷ this_mark (codes "(") ∷ this_mark (codes ")") ∷ []) refl refl refl refl

pub after_part : IsWantedList in_tuple (this_mark (codes ",") ∷ [])
after_part = computed in_tuple (this_mark (codes ",") ∷ []) refl refl refl refl

pub after_second_part : IsWantedList in_longer_tuple (this_mark (codes ",") ∷ this_mark (codes ">") ∷ [])
after_second_part = computed in_longer_tuple (this_mark (codes ",") ∷ this_mark (codes ">") ∷ []) refl refl refl refl
