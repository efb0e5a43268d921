use Rattle.std.proofs.Common.{refl}
use Rattle.sap_read_places.specs.PartExamples.{decrypts, reserved_name, two_faults, unbound_time}
use Rattle.sap_read_places.specs.PartPlaces.{faulty_here, faulty_later}
use Rattle.sap_read_places.proofs.PartsByHand.{all_stated, function_at, is_among, is_this, is_told, name_at, none_faulty, number_at, only_told, symbol_at, time_at}
use Rattle.sap_read_places.proofs.part_laws.parts_by_hand.Goals as goal

pub returns-clause-here : goal.returns-clause-here
returns-clause-here c =
    let first = c.checks_by_hand.ensures.function_before in
    faulty_here {k = 8} first (number_at two_faults.words (function_at first.at first.here) refl)

pub returns-clause-later : goal.returns-clause-later
returns-clause-later c =
    let first = c.checks_by_hand.ensures.unbound.1.0 in
    faulty_later c.checks_by_hand.ensures.none.1.1.0 (faulty_here {k = 2} first (number_at unbound_time.words (time_at first.at first.here) refl))

pub returns-clause-reserved : goal.returns-clause-reserved
returns-clause-reserved c =
    let first = c.checks_by_hand.ensures.reserved.0 in
    faulty_later c.checks_by_hand.ensures.none.1.1.0 (faulty_here {k = 7} first (number_at reserved_name.words (name_at first.at first.here) refl))

pub returns-clause-signature : goal.returns-clause-signature
returns-clause-signature c =
    let first = c.checks_by_hand.ensures.with_its_equation in
    faulty_here {k = 10} first (number_at decrypts.words (symbol_at first.at first.here) refl)

pub returns-clause-nothing_else : goal.returns-clause-nothing_else
returns-clause-nothing_else c = is_this c.one_fault.ensures.fault c.one_fault.ensures.none (returns-clause-here c)

pub returns-clause-no_other_later : goal.returns-clause-no_other_later
returns-clause-no_other_later c = is_this c.one_fault.ensures.fault c.one_fault.ensures.none (returns-clause-later c)

pub returns-clause-none : goal.returns-clause-none
returns-clause-none c = none_faulty c.one_fault.ensures.none c.checks_by_hand.ensures.none.1.1.0

pub returns-clause-declared_alone : goal.returns-clause-declared_alone
returns-clause-declared_alone c = none_faulty c.one_fault.ensures.none c.checks_by_hand.ensures.declared_alone

pub returns-clause-statements : goal.returns-clause-statements
returns-clause-statements c = all_stated c.statements_and_words.ensures.same

pub returns-clause-told : goal.returns-clause-told
returns-clause-told c = λ z ts h. is_told h (returns-clause-later c)

pub returns-clause-told_alone : goal.returns-clause-told_alone
returns-clause-told_alone c = λ z ts h.
    only_told h c.one_parting.ensures.tokens c.one_parting.ensures.items c.one_list_of_items.ensures.own c.statements_and_words.ensures.same (returns-clause-nothing_else c)

pub returns-clause-not_told : goal.returns-clause-not_told
returns-clause-not_told c = λ z ts h y f t a.
    returns-clause-none c y f a.word
    (is_among h c.one_parting.ensures.tokens c.one_parting.ensures.items c.one_list_of_items.ensures.own c.statements_and_words.ensures.same a)
