use Rattle.std.proofs.Common.{refl}
use Rattle.std.specs.Prelude.{codes}
use Rattle.sap_read.specs.UndefinedExamples.{named_at}
use Rattle.sap_read.specs.declared.fault.ReadFault.TheVariants.{TwoProcesses}
use Rattle.sap_read_places.proofs.UndefinedByHand.{is_told, none_if_other, none_told, only_told}
use Rattle.sap_read_places.proofs.undefined_laws.undefined_by_hand.Goals as goal

pub returns-clause-second : goal.returns-clause-second
returns-clause-second c = λ z ts h. is_told c.located_items.ensures.plain h (named_at (codes "Q") 6) (λ ss o. refl) refl

pub returns-clause-later : goal.returns-clause-later
returns-clause-later c = λ z ts h. is_told c.located_items.ensures.plain h (named_at (codes "P") 9) (λ ss o. refl) refl

pub returns-clause-own : goal.returns-clause-own
returns-clause-own c = λ z ts h. is_told c.located_items.ensures.plain h (named_at (codes "P") 6) (λ ss o. refl) refl

pub returns-clause-nothing_else : goal.returns-clause-nothing_else
returns-clause-nothing_else c = λ z ts h.
    only_told c.located_items.ensures.plain h c.one_list_of_bodies.ensures.tokens c.one_list_of_bodies.ensures.bodies (named_at (codes "Q") 6) (λ ss o. refl) refl

pub returns-clause-none : goal.returns-clause-none
returns-clause-none c = λ z ts h. none_told c.located_items.ensures.plain h c.one_list_of_bodies.ensures.tokens c.one_list_of_bodies.ensures.bodies refl

pub returns-clause-not_before : goal.returns-clause-not_before
returns-clause-not_before c = λ z ts h.
    none_if_other c.located_items.ensures.plain h c.one_file.ensures (TwoProcesses 1) (λ ss o. refl) (λ x e. absurd (cc (e)))
