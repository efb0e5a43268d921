use Rattle.std.proofs.Common.{[], ◌∷◌, refl}
use Rattle.sap_read_places.specs.BodyFlawExamples.{q, r}
use Rattle.sap_read_places.proofs.BodyFlawByHand.{no_use_node, only_use_node, use_node_told}
use Rattle.sap_read_places.proofs.body_flaw_laws.body_flaws_by_hand.Goals as goal

pub returns-clause-name : goal.returns-clause-name
returns-clause-name c = λ g z ts spelled.
    use_node_told g z ts (1 ∷ []) r 28 (25 ∷ 18 ∷ []) c.seen_by_hand.ensures.through_both spelled 0 4 refl

pub returns-clause-argument : goal.returns-clause-argument
returns-clause-argument c = λ g z ts spelled.
    use_node_told g z ts (1 ∷ []) r 28 (25 ∷ 18 ∷ []) c.seen_by_hand.ensures.through_both spelled 1 2 refl

pub returns-clause-beside : goal.returns-clause-beside
returns-clause-beside c = λ g z ts spelled. use_node_told g z ts (2 ∷ 1 ∷ []) q 7 [] c.seen_by_hand.ensures.left spelled 1 2 refl

pub returns-clause-no_other_name : goal.returns-clause-no_other_name
returns-clause-no_other_name c = λ g z ts t spelled a.
    only_use_node g z ts (1 ∷ []) r 28 (25 ∷ 18 ∷ []) c.seen_by_hand.ensures.through_both spelled c.seen_places.ensures.one c.one_head.ensures 0 4 refl t a

pub returns-clause-no_other_argument : goal.returns-clause-no_other_argument
returns-clause-no_other_argument c = λ g z ts t spelled a.
    only_use_node g z ts (1 ∷ []) r 28 (25 ∷ 18 ∷ []) c.seen_by_hand.ensures.through_both spelled c.seen_places.ensures.one c.one_head.ensures 1 2 refl t a

pub returns-clause-no_other_beside : goal.returns-clause-no_other_beside
returns-clause-no_other_beside c = λ g z ts t spelled a.
    only_use_node g z ts (2 ∷ 1 ∷ []) q 7 [] c.seen_by_hand.ensures.left spelled c.seen_places.ensures.one c.one_head.ensures 1 2 refl t a

pub returns-clause-no_third : goal.returns-clause-no_third
returns-clause-no_third c = λ g z ts t spelled a.
    no_use_node g z ts (1 ∷ []) r 28 (25 ∷ 18 ∷ []) c.seen_by_hand.ensures.through_both spelled c.seen_places.ensures.one c.one_head.ensures 2 refl t a
