-- Traces of small processes, step by step, and the same of their rules.
use Rattle.std.proofs.Common.{[], ◌∷◌, Some, refl}
use Rattle.std.specs.Prelude.{codes, None}
use Rattle.sap_terms.specs.AdversaryFacts.{k_fact}
use Rattle.sap_terms.specs.Equal.{IsTheoryEqual}
use Rattle.sap_terms.specs.Signature.{Sig, HoldsBuiltins}
use Rattle.sap_process.specs.Action.{event, delete, input}
use Rattle.sap_process.specs.Configuration.{Config, initial, becomes, spawns, stores}
use Rattle.sap_process.specs.Proc.{Proc, nil, replicated, act, lookup}
use Rattle.sap_process.specs.ProcessSteps.{ProcessStep, ProcessRun, IsProcessTrace}
use Rattle.sap_terms.specs.Tree.{variable}
use Rattle.sap_translate.specs.Examples.{term_a, term_k, term_v, x, y, plain_fact, no_fact, yes_fact, a_fact, b_fact, copied_twice, deleted_again, two_inputs}
use Rattle.sap_translate.specs.Faithful.{IsVisibleTrace}
use Rattle.sap_translate.specs.Members.{Member}
use Rattle.sap_translate.specs.Sound.{IsSound}
use Rattle.sap_templates.specs.Templates.{rules_of}
use Rattle.sap_translate.specs.relation.Spelled.{IsProcessOver}
use Rattle.sap_translate.proofs.ByHand.Parts.{sound_by_parts, rules_show, own_form, gives_name, all_named, names_messages}
use Rattle.sap_translate.proofs.Premises.LowerLaws.{Laws}

-- ! ! event A() shows A() twice, each in a copy of a copy of its own

abbrev inner : Proc
inner = replicated (act (event plain_fact) nil)

abbrev leaf : Proc
leaf = act (event plain_fact) nil

abbrev copies_made : Config
copies_made = spawns (spawns (spawns (spawns (initial copied_twice) inner) inner) leaf) leaf

copying : (g : Sig) → ProcessRun g (initial copied_twice) copies_made []
copying g =
    ProcessRun.further {c = spawns (spawns (spawns (initial copied_twice) inner) inner) leaf}
    (ProcessRun.further {c = spawns (spawns (initial copied_twice) inner) inner}
    (ProcessRun.further {c = spawns (initial copied_twice) inner}
    (ProcessRun.further {c = initial copied_twice} ProcessRun.starts (ProcessStep.copies 0 refl)) (ProcessStep.copies 0 refl)) (ProcessStep.copies 1 refl))
    (ProcessStep.copies 2 refl)

pub twice_copied : (g : Sig) → IsProcessTrace g copied_twice ((plain_fact ∷ []) ∷ (plain_fact ∷ []) ∷ [])
twice_copied g = (
  becomes (becomes copies_made 3 (Some nil)) 4 (Some nil),
  ProcessRun.further {c = becomes copies_made 3 (Some nil)}
      (ProcessRun.further {c = copies_made} (copying g) (ProcessStep.shows 3 refl (record { name = refl; persistent = refl; args = tt })))
      (ProcessStep.shows 4 refl (record { name = refl; persistent = refl; args = tt })),
)

pub twice_copied_rules : (laws : Laws) → (g : Sig) → HoldsBuiltins g → IsVisibleTrace g (rules_of copied_twice) ((plain_fact ∷ []) ∷ (plain_fact ∷ []) ∷ [])
twice_copied_rules laws g hold = (rules_show laws) g copied_twice hold (sound_by_parts g copied_twice ((refl, tt), tt) tt) ((refl, tt), tt) _ (twice_copied g)

-- what was deleted isn't found

abbrev pub asking : Proc
asking = lookup term_k x (act (event (yes_fact (variable x))) nil) (act (event no_fact) nil)

abbrev with_value : Config
with_value = stores (becomes (initial deleted_again) 0 (Some (act (delete term_k) asking))) term_k (Some term_v)

abbrev without_value : Config
without_value = stores (becomes with_value 0 (Some asking)) term_k None

pub not_found : (laws : Laws) → (g : Sig) → IsProcessTrace g deleted_again ((no_fact ∷ []) ∷ [])
not_found laws g = (
  becomes (becomes without_value 0 (Some (act (event no_fact) nil))) 0 (Some nil),
  ProcessRun.further {c = becomes without_value 0 (Some (act (event no_fact) nil))}
      (ProcessRun.further {c = without_value}
      (ProcessRun.further {c = with_value}
      (ProcessRun.further {c = initial deleted_again} ProcessRun.starts (ProcessStep.inserts 0 refl ((own_form laws) g (codes "k")) ((own_form laws) g (codes "v"))))
      (ProcessStep.deletes 0 refl ((own_form laws) g (codes "k")))) (ProcessStep.misses 0 refl ((own_form laws) g (codes "k")) refl))
      (ProcessStep.shows 0 refl (record { name = refl; persistent = refl; args = tt })),
)

pub deletes_sound : (g : Sig) → IsSound g deleted_again
deletes_sound g = sound_by_parts g deleted_again ((tt, tt, tt), (tt, ((tt, refl), ((refl, (Member.here, tt)), tt), ((refl, tt), tt)))) (tt, tt)

pub deletes_over : (g : Sig) → IsProcessOver g deleted_again
deletes_over g = ((tt, tt), (tt, (tt, ((refl, (tt, tt)), tt), ((refl, tt), tt))))

pub not_found_rules : (laws : Laws) → (g : Sig) → HoldsBuiltins g → IsVisibleTrace g (rules_of deleted_again) ((no_fact ∷ []) ∷ [])
not_found_rules laws g hold = (rules_show laws) g deleted_again hold (deletes_sound g) (deletes_over g) _ ((not_found laws) g)

-- both inputs take a message of their own, which the adversary was shown to know

abbrev shows_a : Proc
shows_a = act (event (a_fact (variable x))) nil

abbrev shows_b : Proc
shows_b = act (event (b_fact (variable y))) nil

abbrev waiting : Config
waiting = spawns (becomes (initial two_inputs) 0 (Some (act (input (variable x)) shows_a))) (act (input (variable y)) shows_b)

abbrev one_served : Config
one_served = becomes waiting 0 (Some (act (event (a_fact term_a)) nil))

abbrev both_served : Config
both_served = becomes one_served 1 (Some (act (event (b_fact term_a)) nil))

pub inputs_taken : (laws : Laws) → (g : Sig) → IsProcessTrace g two_inputs ((k_fact term_a ∷ []) ∷ (k_fact term_a ∷ []) ∷ (k_fact term_a ∷ []) ∷ [])
inputs_taken laws g = (
  both_served,
  ProcessRun.further {c = one_served}
      (ProcessRun.further {c = waiting}
      (ProcessRun.further {c = waiting}
      (ProcessRun.further {c = initial two_inputs} ProcessRun.starts (ProcessStep.splits 0 refl)) (ProcessStep.knows term_a ((gives_name laws) g waiting (codes "a"))))
      (ProcessStep.inputs 0 (all_named (codes "a")) refl ((gives_name laws) g waiting (codes "a")) (record { messages = (names_messages laws) g (codes "a"); equal = IsTheoryEqual.same })))
      (ProcessStep.inputs 1 (all_named (codes "a")) refl ((gives_name laws) g one_served (codes "a")) (record { messages = (names_messages laws) g (codes "a"); equal = IsTheoryEqual.same })),
)

pub inputs_sound : (g : Sig) → IsSound g two_inputs
inputs_sound g = sound_by_parts g two_inputs ((Member.here, ((refl, (Member.here, tt)), tt)), (Member.here, ((refl, (Member.here, tt)), tt))) (tt, tt)

pub inputs_over : (g : Sig) → IsProcessOver g two_inputs
inputs_over g = ((tt, ((refl, (tt, tt)), tt)), (tt, ((refl, (tt, tt)), tt)))

pub inputs_taken_rules : (laws : Laws) → (g : Sig) → HoldsBuiltins g → IsVisibleTrace g (rules_of two_inputs) ((k_fact term_a ∷ []) ∷ (k_fact term_a ∷ []) ∷ (k_fact term_a ∷ []) ∷ [])
inputs_taken_rules laws g hold = (rules_show laws) g two_inputs hold (inputs_sound g) (inputs_over g) _ ((inputs_taken laws) g)

-- each takes one, and shows its event

abbrev one_told : Config
one_told = becomes one_served 0 (Some nil)

abbrev other_served : Config
other_served = becomes one_told 1 (Some (act (event (b_fact term_a)) nil))

pub inputs_told : (laws : Laws) → (g : Sig) → IsProcessTrace g two_inputs ((k_fact term_a ∷ []) ∷ (a_fact term_a ∷ []) ∷ (k_fact term_a ∷ []) ∷ (b_fact term_a ∷ []) ∷ [])
inputs_told laws g = (
  becomes other_served 1 (Some nil),
  ProcessRun.further {c = other_served}
      (ProcessRun.further {c = one_told}
      (ProcessRun.further {c = one_served}
      (ProcessRun.further {c = waiting}
      (ProcessRun.further {c = initial two_inputs} ProcessRun.starts (ProcessStep.splits 0 refl))
      (ProcessStep.inputs 0 (all_named (codes "a")) refl ((gives_name laws) g waiting (codes "a")) (record { messages = (names_messages laws) g (codes "a"); equal = IsTheoryEqual.same })))
      (ProcessStep.shows 0 refl (record { name = refl; persistent = refl; args = ((own_form laws) g (codes "a"), tt) })))
      (ProcessStep.inputs 1 (all_named (codes "a")) refl ((gives_name laws) g one_told (codes "a")) (record { messages = (names_messages laws) g (codes "a"); equal = IsTheoryEqual.same })))
      (ProcessStep.shows 1 refl (record { name = refl; persistent = refl; args = ((own_form laws) g (codes "a"), tt) })),
)

pub inputs_told_rules : (laws : Laws) → (g : Sig) → HoldsBuiltins g → IsVisibleTrace g (rules_of two_inputs) ((k_fact term_a ∷ []) ∷ (a_fact term_a ∷ []) ∷ (k_fact term_a ∷ []) ∷ (b_fact term_a ∷ []) ∷ [])
inputs_told_rules laws g hold = (rules_show laws) g two_inputs hold (inputs_sound g) (inputs_over g) _ ((inputs_told laws) g)
