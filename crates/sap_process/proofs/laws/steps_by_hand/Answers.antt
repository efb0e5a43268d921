use Rattle.std.proofs.Common.{[], ◌∷◌, refl, subst, arith}
use Rattle.std.specs.Prelude.{codes}
use Rattle.sap_terms.specs.Equal.{same, next, forward}
use Rattle.sap_terms.specs.Piles.{one, nothing}
use Rattle.sap_terms.specs.Equations.{equations, first}
use Rattle.sap_process.specs.ProcessSteps.{ProcessStep, ends, splits, copies, makes_name, outputs, outputs_on, inputs, inputs_on, meets, agrees, differs, shows, inserts, deletes, finds, misses, locks, unlocks, embeds, adversary_makes, knows}
use Rattle.sap_process.specs.StepExamples.{a, b, first_of_pair, showing, alone, only, just, left_fact, right_fact, shown_fact, lasting_fact}
use Rattle.sap_process.specs.Action.{delete, unlock}
use Rattle.sap_process.specs.Configuration.{Config}
use Rattle.sap_process.specs.Proc.{act}
use Rattle.sap_process.proofs.StepLemmas.{first_form, own_form, names, names_messages, gives_public, gives_pair, sent_deducible, fresh_normal, no_other, a_differs, emptied, released, freed}
use Rattle.sap_process.proofs.laws.steps_by_hand.Goals as goal

pub returns-clause-ends : goal.returns-clause-ends
returns-clause-ends c = λ g. ends 0 refl

pub returns-clause-splits : goal.returns-clause-splits
returns-clause-splits c = λ g. splits 0 refl

pub returns-clause-copies : goal.returns-clause-copies
returns-clause-copies c = λ g. copies 0 refl

pub returns-clause-makes_name : goal.returns-clause-makes_name
returns-clause-makes_name c = λ g. makes_name 0 5 refl (no_other 4 5 (λ e. omega arith), no_other 3 5 (λ e. omega arith))

pub returns-clause-outputs : goal.returns-clause-outputs
returns-clause-outputs c = λ g. outputs 0 refl (first_form (equations g))

pub returns-clause-outputs_on : goal.returns-clause-outputs_on
returns-clause-outputs_on c = λ g. outputs_on 0 refl (own_form (equations g) (codes "c")) (gives_public g _ (codes "c")) (first_form (equations g))

pub returns-clause-inputs : goal.returns-clause-inputs
returns-clause-inputs c = inputs 0 names refl (gives_pair _ (codes "a") (codes "b")) (record { messages = names_messages _; equal = same })

pub returns-clause-inputs_on : goal.returns-clause-inputs_on
returns-clause-inputs_on c = inputs_on 0 names refl (gives_pair _ (codes "c") (codes "a")) (names_messages _) same

pub returns-clause-meets : goal.returns-clause-meets
returns-clause-meets c = λ g. meets 0 1 names refl refl same (record { messages = names_messages g; equal = same })

pub returns-clause-agrees : goal.returns-clause-agrees
returns-clause-agrees c = λ g. agrees 0 refl (next (forward first) same)

pub returns-clause-differs : goal.returns-clause-differs
returns-clause-differs c = λ g. differs 0 refl (a_differs (equations g))

pub returns-clause-shows : goal.returns-clause-shows
returns-clause-shows c = λ g. shows 0 refl (record { name = refl; persistent = refl; args = (first_form (equations g), tt) })

pub returns-clause-inserts : goal.returns-clause-inserts
returns-clause-inserts c = λ g. inserts 0 refl (first_form (equations g)) (own_form (equations g) (codes "b"))

pub returns-clause-deletes : goal.returns-clause-deletes
returns-clause-deletes c = λ g.
    let before : Config = record (alone (act (delete first_of_pair) (showing a))) { store = only a b } in
    subst (λ s. ProcessStep g before [] (record (alone (showing a)) { store = s })) (emptied a b)
    (deletes {c = before} 0 refl (first_form (equations g)))

pub returns-clause-finds : goal.returns-clause-finds
returns-clause-finds c = λ g. finds 0 refl (first_form (equations g)) refl

pub returns-clause-misses : goal.returns-clause-misses
returns-clause-misses c = λ g. misses 0 refl (own_form (equations g) (codes "b")) refl

pub returns-clause-locks : goal.returns-clause-locks
returns-clause-locks c = λ g. locks 0 refl (first_form (equations g)) refl

pub returns-clause-unlocks : goal.returns-clause-unlocks
returns-clause-unlocks c = λ g.
    let before : Config = record (alone (act (unlock first_of_pair 0) (showing b))) { held = just a } in
    subst (λ h. ProcessStep g before [] (record (alone (showing b)) { held = h })) (released a)
    (unlocks {c = before} 0 refl (first_form (equations g)))

pub returns-clause-unlocks_free : goal.returns-clause-unlocks_free
returns-clause-unlocks_free c = λ g.
    let before : Config = alone (act (unlock a 0) (showing b)) in
    subst (λ h. ProcessStep g before [] (record (alone (showing b)) { held = h })) (freed a)
    (unlocks {c = before} 0 refl (own_form (equations g) (codes "a")))

pub returns-clause-embeds : goal.returns-clause-embeds
returns-clause-embeds c = λ g. embeds 0 (0 ∷ []) names (left_fact a ∷ []) (shown_fact a ∷ []) (right_fact a ∷ []) refl (names_messages g)
    (record { name = refl; persistent = refl; args = (same, tt) }, tt)
    (one refl nothing)
    (record { name = refl; persistent = refl; args = (own_form (equations g) (codes "a"), tt) }, tt)
    (record { name = refl; persistent = refl; args = (own_form (equations g) (codes "a"), tt) }, tt)

pub returns-clause-embeds_lasting : goal.returns-clause-embeds_lasting
returns-clause-embeds_lasting c = λ g. embeds 0 (0 ∷ 0 ∷ []) names (lasting_fact a ∷ lasting_fact a ∷ []) [] [] refl (names_messages g)
    (record { name = refl; persistent = refl; args = (same, tt) }, (record { name = refl; persistent = refl; args = (same, tt) }, tt))
    (one refl (one refl nothing))
    tt
    tt

pub returns-clause-adversary_makes : goal.returns-clause-adversary_makes
returns-clause-adversary_makes c = λ g. adversary_makes 5 (no_other 4 5 (λ e. omega arith), no_other 3 5 (λ e. omega arith))

pub returns-clause-knows : goal.returns-clause-knows
returns-clause-knows c = λ g. knows _ (record { deducible = sent_deducible g [] 4; normal = fresh_normal (equations g) 4 })
