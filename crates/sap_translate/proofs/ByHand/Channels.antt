-- Traces with a lock and with a channel that the adversary doesn't know, and the same of the rules.
use Rattle.std.proofs.Common.{◌≡◌, ◌<◌, ℕ, ◌+◌, List, [], ◌∷◌, ◌++◌, Some, true, false, refl, sym, subst, arith}
use Rattle.std.proofs.lemmas.Fmt.{decimal_digit}
use Rattle.std.specs.Prelude.{codes, decimal, Contains}
use Rattle.sap_terms.specs.AdversaryFacts.{k_fact}
use Rattle.sap_terms.specs.Equal.{IsTheoryEqual}
use Rattle.sap_terms.specs.Signature.{Sig, HoldsBuiltins}
use Rattle.sap_terms.specs.Tree.{Tree, fresh}
use Rattle.sap_terms.specs.declared.var.Sort.TheVariants.{Fresh}
use Rattle.sap_terms.specs.declared.var.Var.{Var}
use Rattle.sap_process.specs.Scopes.{lock_var}
use Rattle.sap_process.specs.Action.{event, lock, unlock, send, receive}
use Rattle.sap_process.specs.Configuration.{Config, initial, becomes, spawns, makes, holding}
use Rattle.sap_process.specs.Proc.{Proc, nil, parallel, act, test}
use Rattle.sap_process.specs.ProcessSteps.{ProcessStep, ProcessRun, IsProcessTrace}
use Rattle.sap_translate.specs.Examples.{term_a, term_m, term_s, x, g_fact, first_fact, second_fact, no_fact, locked_test, locked_twice, two_senders}
use Rattle.sap_translate.specs.Faithful.{IsVisibleTrace}
use Rattle.sap_translate.specs.Members.{Member}
use Rattle.sap_translate.specs.Scoped.{IsFree}
use Rattle.sap_translate.specs.Sound.{IsSound}
use Rattle.sap_templates.specs.Templates.{rules_of}
use Rattle.sap_translate.specs.relation.Spelled.{IsProcessOver}
use Rattle.sap_translate.proofs.ByHand.Parts.{sound_by_parts, rules_show, own_form, gives_name, all_named, names_messages}
use Rattle.sap_translate.proofs.Premises.LowerLaws.{Laws}

-- the lock is free, and is unlocked where the test finds 'a'

abbrev testing : Proc
testing = test term_a term_a (act (unlock term_s 1) nil) nil

abbrev before_lock : Config
before_lock = becomes (initial locked_test) 0 (Some (act (lock term_s 1) testing))

abbrev locked : Config
locked = holding (becomes before_lock 0 (Some testing)) term_s true

abbrev before_unlock : Config
before_unlock = becomes locked 0 (Some (act (unlock term_s 1) nil))

pub lock_taken : (laws : Laws) → (g : Sig) → IsProcessTrace g locked_test ((k_fact term_a ∷ []) ∷ [])
lock_taken laws g = (
  holding (becomes before_unlock 0 (Some nil)) term_s false,
  ProcessRun.further {c = before_unlock}
      (ProcessRun.further {c = locked}
      (ProcessRun.further {c = before_lock}
      (ProcessRun.further {c = initial locked_test} ProcessRun.starts
      (ProcessStep.inputs 0 (all_named (codes "a")) refl ((gives_name laws) g (initial locked_test) (codes "a")) (record { messages = (names_messages laws) g (codes "a"); equal = IsTheoryEqual.same })))
      (ProcessStep.locks 0 refl ((own_form laws) g (codes "s")) refl)) (ProcessStep.agrees 0 refl IsTheoryEqual.same))
      (ProcessStep.unlocks 0 refl ((own_form laws) g (codes "s"))),
)

pub test_sound : (g : Sig) → IsSound g locked_test
test_sound g = sound_by_parts g locked_test (Member.here, ((tt, refl, (refl, tt, (tt, tt), tt)), ((Member.here, tt), ((tt, Member.later Member.here), tt), tt))) ((Member.here, tt), tt)

pub test_over : (g : Sig) → IsProcessOver g locked_test
test_over g = (tt, (tt, (tt, tt, (tt, tt), tt)))

pub lock_taken_rules : (laws : Laws) → (g : Sig) → HoldsBuiltins g → IsVisibleTrace g (rules_of locked_test) ((k_fact term_a ∷ []) ∷ [])
lock_taken_rules laws g hold = (rules_show laws) g locked_test hold (test_sound g) (test_over g) _ ((lock_taken laws) g)

-- a lock that was given back is taken again

abbrev pub once_more : Proc
once_more = act (lock term_s 2) (act (event g_fact) nil)

abbrev pub given_back : Proc
given_back = act (unlock term_s 1) once_more

abbrev pub kept : Proc
kept = act (lock term_s 3) (act (event no_fact) nil)

abbrev pub testing_twice : Tree → Proc
testing_twice t = test t term_a given_back kept

abbrev waiting : Config
waiting = becomes (initial locked_twice) 0 (Some (act (lock term_s 1) (testing_twice term_a)))

abbrev taken : Config
taken = holding (becomes waiting 0 (Some (testing_twice term_a))) term_s true

abbrev agreed : Config
agreed = becomes taken 0 (Some given_back)

abbrev free : Config
free = holding (becomes agreed 0 (Some once_more)) term_s false

abbrev taken_again : Config
taken_again = holding (becomes free 0 (Some (act (event g_fact) nil))) term_s true

pub lock_taken_twice : (laws : Laws) → (g : Sig) → IsProcessTrace g locked_twice ((k_fact term_a ∷ []) ∷ (g_fact ∷ []) ∷ [])
lock_taken_twice laws g = (
  becomes taken_again 0 (Some nil),
  ProcessRun.further {c = taken_again}
      (ProcessRun.further {c = free}
      (ProcessRun.further {c = agreed}
      (ProcessRun.further {c = taken}
      (ProcessRun.further {c = waiting}
      (ProcessRun.further {c = initial locked_twice} ProcessRun.starts
      (ProcessStep.inputs 0 (all_named (codes "a")) refl ((gives_name laws) g (initial locked_twice) (codes "a")) (record { messages = (names_messages laws) g (codes "a"); equal = IsTheoryEqual.same })))
      (ProcessStep.locks 0 refl ((own_form laws) g (codes "s")) refl)) (ProcessStep.agrees 0 refl IsTheoryEqual.same))
      (ProcessStep.unlocks 0 refl ((own_form laws) g (codes "s")))) (ProcessStep.locks 0 refl ((own_form laws) g (codes "s")) refl))
      (ProcessStep.shows 0 refl (record { name = refl; persistent = refl; args = tt })),
)

-- the variable of a further lock is free where that of the first is in scope
abbrev lock_named : List ℕ → Var
lock_named digits = record { name = codes "sapic_lock" ++ digits; sort = Fresh }

one_digit : (n : ℕ) → n < 10 → IsFree (lock_named ((48 + n) ∷ [])) (x ∷ lock_named (49 ∷ []) ∷ []) → IsFree (lock_var n) (x ∷ lock_var 1 ∷ [])
one_digit n small free =
    let digit : 49 ∷ [] ≡ decimal 1 = sym (decimal_digit 1 (omega arith)) in
    subst (λ d. IsFree (lock_named d) (x ∷ lock_var 1 ∷ [])) (sym (decimal_digit n small)) (subst (λ d. IsFree (lock_named ((48 + n) ∷ [])) (x ∷ lock_named d ∷ [])) digit free)

pub locks_sound : (g : Sig) → IsSound g locked_twice
locks_sound g = sound_by_parts g locked_twice
    (Member.here, ((tt, refl, (refl, tt, (tt, (tt, (tt, tt))), (tt, (tt, tt)))), ((Member.here, tt), ((tt, Member.later Member.here), ((tt, one_digit 2 (omega arith) refl, (tt, tt)), ((refl, tt), tt))), ((tt, one_digit 3 (omega arith) refl, (tt, tt)), ((refl, tt), tt)))))
    ((Member.here, tt), tt)

pub locks_over : (g : Sig) → IsProcessOver g locked_twice
locks_over g = (tt, (tt, (tt, tt, (tt, (tt, ((refl, tt), tt))), (tt, ((refl, tt), tt)))))

pub lock_taken_twice_rules : (laws : Laws) → (g : Sig) → HoldsBuiltins g → IsVisibleTrace g (rules_of locked_twice) ((k_fact term_a ∷ []) ∷ (g_fact ∷ []) ∷ [])
lock_taken_twice_rules laws g hold = (rules_show laws) g locked_twice hold (locks_sound g) (locks_over g) _ ((lock_taken_twice laws) g)

-- the first sender and the receiver meet on the new channel; then the second sender shows its first event

abbrev sender : Proc
sender = act (send (fresh 1) term_m) nil

abbrev receiver : Proc
receiver = act (receive (fresh 1) term_m) (act (event g_fact) nil)

abbrev other : Proc
other = act (send (fresh 1) term_m) (act (event second_fact) nil)

abbrev late_sender : Proc
late_sender = act (event first_fact) other

abbrev with_channel : Config
with_channel = makes (becomes (initial two_senders) 0 (Some (parallel sender (parallel receiver late_sender)))) 1

abbrev split_once : Config
split_once = spawns (becomes with_channel 0 (Some sender)) (parallel receiver late_sender)

abbrev split : Config
split = spawns (becomes split_once 1 (Some receiver)) late_sender

abbrev met : Config
met = becomes (becomes split 0 (Some nil)) 1 (Some (act (event g_fact) nil))

abbrev got : Config
got = becomes met 1 (Some nil)

none_has : (n : ℕ) → Contains [] n → ⊥
none_has n h = let p : h.0 < 0 = h.1 in absurd (omega (arith, p))

pub senders_meet : (laws : Laws) → (g : Sig) → IsProcessTrace g two_senders ((g_fact ∷ []) ∷ (first_fact ∷ []) ∷ [])
senders_meet laws g = (
  becomes got 2 (Some other),
  ProcessRun.further {c = got}
      (ProcessRun.further {c = met}
      (ProcessRun.further {c = split}
      (ProcessRun.further {c = split_once}
      (ProcessRun.further {c = with_channel}
      (ProcessRun.further {c = initial two_senders} ProcessRun.starts (ProcessStep.makes_name 0 1 refl (none_has 1, none_has 1)))
      (ProcessStep.splits 0 refl)) (ProcessStep.splits 1 refl))
      (ProcessStep.meets 0 1 (all_named (codes "m")) refl refl IsTheoryEqual.same (record { messages = (names_messages laws) g (codes "m"); equal = IsTheoryEqual.same })))
      (ProcessStep.shows 1 refl (record { name = refl; persistent = refl; args = tt })))
      (ProcessStep.shows 2 refl (record { name = refl; persistent = refl; args = tt })),
)

pub senders_sound : (g : Sig) → IsSound g two_senders
senders_sound g = sound_by_parts g two_senders
    (refl, (((Member.here, tt, refl), tt), (((Member.here, refl, tt), ((refl, tt), tt)), ((refl, tt), ((Member.here, tt, refl), ((refl, tt), tt))))))
    (tt, (tt, tt))

pub senders_over : (g : Sig) → IsProcessOver g two_senders
senders_over g = (tt, (((tt, tt), tt), ((tt, ((refl, tt), tt)), ((refl, tt), ((tt, tt), ((refl, tt), tt))))))

pub senders_meet_rules : (laws : Laws) → (g : Sig) → HoldsBuiltins g → IsVisibleTrace g (rules_of two_senders) ((g_fact ∷ []) ∷ (first_fact ∷ []) ∷ [])
senders_meet_rules laws g hold = (rules_show laws) g two_senders hold (senders_sound g) (senders_over g) _ ((senders_meet laws) g)

-- or the second sender and the receiver meet; then both go on

abbrev first_shown : Config
first_shown = becomes split 2 (Some other)

abbrev met_other : Config
met_other = becomes (becomes first_shown 2 (Some (act (event second_fact) nil))) 1 (Some (act (event g_fact) nil))

abbrev got_other : Config
got_other = becomes met_other 1 (Some nil)

pub other_meets : (laws : Laws) → (g : Sig) → IsProcessTrace g two_senders ((first_fact ∷ []) ∷ (g_fact ∷ []) ∷ (second_fact ∷ []) ∷ [])
other_meets laws g = (
  becomes got_other 2 (Some nil),
  ProcessRun.further {c = got_other}
      (ProcessRun.further {c = met_other}
      (ProcessRun.further {c = first_shown}
      (ProcessRun.further {c = split}
      (ProcessRun.further {c = split_once}
      (ProcessRun.further {c = with_channel}
      (ProcessRun.further {c = initial two_senders} ProcessRun.starts (ProcessStep.makes_name 0 1 refl (none_has 1, none_has 1)))
      (ProcessStep.splits 0 refl)) (ProcessStep.splits 1 refl))
      (ProcessStep.shows 2 refl (record { name = refl; persistent = refl; args = tt })))
      (ProcessStep.meets 2 1 (all_named (codes "m")) refl refl IsTheoryEqual.same (record { messages = (names_messages laws) g (codes "m"); equal = IsTheoryEqual.same })))
      (ProcessStep.shows 1 refl (record { name = refl; persistent = refl; args = tt })))
      (ProcessStep.shows 2 refl (record { name = refl; persistent = refl; args = tt })),
)

pub other_meets_rules : (laws : Laws) → (g : Sig) → HoldsBuiltins g → IsVisibleTrace g (rules_of two_senders) ((first_fact ∷ []) ∷ (g_fact ∷ []) ∷ (second_fact ∷ []) ∷ [])
other_meets_rules laws g hold = (rules_show laws) g two_senders hold (senders_sound g) (senders_over g) _ ((other_meets laws) g)
