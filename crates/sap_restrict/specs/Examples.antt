-- Small traces, to try the seven formulas by hand.
use Rattle.std.specs.Prelude.{[], ◌∷◌, List, map}
use Rattle.sap_formula.specs.Examples.{a, b}
use Rattle.sap_shapes.specs.ReservedFacts.{delete_fact, eq_fact, event_fact, init_fact, input_fact, insert_fact, is_in_fact, is_not_set_fact, lock_fact, not_eq_fact, unlock_fact}
use Rattle.sap_terms.specs.AdversaryFacts.{k_fact}
use Rattle.sap_terms.specs.Trace.{Trace}
use Rattle.sap_terms.specs.declared.fact.Fact.{Fact}

-- each fact at a time of its own
abbrev pub one_by_one : List Fact → Trace
one_by_one fs = map (λ f. f ∷ []) fs

-- Init()
abbrev pub started : Trace
started = one_by_one (init_fact ∷ [])

-- Init(), Init()
abbrev pub started_twice : Trace
started_twice = one_by_one (init_fact ∷ init_fact ∷ [])

-- Eq('a','a')
abbrev pub same_found_equal : Trace
same_found_equal = one_by_one (eq_fact a a ∷ [])

-- Eq('a','b')
abbrev pub different_found_equal : Trace
different_found_equal = one_by_one (eq_fact a b ∷ [])

-- NotEq('a','b')
abbrev pub different_found_different : Trace
different_found_different = one_by_one (not_eq_fact a b ∷ [])

-- NotEq('a','a')
abbrev pub same_found_different : Trace
same_found_different = one_by_one (not_eq_fact a a ∷ [])

-- Insert('a','b'), IsIn('a','b')
abbrev pub stored_found : Trace
stored_found = one_by_one (insert_fact a b ∷ is_in_fact a b ∷ [])

-- Insert('a','b'), Delete('a'), IsIn('a','b')
abbrev pub deleted_found : Trace
deleted_found = one_by_one (insert_fact a b ∷ delete_fact a ∷ is_in_fact a b ∷ [])

-- Insert('a','a'), Insert('a','b'), IsIn('a','a')
abbrev pub replaced_found : Trace
replaced_found = one_by_one (insert_fact a a ∷ insert_fact a b ∷ is_in_fact a a ∷ [])

-- IsIn('a','b'), Insert('a','b')
abbrev pub found_before : Trace
found_before = one_by_one (is_in_fact a b ∷ insert_fact a b ∷ [])

-- Insert('a','b'), Delete('a'), IsNotSet('a')
abbrev pub deleted_missed : Trace
deleted_missed = one_by_one (insert_fact a b ∷ delete_fact a ∷ is_not_set_fact a ∷ [])

-- Insert('a','b'), IsNotSet('a')
abbrev pub stored_missed : Trace
stored_missed = one_by_one (insert_fact a b ∷ is_not_set_fact a ∷ [])

-- Insert('a','b'), IsNotSet('b')
abbrev pub other_missed : Trace
other_missed = one_by_one (insert_fact a b ∷ is_not_set_fact b ∷ [])

-- Lock('a','b'), Unlock('a','b'), Lock('b','b')
abbrev pub locked_again : Trace
locked_again = one_by_one (lock_fact a b ∷ unlock_fact a b ∷ lock_fact b b ∷ [])

-- Lock('a','b'), Unlock('b','b'), Lock('b','b')
abbrev pub locked_while_held : Trace
locked_while_held = one_by_one (lock_fact a b ∷ unlock_fact b b ∷ lock_fact b b ∷ [])

-- K('a'), InEvent('a')
abbrev pub known_input : Trace
known_input = one_by_one (k_fact a ∷ input_fact a ∷ [])

-- InEvent('a')
abbrev pub unknown_input : Trace
unknown_input = one_by_one (input_fact a ∷ [])

-- K('a'), InEvent('a'), InEvent('a')
abbrev pub input_twice : Trace
input_twice = one_by_one (k_fact a ∷ input_fact a ∷ input_fact a ∷ [])

-- K('a'), Event(), InEvent('a')
abbrev pub input_after_event : Trace
input_after_event = one_by_one (k_fact a ∷ event_fact ∷ input_fact a ∷ [])

-- K('a'), K('b'), InEvent('a')
abbrev pub input_not_last : Trace
input_not_last = one_by_one (k_fact a ∷ k_fact b ∷ input_fact a ∷ [])
