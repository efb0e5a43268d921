-- What may stand at the limits of levels, behind other words of small files, and what mayn't.
use Rattle.std.proofs.Common.{[], ◌∷◌, refl, arith}
use Rattle.std.specs.Prelude.{codes}
use Rattle.std.specs.List.{list_any}
use Rattle.sap_terms.proofs.PlainLaws.Known.{clash}
use Rattle.sap_grammar.specs.Words.{mark}
use Rattle.sap_expect.specs.ItemExamples.{headed, running}
use Rattle.sap_expect.specs.KindExamples.{behind_builtins, behind_event, behind_new, behind_slash, deep_formula, deep_process, deep_term, in_tuple, no_file, whole_file}
use Rattle.sap_expect.specs.Kinds.{a_formula, a_name, a_process, a_term, a_zero, an_arity, an_item, capital_name, is_of, kinds, quoted_name, this_mark, this_name}
use Rattle.sap_expect.specs.MayStand.{IsWantedList, MayStand}
use Rattle.sap_expect.proofs.Ends.{all_lettered}
use Rattle.sap_expect.proofs.ItemsByHand.{computed as wrong_there}
use Rattle.sap_expect.proofs.KindCover.{all_named, only_named}
use Rattle.sap_expect.proofs.KindNames.{none_may}
use Rattle.sap_expect.proofs.KindReached.{none_wrong}
use Rattle.sap_expect.proofs.KindsByHand.{computed, not_this}
use Rattle.sap_expect.proofs.KindsOfFiles.{after_header, after_part, after_process}

pub after_builtins : IsWantedList behind_builtins (this_name (codes "hashing") ∷ this_name (codes "symmetric") ∷ this_name (codes "asymmetric") ∷ this_name (codes "signing") ∷ this_name (codes "revealing") ∷ [])
after_builtins = computed behind_builtins (this_name (codes "hashing") ∷ this_name (codes "symmetric") ∷ this_name (codes "asymmetric") ∷ this_name (codes "signing") ∷ this_name (codes "revealing") ∷ []) refl refl refl refl

pub after_slash : IsWantedList behind_slash (an_arity ∷ [])
after_slash = computed behind_slash (an_arity ∷ []) refl refl refl refl

pub after_event : IsWantedList behind_event (capital_name ∷ [])
after_event = computed behind_event (capital_name ∷ []) refl refl refl refl

pub after_new : IsWantedList behind_new (a_name ∷ this_mark (codes "~") ∷ [])
after_new = computed behind_new (a_name ∷ this_mark (codes "~") ∷ []) refl refl refl refl

pub after_file : IsWantedList whole_file []
after_file = computed whole_file [] refl refl refl refl

pub term_98 : IsWantedList (deep_term 98) (a_term ∷ [])
term_98 = computed (deep_term 98) (a_term ∷ []) refl refl refl refl

pub term_99 : IsWantedList (deep_term 99) (a_name ∷ quoted_name ∷ this_mark (codes "~") ∷ this_mark (codes "$") ∷ [])
term_99 = computed (deep_term 99) (a_name ∷ quoted_name ∷ this_mark (codes "~") ∷ this_mark (codes "$") ∷ []) refl refl refl refl

pub process_298 : IsWantedList (deep_process 298) (a_process ∷ [])
process_298 = computed (deep_process 298) (a_process ∷ []) refl refl refl refl

pub process_299 : IsWantedList (deep_process 299) (a_name ∷ a_zero ∷ [])
process_299 = computed (deep_process 299) (a_name ∷ a_zero ∷ []) refl refl refl refl

pub formula_98 : IsWantedList (deep_formula 98) (a_formula ∷ [])
formula_98 = computed (deep_formula 98) (a_formula ∷ []) refl refl refl refl

pub formula_99 : IsWantedList (deep_formula 99) (a_term ∷ this_mark (codes "#") ∷ [])
formula_99 = computed (deep_formula 99) (a_term ∷ this_mark (codes "#") ∷ []) refl refl refl refl

pub after_no_file : IsWantedList no_file []
after_no_file = none_may no_file (none_wrong no_file 3 (omega arith) (wrong_there no_file 3 (omega arith) refl refl)) kinds []

-- what isn't so

pub pair_98 : MayStand (deep_term 98) (mark (codes "<"))
pair_98 = only_named (deep_term 98) (a_term ∷ []) (mark (codes "<")) term_98 refl

pub no_pair_99 : MayStand (deep_term 99) (mark (codes "<")) → ⊥
no_pair_99 h =
    clash (list_any (λ k. is_of k (mark (codes "<"))) (a_name ∷ quoted_name ∷ this_mark (codes "~") ∷ this_mark (codes "$") ∷ []))
    (all_named (deep_term 99) (a_name ∷ quoted_name ∷ this_mark (codes "~") ∷ this_mark (codes "$") ∷ []) (mark (codes "<")) (all_lettered (deep_term 99) refl) tt term_99 h) refl

pub no_end_missing : IsWantedList (headed []) (an_item ∷ []) → ⊥
no_end_missing h = not_this (headed []) (an_item ∷ this_mark (codes "end") ∷ []) (an_item ∷ []) after_header (λ e. absurd (cc (e))) h

pub no_name_beside : IsWantedList (running []) (a_process ∷ a_name ∷ []) → ⊥
no_name_beside h = not_this (running []) (a_process ∷ []) (a_process ∷ a_name ∷ []) after_process (λ e. absurd (cc (e))) h

pub no_early_end : IsWantedList in_tuple (this_mark (codes ",") ∷ this_mark (codes ">") ∷ []) → ⊥
no_early_end h = not_this in_tuple (this_mark (codes ",") ∷ []) (this_mark (codes ",") ∷ this_mark (codes ">") ∷ []) after_part (λ e. absurd (cc (e))) h

pub no_term_99 : IsWantedList (deep_term 99) (a_term ∷ []) → ⊥
no_term_99 h =
    not_this (deep_term 99) (a_name ∷ quoted_name ∷ this_mark (codes "~") ∷ this_mark (codes "$") ∷ []) (a_term ∷ []) term_99 (λ e. absurd (cc (e))) h

pub no_other_order : IsWantedList behind_new (this_mark (codes "~") ∷ a_name ∷ []) → ⊥
no_other_order h = not_this behind_new (a_name ∷ this_mark (codes "~") ∷ []) (this_mark (codes "~") ∷ a_name ∷ []) after_new (λ e. absurd (cc (e))) h
