-- Processes and their words, by hand.
use Rattle.std.proofs.Common.{◌≡◌, List, [], ◌∷◌, refl, sym, ◌∙◌, arith}
use Rattle.std.specs.Prelude.{codes}
use Rattle.sap_terms.specs.Signature.{Sig, pairs_alone}
use Rattle.sap_grammar.specs.Words.{Word, mark, name, quoted}
use Rattle.sap_grammar.specs.TermGrammar.{args_none, args_some, list_last, list_more, term_fresh, term_message, term_quoted, sorted, IsShort}
use Rattle.sap_grammar.specs.FactGrammar.{fact_linear, fact_persistent, facts_last, facts_more, facts_none, facts_some}
use Rattle.sap_draft.specs.ProcessGrammar.{IsPar, action_acts, action_input, action_lock, action_new_fresh, action_send, action_unlock, one_bar, par_more, par_one, seq_action, seq_call, seq_if, seq_if_else, seq_lookup, seq_lookup_else, seq_nil, seq_parentheses, seq_replicated, seq_then, seq_use, two_bars}
use Rattle.sap_draft.specs.ProcessExamples.{a, action_process, action_words, dangling_process, dangling_words, lookup_process, lookup_words, parallel_process, parallel_words, parted_process, parted_words, rule_process, rule_words, use_process, use_words, empty_use_words, comma_use_words, parted_use_words}
use Rattle.sap_draft.specs.LocatedProcesses.{IsLocated}
use Rattle.sap_draft.specs.LocatedExamples.{dangling_with, parted_with, parallel_with, grouped_words, grouped_with, actions_with, rule_with, lookup_with, only_found_words, only_found_with, use_with}
use Rattle.sap_grammar.specs.Sizes.{IsSmall, AreSmall}
use Rattle.sap_grammar.specs.Reading.{after, given, past}
use Rattle.sap_grammar.specs.TermReading.{short_term, term}
use Rattle.sap_terms.specs.declared.var.Sort.TheVariants.{Fresh}
use Rattle.sap_macro.specs.Written.{Written}
use Rattle.sap_macro.specs.Located.{Located}
use Rattle.sap_draft.specs.ProcessGrammar.{IsProcess}
use Rattle.sap_draft.specs.code.ProcessReading.{par}
use Rattle.sap_grammar.specs.TermLaws.{AreRead, AreSpelled}
use Rattle.sap_draft.proofs.Processes.{one_located}
use Rattle.sap_draft.proofs.WholeProcesses.{at_last, nothing_whole, no_other_whole}
use Rattle.sap_draft.specs.declared.limits.TheConstants.{FILE_LIMITS}
use Rattle.std.proofs.lemmas.List.Elements.{All-nil, All-cons}

short_a : (g : Sig) (ws : List Word) → IsShort g FILE_LIMITS a (quoted (codes "a") ∷ ws) ws
short_a g ws = record { spelled = term_quoted; small = record { few_levels = omega arith; few_nodes = tt } }

pub dangling_is : (g : Sig) → IsPar g FILE_LIMITS dangling_process 3 dangling_words []
dangling_is g = par_one (seq_if (short_a g _) (short_a g _) (seq_if_else (short_a g _) (short_a g _) seq_call seq_call))

pub parted_is : (g : Sig) → IsPar g FILE_LIMITS parted_process 4 parted_words []
parted_is g = par_one (seq_if_else (short_a g _) (short_a g _) (seq_parentheses (par_one (seq_if (short_a g _) (short_a g _) seq_call))) seq_call)

pub parallel_is : (g : Sig) → IsPar g FILE_LIMITS parallel_process 3 parallel_words []
parallel_is g = par_more one_bar seq_call (par_more two_bars seq_call (par_one seq_nil))

pub action_is : IsPar pairs_alone FILE_LIMITS action_process 5 action_words []
action_is =
    let y_is : IsShort pairs_alone FILE_LIMITS _ (name (codes "y") ∷ mark (codes ")") ∷ []) (mark (codes ")") ∷ []) = record { spelled = term_message (λ e. absurd (cc (e))); small = record { few_levels = omega arith; few_nodes = tt } } in
    let x_is : IsShort pairs_alone FILE_LIMITS _ _ _ = record { spelled = term_fresh; small = record { few_levels = omega arith; few_nodes = tt } } in
    par_one (seq_then action_new_fresh (seq_then (action_send x_is (short_a pairs_alone _)) (seq_replicated (seq_action (action_input y_is)))))

pub rule_is : (g : Sig) → IsPar g FILE_LIMITS rule_process 2 rule_words []
rule_is g =
    par_one (seq_action (action_acts
    (facts_some (facts_more
    (record { spelled = fact_linear refl (args_some (list_last term_quoted)); small = All-cons (IsSmall FILE_LIMITS) _ [] (record { few_levels = omega arith; few_nodes = tt }) (All-nil (IsSmall FILE_LIMITS)); sign = λ e. absurd (cc (e)) })
    (facts_last (record { spelled = fact_persistent refl args_none; small = All-nil (IsSmall FILE_LIMITS); sign = λ e. e }))))
    (facts_some (facts_last (record { spelled = fact_linear refl args_none; small = All-nil (IsSmall FILE_LIMITS); sign = λ e. absurd (cc (e)) })))
    facts_none))

pub lookup_is : (g : Sig) → IsPar g FILE_LIMITS lookup_process 3 lookup_words []
lookup_is g = par_one (seq_lookup_else (short_a g _) (seq_action (action_lock (short_a g _))) (seq_action (action_unlock (short_a g _))))

pub use_is : (g : Sig) → IsPar g FILE_LIMITS use_process 2 use_words []
use_is g =
    let small : AreSmall FILE_LIMITS (a ∷ sorted Fresh (codes "x") ∷ []) =
    All-cons (IsSmall FILE_LIMITS) a (sorted Fresh (codes "x") ∷ []) (record { few_levels = omega arith; few_nodes = tt })
    (All-cons (IsSmall FILE_LIMITS) (sorted Fresh (codes "x")) [] (record { few_levels = omega arith; few_nodes = tt }) (All-nil (IsSmall FILE_LIMITS))) in
    par_more one_bar (seq_use (list_more term_quoted (list_last term_fresh)) small) (par_one seq_call)

-- what isn't read is no process
module _ (read : AreRead) (spelled : AreSpelled) (g : Sig) where
  pub empty_use_isnt : (p : Written) → IsProcess g p empty_use_words → ⊥
  unfolding par after short_term term given
  empty_use_isnt p r = nothing_whole read spelled g empty_use_words refl g p r

  pub comma_use_isnt : (p : Written) → IsProcess g p comma_use_words → ⊥
  unfolding par after short_term term given
  comma_use_isnt p r = nothing_whole read spelled g comma_use_words refl g p r

  pub parted_use_isnt : (p : Written) → IsProcess g p parted_use_words → ⊥
  unfolding par after past
  parted_use_isnt p r = no_other_whole read spelled g parted_use_words _ _ refl (λ e. absurd (cc (e))) g p r

-- ---- the words that tell places

pub dangling_located : (g : Sig) → IsLocated g (dangling_with 13 8 13) dangling_words
unfolding dangling_is
dangling_located g = record { levels = 3; spelled = dangling_is g; places = refl }

pub parted_located : (g : Sig) → IsLocated g (parted_with 9) parted_words
unfolding parted_is
parted_located g = record { levels = 4; spelled = parted_is g; places = refl }

pub parallel_located : (g : Sig) → IsLocated g (parallel_with 4 2) parallel_words
unfolding parallel_is
parallel_located g = record { levels = 3; spelled = parallel_is g; places = refl }

pub grouped_located : (g : Sig) → IsLocated g (grouped_with 2 5) grouped_words
grouped_located g = record { levels = 4; spelled = par_more two_bars (seq_parentheses (par_more one_bar seq_call (par_one seq_call))) (par_one seq_nil); places = refl }

pub actions_located : IsLocated pairs_alone (actions_with 17 13 5 4) action_words
unfolding action_is
actions_located = record { levels = 5; spelled = action_is; places = refl }

pub rule_located : (g : Sig) → IsLocated g (rule_with 18 18) rule_words
unfolding rule_is
rule_located g = record { levels = 2; spelled = rule_is g; places = refl }

pub lookup_located : (g : Sig) → IsLocated g (lookup_with 10 5 2) lookup_words
unfolding lookup_is
lookup_located g = record { levels = 3; spelled = lookup_is g; places = refl }

pub only_found_located : (g : Sig) → IsLocated g (only_found_with 6 6) only_found_words
only_found_located g = record { levels = 2; spelled = par_one (seq_lookup (short_a g _) seq_call); places = refl }

pub uses_located : (g : Sig) → IsLocated g (use_with 9 2) use_words
unfolding use_is
uses_located g = record { levels = 2; spelled = use_is g; places = refl }

-- the same words have no other numbers
pub other : AreRead → {g : Sig} {w v : Located} {ws : List Word} → IsLocated g w ws → (w ≡ v → ⊥) → IsLocated g v ws → ⊥
other read r isnt s = let same = one_located read r.spelled s.spelled at_last at_last in isnt (sym r.places ∙ same.0 ∙ s.places)
