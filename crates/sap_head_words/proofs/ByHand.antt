-- Words of heads, by hand.
use Rattle.std.proofs.Common.{◌≡◌, ℕ, true, false, List, [], ◌∷◌, refl, arith}
use Rattle.std.specs.Prelude.{codes}
use Rattle.std.proofs.lemmas.List.Elements.{All-nil, All-cons}
use Rattle.sap_terms.specs.Signature.{Sig}
use Rattle.sap_terms.specs.Tree.{Tree, public}
use Rattle.sap_grammar.specs.Words.{Word, quoted, mark, name}
use Rattle.sap_grammar.specs.Sizes.{IsSmall, AreSmall}
use Rattle.sap_grammar.specs.TermGrammar.{IsShort, args_none, args_some, list_last, list_more, rest_last, term_fresh, term_quoted, term_tuple}
use Rattle.sap_grammar.specs.FactGrammar.{fact, IsShortFact, fact_linear, fact_persistent, facts_last, facts_more, facts_none, facts_some}
use Rattle.sap_draft.specs.declared.limits.TheConstants.{FILE_LIMITS}
use Rattle.sap_draft.specs.ProcessGrammar.{action_new, action_new_fresh, action_out, action_receive, action_event, action_insert, action_lock, action_rule, action_acts}
use Rattle.sap_macro.specs.Located.{Located}
use Rattle.sap_head_words.specs.HeadWords.{HeadWords, words_call, words_use, words_act, words_test, words_lookup}
use Rattle.sap_head_words.specs.Examples.{a, b, fresh_x, out_head, out_words, input_head, input_words, rule_head, rule_words, rule_with, arrow_head, arrow_words, fresh_head, fresh_words, new_head, new_words, event_head, event_words, insert_head, insert_words, lock_head, lock_words, lookup_head, lookup_words, test_head, test_words, use_head, use_words, bare_head, bare_words, one, two, three}

short_quoted : (g : Sig) (s : List ℕ) (ws : List Word) → IsShort g FILE_LIMITS (public s) (quoted s ∷ ws) ws
short_quoted g s ws = record { spelled = term_quoted; small = record { few_levels = omega arith; few_nodes = tt } }

short_fresh : (g : Sig) (ws : List Word) → IsShort g FILE_LIMITS fresh_x (mark (codes "~") ∷ name (codes "x") ∷ ws) ws
short_fresh g ws = record { spelled = term_fresh; small = record { few_levels = omega arith; few_nodes = tt } }

quoted_small : (s : List ℕ) → IsSmall FILE_LIMITS (public s)
quoted_small s = record { few_levels = omega arith; few_nodes = tt }

fresh_small : IsSmall FILE_LIMITS fresh_x
fresh_small = record { few_levels = omega arith; few_nodes = tt }

one_small : (t : Tree) → IsSmall FILE_LIMITS t → AreSmall FILE_LIMITS (t ∷ [])
one_small t h = All-cons (IsSmall FILE_LIMITS) t [] h (All-nil (IsSmall FILE_LIMITS))

-- `H ( 'b' )`
h_is : (g : Sig) (ws : List Word) → IsShortFact g FILE_LIMITS true (fact false (codes "H") (b ∷ [])) (name (codes "H") ∷ mark (codes "(") ∷ quoted (codes "b") ∷ mark (codes ")") ∷ ws) ws
h_is g ws = record { spelled = fact_linear refl (args_some (list_last term_quoted)); small = one_small b (quoted_small (codes "b")); sign = λ e. absurd (cc (e)) }

f_is : (g : Sig) (ws : List Word) → IsShortFact g FILE_LIMITS true (fact false (codes "F") (a ∷ [])) (name (codes "F") ∷ mark (codes "(") ∷ quoted (codes "a") ∷ mark (codes ")") ∷ ws) ws
f_is g ws = record { spelled = fact_linear refl (args_some (list_last term_quoted)); small = one_small a (quoted_small (codes "a")); sign = λ e. absurd (cc (e)) }

g_is : (g : Sig) (ws : List Word) → IsShortFact g FILE_LIMITS true (fact true (codes "G") (fresh_x ∷ []))
    (mark (codes "!") ∷ name (codes "G") ∷ mark (codes "(") ∷ mark (codes "~") ∷ name (codes "x") ∷ mark (codes ")") ∷ ws) ws
g_is g ws = record { spelled = fact_persistent refl (args_some (list_last term_fresh)); small = one_small fresh_x fresh_small; sign = λ e. e }

e_is : (g : Sig) (ws : List Word) → IsShortFact g FILE_LIMITS false (fact false (codes "E") []) (name (codes "E") ∷ mark (codes "(") ∷ mark (codes ")") ∷ ws) ws
e_is g ws = record { spelled = fact_linear refl args_none; small = All-nil (IsSmall FILE_LIMITS); sign = λ e. absurd (cc (e)) }

shown_is : (g : Sig) (ws : List Word) → IsShortFact g FILE_LIMITS false (fact false (codes "E") (a ∷ [])) (name (codes "E") ∷ mark (codes "(") ∷ quoted (codes "a") ∷ mark (codes ")") ∷ ws) ws
shown_is g ws = record { spelled = fact_linear refl (args_some (list_last term_quoted)); small = one_small a (quoted_small (codes "a")); sign = λ e. absurd (cc (e)) }

pub out_has : (g : Sig) → HeadWords g out_head out_words (three 7 6 3)
out_has g = words_act {m = FILE_LIMITS} (action_out (record { spelled = term_tuple term_quoted (rest_last term_fresh); small = record { few_levels = omega arith; few_nodes = tt } }))

pub input_has : (g : Sig) → HeadWords g input_head input_words (two 5 2)
unfolding short_quoted short_fresh
input_has g = words_act (action_receive (short_quoted g (codes "a") _) (short_fresh g _))

pub rule_has : (g : Sig) → HeadWords g rule_head rule_words (rule_with 23 21 17 14 10 5 3)
unfolding f_is g_is e_is h_is
rule_has g = words_act (action_acts (facts_some (facts_more (f_is g _) (facts_last (g_is g _)))) (facts_some (facts_last (e_is g _))) (facts_some (facts_last (h_is g _))))

pub arrow_has : (g : Sig) → HeadWords g arrow_head arrow_words (two 5 3)
unfolding h_is
arrow_has g = words_act (action_rule facts_none (facts_some (facts_last (h_is g _))))

pub fresh_has : (g : Sig) → HeadWords g fresh_head fresh_words (one 1)
fresh_has g = words_act {m = FILE_LIMITS} action_new_fresh

pub new_has : (g : Sig) → HeadWords g new_head new_words (one 1)
new_has g = words_act {m = FILE_LIMITS} action_new

pub event_has : (g : Sig) → HeadWords g event_head event_words (two 4 2)
unfolding shown_is
event_has g = words_act (action_event (shown_is g _))

pub insert_has : (g : Sig) → HeadWords g insert_head insert_words (two 4 1)
unfolding short_quoted short_fresh
insert_has g = words_act (action_insert (short_quoted g (codes "a") _) (short_fresh g _))

pub lock_has : (g : Sig) → HeadWords g lock_head lock_words (one 1)
unfolding short_fresh
lock_has g = words_act (action_lock (short_fresh g _))

pub lookup_has : (g : Sig) → HeadWords g lookup_head lookup_words (two 5 3)
lookup_has g = words_lookup term_fresh

pub test_has : (g : Sig) → HeadWords g test_head test_words (two 6 3)
test_has g = words_test term_quoted term_fresh

pub use_has : (g : Sig) → HeadWords g use_head use_words (two 5 2)
use_has g = words_use (list_more term_quoted (list_last term_fresh))

pub bare_has : (g : Sig) → HeadWords g bare_head bare_words []
bare_has g = words_call

-- the same words have no other numbers
pub other : ((g h : Sig) (q : Located) (a : List Word) (ns ms : List ℕ) → HeadWords g q a ns → HeadWords h q a ms → ns ≡ ms)
    → {g : Sig} {q : Located} {a : List Word} {ns ms : List ℕ} → HeadWords g q a ns → (ns ≡ ms → ⊥) → HeadWords g q a ms → ⊥
other law {g} {q} {a} {ns} {ms} r isnt s = isnt (law g g q a ns ms r s)
