-- Words of nodes, by hand.
use Rattle.std.proofs.Common.{◌≡◌, ℕ, List, refl, sym, ◌∙◌}
use Rattle.std.specs.Prelude.{codes}
use Rattle.sap_terms.specs.Signature.{Sig}
use Rattle.sap_terms.specs.Tree.{Tree}
use Rattle.sap_grammar.specs.Words.{Word}
use Rattle.sap_grammar.specs.TermGrammar.{IsConstant, args_none, args_some, list_last, list_more, rest_last, rest_more, term_constant, term_message, term_fresh, term_pub, term_quoted, term_symbol, term_tuple}
use Rattle.sap_node_words.specs.NodeWords.{HasWords}
use Rattle.sap_node_words.specs.Examples.{mixed, mixed_words, mixed_with, inner, inner_words, inner_with, triple, nested_words, flat_words, triple_with, named_words, two_with, pair_of_two, signed_words, constant_and_fresh, message_and_fresh}
use Rattle.sap_node_words.proofs.Walks.{same_term}

pub mixed_has : (g : Sig) → HasWords g mixed mixed_words (mixed_with 16 13 11 10 8 7 5)
mixed_has g =
    record { spelled = term_symbol refl (args_some (list_more term_fresh (list_last (term_tuple term_quoted (rest_more term_pub (rest_last (term_symbol refl args_none))))))); numbers = refl }

pub inner_has : (g : Sig) → HasWords g inner inner_words (inner_with 11 10 8 8 7 5 2)
inner_has g = record { spelled = term_tuple term_quoted (rest_more (term_tuple term_quoted (rest_last term_quoted)) (rest_last term_quoted)); numbers = refl }

pub nested_has : (g : Sig) → HasWords g triple nested_words (triple_with 9 8 6 5 3)
nested_has g = record { spelled = term_tuple term_quoted (rest_last (term_tuple term_quoted (rest_last term_quoted))); numbers = refl }

pub flat_has : (g : Sig) → HasWords g triple flat_words (triple_with 7 6 4 4 2)
flat_has g = record { spelled = term_tuple term_quoted (rest_more term_quoted (rest_last term_quoted)); numbers = refl }

pub named_has : (g : Sig) → HasWords g pair_of_two named_words (two_with 6 4 2)
named_has g = record { spelled = term_symbol refl (args_some (list_more term_quoted (list_last term_quoted))); numbers = refl }

pub constant_has : (g : Sig) → IsConstant g (codes "c") → HasWords g constant_and_fresh signed_words (two_with 6 5 2)
constant_has g is = record { spelled = term_tuple (term_constant is) (rest_last term_fresh); numbers = refl }

pub message_has : (g : Sig) → (IsConstant g (codes "c") → ⊥) → HasWords g message_and_fresh signed_words (two_with 6 5 2)
message_has g isnt = record { spelled = term_tuple (term_message isnt) (rest_last term_fresh); numbers = refl }

-- the same words have no other numbers
pub other : {g : Sig} {t : Tree} {a : List Word} {ns ms : List ℕ} → HasWords g t a ns → (ns ≡ ms → ⊥) → HasWords g t a ms → ⊥
other r isnt s = isnt (sym r.numbers ∙ same_term r.spelled s.spelled ∙ s.numbers)
