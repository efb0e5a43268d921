-- Words of parts, by hand.
use Rattle.std.proofs.Common.{◌≡◌, ℕ, List, ◌++◌, refl, sym, ◌∙◌}
use Rattle.std.specs.Prelude.{codes}
use Rattle.sap_terms.specs.Signature.{Sig}
use Rattle.sap_formula.specs.Form.{Form, equal}
use Rattle.sap_grammar.specs.Words.{Word}
use Rattle.sap_grammar.specs.TermGrammar.{IsConstant, args_some, list_last, list_more, rest_last, rest_more, term_constant, term_message, term_fresh, term_quoted, term_tuple}
use Rattle.sap_grammar.specs.FactGrammar.{fact_linear}
use Rattle.sap_formula_grammar.specs.FormulaGrammar.{or_more, closed, reaching, time_signed, time_plain, atom_true, atom_action, atom_equal, atom_same, atom_earlier, binds_message, binds_fresh, binds_pub, binds_time, binders_last, binders_more, un_atom, un_not, un_every, un_exists, un_parentheses, and_one, and_more, or_one, imp_one, imp_more, iff_one, iff_more, IsIff, IsUn, IsOr, IsImp, Reach}
use Rattle.sap_formula_words.specs.PartWords.{HasPartWords}
use Rattle.sap_formula_words.specs.Examples.{a, x, one_of, four_of, five_of, truth_words, truth_formula, equal_words, four_words, four_times, constant_words, constant_formula, enclosed_words, enclosed_formula, enclosed_with, shown_words, shown, shown_with}
use Rattle.sap_formula_words.specs.code.NodeLaws.{NodeLaws}
use Rattle.sap_formula_words.proofs.Same.{same_parts}

-- alone, in a disjunction, an implication, and a formula
abbrev as_or : {g : Sig} {e : Reach} {f : Form} {n : ℕ} {a b : List Word} → IsUn g e f n a b → IsOr g e f n a b
as_or r = or_one (and_one r)

abbrev as_imp : {g : Sig} {e : Reach} {f : Form} {n : ℕ} {a b : List Word} → IsUn g e f n a b → IsImp g e f n a b
as_imp r = imp_one (as_or r)

abbrev as_iff : {g : Sig} {e : Reach} {f : Form} {n : ℕ} {a b : List Word} → IsUn g e f n a b → IsIff g e f n a b
as_iff r = iff_one (as_imp r)

pub variable_has : (g : Sig) → (IsConstant g (codes "T") → ⊥) → HasPartWords g truth_formula truth_words (one_of 1)
variable_has g isnt = record {
  reach = closed;
  levels = 2;
  spelled = iff_one (imp_one (or_one (and_more (and_one (un_atom (atom_true refl))) (un_atom (atom_equal refl term_quoted (term_message isnt))))));
  numbers = refl;
}

-- `x = 'a'`
abbrev is_a : {g : Sig} {b : List Word} → (IsConstant g (codes "x") → ⊥) → IsUn g closed (equal x a) 1 (equal_words ++ b) b
is_a isnt = un_atom (atom_equal refl (term_message isnt) term_quoted)

pub occurrences_have : (g : Sig) → (IsConstant g (codes "x") → ⊥) → HasPartWords g four_times four_words (four_of 15 11 7 3)
occurrences_have g isnt = record {
  reach = closed;
  levels = 4;
  spelled = iff_one (imp_more (or_more (or_one (and_more (and_one (is_a isnt)) (is_a isnt))) (and_one (is_a isnt))) (as_imp (is_a isnt)));
  numbers = refl;
}

pub constant_has : (g : Sig) → IsConstant g (codes "c") → HasPartWords g constant_formula constant_words (five_of 12 10 8 6 3)
constant_has g is = record {
  reach = reaching;
  levels = 3;
  spelled = as_iff (un_every (binders_more binds_message (binders_last binds_time)) (iff_one (imp_more
      (as_or (un_atom (atom_action (fact_linear refl (args_some (list_last (term_constant is)))) refl time_plain))) (as_imp (un_atom (atom_true refl))))));
  numbers = refl;
}

pub enclosed_has : (g : Sig) → HasPartWords g enclosed_formula enclosed_words (enclosed_with 17 15 12 9 4 1)
enclosed_has g = record {
  reach = closed;
  levels = 6;
  spelled = iff_more
      (as_imp (un_parentheses (as_iff (un_not (un_exists (binders_more binds_fresh (binders_last binds_pub)) (as_iff (un_parentheses (as_iff (un_atom (atom_earlier refl time_plain time_signed))))))))))
      (as_imp (un_atom atom_same));
  numbers = refl;
}

pub shown_has : (g : Sig) → (IsConstant g (codes "x") → ⊥) → HasPartWords g shown shown_words (shown_with 16 14 13 11 8 5 1)
shown_has g isnt = record {
  reach = closed;
  levels = 1;
  spelled = as_iff (un_atom (atom_action
      (fact_linear refl (args_some (list_more (term_tuple (term_message isnt) (rest_more term_quoted (rest_last term_fresh))) (list_last (term_message isnt))))) refl time_signed));
  numbers = refl;
}

-- the same words have no other numbers
pub other : NodeLaws → {g : Sig} {f : Form} {a : List Word} {ns ms : List ℕ} → HasPartWords g f a ns → (ns ≡ ms → ⊥) → HasPartWords g f a ms → ⊥
other laws r isnt s = isnt (sym r.numbers ∙ same_parts laws r.spelled s.spelled ∙ s.numbers)
