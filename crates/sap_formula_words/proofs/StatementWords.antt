-- The words of parts in restrictions and lemmas.
use Rattle.std.proofs.Common.{◌≡◌, ◌<◌, ◌≤◌, ◌-◌, ◌^◌, ℕ, suc, Bool, Option, List, [], ◌∷◌, length, refl, sym, ap, subst, ◌∙◌, arith}
use Rattle.std.specs.Prelude.{codes, All, slice_get, min}
use Rattle.std.proofs.lemmas.List.Elements.{All-weaker}
use Rattle.std.proofs.lemmas.Option.{slice_get_within}
use Rattle.sap_terms.specs.Signature.{Sig}
use Rattle.sap_formula.specs.Form.{Form}
use Rattle.sap_formula.specs.Faults.{IsFirstFault}
use Rattle.sap_formula.specs.Parts.{form_parts}
use Rattle.sap_formula.specs.declared.fault.FormulaFlaw.{FormulaFlaw}
use Rattle.sap_formula.specs.declared.binder.Binder.{Binder}
use Rattle.sap_formula.specs.declared.lemma.Mode.{Mode}
use Rattle.sap_grammar.specs.Words.{Word, mark}
use Rattle.sap_grammar.specs.TermGrammar.{IsConstant, term_message, term_quoted}
use Rattle.sap_grammar.specs.declared.limits.Limits.{Limits}
use Rattle.sap_formula_grammar.specs.FormulaGrammar.{IsIff, Reach, closed, atom_true, atom_equal, un_atom, and_one, and_more, or_one, imp_one, iff_one}
use Rattle.sap_statements.specs.declared.statement.Statement.{Statement}
use Rattle.sap_statements.specs.Statements.{IsStatement, IsQuoted, is_restriction, is_lemma, AreAttributes, attributes_last, attributes_more, HasAttributes, without_attributes, with_attributes, IsMode, mode_missing, mode_all, mode_exists, is_reuse, formula_of}
use Rattle.sap_formula_words.specs.PartWords.{part_words}
use Rattle.sap_formula_words.specs.StatementWords.{statement_words, HasStatementWords}
use Rattle.sap_formula_words.specs.Examples.{one_of, truth_formula, quoted_words, lemma_words, a_lemma, restriction_words, a_restriction, limits}
use Rattle.sap_formula_words.specs.code.NodeLaws.{NodeLaws}
use Rattle.sap_formula_words.specs.code.Walk.{behind_quotation}
use Rattle.sap_formula_words.proofs.Counts.{Between, part_counts, part_within}
use Rattle.sap_formula_words.proofs.Few.{part_fit}
use Rattle.sap_formula_words.proofs.Same.{same_parts}

-- the words of the formula are behind the first quotation mark
attributes_pass : {xs : List (List ℕ)} {a b : List Word} → AreAttributes xs a b → behind_quotation a ≡ behind_quotation b
attributes_pass (attributes_last is) = refl
attributes_pass (attributes_more is r) = attributes_pass r

has_attributes_pass : {xs : List (List ℕ)} {a b : List Word} → HasAttributes xs a b → behind_quotation a ≡ behind_quotation b
has_attributes_pass without_attributes = refl
has_attributes_pass (with_attributes r) = attributes_pass r

mode_passes : {d : Mode} {a b : List Word} → IsMode d a b → behind_quotation a ≡ behind_quotation b
mode_passes mode_missing = refl
mode_passes mode_all = refl
mode_passes mode_exists = refl

-- and no shorter than them
attributes_long : {xs : List (List ℕ)} {a b : List Word} → AreAttributes xs a b → length b < length a
attributes_long (attributes_last is) = omega arith
attributes_long (attributes_more is r) = omega (arith, attributes_long r)

has_attributes_long : {xs : List (List ℕ)} {a b : List Word} → HasAttributes xs a b → length b ≤ length a
has_attributes_long without_attributes = omega arith
has_attributes_long (with_attributes r) = omega (arith, attributes_long r)

mode_long : {d : Mode} {a b : List Word} → IsMode d a b → length b ≤ length a
mode_long mode_missing = omega arith
mode_long mode_all = omega arith
mode_long mode_exists = omega arith

-- the formula of the statement, and its words
pub formula_words : {g : Sig} {m : Limits} {s : Statement} {a : List Word} (r : IsStatement g m s a)
    → (e : Reach) × (n : ℕ) × (q : IsIff g e (formula_of s) n (behind_quotation a) (mark (codes "\"") ∷ [])) × (statement_words r ≡ part_words q)
formula_words (is_restriction q) = (q.reach, q.levels, q.spelled, refl)
formula_words {g} {m} {s} (is_lemma {f = f} {a = a} {c = c} h d q) =
    let same : c ≡ behind_quotation a = sym (has_attributes_pass h ∙ mode_passes d) in
    subst (λ ws. (e : Reach) × (n : ℕ) × (p : IsIff g e f n ws (mark (codes "\"") ∷ [])) × (part_words q.spelled ≡ part_words p)) same (q.reach, q.levels, q.spelled, refl)

-- what finds the word of a part of a formula finds that of a statement's
pub spelled_part : {g : Sig} {m : Limits} {s : Statement} {a : List Word} (r : IsStatement g m s a) (ws : List Word) (f : Form) (k : ℕ) (o : Option ℕ) → ws ≡ behind_quotation a → f ≡ formula_of s
    → ((h : Sig) (e : Reach) (n : ℕ) (b : List Word) (q : IsIff h e f n ws b) → o ≡ slice_get (part_words q) k) → o ≡ slice_get (statement_words r) k
spelled_part {g} {m} {s} {a} r ws f k o same is answer =
    let p = formula_words r in
    let there : (h : Sig) (e : Reach) (n : ℕ) (b : List Word) (q : IsIff h e (formula_of s) n (behind_quotation a) b) → o ≡ slice_get (part_words q) k =
    subst (λ z. (h : Sig) (e : Reach) (n : ℕ) (b : List Word) (q : IsIff h e (formula_of s) n z b) → o ≡ slice_get (part_words q) k) same
    (subst (λ z. (h : Sig) (e : Reach) (n : ℕ) (b : List Word) (q : IsIff h e z n ws b) → o ≡ slice_get (part_words q) k) is answer) in
    there g p.0 p.1 (mark (codes "\"") ∷ []) p.2 ∙ ap (λ ns. slice_get ns k) (sym p.3)

-- no more parts than words
few_words : {g : Sig} {m : Limits} {s : Statement} {a : List Word} (r : IsStatement g m s a) → length (statement_words r) ≤ length a
few_words (is_restriction q) = omega (arith, part_fit q.spelled)
few_words (is_lemma h d q) = omega (arith, part_fit q.spelled, has_attributes_long h, mode_long d)

module _ (laws : NodeLaws) where
  pub statement_counts : {g : Sig} {m : Limits} {s : Statement} {a : List Word} (r : IsStatement g m s a) (scope : List Binder) → length (statement_words r) ≡ length (form_parts scope (formula_of s))
  statement_counts (is_restriction q) scope = part_counts laws scope q.spelled
  statement_counts (is_lemma h d q) scope = part_counts laws scope q.spelled

  -- the part that has the fault is one of as many as a usize counts
  pub few_parts : {g : Sig} {m : Limits} {s : Statement} {a : List Word} (r : IsStatement g m s a) (h : Sig) (v : Bool) (w : FormulaFlaw) (n : List ℕ) (first : IsFirstFault h v (formula_of s) w n)
      → length a < 2 ^ 64 → min first.at (2 ^ 64 - 1) ≡ first.at
  few_parts {s = s} r h v w n first few =
      let inside = slice_get_within (form_parts [] (formula_of s)) first.at first.here.part first.here.stands in
      omega (arith, inside, few, statement_counts r [], few_words r)

  inner : (low high top : ℕ) (ns : List ℕ) → high < top → All (Between low high) ns → All (λ k. (low < k) × (k < top)) ns
  inner low high top ns h all = All-weaker (Between low high) (λ k. (low < k) × (k < top)) (λ k is. (is.0, omega (arith, h, is.1))) ns all

  pub statement_within : {g : Sig} {m : Limits} {s : Statement} {a : List Word} (r : IsStatement g m s a) → All (λ k. (1 < k) × (k < length a)) (statement_words r)
  statement_within (is_restriction {a = a} q) = inner 1 (length a) (suc (suc (suc (suc (length a))))) (part_words q.spelled) (omega arith) (part_within laws q.spelled)
  statement_within (is_lemma {a = a} {c = c} h d q) =
      inner 1 (length c) (suc (suc (length a))) (part_words q.spelled) (omega (arith, has_attributes_long h, mode_long d)) (part_within laws q.spelled)

  pub same_statement : {g h : Sig} {m l : Limits} {s : Statement} {a : List Word} (r : IsStatement g m s a) (t : IsStatement h l s a) → statement_words r ≡ statement_words t
  same_statement r t = let p = formula_words r in let q = formula_words t in p.3 ∙ same_parts laws p.2 q.2 ∙ sym q.3

  -- the same words have no other numbers
  pub other : {g : Sig} {m : Limits} {s : Statement} {a : List Word} {ns ms : List ℕ} → HasStatementWords g m s a ns → (ns ≡ ms → ⊥) → HasStatementWords g m s a ms → ⊥
  other r isnt s = isnt (sym r.numbers ∙ same_statement r.spelled s.spelled ∙ s.numbers)

abbrev quoted_truth : (g : Sig) → (IsConstant g (codes "T") → ⊥) → IsQuoted g limits truth_formula quoted_words
quoted_truth g isnt = record {
  reach = closed;
  levels = 2;
  spelled = iff_one (imp_one (or_one (and_more (and_one (un_atom (atom_true refl))) (un_atom (atom_equal refl term_quoted (term_message isnt))))));
  few_levels = omega arith;
  small = (tt, (record { few_levels = omega arith; few_nodes = tt }, record { few_levels = omega arith; few_nodes = tt }));
}

pub claimed_has : (g : Sig) → (IsConstant g (codes "T") → ⊥) → HasStatementWords g limits a_lemma lemma_words (one_of 2)
claimed_has g isnt = record { spelled = is_lemma (with_attributes (attributes_last is_reuse)) mode_exists (quoted_truth g isnt); numbers = refl }

pub restricted_has : (g : Sig) → (IsConstant g (codes "T") → ⊥) → HasStatementWords g limits a_restriction restriction_words (one_of 2)
restricted_has g isnt = record { spelled = is_restriction (quoted_truth g isnt); numbers = refl }
