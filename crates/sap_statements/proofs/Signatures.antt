-- What is spelled doesn't depend on the signature, but for which identifiers are constants.
use Rattle.std.proofs.Common.{◌≡◌, ℕ, Bool, List, true, false, refl, sym, ◌∙◌}
use Rattle.sap_terms.specs.Signature.{Sig}
use Rattle.sap_formula.specs.Form.{Form, truth, falsity, action, equal, same_time, earlier, negation, both, either, implies, equivalent, every, exists}
use Rattle.sap_grammar.specs.declared.limits.Limits.{Limits}
use Rattle.sap_grammar.specs.Words.{Word}
use Rattle.sap_formula_grammar.specs.FormulaGrammar.{IsAtom, atom_true, atom_false, atom_action, atom_equal, atom_same, atom_earlier, Reach, IsUn, IsAnd, IsOr, IsImp, IsIff, un_atom, un_not, un_every, un_exists, un_parentheses, and_one, and_more, or_one, or_more, imp_one, imp_more, iff_one, iff_more, IsSmallForm, IsShortFormula}
use Rattle.sap_statements.specs.Statements.{Statement, restriction, lemma, IsStatement, is_restriction, is_lemma}
use Rattle.sap_grammar.specs.TermLaws.{AreSpelled}

module _ (laws : AreSpelled) (g h : Sig) (m : Limits) where
  atom_too : {f : Form} {a b : List Word} → IsAtom g f a b → IsSmallForm m f → (u : Form) × IsAtom h u a b × IsSmallForm m u
  atom_too (atom_true e) small = (truth, atom_true e, tt)
  atom_too (atom_false e) small = (falsity, atom_false e, tt)
  atom_too (atom_action {f = f} {i = i} {a = a} {b = b} r p t) small =
      let u = laws.fact_too g h m false f a _ (record { spelled = r; small = small; sign = λ e. sym p ∙ e }) in
      (action u.0 i, atom_action u.1.spelled (linear u.0.persistent u.1.sign) t, u.1.small)
    where
      linear : (persistent : Bool) → (persistent ≡ true → false ≡ true) → persistent ≡ false
      linear false f = refl
      linear true f = sym (f refl)
  atom_too (atom_equal {t = t} {u = u} {a = a} {b = b} {c = c} plain r s) small =
      let v = laws.term_too g h m t a _ (record { spelled = r; small = small.0 }) in
      let w = laws.term_too g h m u b c (record { spelled = s; small = small.1 }) in
      (equal v.0 w.0, atom_equal plain v.1.spelled w.1.spelled, (v.1.small, w.1.small))
  atom_too (atom_same {i = i} {j = j}) small = (same_time i j, atom_same, tt)
  atom_too (atom_earlier {i = i} {j = j} plain r s) small = (earlier i j, atom_earlier plain r s, tt)

  mutual
    un_too : {e : Reach} {f : Form} {n : ℕ} {a b : List Word} → IsUn g e f n a b → IsSmallForm m f → (u : Form) × IsUn h e u n a b × IsSmallForm m u
    un_too (un_atom r) small = let u = atom_too r small in (u.0, un_atom u.1, u.2)
    un_too (un_not r) small = let u = un_too r small in (negation u.0, un_not u.1, u.2)
    un_too (un_every {vs = vs} r s) small = let u = iff_too s small in (every vs u.0, un_every r u.1, u.2)
    un_too (un_exists {vs = vs} r s) small = let u = iff_too s small in (exists vs u.0, un_exists r u.1, u.2)
    un_too (un_parentheses r) small = let u = iff_too r small in (u.0, un_parentheses u.1, u.2)

    and_too : {e : Reach} {f : Form} {n : ℕ} {a b : List Word} → IsAnd g e f n a b → IsSmallForm m f → (u : Form) × IsAnd h e u n a b × IsSmallForm m u
    and_too (and_one r) small = let u = un_too r small in (u.0, and_one u.1, u.2)
    and_too (and_more r s) small = let u = and_too r small.0 in let v = un_too s small.1 in (both u.0 v.0, and_more u.1 v.1, (u.2, v.2))

    or_too : {e : Reach} {f : Form} {n : ℕ} {a b : List Word} → IsOr g e f n a b → IsSmallForm m f → (u : Form) × IsOr h e u n a b × IsSmallForm m u
    or_too (or_one r) small = let u = and_too r small in (u.0, or_one u.1, u.2)
    or_too (or_more r s) small = let u = or_too r small.0 in let v = and_too s small.1 in (either u.0 v.0, or_more u.1 v.1, (u.2, v.2))

    imp_too : {e : Reach} {f : Form} {n : ℕ} {a b : List Word} → IsImp g e f n a b → IsSmallForm m f → (u : Form) × IsImp h e u n a b × IsSmallForm m u
    imp_too (imp_one r) small = let u = or_too r small in (u.0, imp_one u.1, u.2)
    imp_too (imp_more r s) small = let u = or_too r small.0 in let v = imp_too s small.1 in (implies u.0 v.0, imp_more u.1 v.1, (u.2, v.2))

    iff_too : {e : Reach} {f : Form} {n : ℕ} {a b : List Word} → IsIff g e f n a b → IsSmallForm m f → (u : Form) × IsIff h e u n a b × IsSmallForm m u
    iff_too (iff_one r) small = let u = imp_too r small in (u.0, iff_one u.1, u.2)
    iff_too (iff_more r s) small = let u = imp_too r small.0 in let v = imp_too s small.1 in (equivalent u.0 v.0, iff_more u.1 v.1, (u.2, v.2))

  pub short_too : {f : Form} {a b : List Word} → IsShortFormula g m f a b → (u : Form) × IsShortFormula h m u a b
  short_too r =
      let u = iff_too r.spelled r.small in
      (u.0, record { reach = r.reach; levels = r.levels; spelled = u.1; few_levels = r.few_levels; small = u.2 })

  pub statement_too : {s : Statement} {a : List Word} → IsStatement g m s a → (t : Statement) × IsStatement h m t a
  statement_too (is_restriction {x = x} r) = let u = short_too r in (restriction (record { name = x; formula = u.0 }), is_restriction u.1)
  statement_too (is_lemma {x = x} {xs = xs} {d = d} l i r) =
      let u = short_too r in (lemma (record { name = x; attributes = xs; mode = d; formula = u.0 }), is_lemma l i u.1)
