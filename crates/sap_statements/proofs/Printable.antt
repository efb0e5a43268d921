-- What is spelled can be printed: it is tidy, where it is over the signature, its names are names, and no item begins in it.
use Rattle.std.proofs.Common.{◌≡◌, ℕ, Bool, true, false, List, [], ◌∷◌, refl, subst}
use Rattle.std.specs.Prelude.{codes}
use Rattle.std.specs.Str.{bytes_eq}
use Rattle.std.proofs.lemmas.Slice.Eq.{bytes_eq-Decides}
use Rattle.sap_terms.specs.Tree.{Tree}
use Rattle.sap_terms.specs.Signature.{Sig}
use Rattle.sap_formula.specs.Form.{Form}
use Rattle.sap_formula.specs.declared.binder.Binder.{Binder}
use Rattle.sap_grammar.specs.Words.{Word, mark, is_lower}
use Rattle.sap_grammar.specs.Cut.{AreNoItemWords}
use Rattle.sap_grammar.specs.TermGrammar.{IsTerm, term_constant, term_fresh, term_message, term_pub, term_quoted, term_symbol, term_tuple}
use Rattle.sap_grammar.specs.ByteWords.{IsName, AreTokenWords}
use Rattle.sap_grammar.specs.Printed.{ArePrinted}
use Rattle.sap_formula_grammar.specs.FormulaGrammar.{is_truth_name, begins_truth, IsTime, time_signed, time_plain, IsAtom, atom_true, atom_false, atom_action, atom_equal, atom_same, atom_earlier, IsBinder, binds_message, binds_fresh, binds_pub, binds_time, AreBinders, binders_last, binders_more, Reach, IsUn, IsAnd, IsOr, IsImp, IsIff, un_atom, un_not, un_every, un_exists, un_parentheses, and_one, and_more, or_one, or_more, imp_one, imp_more, iff_one, iff_more}
use Rattle.sap_statements.specs.Printable.{is_written_as_truth, AreSome, IsTidyForm, IsFormOver, BinderHasName, BindersHaveNames, FormHasNames}

-- what begins with a small letter is no name of a truth value
small_no_truth : (f : List ℕ) → is_lower f ≡ true → is_truth_name f ≡ false
small_no_truth f low = by_names (bytes_eq f (codes "T")) (bytes_eq f (codes "F")) refl refl
  where
    by_names : (c d : Bool) → bytes_eq f (codes "T") ≡ c → bytes_eq f (codes "F") ≡ d → is_truth_name f ≡ false
    by_names true d e h = absurd (let small : is_lower (codes "T") ≡ true = subst (λ (x : List ℕ). is_lower x ≡ true) ((bytes_eq-Decides f (codes "T")).0 e) low in cc (small))
    by_names false true e h = absurd (let small : is_lower (codes "F") ≡ true = subst (λ (x : List ℕ). is_lower x ≡ true) ((bytes_eq-Decides f (codes "F")).0 h) low in cc (small))
    by_names false false e h = rw (e, h) refl

-- the first term of an equation
left_tidy : {g : Sig} {t : Tree} {a b : List Word} → IsTerm g t a (mark (codes "=") ∷ b) → begins_truth a ≡ false → is_written_as_truth t ≡ false
left_tidy (term_constant is) h = h
left_tidy (term_message free) h = h
left_tidy term_fresh h = refl
left_tidy term_pub h = refl
left_tidy term_quoted h = refl
left_tidy (term_symbol {f = f} {ts = []} low r) h = small_no_truth f low
left_tidy (term_symbol {f = f} {ts = t ∷ ts} low r) h = refl
left_tidy (term_tuple r s) h = refl

module _ (printed : ArePrinted) where
  atom_tidy : {g : Sig} {f : Form} {a b : List Word} → IsAtom g f a b → IsFormOver g f → IsTidyForm g f
  atom_tidy (atom_true e) h = tt
  atom_tidy (atom_false e) h = tt
  atom_tidy (atom_action r p t) h = (p, printed.fact_tidy _ _ _ _ r h)
  atom_tidy (atom_equal plain r s) h = (left_tidy r plain, printed.term_tidy _ _ _ _ r h.0, printed.term_tidy _ _ _ _ s h.1)
  atom_tidy atom_same h = tt
  atom_tidy (atom_earlier plain r s) h = tt

  binders_tidy : {vs : List Binder} {a b : List Word} → AreBinders vs a b → AreSome vs
  binders_tidy (binders_last r) = tt
  binders_tidy (binders_more r s) = tt

  mutual
    un_tidy : {g : Sig} {e : Reach} {f : Form} {n : ℕ} {a b : List Word} → IsUn g e f n a b → IsFormOver g f → IsTidyForm g f
    un_tidy (un_atom r) h = atom_tidy r h
    un_tidy (un_not r) h = un_tidy r h
    un_tidy (un_every r s) h = (binders_tidy r, iff_tidy s h)
    un_tidy (un_exists r s) h = (binders_tidy r, iff_tidy s h)
    un_tidy (un_parentheses r) h = iff_tidy r h

    and_tidy : {g : Sig} {e : Reach} {f : Form} {n : ℕ} {a b : List Word} → IsAnd g e f n a b → IsFormOver g f → IsTidyForm g f
    and_tidy (and_one r) h = un_tidy r h
    and_tidy (and_more r s) h = (and_tidy r h.0, un_tidy s h.1)

    or_tidy : {g : Sig} {e : Reach} {f : Form} {n : ℕ} {a b : List Word} → IsOr g e f n a b → IsFormOver g f → IsTidyForm g f
    or_tidy (or_one r) h = and_tidy r h
    or_tidy (or_more r s) h = (or_tidy r h.0, and_tidy s h.1)

    imp_tidy : {g : Sig} {e : Reach} {f : Form} {n : ℕ} {a b : List Word} → IsImp g e f n a b → IsFormOver g f → IsTidyForm g f
    imp_tidy (imp_one r) h = or_tidy r h
    imp_tidy (imp_more r s) h = (or_tidy r h.0, imp_tidy s h.1)

    pub iff_tidy : {g : Sig} {e : Reach} {f : Form} {n : ℕ} {a b : List Word} → IsIff g e f n a b → IsFormOver g f → IsTidyForm g f
    iff_tidy (iff_one r) h = imp_tidy r h
    iff_tidy (iff_more r s) h = (imp_tidy r h.0, imp_tidy s h.1)

  module _ (most : ℕ) where
    time_names : {i : List ℕ} {a b : List Word} → IsTime i a b → AreTokenWords most a → IsName most i × AreTokenWords most b
    time_names time_signed h = h.1
    time_names time_plain h = h

    atom_names : {g : Sig} {f : Form} {a b : List Word} → IsAtom g f a b → AreTokenWords most a → FormHasNames most f × AreTokenWords most b
    atom_names (atom_true e) h = (tt, h.1)
    atom_names (atom_false e) h = (tt, h.1)
    atom_names (atom_action r p t) h = let f = printed.fact_names most _ _ _ _ r h in let i = time_names t f.1.1 in ((f.0, i.0), i.1)
    atom_names (atom_equal plain r s) h = let t = printed.term_names most _ _ _ _ r h in let u = printed.term_names most _ _ _ _ s t.1.1 in ((t.0, u.0), u.1)
    atom_names atom_same h = ((h.1.0, h.1.1.1.1.0), h.1.1.1.1.1)
    atom_names (atom_earlier plain r s) h = let i = time_names r h in let j = time_names s i.1.1 in ((i.0, j.0), j.1)

    binder_names : {v : Binder} {a b : List Word} → IsBinder v a b → AreTokenWords most a → BinderHasName most v × AreTokenWords most b
    binder_names binds_message h = h
    binder_names binds_fresh h = h.1
    binder_names binds_pub h = h.1
    binder_names binds_time h = h.1

    binders_names : {vs : List Binder} {a b : List Word} → AreBinders vs a b → AreTokenWords most a → BindersHaveNames most vs × AreTokenWords most b
    binders_names (binders_last r) h = let v = binder_names r h in ((v.0, tt), v.1.1)
    binders_names (binders_more r s) h = let v = binder_names r h in let vs = binders_names s v.1 in ((v.0, vs.0), vs.1)

    mutual
      un_names : {g : Sig} {e : Reach} {f : Form} {n : ℕ} {a b : List Word} → IsUn g e f n a b → AreTokenWords most a → FormHasNames most f × AreTokenWords most b
      un_names (un_atom r) h = atom_names r h
      un_names (un_not r) h = un_names r h.1
      un_names (un_every r s) h = let v = binders_names r h.1 in let f = iff_names s v.1 in ((v.0, f.0), f.1)
      un_names (un_exists r s) h = let v = binders_names r h.1 in let f = iff_names s v.1 in ((v.0, f.0), f.1)
      un_names (un_parentheses r) h = let f = iff_names r h.1 in (f.0, f.1.1)

      and_names : {g : Sig} {e : Reach} {f : Form} {n : ℕ} {a b : List Word} → IsAnd g e f n a b → AreTokenWords most a → FormHasNames most f × AreTokenWords most b
      and_names (and_one r) h = un_names r h
      and_names (and_more r s) h = let f = and_names r h in let k = un_names s f.1.1 in ((f.0, k.0), k.1)

      or_names : {g : Sig} {e : Reach} {f : Form} {n : ℕ} {a b : List Word} → IsOr g e f n a b → AreTokenWords most a → FormHasNames most f × AreTokenWords most b
      or_names (or_one r) h = and_names r h
      or_names (or_more r s) h = let f = or_names r h in let k = and_names s f.1.1 in ((f.0, k.0), k.1)

      imp_names : {g : Sig} {e : Reach} {f : Form} {n : ℕ} {a b : List Word} → IsImp g e f n a b → AreTokenWords most a → FormHasNames most f × AreTokenWords most b
      imp_names (imp_one r) h = or_names r h
      imp_names (imp_more r s) h = let f = or_names r h in let k = imp_names s f.1.1 in ((f.0, k.0), k.1)

      pub iff_names : {g : Sig} {e : Reach} {f : Form} {n : ℕ} {a b : List Word} → IsIff g e f n a b → AreTokenWords most a → FormHasNames most f × AreTokenWords most b
      iff_names (iff_one r) h = imp_names r h
      iff_names (iff_more r s) h = let f = imp_names r h in let k = imp_names s f.1.1 in ((f.0, k.0), k.1)

  time_free : {i : List ℕ} {a b : List Word} → IsTime i a b → AreNoItemWords b → AreNoItemWords a
  time_free time_signed h = (refl, (refl, h))
  time_free time_plain h = (refl, h)

  atom_free : {g : Sig} {f : Form} {a b : List Word} → IsAtom g f a b → AreNoItemWords b → AreNoItemWords a
  atom_free (atom_true e) h = (refl, h)
  atom_free (atom_false e) h = (refl, h)
  atom_free (atom_action r p t) h = printed.fact_free _ _ _ _ r (refl, time_free t h)
  atom_free (atom_equal plain r s) h = printed.term_free _ _ _ _ r (refl, printed.term_free _ _ _ _ s h)
  atom_free atom_same h = (refl, (refl, (refl, (refl, (refl, h)))))
  atom_free (atom_earlier plain r s) h = time_free r (refl, time_free s h)

  binder_free : {v : Binder} {a b : List Word} → IsBinder v a b → AreNoItemWords b → AreNoItemWords a
  binder_free binds_message h = (refl, h)
  binder_free binds_fresh h = (refl, (refl, h))
  binder_free binds_pub h = (refl, (refl, h))
  binder_free binds_time h = (refl, (refl, h))

  binders_free : {vs : List Binder} {a b : List Word} → AreBinders vs a b → AreNoItemWords b → AreNoItemWords a
  binders_free (binders_last r) h = binder_free r (refl, h)
  binders_free (binders_more r s) h = binder_free r (binders_free s h)

  mutual
    un_free : {g : Sig} {e : Reach} {f : Form} {n : ℕ} {a b : List Word} → IsUn g e f n a b → AreNoItemWords b → AreNoItemWords a
    un_free (un_atom r) h = atom_free r h
    un_free (un_not r) h = (refl, un_free r h)
    un_free (un_every r s) h = (refl, binders_free r (iff_free s h))
    un_free (un_exists r s) h = (refl, binders_free r (iff_free s h))
    un_free (un_parentheses r) h = (refl, iff_free r (refl, h))

    and_free : {g : Sig} {e : Reach} {f : Form} {n : ℕ} {a b : List Word} → IsAnd g e f n a b → AreNoItemWords b → AreNoItemWords a
    and_free (and_one r) h = un_free r h
    and_free (and_more r s) h = and_free r (refl, un_free s h)

    or_free : {g : Sig} {e : Reach} {f : Form} {n : ℕ} {a b : List Word} → IsOr g e f n a b → AreNoItemWords b → AreNoItemWords a
    or_free (or_one r) h = and_free r h
    or_free (or_more r s) h = or_free r (refl, and_free s h)

    imp_free : {g : Sig} {e : Reach} {f : Form} {n : ℕ} {a b : List Word} → IsImp g e f n a b → AreNoItemWords b → AreNoItemWords a
    imp_free (imp_one r) h = or_free r h
    imp_free (imp_more r s) h = or_free r (refl, imp_free s h)

    pub iff_free : {g : Sig} {e : Reach} {f : Form} {n : ℕ} {a b : List Word} → IsIff g e f n a b → AreNoItemWords b → AreNoItemWords a
    iff_free (iff_one r) h = imp_free r h
    iff_free (iff_more r s) h = imp_free r (refl, imp_free s h)
