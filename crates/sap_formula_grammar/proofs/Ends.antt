-- Where the spelling of a formula ends.
use Rattle.std.proofs.Common.{ℕ, List, refl, arith}
use Rattle.sap_terms.specs.Signature.{Sig}
use Rattle.sap_formula.specs.Form.{Form}
use Rattle.sap_formula.specs.declared.binder.Binder.{Binder}
use Rattle.sap_grammar.specs.Words.{Word}
use Rattle.sap_formula_grammar.specs.FormulaGrammar.{IsTime, time_signed, time_plain, IsAtom, atom_true, atom_false, atom_action, atom_equal, atom_same, atom_earlier, IsBinder, binds_message, binds_fresh, binds_pub, binds_time, AreBinders, binders_last, binders_more, Reach, IsUn, IsAnd, IsOr, IsImp, IsIff, un_atom, un_not, un_every, un_exists, un_parentheses, and_one, and_more, or_one, or_more, imp_one, imp_more, iff_one, iff_more}
use Rattle.sap_grammar.proofs.ReadingLaws.Ends.{IsEnd, one_more, mark_end, end_end, then_end, term_end, fact_end}

time_end : {i : List ℕ} {a b : List Word} → IsTime i a b → IsEnd a b
time_end time_signed = (2, omega arith, omega arith, refl)
time_end time_plain = (1, omega arith, omega arith, refl)

pub atom_end : {g : Sig} {f : Form} {a b : List Word} → IsAtom g f a b → IsEnd a b
atom_end (atom_true e) = (1, omega arith, omega arith, refl)
atom_end (atom_false e) = (1, omega arith, omega arith, refl)
atom_end (atom_action r p t) = then_end (fact_end r) (time_end t)
atom_end (atom_equal plain r s) = then_end (term_end r) (term_end s)
atom_end atom_same = (5, omega arith, omega arith, refl)
atom_end (atom_earlier plain r s) = then_end (time_end r) (time_end s)

pub binder_end : {v : Binder} {a b : List Word} → IsBinder v a b → IsEnd a b
binder_end binds_message = (1, omega arith, omega arith, refl)
binder_end binds_fresh = (2, omega arith, omega arith, refl)
binder_end binds_pub = (2, omega arith, omega arith, refl)
binder_end binds_time = (2, omega arith, omega arith, refl)

pub binders_end : {vs : List Binder} {a b : List Word} → AreBinders vs a b → IsEnd a b
binders_end (binders_last r) = mark_end (binder_end r)
binders_end (binders_more r s) = end_end (binder_end r) (binders_end s)

mutual
  pub un_end : {g : Sig} {e : Reach} {f : Form} {n : ℕ} {a b : List Word} → IsUn g e f n a b → IsEnd a b
  un_end (un_atom r) = atom_end r
  un_end (un_not r) = one_more (un_end r)
  un_end (un_every r s) = one_more (end_end (binders_end r) (iff_end s))
  un_end (un_exists r s) = one_more (end_end (binders_end r) (iff_end s))
  un_end (un_parentheses r) = one_more (mark_end (iff_end r))

  pub and_end : {g : Sig} {e : Reach} {f : Form} {n : ℕ} {a b : List Word} → IsAnd g e f n a b → IsEnd a b
  and_end (and_one r) = un_end r
  and_end (and_more r s) = then_end (and_end r) (un_end s)

  pub or_end : {g : Sig} {e : Reach} {f : Form} {n : ℕ} {a b : List Word} → IsOr g e f n a b → IsEnd a b
  or_end (or_one r) = and_end r
  or_end (or_more r s) = then_end (or_end r) (and_end s)

  pub imp_end : {g : Sig} {e : Reach} {f : Form} {n : ℕ} {a b : List Word} → IsImp g e f n a b → IsEnd a b
  imp_end (imp_one r) = or_end r
  imp_end (imp_more r s) = then_end (or_end r) (imp_end s)

  pub iff_end : {g : Sig} {e : Reach} {f : Form} {n : ℕ} {a b : List Word} → IsIff g e f n a b → IsEnd a b
  iff_end (iff_one r) = imp_end r
  iff_end (iff_more r s) = then_end (imp_end r) (imp_end s)
