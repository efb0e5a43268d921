-- Restrictions and lemmas without fault can be printed.
use Rattle.std.proofs.Common.{◌≡◌, ℕ, Bool, true, List, [], ◌∷◌, sym, subst}
use Rattle.std.specs.Prelude.{All}
use Rattle.std.specs.List.{AllByRecursion}
use Rattle.std.proofs.lemmas.List.Elements.{All-head, All-tail}
use Rattle.sap_terms.specs.Signature.{Sig}
use Rattle.sap_formula.specs.Form.{Form}
use Rattle.sap_formula.specs.Faults.{HasNoFault}
use Rattle.sap_formula.specs.Sorted.{with_sorts}
use Rattle.sap_grammar.specs.ByteWords.{IsName}
use Rattle.sap_statements.specs.declared.statement.Statement.{Statement}
use Rattle.sap_statements.specs.declared.statement.Statement.TheVariants.{Restriction, Lemma}
use Rattle.sap_statements.specs.Statements.{name_of, formula_of, IsAttribute}
use Rattle.sap_statements.specs.Sorted.{plainly_sorted}
use Rattle.sap_statements.specs.Printable.{IsTidyForm, IsFormOver, FormHasNames, IsPrintableForm}
use Rattle.sap_read.specs.Printable.{IsPrintableRestriction, IsPrintableLemma}
use Rattle.sap_statements.specs.Stated.{AreFaultless, restrictions_of, lemmas_of}

-- what the laws of formulas say of the sorts of binders, and of formulas without a fault
pub record SortLaws : Type 0 where
  pub own : (g : Sig) (reserved : Bool) (f : Form) → HasNoFault g reserved f → with_sorts [] f ≡ plainly_sorted [] f
  pub over : (g : Sig) (reserved : Bool) (f : Form) → HasNoFault g reserved f → IsFormOver g f
  pub twice : (f : Form) → plainly_sorted [] (plainly_sorted [] f) ≡ plainly_sorted [] f
  pub tidy : (g : Sig) (f : Form) → IsTidyForm g f → IsTidyForm g (plainly_sorted [] f)
  pub names : (most : ℕ) (f : Form) → FormHasNames most f → FormHasNames most (plainly_sorted [] f)

abbrev pub attributes_of : Statement → List (List ℕ)
attributes_of (Restriction r) = []
attributes_of (Lemma l) = l.attributes

-- as words of tokens spell it
pub record IsSpelledStatement (most : ℕ) (g : Sig) (s : Statement) : Type 0 where
  pub name : IsName most (name_of s)
  pub attributes : All IsAttribute (attributes_of s)
  pub tidy : IsFormOver g (formula_of s) → IsTidyForm g (formula_of s)
  pub names : FormHasNames most (formula_of s)

module _ (sorts : SortLaws) (most : ℕ) (g : Sig) where
  abbrev IsFree : Statement → Type 0
  IsFree s = HasNoFault g true (formula_of s)

  form_printable : (s : Statement) → IsSpelledStatement most g s → HasNoFault g true (formula_of s) → IsPrintableForm most g (with_sorts [] (formula_of s))
  form_printable s h free =
      let f = formula_of s in
      let same = sorts.own g true f free in
      subst (IsPrintableForm most g) (sym same) (record {
        tidy = sorts.tidy g f (h.tidy (sorts.over g true f free));
        names = sorts.names most f h.names;
        sorted = sym (sorts.twice f);
      })

  pub restrictions_printable : (ss : List Statement) → AllByRecursion (IsSpelledStatement most g) ss → AreFaultless g true ss → AllByRecursion (IsPrintableRestriction most g) (restrictions_of ss)
  restrictions_printable [] h free = tt
  restrictions_printable (Restriction r ∷ ss) h free =
      (record { name = h.0.name; formula = form_printable (Restriction r) h.0 (All-head IsFree (Restriction r) ss free) }, restrictions_printable ss h.1 (All-tail IsFree (Restriction r) ss free))
  restrictions_printable (Lemma l ∷ ss) h free = restrictions_printable ss h.1 (All-tail IsFree (Lemma l) ss free)

  pub lemmas_printable : (ss : List Statement) → AllByRecursion (IsSpelledStatement most g) ss → AreFaultless g true ss → AllByRecursion (IsPrintableLemma most g) (lemmas_of ss)
  lemmas_printable [] h free = tt
  lemmas_printable (Restriction r ∷ ss) h free = lemmas_printable ss h.1 (All-tail IsFree (Restriction r) ss free)
  lemmas_printable (Lemma l ∷ ss) h free =
      (record { name = h.0.name; attributes = h.0.attributes; formula = form_printable (Lemma l) h.0 (All-head IsFree (Lemma l) ss free) }, lemmas_printable ss h.1 (All-tail IsFree (Lemma l) ss free))
