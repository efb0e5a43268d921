-- Restrictions and lemmas without fault are checked, with the sorts of binders.
use Rattle.std.proofs.Common.{true, List, [], ◌∷◌}
use Rattle.std.proofs.lemmas.List.Elements.{All-head, All-tail}
use Rattle.sap_terms.specs.Signature.{Sig}
use Rattle.sap_formula.specs.Faults.{HasNoFault}
use Rattle.sap_formula.specs.Form.{RestrictionForm, LemmaForm}
use Rattle.sap_formula.specs.Laws.{CheckLaw, IsCheckedVisible}
use Rattle.sap_formula.specs.Truth.{EachIn}
use Rattle.sap_statements.specs.declared.statement.Statement.{Statement}
use Rattle.sap_statements.specs.declared.statement.Statement.TheVariants.{Restriction, Lemma}
use Rattle.sap_statements.specs.Statements.{formula_of}
use Rattle.sap_statements.specs.Stated.{restrictions_of, lemmas_of, AreFaultless}

module _ (law : CheckLaw) (g : Sig) where
  abbrev IsFree : Statement → Type 0
  IsFree s = HasNoFault g true (formula_of s)

  pub restrictions_checked : (ss : List Statement) → AreFaultless g true ss → EachIn (λ (r : RestrictionForm). IsCheckedVisible g r.formula) (restrictions_of ss)
  restrictions_checked [] h = tt
  restrictions_checked (Restriction r ∷ ss) h = (law g true r.formula (All-head IsFree (Restriction r) ss h), restrictions_checked ss (All-tail IsFree (Restriction r) ss h))
  restrictions_checked (Lemma l ∷ ss) h = restrictions_checked ss (All-tail IsFree (Lemma l) ss h)

  pub lemmas_checked : (ss : List Statement) → AreFaultless g true ss → EachIn (λ (l : LemmaForm). IsCheckedVisible g l.formula) (lemmas_of ss)
  lemmas_checked [] h = tt
  lemmas_checked (Restriction r ∷ ss) h = lemmas_checked ss (All-tail IsFree (Restriction r) ss h)
  lemmas_checked (Lemma l ∷ ss) h = (law g true l.formula (All-head IsFree (Lemma l) ss h), lemmas_checked ss (All-tail IsFree (Lemma l) ss h))
