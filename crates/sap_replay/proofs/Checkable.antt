-- A theory that is read can be run, and its formulas are closed.
use Rattle.std.proofs.Common.{false, List, [], ◌∷◌, Ok}
use Rattle.std.specs.Prelude.{ℕ, All}
use Rattle.std.proofs.lemmas.List.Elements.{All-nil, All-cons, All-head, All-tail}
use Rattle.sap_terms.specs.Signature.{Sig}
use Rattle.sap_formula.specs.Form.{LemmaForm, RestrictionForm}
use Rattle.sap_formula.specs.Faults.{HasNoFault}
use Rattle.sap_formula.specs.Laws.{IsClosed, CheckLaw, ClosedLaw}
use Rattle.sap_formula.specs.Sorted.{with_sorts}
use Rattle.sap_formula.specs.Truth.{EachIn}
use Rattle.sap_rule.specs.WellMade.{IsRuleOver, IsWellMade}
use Rattle.sap_rule.specs.declared.rule.Rule.{Rule}
use Rattle.sap_rule.specs.declared.theory.Theory.{Theory}
use Rattle.sap_statements.specs.declared.statement.Statement.{Statement}
use Rattle.sap_statements.specs.declared.statement.Statement.TheVariants.{Restriction as restriction, Lemma as lemma}
use Rattle.sap_statements.specs.Statements.{formula_of}
use Rattle.sap_theory.specs.ReadTheory.{IsTheoryRead, accepted}
use Rattle.sap_statements.specs.Stated.{AreFaultless, restrictions_of, lemmas_of}
use Rattle.sap_theory.specs.TheoryCauses.{IsPlainRule}
use Rattle.sap_theory.specs.TheoryGrammar.{signature_of, items_of, rules_in, statements_in}
use Rattle.sap_replay.specs.Replays.{IsCheckable}

well_made : (g : Sig) (rs : List Rule) → All (IsRuleOver g) rs → All IsPlainRule rs → All (IsWellMade g) rs
well_made g [] a b = All-nil (IsWellMade g)
well_made g (r ∷ rs) a b =
    All-cons (IsWellMade g) r rs (record { over = All-head (IsRuleOver g) r rs a; shape = (All-head IsPlainRule r rs b).shape })
    (well_made g rs (All-tail (IsRuleOver g) r rs a) (All-tail IsPlainRule r rs b))

module _ (checked : CheckLaw) (closed : ClosedLaw) (g : Sig) where
  closed_restrictions : (ss : List Statement) → AreFaultless g false ss → EachIn (λ (r : RestrictionForm). IsClosed g r.formula) (restrictions_of ss)
  closed_restrictions [] a = tt
  closed_restrictions (restriction r ∷ ss) a = (
    closed g false (with_sorts [] r.formula) (checked g false r.formula (All-head (λ s. HasNoFault g false (formula_of s)) (restriction r) ss a)),
    closed_restrictions ss (All-tail (λ s. HasNoFault g false (formula_of s)) (restriction r) ss a),
  )
  closed_restrictions (lemma l ∷ ss) a = closed_restrictions ss (All-tail (λ s. HasNoFault g false (formula_of s)) (lemma l) ss a)

  closed_lemmas : (ss : List Statement) → AreFaultless g false ss → EachIn (λ (l : LemmaForm). IsClosed g l.formula) (lemmas_of ss)
  closed_lemmas [] a = tt
  closed_lemmas (restriction r ∷ ss) a = closed_lemmas ss (All-tail (λ s. HasNoFault g false (formula_of s)) (restriction r) ss a)
  closed_lemmas (lemma l ∷ ss) a = (
    closed g false (with_sorts [] l.formula) (checked g false l.formula (All-head (λ s. HasNoFault g false (formula_of s)) (lemma l) ss a)),
    closed_lemmas ss (All-tail (λ s. HasNoFault g false (formula_of s)) (lemma l) ss a),
  )

pub read_can_be_checked : CheckLaw → ClosedLaw → (z : List ℕ) (t : Theory) → IsTheoryRead z (Ok t) → IsCheckable t
read_can_be_checked checked closed z _ (accepted {is = is} parted written a) = record {
  made = well_made (signature_of is) (rules_in (items_of is)) a.over a.plain;
  restrictions = closed_restrictions checked closed (signature_of is) (statements_in (items_of is)) a.faultless;
  lemmas = closed_lemmas checked closed (signature_of is) (statements_in (items_of is)) a.faultless;
}
