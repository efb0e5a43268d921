-- A theory that is read can be printed, and passes the checks; so its printed text is read, where it is within the limits.
use Rattle.std.proofs.Common.{◌≡◌, ℕ, false, List, [], ◌∷◌, Option, Some, None, Ok, refl, sym, subst, arith}
use Rattle.std.specs.Prelude.{Result, map, All}
use Rattle.std.specs.Option.{option_or}
use Rattle.std.proofs.lemmas.List.Elements.{All-nil, All-cons, All-head, All-tail}
use Rattle.sap_terms.specs.Signature.{Sig}
use Rattle.sap_terms.specs.declared.limits.TheConstants.{MOST_THEORY_NAME_BYTES}
use Rattle.sap_formula.specs.Faults.{HasNoFault}
use Rattle.sap_formula.specs.Form.{RestrictionForm, LemmaForm}
use Rattle.sap_rule.specs.declared.theory.Theory.{Theory}
use Rattle.sap_grammar.specs.Words.{words_of}
use Rattle.sap_grammar.specs.Printed.{ArePrinted}
use Rattle.sap_grammar.specs.Items.{Standing}
use Rattle.sap_statements.specs.declared.statement.Statement.{Statement}
use Rattle.sap_statements.specs.declared.statement.Statement.TheVariants.{Restriction as restriction, Lemma as lemma}
use Rattle.sap_statements.specs.Statements.{formula_of}
use Rattle.sap_theory.specs.declared.fault.TheoryFault.{TheoryFault}
use Rattle.sap_theory.specs.TheoryGrammar.{TheoryItem, builtins, functions, rule, statement, signature_of, items_of, rules_in, statements_in, restrictions_in, lemmas_in}
use Rattle.sap_theory.specs.TheoryOver.{IsTheoryOver}
use Rattle.sap_theory.specs.PrintableTheory.{IsPrintable}
use Rattle.sap_statements.specs.Stated.{AreFaultless, restrictions_of, lemmas_of}
use Rattle.sap_theory.specs.TheoryCauses.{first_repeated, rule_names, statement_names, AreAccepted}
use Rattle.sap_theory.specs.ReadTheory.{theory_of, IsTheoryRead, no_tokens, no_header, no_item, refused, accepted}
use Rattle.sap_theory.specs.ReadAgain.{SpellsWithin, PassesChecks, names_of}
use Rattle.sap_theory.proofs.DistinctNames.{names_sorted}
use Rattle.sap_theory.proofs.PrintedTheories.{WordLaws}
use Rattle.sap_theory.proofs.ReadSpelled.{SortsAgree, sorted_item, same_restrictions, same_lemmas}
use Rattle.sap_theory.proofs.SpelledTheories.{FormLaws, spelled_is_printable}
use Rattle.sap_theory.proofs.WrittenFaults.{faultless_as_sorted}

neither : (a b : Option (List ℕ)) → option_or a b ≡ None → (a ≡ None) × (b ≡ None)
neither None b e = (refl, e)
neither (Some x) b e = absurd (cc (e))

module _ (g : Sig) where
  abbrev IsFree : Statement → Type 0
  IsFree s = HasNoFault g false (formula_of s)

  abbrev RestrictionFree : RestrictionForm → Type 0
  RestrictionFree r = HasNoFault g false r.formula

  abbrev LemmaFree : LemmaForm → Type 0
  LemmaFree l = HasNoFault g false l.formula

  restrictions_free : (vs : List TheoryItem) → AreFaultless g false (statements_in vs) → All RestrictionFree (restrictions_in (map sorted_item vs))
  restrictions_free [] a = All-nil RestrictionFree
  restrictions_free (builtins bs ∷ vs) a = restrictions_free vs a
  restrictions_free (functions ss ∷ vs) a = restrictions_free vs a
  restrictions_free (rule r ∷ vs) a = restrictions_free vs a
  restrictions_free (statement (restriction r) ∷ vs) a =
      All-cons RestrictionFree _ (restrictions_in (map sorted_item vs)) (faultless_as_sorted g false r.formula (All-head IsFree (restriction r) (statements_in vs) a))
      (restrictions_free vs (All-tail IsFree (restriction r) (statements_in vs) a))
  restrictions_free (statement (lemma l) ∷ vs) a = restrictions_free vs (All-tail IsFree (lemma l) (statements_in vs) a)

  lemmas_free : (vs : List TheoryItem) → AreFaultless g false (statements_in vs) → All LemmaFree (lemmas_in (map sorted_item vs))
  lemmas_free [] a = All-nil LemmaFree
  lemmas_free (builtins bs ∷ vs) a = lemmas_free vs a
  lemmas_free (functions ss ∷ vs) a = lemmas_free vs a
  lemmas_free (rule r ∷ vs) a = lemmas_free vs a
  lemmas_free (statement (restriction r) ∷ vs) a = lemmas_free vs (All-tail IsFree (restriction r) (statements_in vs) a)
  lemmas_free (statement (lemma l) ∷ vs) a =
      All-cons LemmaFree _ (lemmas_in (map sorted_item vs)) (faultless_as_sorted g false l.formula (All-head IsFree (lemma l) (statements_in vs) a))
      (lemmas_free vs (All-tail IsFree (lemma l) (statements_in vs) a))

module _ (agree : SortsAgree) where
  -- what is accepted passes the checks with the sorts of binders
  accepted_passes : (x : List ℕ) (is : List (Standing TheoryItem)) (clash : Option (List ℕ)) → AreAccepted (signature_of is) clash (rules_in (items_of is)) (statements_in (items_of is)) → PassesChecks (theory_of x is)
  accepted_passes x is clash a =
      let vs = items_of is in
      let g = signature_of is in
      let restrictions : restrictions_of (statements_in vs) ≡ restrictions_in (map sorted_item vs) = same_restrictions g agree vs a.faultless in
      let lemmas : lemmas_of (statements_in vs) ≡ lemmas_in (map sorted_item vs) = same_lemmas g agree vs a.faultless in
      let names = neither (first_repeated (rule_names (rules_in vs))) (first_repeated (statement_names (statements_in vs))) a.names in
      record {
        rule_names = names.0;
        names =
            subst (λ (rs : List RestrictionForm). first_repeated (names_of rs (lemmas_of (statements_in vs))) ≡ None) (sym restrictions)
            (subst (λ (ls : List LemmaForm). first_repeated (names_of (restrictions_in (map sorted_item vs)) ls) ≡ None) (sym lemmas) (names_sorted vs names.1));
        over = a.over;
        plain = a.plain;
        restrictions = subst (All (RestrictionFree g)) (sym restrictions) (restrictions_free g vs a.faultless);
        lemmas = subst (All (LemmaFree g)) (sym lemmas) (lemmas_free g vs a.faultless);
      }

  answer_passes : (z : List ℕ) (o : Result Theory TheoryFault) (t : Theory) → o ≡ Ok t → IsTheoryRead z o → PassesChecks t
  answer_passes z _ t e (no_tokens l) = absurd (cc (e))
  answer_passes z _ t e (no_header l h) = absurd (cc (e))
  answer_passes z _ t e (no_item p f) = absurd (cc (e))
  answer_passes z _ t e (refused p i f) = absurd (cc (e))
  answer_passes z _ t e (accepted {x = x} {is = is} p i a) = let same : theory_of x is ≡ t = cc (e) in subst PassesChecks same (accepted_passes x is _ a)

  pub read_passes : (z : List ℕ) (t : Theory) → IsTheoryRead z (Ok t) → PassesChecks t
  read_passes z t r = answer_passes z (Ok t) t refl r

-- a theory that is read can be printed

pub printable_as_read : ArePrinted → FormLaws → WordLaws → (z : List ℕ) (t : Theory) → SpellsWithin z t → IsTheoryOver t → IsPrintable MOST_THEORY_NAME_BYTES t
printable_as_read printed forms words z t w over =
    let r = w.spelled in
    let wide = words.room r.most MOST_THEORY_NAME_BYTES z (words_of z r.tokens) w.short (words.tokens r.most z r.tokens r.lexed) in
    spelled_is_printable printed forms MOST_THEORY_NAME_BYTES (omega arith) z t r (words.held MOST_THEORY_NAME_BYTES z (words_of z r.tokens) wide) over
