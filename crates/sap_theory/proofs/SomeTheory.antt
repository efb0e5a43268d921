-- Bytes are read as a theory, or refused for a cause.
use Rattle.std.proofs.Common.{◌≡◌, ℕ, Bool, false, List, [], ◌∷◌, Option, Some, None, Ok, Err, inl, inr, refl, sym, ap, subst}
use Rattle.std.specs.Prelude.{◌⊎◌, Result, All}
use Rattle.std.proofs.lemmas.List.Elements.{All-nil, All-cons}
use Rattle.sap_text.specs.declared.token.Token.{Token}
use Rattle.sap_text.specs.Tokens.{Lexed, IsLexed}
use Rattle.sap_terms.specs.Signature.{Sig, pairs_alone}
use Rattle.sap_terms.specs.declared.limits.TheConstants.{MOST_THEORY_NAME_BYTES}
use Rattle.sap_formula.specs.declared.fault.FormulaFault.{FormulaFault}
use Rattle.sap_rule.specs.declared.rule.Rule.{Rule}
use Rattle.sap_rule.specs.declared.theory.Theory.{Theory}
use Rattle.sap_rule.specs.WellMade.{IsRuleOver}
use Rattle.sap_grammar.specs.Words.{words_of}
use Rattle.sap_grammar.specs.Cut.{Placed, placed, IsHeader, last_line}
use Rattle.sap_grammar.specs.Items.{Standing}
use Rattle.sap_grammar.specs.Signatures.{signature_from, clash_from}
use Rattle.sap_grammar.specs.ItemReading.{header_of, declared_in_all}
use Rattle.sap_statements.specs.declared.statement.Statement.{Statement}
use Rattle.sap_theory.specs.declared.fault.TheoryFault.{TheoryFault}
use Rattle.sap_theory.specs.declared.fault.TheoryFault.TheVariants.{Lex as LexFault, Header, Syntax, DuplicateName, FunctionClash, BadFunction, BadRule, Formula}
use Rattle.sap_theory.specs.TheoryGrammar.{TheoryItem, declarations, signature_of, items_of, rules_in, statements_in}
use Rattle.sap_theory.specs.WrittenItems.{AreWrittenItems}
use Rattle.sap_statements.specs.Stated.{AreFaultless, IsFirstFaulty}
use Rattle.sap_theory.specs.TheoryCauses.{shared, IsPlainRule, IsFirstWrong, this_rule, later_rule, IsRefused, of_names, of_clash, of_symbols, of_shapes, of_formulas, AreAccepted}
use Rattle.sap_theory.specs.ReadTheory.{AreTokens, IsParted, theory_of, IsTheoryRead, no_tokens, no_header, no_item, refused, accepted}
use Rattle.sap_grammar.specs.TermLaws.{AreRead, AreSpelled}
use Rattle.sap_grammar.specs.ItemLaws.{ItemLaws}
use Rattle.sap_statements.specs.StatementLaws.{StatementLaws}
use Rattle.sap_theory.proofs.DecidedRules.{Decided, rule_over, plain_rule}
use Rattle.sap_theory.proofs.DeclaredItems.{written_declare}
use Rattle.sap_theory.proofs.Parts.{HeaderFound, pieces_of, parted}
use Rattle.sap_theory.proofs.SomeItems.{AreOrFault, written_or_fault}

-- no rule is wrong, or a first one
wrong_or_not : (Is : Rule → Type 0) (fault : List ℕ → TheoryFault) → ((r : Rule) → Decided (Is r)) → (rs : List Rule) → All Is rs ⊎ ((e : TheoryFault) × IsFirstWrong Is fault rs e)
wrong_or_not Is fault one [] = inl (All-nil Is)
wrong_or_not Is fault one (r ∷ rs) = by (one r) (wrong_or_not Is fault one rs)
  where
    by : Decided (Is r) → All Is rs ⊎ ((e : TheoryFault) × IsFirstWrong Is fault rs e) → All Is (r ∷ rs) ⊎ ((e : TheoryFault) × IsFirstWrong Is fault (r ∷ rs) e)
    by (inr n) o = inr (fault r.name, this_rule n)
    by (inl i) (inl all) = inl (All-cons Is r rs i all)
    by (inl i) (inr f) = inr (f.0, later_rule i f.1)

-- no cause holds, or a first one
abbrev IsJudged : Sig → Option (List ℕ) → List Rule → List Statement → Type 0
IsJudged g clash rs ss = AreAccepted g clash rs ss ⊎ ((e : TheoryFault) × IsRefused g clash rs ss e)

-- restrictions and lemmas have no fault, or a first one
abbrev pub SomeFaultyLaw : Type 0
SomeFaultyLaw = (g : Sig) (r : Bool) (ss : List Statement) → AreFaultless g r ss ⊎ ((x : List ℕ) × (f : FormulaFault) × IsFirstFaulty g r ss x f)

judged : SomeFaultyLaw → (g : Sig) (clash : Option (List ℕ)) (rs : List Rule) (ss : List Statement) → IsJudged g clash rs ss
judged some g clash rs ss = by_names (shared rs ss) refl
  where
    by_formulas : shared rs ss ≡ None → clash ≡ None → All (IsRuleOver g) rs → All IsPlainRule rs → AreFaultless g false ss ⊎ ((x : List ℕ) × (f : FormulaFault) × IsFirstFaulty g false ss x f) → IsJudged g clash rs ss
    by_formulas n c o p (inl all) = inl (record { names = n; no_clash = c; over = o; plain = p; faultless = all })
    by_formulas n c o p (inr f) = inr (Formula f.0 f.1, of_formulas n c o p f.2)

    by_shapes : shared rs ss ≡ None → clash ≡ None → All (IsRuleOver g) rs → All IsPlainRule rs ⊎ ((e : TheoryFault) × IsFirstWrong IsPlainRule BadRule rs e) → IsJudged g clash rs ss
    by_shapes n c o (inl p) = by_formulas n c o p (some g false ss)
    by_shapes n c o (inr f) = inr (f.0, of_shapes n c o f.1)

    by_symbols : shared rs ss ≡ None → clash ≡ None → All (IsRuleOver g) rs ⊎ ((e : TheoryFault) × IsFirstWrong (IsRuleOver g) BadFunction rs e) → IsJudged g clash rs ss
    by_symbols n c (inl o) = by_shapes n c o (wrong_or_not IsPlainRule BadRule plain_rule rs)
    by_symbols n c (inr f) = inr (f.0, of_symbols n c f.1)

    by_clash : shared rs ss ≡ None → (k : Option (List ℕ)) → clash ≡ k → IsJudged g clash rs ss
    by_clash n None c = by_symbols n c (wrong_or_not (IsRuleOver g) BadFunction (rule_over g) rs)
    by_clash n (Some x) c = inr (FunctionClash x, of_clash n c)

    by_names : (k : Option (List ℕ)) → shared rs ss ≡ k → IsJudged g clash rs ss
    by_names None n = by_clash n clash refl
    by_names (Some x) n = inr (DuplicateName x, of_names n)

abbrev IsReadSo : List ℕ → Type 0
IsReadSo z = (o : Result Theory TheoryFault) × IsTheoryRead z o

module _ (facts : AreRead) (too : AreSpelled) (laws : ItemLaws) (stated : StatementLaws) (faults : SomeFaultyLaw) (found : HeaderFound)
    (not_found : (z : List ℕ) (ts : List Token) → header_of (words_of z ts) ≡ None → (x : List ℕ) (rest : List Placed) → IsHeader x (placed z ts) rest → ⊥) (z : List ℕ) where
  from_items : {ts : List Token} {x : List ℕ} {cut : List (List Placed)} (is : List (Standing TheoryItem)) → IsParted z ts x cut → AreWrittenItems (signature_of is) cut is → IsReadSo z
  from_items {x = x} is p i = by (judged faults (signature_of is) (clash_from pairs_alone (declarations is)) (rules_in (items_of is)) (statements_in (items_of is)))
    where
      by : IsJudged (signature_of is) (clash_from pairs_alone (declarations is)) (rules_in (items_of is)) (statements_in (items_of is)) → IsReadSo z
      by (inl a) = (Ok (theory_of x is), accepted p i a)
      by (inr f) = (Err f.0, refused p i f.1)

  from_parts : (ts : List Token) (x : List ℕ) (cut : List (List Placed)) → IsParted z ts x cut → IsReadSo z
  from_parts ts x cut p = by (written_or_fault facts too laws stated (signature_from pairs_alone (declared_in_all cut)) (last_line (placed z ts)) cut)
    where
      by : AreOrFault facts too laws stated (signature_from pairs_alone (declared_in_all cut)) (last_line (placed z ts)) cut → IsReadSo z
      by (inl r) = from_items r.0 p (subst (λ (g : Sig). AreWrittenItems g cut r.0) (ap (signature_from pairs_alone) (sym (written_declare laws.declared r.1))) r.1)
      by (inr f) = (Err (Syntax f.0), no_item p f.1)

  from_tokens : (ts : List Token) → AreTokens z ts → IsReadSo z
  from_tokens ts t = by (header_of (words_of z ts)) refl
    where
      by : (o : Option (List ℕ)) → header_of (words_of z ts) ≡ o → IsReadSo z
      by None h = (Err Header, no_header t (not_found z ts h))
      by (Some x) h = from_parts ts x (pieces_of z ts) (parted laws found z ts x t h)

  pub some_theory : (o : Lexed) → IsLexed MOST_THEORY_NAME_BYTES 0 1 z o → IsReadSo z
  some_theory (Ok ts) l = from_tokens ts l
  some_theory (Err f) l = (Err (LexFault f), no_tokens l)
