-- What the bytes of a theory are read as.
use Rattle.std.specs.Prelude.{ℕ, List, Result, Ok, Err}
use Rattle.sap_text.specs.declared.fault.Lex.{Lex}
use Rattle.sap_text.specs.declared.token.Token.{Token}
use Rattle.sap_text.specs.Tokens.{IsLexed}
use Rattle.sap_terms.specs.Signature.{pairs_alone}
use Rattle.sap_terms.specs.declared.limits.TheConstants.{MOST_THEORY_NAME_BYTES}
use Rattle.sap_rule.specs.declared.theory.Theory.{Theory}
use Rattle.sap_grammar.specs.Cut.{Placed, placed, IsHeader, last_line}
use Rattle.sap_grammar.specs.Parted as parted
use Rattle.sap_grammar.specs.Items.{Standing}
use Rattle.sap_grammar.specs.Signatures.{clash_from}
use Rattle.sap_theory.specs.declared.fault.TheoryFault.{TheoryFault}
use Rattle.sap_theory.specs.declared.fault.TheoryFault.TheVariants.{Lex as LexFault, Header, Syntax}
use Rattle.sap_theory.specs.TheoryGrammar.{TheoryItem, declarations, signature_of, items_of, rules_in, statements_in}
use Rattle.sap_theory.specs.WrittenItems.{AreWrittenItems, IsFaultyTheory}
use Rattle.sap_statements.specs.Stated.{restrictions_of, lemmas_of}
use Rattle.sap_theory.specs.TheoryCauses.{IsRefused, AreAccepted}

-- the bytes are a theory's tokens, the longest of MOST_THEORY_NAME_BYTES
abbrev pub AreTokens : List ℕ → List Token → Type 0
AreTokens = parted.AreTokens MOST_THEORY_NAME_BYTES

-- the theory has this header, and these items as they are cut
abbrev pub IsParted : List ℕ → List Token → List ℕ → List (List Placed) → Type 0
IsParted = parted.IsParted MOST_THEORY_NAME_BYTES

-- the theory of this name with these items
abbrev pub theory_of : List ℕ → List (Standing TheoryItem) → Theory
theory_of x is = record {
  name = x;
  signature = signature_of is;
  rules = rules_in (items_of is);
  restrictions = restrictions_of (statements_in (items_of is));
  lemmas = lemmas_of (statements_in (items_of is));
}

-- the theory it is, or why it is refused
pub data IsTheoryRead (z : List ℕ) : Result Theory TheoryFault → Type 0 where
  no_tokens : {f : Lex} → IsLexed MOST_THEORY_NAME_BYTES 0 1 z (Err f)
      → IsTheoryRead z (Err (LexFault f))
  no_header : {ts : List Token} → AreTokens z ts
      → ((x : List ℕ) (rest : List Placed) → IsHeader x (placed z ts) rest → ⊥)
      → IsTheoryRead z (Err Header)
  no_item : {ts : List Token} {x : List ℕ} {cut : List (List Placed)} {line : ℕ}
      → IsParted z ts x cut
      → IsFaultyTheory (last_line (placed z ts)) cut line → IsTheoryRead z (Err (Syntax line))
  refused : {ts : List Token} {x : List ℕ} {cut : List (List Placed)}
      {is : List (Standing TheoryItem)} {e : TheoryFault} → IsParted z ts x cut
      → AreWrittenItems (signature_of is) cut is
      → IsRefused (signature_of is) (clash_from pairs_alone (declarations is))
      (rules_in (items_of is)) (statements_in (items_of is)) e
      → IsTheoryRead z (Err e)
  accepted : {ts : List Token} {x : List ℕ} {cut : List (List Placed)}
      {is : List (Standing TheoryItem)} → IsParted z ts x cut
      → AreWrittenItems (signature_of is) cut is
      → AreAccepted (signature_of is) (clash_from pairs_alone (declarations is))
      (rules_in (items_of is)) (statements_in (items_of is))
      → IsTheoryRead z (Ok (theory_of x is))
