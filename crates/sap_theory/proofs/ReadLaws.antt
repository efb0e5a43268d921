-- What the laws of the crates below say, as the proofs on reading need it.
use Rattle.std.specs.Prelude.{◌≡◌, ℕ, Bool, List, Some, codes}
use Rattle.sap_terms.specs.declared.fact.Fact.{Fact}
use Rattle.sap_terms.specs.declared.signature.Symbol.{Symbol}
use Rattle.sap_terms.specs.declared.signature.Builtin.{Builtin}
use Rattle.sap_terms.specs.Signature.{Sig}
use Rattle.sap_text.specs.Tokens.{Lexed, IsLexed}
use Rattle.sap_grammar.specs.declared.limits.Limits.{Limits}
use Rattle.sap_grammar.specs.Words.{Word}
use Rattle.sap_grammar.specs.Cut.{Placed, IsCut, IsHeader}
use Rattle.sap_grammar.specs.FactGrammar.{AreFacts}
use Rattle.sap_grammar.specs.TermReading.{facts}
use Rattle.sap_grammar.specs.Declarations.{Declaration, AreBuiltins, AreSymbols, Declares}
use Rattle.sap_grammar.specs.ItemReading.{declared_in}
use Rattle.sap_statements.specs.declared.statement.Statement.{Statement}
use Rattle.sap_statements.specs.Statements.{IsStatement}

-- there is one answer of the tokens, one header at most, one cut, one statement at most, one list of facts and of declarations
pub record ReadLaws : Type 0 where
  pub one_answer : (most : ℕ) (z : List ℕ) (o u : Lexed) → IsLexed most 0 1 z o → IsLexed most 0 1 z u → o ≡ u
  pub one_cut : (ps : List Placed) (is js : List (List Placed)) → IsCut ps is → IsCut ps js → is ≡ js
  pub one_header : (x y : List ℕ) (all rest tail : List Placed) → IsHeader x all rest → IsHeader y all tail → (x ≡ y) × (rest ≡ tail)
  pub one_statement : (g : Sig) (m : Limits) (s t : Statement) (a : List Word) → IsStatement g m s a → IsStatement g m t a → s ≡ t
  pub facts_read : (g : Sig) (m : Limits) (s : Bool) (w : List ℕ) (fs : List Fact) (a b : List Word) → (w ≡ codes "," → ⊥) → (w ≡ codes "!" → ⊥)
      → AreFacts g m s w fs a b → facts g m s w a ≡ Some (fs, b)
  pub declared : (ws : List Word) (ds : List Declaration) → Declares ws ds → declared_in ws ≡ Some ds
  pub one_builtins : (bs cs : List Builtin) (a : List Word) → AreBuiltins bs a → AreBuiltins cs a → bs ≡ cs
  pub one_symbols : (ss us : List Symbol) (a : List Word) → AreSymbols ss a → AreSymbols us a → ss ≡ us
