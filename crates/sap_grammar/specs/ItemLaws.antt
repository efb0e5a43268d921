-- What the laws of headers, cuts and declarations say, as the proofs on files and theories need it: the law `item_laws` has it.
use Rattle.std.specs.Prelude.{◌≡◌, ℕ, List, Some, None, drop}
use Rattle.sap_terms.specs.declared.signature.Symbol.{Symbol}
use Rattle.sap_terms.specs.declared.signature.Builtin.{Builtin}
use Rattle.sap_text.specs.declared.token.Token.{Token}
use Rattle.sap_grammar.specs.Words.{Word, words_of}
use Rattle.sap_grammar.specs.Cut.{Placed, placed, IsCut, IsHeader}
use Rattle.sap_grammar.specs.Declarations.{Declaration, AreBuiltins, AreSymbols, Declares}
use Rattle.sap_grammar.specs.ItemReading.{cut, header_of, declared_in}

-- there is one header at most, one cut, and one list of what is declared, and each is read
pub record ItemLaws : Type 0 where
  pub is_cut : (ps : List Placed) → IsCut ps (cut ps)
  pub one_cut : (ps : List Placed) (is js : List (List Placed)) → IsCut ps is → IsCut ps js → is ≡ js
  pub one_header : (x y : List ℕ) (all rest tail : List Placed) → IsHeader x all rest → IsHeader y all tail → (x ≡ y) × (rest ≡ tail)
  pub header_is : (z : List ℕ) (ts : List Token) (x : List ℕ) → header_of (words_of z ts) ≡ Some x → IsHeader x (placed z ts) (placed z (drop 3 ts))
  pub header_none : (z : List ℕ) (ts : List Token) → header_of (words_of z ts) ≡ None → (x : List ℕ) (rest : List Placed) → IsHeader x (placed z ts) rest → ⊥
  pub declares : (ws : List Word) (ds : List Declaration) → declared_in ws ≡ Some ds → Declares ws ds
  pub declared : (ws : List Word) (ds : List Declaration) → Declares ws ds → declared_in ws ≡ Some ds
  pub one_builtins : (bs cs : List Builtin) (a : List Word) → AreBuiltins bs a → AreBuiltins cs a → bs ≡ cs
  pub one_symbols : (ss us : List Symbol) (a : List Word) → AreSymbols ss a → AreSymbols us a → ss ≡ us
