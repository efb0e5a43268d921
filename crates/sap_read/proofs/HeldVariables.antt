-- The identifiers of a file hold the names of its variables.
use Rattle.std.proofs.Common.{ℕ, List}
use Rattle.std.specs.List.{AllByRecursion}
use Rattle.std.proofs.lemmas.List.Elements.{All-from_recursion}
use Rattle.sap_text.specs.declared.token.Token.{Token}
use Rattle.sap_grammar.specs.Cut.{Placed, placed}
use Rattle.sap_grammar.specs.Words.{words_of}
use Rattle.sap_read.specs.FileProcess.{definitions_of}
use Rattle.sap_read.specs.Files.{IsParted}
use Rattle.sap_read.specs.HeldVariables.{IsAmong, HoldsDefinitionVariables, HoldsProcessVariables, HoldsFileVariables}
use Rattle.sap_read.specs.Identifiers.{identifiers_of}
use Rattle.sap_read.specs.Item.{Body, Standing, bodies, signature_of}
use Rattle.sap_read.specs.ItemGrammar.{AreItems}
use Rattle.sap_read.specs.Occurring.{OfNames, Any}
use Rattle.sap_read.proofs.FewNames.{any_words, definitions_so, main_so, words_known}
use Rattle.sap_read.proofs.OccurringWords.{BodyNamesAre, WordsNamesAre, PlacedNamesAre, bodies_names, cut_names, header_names, placed_names}

module _ (M : OfNames) (z : List ℕ) (ts : List Token) (x : List ℕ) (cut : List (List Placed)) where
  -- the words of the items have identifiers of the file, and what stands between quotes is as it is in the file
  pub cut_known : WordsNamesAre Any M (words_of z ts) → IsParted z ts x cut → AllByRecursion (PlacedNamesAre (IsAmong (identifiers_of (words_of z ts))) M) cut
  cut_known h l =
      let N : OfNames = IsAmong (identifiers_of (words_of z ts)) in
      cut_names N M l.items (header_names N M x (placed z ts) l.rest l.header (placed_names N M z ts (words_known M (words_of z ts) h)))

-- so are the names in bodies and in parameters
pub bodies_hold : (names : List (List ℕ)) (bs : List Body) → AllByRecursion (BodyNamesAre (IsAmong names) Any) bs → HoldsFileVariables names bs
bodies_hold names bs own = record {
  definitions = All-from_recursion (HoldsDefinitionVariables names) (definitions_of bs) (definitions_so (BodyNamesAre (IsAmong names) Any) (HoldsDefinitionVariables names)
      (λ b x so. record { params = All-from_recursion (IsAmong names) b.params so.0; body = so.1 }) bs own);
  process = λ p e. main_so (BodyNamesAre (IsAmong names) Any) (HoldsProcessVariables names) (λ b so. so.1) bs p own e;
}

pub identifiers_hold : (z : List ℕ) (ts : List Token) (x : List ℕ) (cut : List (List Placed)) (is : List Standing) → IsParted z ts x cut → AreItems (signature_of is) cut is
    → HoldsFileVariables (identifiers_of (words_of z ts)) (bodies is)
identifiers_hold z ts x cut is l h =
    let names = identifiers_of (words_of z ts) in
    bodies_hold names (bodies is) (bodies_names (IsAmong names) Any (signature_of is) h (cut_known Any z ts x cut (any_words (words_of z ts)) l))
