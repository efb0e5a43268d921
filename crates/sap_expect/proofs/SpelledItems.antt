-- Words that follow the table are a file's, where names begin with letters.
use Rattle.std.proofs.Common.{◌≡◌, ℕ, List, [], ◌∷◌, None, refl, subst}
use Rattle.sap_terms.specs.Signature.{Sig}
use Rattle.sap_grammar.specs.Words.{Word}
use Rattle.sap_expect.specs.declared.wanted.Part.{Part}
use Rattle.sap_expect.specs.declared.wanted.Part.TheVariants.{Application, Arguments, Arrow, Atom, Attribute, Bars, Binders, Builtin as ABuiltin, Conjunction, Disjunction, Else, Ended, Equivalence, Fact, Facts, File, Formula, Function, Implication, Items, Lemma, LowerAtom, Message, Mode, MoreAttributes, MoreBinders, MoreBuiltins, MoreConjunction, MoreDisjunction, MoreEquivalence, MoreFacts, MoreFunctions, MoreImplication, MoreParameters, MoreParts, MoreShown, MoreTerms, NewName, Pair, Parameters, Privacy, Process, Sequence, Shown, Term, Terms, Then, Time, Times, Truth, UpperAtom}
use Rattle.sap_expect.specs.FileTable.{FollowsTable, Open, Reads, Takes, file, otherwise, reads_end, reads_word, row, rows}
use Rattle.sap_expect.specs.FileWords.{IsFileWords}
use Rattle.sap_expect.specs.Letters.{AreLettered, IsLettered}
use Rattle.sap_expect.proofs.Meant.{AreOther, AreRow, Parted, parted}
use Rattle.sap_expect.proofs.MeantItems.{file_of}
use Rattle.sap_expect.proofs.ItemRows.{attribute_row, builtin_row, file_row, function_row, items_row, lemma_row, mode_row, more_attributes_row, more_builtins_other, more_builtins_row, more_functions_other, more_functions_row, more_parameters_row, of_items, parameters_row, privacy_other, privacy_row}
use Rattle.sap_expect.proofs.SequenceRows.{arguments_other, arguments_row, arrow_row, bars_other, bars_row, else_other, else_row, message_row, new_name_row, process_other, sequence_row, then_other, then_row}
use Rattle.sap_expect.proofs.Takes.{no_takes}
use Rattle.sap_expect.proofs.SpelledFormulas.{each_lettered, formula_others, formula_rows}

module _ (g : Sig) where
  item_rows : (p : Part) (m n : ℕ) (w : Word) (a : List Word) (k : ℕ) (b : List Word) → IsLettered w → AreRow (of_items g) (rows p) m n w a k b → of_items g p m n (w ∷ a) k b
  item_rows File m n w a k b l h = file_row g m n h
  item_rows Items m n w a k b l h = items_row g m n h
  item_rows ABuiltin m n w a k b l h = builtin_row g m n h
  item_rows MoreBuiltins m n w a k b l h = more_builtins_row g m n h
  item_rows Function m n w a k b l h = function_row g m n h
  item_rows Privacy m n w a k b l h = privacy_row g m n h
  item_rows MoreFunctions m n w a k b l h = more_functions_row g m n h
  item_rows Parameters m n w a k b l h = parameters_row g m n h
  item_rows MoreParameters m n w a k b l h = more_parameters_row g m n h
  item_rows Lemma m n w a k b l h = lemma_row g m n h
  item_rows Attribute m n w a k b l h = attribute_row g m n h
  item_rows MoreAttributes m n w a k b l h = more_attributes_row g m n h
  item_rows Mode m n w a k b l h = mode_row g m n h
  item_rows Process m n w a k b l h = absurd h
  item_rows Bars m n w a k b l h = bars_row g m n h
  item_rows Sequence m n w a k b l h = sequence_row g m n h
  item_rows Arguments m n w a k b l h = arguments_row g m n h
  item_rows Then m n w a k b l h = then_row g m n h
  item_rows Else m n w a k b l h = else_row g m n h
  item_rows NewName m n w a k b l h = new_name_row g m n h
  item_rows Message m n w a k b l h = message_row g m n h
  item_rows Facts m n w a k b l h = formula_rows g Facts m n w a k b l h
  item_rows MoreFacts m n w a k b l h = formula_rows g MoreFacts m n w a k b l h
  item_rows Fact m n w a k b l h = formula_rows g Fact m n w a k b l h
  item_rows Arrow m n w a k b l h = arrow_row g m n h
  item_rows Shown m n w a k b l h = formula_rows g Shown m n w a k b l h
  item_rows MoreShown m n w a k b l h = formula_rows g MoreShown m n w a k b l h
  item_rows Term m n w a k b l h = formula_rows g Term m n w a k b l h
  item_rows Application m n w a k b l h = formula_rows g Application m n w a k b l h
  item_rows Terms m n w a k b l h = formula_rows g Terms m n w a k b l h
  item_rows MoreTerms m n w a k b l h = formula_rows g MoreTerms m n w a k b l h
  item_rows Pair m n w a k b l h = formula_rows g Pair m n w a k b l h
  item_rows MoreParts m n w a k b l h = formula_rows g MoreParts m n w a k b l h
  item_rows Equivalence m n w a k b l h = absurd h
  item_rows MoreEquivalence m n w a k b l h = formula_rows g MoreEquivalence m n w a k b l h
  item_rows Ended m n w a k b l h = formula_rows g Ended m n w a k b l h
  item_rows Implication m n w a k b l h = absurd h
  item_rows MoreImplication m n w a k b l h = formula_rows g MoreImplication m n w a k b l h
  item_rows Disjunction m n w a k b l h = absurd h
  item_rows MoreDisjunction m n w a k b l h = formula_rows g MoreDisjunction m n w a k b l h
  item_rows Conjunction m n w a k b l h = absurd h
  item_rows MoreConjunction m n w a k b l h = formula_rows g MoreConjunction m n w a k b l h
  item_rows Formula m n w a k b l h = formula_rows g Formula m n w a k b l h
  item_rows Truth m n w a k b l h = formula_rows g Truth m n w a k b l h
  item_rows Atom m n w a k b l h = formula_rows g Atom m n w a k b l h
  item_rows UpperAtom m n w a k b l h = formula_rows g UpperAtom m n w a k b l h
  item_rows LowerAtom m n w a k b l h = formula_rows g LowerAtom m n w a k b l h
  item_rows Times m n w a k b l h = formula_rows g Times m n w a k b l h
  item_rows Time m n w a k b l h = formula_rows g Time m n w a k b l h
  item_rows Binders m n w a k b l h = formula_rows g Binders m n w a k b l h
  item_rows MoreBinders m n w a k b l h = formula_rows g MoreBinders m n w a k b l h

  item_others : (p : Part) (m n : ℕ) (w : Word) (a : List Word) (k : ℕ) (b : List Word) → IsLettered w → row p w ≡ None → AreOther (of_items g) (otherwise p) m n (w ∷ a) k b
      → of_items g p m n (w ∷ a) k b
  item_others File m n w a k b l e h = absurd h
  item_others Items m n w a k b l e h = absurd h
  item_others ABuiltin m n w a k b l e h = absurd h
  item_others MoreBuiltins m n w a k b l e h = more_builtins_other g m n h
  item_others Function m n w a k b l e h = absurd h
  item_others Privacy m n w a k b l e h = privacy_other g m n h
  item_others MoreFunctions m n w a k b l e h = more_functions_other g m n h
  item_others Parameters m n w a k b l e h = absurd h
  item_others MoreParameters m n w a k b l e h = absurd h
  item_others Lemma m n w a k b l e h = absurd h
  item_others Attribute m n w a k b l e h = absurd h
  item_others MoreAttributes m n w a k b l e h = absurd h
  item_others Mode m n w a k b l e h = absurd h
  item_others Process m n w a k b l e h = process_other g m n h
  item_others Bars m n w a k b l e h = bars_other g m n h
  item_others Sequence m n w a k b l e h = absurd h
  item_others Arguments m n w a k b l e h = arguments_other g m n h
  item_others Then m n w a k b l e h = then_other g m n h
  item_others Else m n w a k b l e h = else_other g m n e h
  item_others NewName m n w a k b l e h = absurd h
  item_others Message m n w a k b l e h = absurd h
  item_others Facts m n w a k b l e h = formula_others g Facts m n w a k b l e h
  item_others MoreFacts m n w a k b l e h = absurd h
  item_others Fact m n w a k b l e h = absurd h
  item_others Arrow m n w a k b l e h = absurd h
  item_others Shown m n w a k b l e h = absurd h
  item_others MoreShown m n w a k b l e h = absurd h
  item_others Term m n w a k b l e h = absurd h
  item_others Application m n w a k b l e h = formula_others g Application m n w a k b l e h
  item_others Terms m n w a k b l e h = formula_others g Terms m n w a k b l e h
  item_others MoreTerms m n w a k b l e h = absurd h
  item_others Pair m n w a k b l e h = absurd h
  item_others MoreParts m n w a k b l e h = absurd h
  item_others Equivalence m n w a k b l e h = formula_others g Equivalence m n w a k b l e h
  item_others MoreEquivalence m n w a k b l e h = formula_others g MoreEquivalence m n w a k b l e h
  item_others Ended m n w a k b l e h = formula_others g Ended m n w a k b l e h
  item_others Implication m n w a k b l e h = formula_others g Implication m n w a k b l e h
  item_others MoreImplication m n w a k b l e h = formula_others g MoreImplication m n w a k b l e h
  item_others Disjunction m n w a k b l e h = formula_others g Disjunction m n w a k b l e h
  item_others MoreDisjunction m n w a k b l e h = formula_others g MoreDisjunction m n w a k b l e h
  item_others Conjunction m n w a k b l e h = formula_others g Conjunction m n w a k b l e h
  item_others MoreConjunction m n w a k b l e h = formula_others g MoreConjunction m n w a k b l e h
  item_others Formula m n w a k b l e h = formula_others g Formula m n w a k b l e h
  item_others Truth m n w a k b l e h = formula_others g Truth m n w a k b l e h
  item_others Atom m n w a k b l e h = absurd h
  item_others UpperAtom m n w a k b l e h = absurd h
  item_others LowerAtom m n w a k b l e h = absurd h
  item_others Times m n w a k b l e h = absurd h
  item_others Time m n w a k b l e h = absurd h
  item_others Binders m n w a k b l e h = absurd h
  item_others MoreBinders m n w a k b l e h = formula_others g MoreBinders m n w a k b l e h

  item_parts : (n : ℕ) (vs : List Open) (ws : List Word) → Reads n vs ws → AreLettered ws → Parted (of_items g) n vs ws
  item_parts n vs ws r l = parted (of_items g) IsLettered item_rows item_others r (each_lettered (of_items g) ws l)

-- nothing is behind where nothing is wanted
no_more : (n : ℕ) (vs : List Open) (ws : List Word) → Reads n vs ws → vs ≡ [] → ws ≡ []
no_more n vs ws reads_end e = refl
no_more n vs ws (reads_word {k = k} {next = next} {w = w} t r) e = absurd (no_takes n w k next (subst (λ (x : List Open). Takes n x w k next) e t))

pub file_spelled : (g : Sig) (ws : List Word) → AreLettered ws → FollowsTable ws → IsFileWords ws
file_spelled g ws l r =
    let h = item_parts g 0 file ws r l in
    file_of h.1.2 (no_more h.1.0 [] h.1.1 h.1.3 refl)
