-- Rows of the table for items, backwards.
use Rattle.std.proofs.Common.{◌≤◌, ℕ, inl, inr, List, ◌∷◌, arith}
use Rattle.sap_terms.specs.declared.limits.TheConstants.{MOST_PROCESS_LEVELS}
use Rattle.sap_terms.specs.declared.signature.Builtin.{Builtin}
use Rattle.sap_terms.specs.Signature.{Sig}
use Rattle.sap_formula.specs.Form.{Form}
use Rattle.sap_formula_grammar.specs.FormulaGrammar.{IsIff, IsShortFormula}
use Rattle.sap_grammar.specs.Words.{Word}
use Rattle.sap_grammar.specs.Declarations.{IsBuiltin, spells_asymmetric, spells_hashing, spells_revealing, spells_signing, spells_symmetric}
use Rattle.sap_draft.specs.declared.limits.TheConstants.{FILE_LIMITS}
use Rattle.sap_statements.specs.Statements.{is_reuse, is_sources, is_use_induction, mode_all, mode_exists, mode_missing, with_attributes, without_attributes}
use Rattle.sap_read.specs.ItemGrammar.{with_parameters, without_parameters}
use Rattle.sap_expect.specs.declared.wanted.Part.TheVariants.{Arguments, Arrow, Attribute, Bars, Builtin as ABuiltin, Else, File, Function, Items, Lemma, Message, Mode, MoreAttributes, MoreBuiltins, MoreFunctions, MoreParameters, NewName, Parameters, Privacy, Process, Sequence, Then}
use Rattle.sap_expect.specs.FileTable.{otherwise, rows}
use Rattle.sap_expect.proofs.Meant.{AreOther, AreRow, Meaning, first, is_any, is_arity_word, is_named, is_sign, is_small, same}
use Rattle.sap_expect.proofs.MeantItems.{AreMoreAttributes, AreMoreBuiltins, AreMoreParameters, AreMoreSymbols, HasSymbols, IsBehindArity, SomeAttribute, SomeFile, SomeItems, SomeLemma, SomeMode, SomeParameters, attributes_end, attributes_next, attributes_of, builtins_item, builtins_none, builtins_of, builtins_some, definition_item, end_items, functions_item, is_private, lemma_item, not_private, parameters_end, parameters_next, parameters_of, process_item, restriction_item, some_attribute, some_file, some_lemma, some_mode, symbols_none, symbols_of, symbols_some}
use Rattle.sap_expect.proofs.FormulaRows.{of_formulas}
use Rattle.sap_expect.proofs.MeantFormulas.{NoIff, Whole}
use Rattle.sap_expect.proofs.SequenceRows.{of_processes}

abbrev pub SomeBuiltin : List Word → List Word → Type 0
SomeBuiltin a b = (v : Builtin) × IsBuiltin v a b

abbrev pub of_items : Sig → Meaning
of_items g File m n a k b = SomeFile a b
of_items g Items m n a k b = SomeItems a b
of_items g ABuiltin m n a k b = SomeBuiltin a b
of_items g MoreBuiltins m n a k b = AreMoreBuiltins a b
of_items g Function m n a k b = HasSymbols a b
of_items g Privacy m n a k b = IsBehindArity a b
of_items g MoreFunctions m n a k b = AreMoreSymbols a b
of_items g Parameters m n a k b = SomeParameters a b
of_items g MoreParameters m n a k b = AreMoreParameters a b
of_items g Lemma m n a k b = SomeLemma g a b
of_items g Attribute m n a k b = SomeAttribute a b
of_items g MoreAttributes m n a k b = AreMoreAttributes a b
of_items g Mode m n a k b = SomeMode g a b
of_items g NewName m n a k b = of_processes g NewName m n a k b
of_items g Message m n a k b = of_processes g Message m n a k b
of_items g Arrow m n a k b = of_processes g Arrow m n a k b
of_items g Arguments m n a k b = of_processes g Arguments m n a k b
of_items g Then m n a k b = of_processes g Then m n a k b
of_items g Else m n a k b = of_processes g Else m n a k b
of_items g Sequence m n a k b = of_processes g Sequence m n a k b
of_items g Process m n a k b = of_processes g Process m n a k b
of_items g Bars m n a k b = of_processes g Bars m n a k b
of_items g p m n a k b = of_formulas g p m n a k b

-- a formula up to its closing quotation mark
pub quoted_formula : {g : Sig} {k : ℕ} {a b : List Word} → (1 ≤ FILE_LIMITS.formula_levels → Whole (IsIff g) NoIff FILE_LIMITS.formula_levels a k b) → (f : Form) × IsShortFormula g FILE_LIMITS f a b
quoted_formula {k = k} q =
    let h = q (omega arith) in
    let few = h.1.1 in
    (h.0.form, record { reach = h.0.reach; levels = k; spelled = h.0.is; few_levels = few; small = h.0.small })

some_levels : 1 ≤ MOST_PROCESS_LEVELS
some_levels = omega arith

module _ (g : Sig) (m n : ℕ) where
  pub file_row : {w : Word} {a : List Word} {k : ℕ} {b : List Word} → AreRow (of_items g) (rows File) m n w a k b → SomeFile (w ∷ a) b
  file_row (inl (is_sign, o, (i, c, first is_any, (j, d, first is_sign, (x, e, q, same))))) = some_file q
  file_row (inr (_, h)) = absurd h

  pub items_row : {w : Word} {a : List Word} {k : ℕ} {b : List Word} → AreRow (of_items g) (rows Items) m n w a k b → SomeItems (w ∷ a) b
  items_row (inl (is_sign, o, (i, c, first is_sign, (j, d, (v, s), (x, e, more, same))))) = builtins_item g (builtins_of s more)
  items_row (inr (_, inl (is_sign, o, (i, c, first is_sign, (j, d, h, same))))) = functions_item g h
  items_row (inr (_, inr (_, inl (is_sign, o, (i, c, first is_any, (j, d, (xs, s), (x, e, p, (y, f, h, same)))))))) =
      let q = p some_levels in
      definition_item _ s q.is q.few h
  items_row (inr (_, inr (_, inr (_, inl (is_sign, o, (i, c, first is_sign, (j, d, p, (x, e, h, same)))))))) =
      let q = p some_levels in
      process_item q.is q.few h
  items_row (inr (_, inr (_, inr (_, inr (_, inl (is_sign, o, (i, c, first is_any, (j, d, first is_sign, (x, e, first is_sign, (y, f, q, (z, p, first is_sign, (v, r, h, same)))))))))))) =
      restriction_item _ (quoted_formula q).1 h
  items_row (inr (_, inr (_, inr (_, inr (_, inr (_, inl (is_sign, o, (i, c, first is_any, (j, d, q, (x, e, h, same)))))))))) = lemma_item _ q h
  items_row (inr (_, inr (_, inr (_, inr (_, inr (_, inr (_, inl (is_sign, o, same)))))))) = end_items
  items_row (inr (_, inr (_, inr (_, inr (_, inr (_, inr (_, inr (_, h)))))))) = absurd h

  pub builtin_row : {w : Word} {a : List Word} {k : ℕ} {b : List Word} → AreRow (of_items g) (rows ABuiltin) m n w a k b → SomeBuiltin (w ∷ a) b
  builtin_row (inl (is_named, o, same)) = (_, spells_hashing)
  builtin_row (inr (_, inl (is_named, o, (i, c, first is_sign, (j, d, first is_named, same))))) = (_, spells_symmetric)
  builtin_row (inr (_, inr (_, inl (is_named, o, (i, c, first is_sign, (j, d, first is_named, same)))))) = (_, spells_asymmetric)
  builtin_row (inr (_, inr (_, inr (_, inl (is_named, o, same))))) = (_, spells_signing)
  builtin_row (inr (_, inr (_, inr (_, inr (_, inl (is_named, o, (i, c, first is_sign, (j, d, first is_named, same)))))))) = (_, spells_revealing)
  builtin_row (inr (_, inr (_, inr (_, inr (_, inr (_, h)))))) = absurd h

  pub more_builtins_row : {w : Word} {a : List Word} {k : ℕ} {b : List Word} → AreRow (of_items g) (rows MoreBuiltins) m n w a k b → AreMoreBuiltins (w ∷ a) b
  more_builtins_row (inl (is_sign, o, (i, c, (v, s), (j, d, more, same)))) = builtins_some (builtins_of s more)
  more_builtins_row (inr (_, h)) = absurd h

  pub more_builtins_other : {w : Word} {a : List Word} {k : ℕ} {b : List Word} → AreOther (of_items g) (otherwise MoreBuiltins) m n (w ∷ a) k b → AreMoreBuiltins (w ∷ a) b
  more_builtins_other (o, (i, c, h, same)) = builtins_none h

  pub function_row : {w : Word} {a : List Word} {k : ℕ} {b : List Word} → AreRow (of_items g) (rows Function) m n w a k b → HasSymbols (w ∷ a) b
  function_row (inl (is_small low, o, (i, c, first is_sign, (j, d, first (is_arity_word few), (x, e, q, same))))) = symbols_of _ _ low few q
  function_row (inr (_, h)) = absurd h

  pub privacy_row : {w : Word} {a : List Word} {k : ℕ} {b : List Word} → AreRow (of_items g) (rows Privacy) m n w a k b → IsBehindArity (w ∷ a) b
  privacy_row (inl (is_sign, o, (i, c, first is_named, (j, d, first is_sign, (x, e, q, same))))) = is_private q
  privacy_row (inr (_, h)) = absurd h

  pub privacy_other : {w : Word} {a : List Word} {k : ℕ} {b : List Word} → AreOther (of_items g) (otherwise Privacy) m n (w ∷ a) k b → IsBehindArity (w ∷ a) b
  privacy_other (o, (i, c, q, same)) = not_private q

  pub more_functions_row : {w : Word} {a : List Word} {k : ℕ} {b : List Word} → AreRow (of_items g) (rows MoreFunctions) m n w a k b → AreMoreSymbols (w ∷ a) b
  more_functions_row (inl (is_sign, o, (i, c, q, same))) = symbols_some q
  more_functions_row (inr (_, h)) = absurd h

  pub more_functions_other : {w : Word} {a : List Word} {k : ℕ} {b : List Word} → AreOther (of_items g) (otherwise MoreFunctions) m n (w ∷ a) k b → AreMoreSymbols (w ∷ a) b
  more_functions_other (o, (i, c, h, same)) = symbols_none h

  pub parameters_row : {w : Word} {a : List Word} {k : ℕ} {b : List Word} → AreRow (of_items g) (rows Parameters) m n w a k b → SomeParameters (w ∷ a) b
  parameters_row (inl (is_sign, o, same)) = (_, without_parameters)
  parameters_row (inr (_, inl (is_sign, o, (i, c, first is_any, (j, d, more, (x, e, first is_sign, same)))))) = (_, with_parameters (parameters_of _ more).1)
  parameters_row (inr (_, inr (_, h))) = absurd h

  pub more_parameters_row : {w : Word} {a : List Word} {k : ℕ} {b : List Word} → AreRow (of_items g) (rows MoreParameters) m n w a k b → AreMoreParameters (w ∷ a) b
  more_parameters_row (inl (is_sign, o, same)) = parameters_end
  more_parameters_row (inr (_, inl (is_sign, o, (i, c, first is_any, (j, d, more, same))))) = parameters_next (parameters_of _ more).1
  more_parameters_row (inr (_, inr (_, h))) = absurd h

  pub lemma_row : {w : Word} {a : List Word} {k : ℕ} {b : List Word} → AreRow (of_items g) (rows Lemma) m n w a k b → SomeLemma g (w ∷ a) b
  lemma_row (inl (is_sign, o, (i, c, s, (j, d, more, (x, e, first is_sign, (y, f, q, same)))))) = some_lemma (with_attributes (attributes_of s more).1) q
  lemma_row (inr (_, inl (is_sign, o, (i, c, q, same)))) = some_lemma without_attributes q
  lemma_row (inr (_, inr (_, h))) = absurd h

  pub attribute_row : {w : Word} {a : List Word} {k : ℕ} {b : List Word} → AreRow (of_items g) (rows Attribute) m n w a k b → SomeAttribute (w ∷ a) b
  attribute_row (inl (is_named, o, same)) = some_attribute is_reuse
  attribute_row (inr (_, inl (is_named, o, same))) = some_attribute is_use_induction
  attribute_row (inr (_, inr (_, inl (is_named, o, same)))) = some_attribute is_sources
  attribute_row (inr (_, inr (_, inr (_, h)))) = absurd h

  pub more_attributes_row : {w : Word} {a : List Word} {k : ℕ} {b : List Word} → AreRow (of_items g) (rows MoreAttributes) m n w a k b → AreMoreAttributes (w ∷ a) b
  more_attributes_row (inl (is_sign, o, (i, c, s, (j, d, more, same)))) = attributes_next (attributes_of s more).1
  more_attributes_row (inr (_, inl (is_sign, o, same))) = attributes_end
  more_attributes_row (inr (_, inr (_, h))) = absurd h

  pub mode_row : {w : Word} {a : List Word} {k : ℕ} {b : List Word} → AreRow (of_items g) (rows Mode) m n w a k b → SomeMode g (w ∷ a) b
  mode_row (inl (is_sign, o, (i, c, q, (j, d, first is_sign, same)))) = some_mode mode_missing (quoted_formula q).1
  mode_row (inr (_, inl (is_named, o, (i, c, first is_sign, (j, d, first is_named, (x, e, first is_sign, (y, f, q, (z, p, first is_sign, same)))))))) = some_mode mode_all (quoted_formula q).1
  mode_row (inr (_, inr (_, inl (is_named, o, (i, c, first is_sign, (j, d, first is_named, (x, e, first is_sign, (y, f, q, (z, p, first is_sign, same))))))))) = some_mode mode_exists (quoted_formula q).1
  mode_row (inr (_, inr (_, inr (_, h)))) = absurd h
