-- An item begins with a word that begins items, and none stands inside it.
use Rattle.std.proofs.Common.{◌≡◌, ℕ, true, false, List, ◌∷◌, refl}
use Rattle.std.specs.Prelude.{Bool}
use Rattle.sap_terms.specs.declared.fact.Fact.{Fact}
use Rattle.sap_terms.specs.declared.signature.Symbol.{Symbol}
use Rattle.sap_terms.specs.declared.signature.Builtin.{Builtin}
use Rattle.sap_terms.specs.Signature.{Sig}
use Rattle.sap_terms.specs.Tree.{Tree}
use Rattle.sap_formula.specs.Form.{Form}
use Rattle.sap_formula.specs.declared.lemma.Mode.{Mode}
use Rattle.sap_grammar.specs.declared.limits.Limits.{Limits}
use Rattle.sap_grammar.specs.Words.{Word, mark}
use Rattle.sap_grammar.specs.Cut.{is_item_word, AreNoItemWords}
use Rattle.sap_grammar.specs.TermGrammar.{IsList, list_last, list_more}
use Rattle.sap_grammar.specs.FactGrammar.{AreSomeFacts, AreFacts, facts_last, facts_more, facts_none, facts_some}
use Rattle.sap_grammar.specs.Declarations.{IsBuiltin, spells_hashing, spells_symmetric, spells_asymmetric, spells_signing, spells_revealing, AreBuiltins, builtins_last, builtins_more, IsSymbol, spells_public, spells_private, AreSymbols, symbols_last, symbols_more}
use Rattle.sap_grammar.specs.Printed.{ArePrinted}
use Rattle.sap_process.specs.Action.{Action}
use Rattle.sap_formula_grammar.specs.FormulaGrammar.{Reach, IsIff}
use Rattle.sap_macro.specs.Written.{Written}
use Rattle.sap_draft.specs.ProcessGrammar.{Ending, IsAction, IsBar, IsPar, IsSeq, action_acts, action_delete, action_event, action_input, action_insert, action_lock, action_new, action_new_fresh, action_out, action_receive, action_rule, action_send, action_unlock, one_bar, par_more, par_one, seq_action, seq_call, seq_if, seq_if_else, seq_lookup, seq_lookup_else, seq_nil, seq_parentheses, seq_replicated, seq_then, seq_use, two_bars}
use Rattle.sap_statements.specs.Statements.{AreAttributes, attributes_last, attributes_more, HasAttributes, without_attributes, with_attributes, IsMode, mode_missing, mode_all, mode_exists, is_restriction, is_lemma}
use Rattle.sap_read.specs.Item.{Item}
use Rattle.sap_read.specs.ItemGrammar.{AreParameters, HasParameters, IsItem, item_builtins, item_definition, item_functions, item_process, item_statement, parameters_last, parameters_more, with_parameters, without_parameters}

-- what the law of formulas says
abbrev pub FormsAreFree : Type 0
FormsAreFree = (g : Sig) (e : Reach) (f : Form) (n : ℕ) (a b : List Word) → IsIff g e f n a b → AreNoItemWords b → AreNoItemWords a

-- an item begins with the first of these words, and with none behind it
pub data BeginsOne : List Word → Type 0 where
  begins_one : {w : Word} {ws : List Word} → is_item_word w ≡ true → AreNoItemWords ws → BeginsOne (w ∷ ws)

module _ (printed : ArePrinted) (form_free : FormsAreFree) where
  list_free : {g : Sig} {ts : List Tree} {a b : List Word} → IsList g ts a b → AreNoItemWords b → AreNoItemWords a
  list_free (list_last r) h = printed.term_free _ _ _ _ r (refl, h)
  list_free (list_more r s) h = printed.term_free _ _ _ _ r (refl, list_free s h)

  some_facts_free : {g : Sig} {m : Limits} {s : Bool} {w : List ℕ} {fs : List Fact} {a b : List Word} → is_item_word (mark w) ≡ false → AreSomeFacts g m s w fs a b → AreNoItemWords b → AreNoItemWords a
  some_facts_free e (facts_last r) h = printed.fact_free _ _ _ _ r.spelled (e, h)
  some_facts_free e (facts_more r rs) h = printed.fact_free _ _ _ _ r.spelled (refl, some_facts_free e rs h)

  facts_free : {g : Sig} {m : Limits} {s : Bool} {w : List ℕ} {fs : List Fact} {a b : List Word} → is_item_word (mark w) ≡ false → AreFacts g m s w fs a b → AreNoItemWords b → AreNoItemWords a
  facts_free e facts_none h = (e, h)
  facts_free e (facts_some r) h = some_facts_free e r h

  action_free : {g : Sig} {m : Limits} {x : Action} {a b : List Word} → IsAction g m x a b → AreNoItemWords b → AreNoItemWords a
  action_free action_new h = (refl, (refl, h))
  action_free action_new_fresh h = (refl, (refl, (refl, h)))
  action_free (action_out s) h = (refl, (refl, printed.term_free _ _ _ _ s.spelled (refl, h)))
  action_free (action_send s q) h = (refl, (refl, printed.term_free _ _ _ _ s.spelled (refl, printed.term_free _ _ _ _ q.spelled (refl, h))))
  action_free (action_input s) h = (refl, (refl, printed.term_free _ _ _ _ s.spelled (refl, h)))
  action_free (action_receive s q) h = (refl, (refl, printed.term_free _ _ _ _ s.spelled (refl, printed.term_free _ _ _ _ q.spelled (refl, h))))
  action_free (action_event s) h = (refl, printed.fact_free _ _ _ _ s.spelled h)
  action_free (action_insert s q) h = (refl, printed.term_free _ _ _ _ s.spelled (refl, printed.term_free _ _ _ _ q.spelled h))
  action_free (action_delete s) h = (refl, printed.term_free _ _ _ _ s.spelled h)
  action_free (action_lock s) h = (refl, printed.term_free _ _ _ _ s.spelled h)
  action_free (action_unlock s) h = (refl, printed.term_free _ _ _ _ s.spelled h)
  action_free (action_rule s q) h = (refl, facts_free refl s (refl, (refl, facts_free refl q h)))
  action_free (action_acts s e q) h = (refl, facts_free refl s (refl, facts_free refl e (refl, facts_free refl q h)))

  bar_free : {w : List ℕ} → IsBar w → is_item_word (mark w) ≡ false
  bar_free one_bar = refl
  bar_free two_bars = refl

  mutual
    seq_free : {g : Sig} {m : Limits} {e : Ending} {p : Written} {k : ℕ} {a b : List Word} → IsSeq g m e p k a b → AreNoItemWords b → AreNoItemWords a
    seq_free seq_nil h = (refl, h)
    seq_free seq_call h = (refl, h)
    seq_free (seq_use s small) h = (refl, (refl, list_free s h))
    seq_free (seq_parentheses s) h = (refl, par_free s (refl, h))
    seq_free (seq_replicated s) h = (refl, seq_free s h)
    seq_free (seq_action s) h = action_free s h
    seq_free (seq_then s q) h = action_free s (refl, seq_free q h)
    seq_free (seq_if s u q) h = (refl, printed.term_free _ _ _ _ s.spelled (refl, printed.term_free _ _ _ _ u.spelled (refl, seq_free q h)))
    seq_free (seq_if_else s u q v) h = (refl, printed.term_free _ _ _ _ s.spelled (refl, printed.term_free _ _ _ _ u.spelled (refl, seq_free q (refl, seq_free v h))))
    seq_free (seq_lookup s q) h = (refl, printed.term_free _ _ _ _ s.spelled (refl, (refl, (refl, seq_free q h))))
    seq_free (seq_lookup_else s q v) h = (refl, printed.term_free _ _ _ _ s.spelled (refl, (refl, (refl, seq_free q (refl, seq_free v h)))))

    par_free : {g : Sig} {m : Limits} {p : Written} {k : ℕ} {a b : List Word} → IsPar g m p k a b → AreNoItemWords b → AreNoItemWords a
    par_free (par_one s) h = seq_free s h
    par_free (par_more x s q) h = seq_free s (bar_free x, par_free q h)

  parameters_free : {xs : List (List ℕ)} {a b : List Word} → AreParameters xs a b → AreNoItemWords b → AreNoItemWords a
  parameters_free parameters_last h = (refl, (refl, h))
  parameters_free (parameters_more s) h = (refl, (refl, parameters_free s h))

  heading_free : {xs : List (List ℕ)} {a b : List Word} → HasParameters xs a b → AreNoItemWords b → AreNoItemWords a
  heading_free without_parameters h = (refl, h)
  heading_free (with_parameters s) h = (refl, parameters_free s (refl, h))

  attributes_free : {xs : List (List ℕ)} {a b : List Word} → AreAttributes xs a b → AreNoItemWords b → AreNoItemWords a
  attributes_free (attributes_last i) h = (refl, (refl, h))
  attributes_free (attributes_more i r) h = (refl, (refl, attributes_free r h))

  has_free : {xs : List (List ℕ)} {a b : List Word} → HasAttributes xs a b → AreNoItemWords b → AreNoItemWords a
  has_free without_attributes h = h
  has_free (with_attributes r) h = (refl, attributes_free r h)

  mode_free : {d : Mode} {a b : List Word} → IsMode d a b → AreNoItemWords b → AreNoItemWords a
  mode_free mode_missing h = h
  mode_free mode_all h = (refl, (refl, (refl, h)))
  mode_free mode_exists h = (refl, (refl, (refl, h)))

  builtin_free : {x : Builtin} {a b : List Word} → IsBuiltin x a b → AreNoItemWords b → AreNoItemWords a
  builtin_free spells_hashing h = (refl, h)
  builtin_free spells_symmetric h = (refl, (refl, (refl, h)))
  builtin_free spells_asymmetric h = (refl, (refl, (refl, h)))
  builtin_free spells_signing h = (refl, h)
  builtin_free spells_revealing h = (refl, (refl, (refl, h)))

  builtins_free : {bs : List Builtin} {a : List Word} → AreBuiltins bs a → AreNoItemWords a
  builtins_free (builtins_last r) = builtin_free r tt
  builtins_free (builtins_more r s) = builtin_free r (refl, builtins_free s)

  symbol_free : {x : Symbol} {a b : List Word} → IsSymbol x a b → AreNoItemWords b → AreNoItemWords a
  symbol_free (spells_public low le) h = (refl, (refl, (refl, h)))
  symbol_free (spells_private low le) h = (refl, (refl, (refl, (refl, (refl, (refl, h))))))

  symbols_free : {ss : List Symbol} {a : List Word} → AreSymbols ss a → AreNoItemWords a
  symbols_free (symbols_last r) = symbol_free r tt
  symbols_free (symbols_more r s) = symbol_free r (refl, symbols_free s)

  pub item_free : {g : Sig} {i : Item} {a : List Word} → IsItem g i a → BeginsOne a
  item_free (item_builtins r) = begins_one refl (refl, builtins_free r)
  item_free (item_functions r) = begins_one refl (refl, symbols_free r)
  item_free (item_definition s q) = begins_one refl (refl, heading_free s (par_free q.spelled tt))
  item_free (item_process q) = begins_one refl (refl, par_free q.spelled tt)
  item_free (item_statement (is_restriction r)) = begins_one refl (refl, (refl, (refl, form_free _ _ _ _ _ _ r.spelled (refl, tt))))
  item_free (item_statement (is_lemma r s t)) = begins_one refl (refl, has_free r (refl, mode_free s (refl, form_free _ _ _ _ _ _ t.spelled (refl, tt))))
