-- No item begins inside an item.
use Rattle.std.proofs.Common.{◌≡◌, ℕ, Bool, false, List, drop, refl}
use Rattle.sap_terms.specs.declared.fact.Fact.{Fact}
use Rattle.sap_terms.specs.declared.signature.Symbol.{Symbol}
use Rattle.sap_terms.specs.declared.signature.Builtin.{Builtin}
use Rattle.sap_terms.specs.Signature.{Sig}
use Rattle.sap_formula.specs.Form.{Form}
use Rattle.sap_formula.specs.declared.lemma.Mode.{Mode}
use Rattle.sap_grammar.specs.declared.limits.Limits.{Limits}
use Rattle.sap_grammar.specs.Words.{Word, mark}
use Rattle.sap_grammar.specs.Cut.{is_item_word, AreNoItemWords}
use Rattle.sap_grammar.specs.FactGrammar.{AreSomeFacts, AreFacts, facts_last, facts_more, facts_none, facts_some}
use Rattle.sap_grammar.specs.Declarations.{IsBuiltin, spells_hashing, spells_symmetric, spells_asymmetric, spells_signing, spells_revealing, AreBuiltins, builtins_last, builtins_more, IsSymbol, spells_public, spells_private, AreSymbols, symbols_last, symbols_more}
use Rattle.sap_grammar.specs.Printed.{ArePrinted}
use Rattle.sap_formula_grammar.specs.FormulaGrammar.{Reach, IsIff}
use Rattle.sap_statements.specs.Statements.{AreAttributes, attributes_last, attributes_more, HasAttributes, without_attributes, with_attributes, IsMode, mode_missing, mode_all, mode_exists, is_restriction, is_lemma}
use Rattle.sap_theory.specs.TheoryGrammar.{TheoryItem, IsRuleBody, body_silent, body_acts, IsTheoryItem, item_builtins, item_functions, item_rule, item_statement}

-- what the law of formulas says
abbrev pub FormsAreFree : Type 0
FormsAreFree = (g : Sig) (e : Reach) (f : Form) (n : ℕ) (a b : List Word) → IsIff g e f n a b → AreNoItemWords b → AreNoItemWords a

module _ (printed : ArePrinted) (form_free : FormsAreFree) where
  some_facts_free : {g : Sig} {m : Limits} {s : Bool} {w : List ℕ} {fs : List Fact} {a b : List Word} → is_item_word (mark w) ≡ false → AreSomeFacts g m s w fs a b → AreNoItemWords b → AreNoItemWords a
  some_facts_free e (facts_last r) h = printed.fact_free _ _ _ _ r.spelled (e, h)
  some_facts_free e (facts_more r rs) h = printed.fact_free _ _ _ _ r.spelled (refl, some_facts_free e rs h)

  facts_free : {g : Sig} {m : Limits} {s : Bool} {w : List ℕ} {fs : List Fact} {a b : List Word} → is_item_word (mark w) ≡ false → AreFacts g m s w fs a b → AreNoItemWords b → AreNoItemWords a
  facts_free e facts_none h = (e, h)
  facts_free e (facts_some r) h = some_facts_free e r h

  body_free : {g : Sig} {m : Limits} {l e r : List Fact} {a : List Word} → IsRuleBody g m l e r a → AreNoItemWords a
  body_free (body_silent x y) = (refl, facts_free refl x (refl, (refl, facts_free refl y tt)))
  body_free (body_acts x y z) = (refl, facts_free refl x (refl, facts_free refl y (refl, facts_free refl z tt)))

  attributes_free : {xs : List (List ℕ)} {a b : List Word} → AreAttributes xs a b → AreNoItemWords b → AreNoItemWords a
  attributes_free (attributes_last i) h = (refl, (refl, h))
  attributes_free (attributes_more i r) h = (refl, (refl, attributes_free r h))

  has_free : {xs : List (List ℕ)} {a b : List Word} → HasAttributes xs a b → AreNoItemWords b → AreNoItemWords a
  has_free without_attributes h = h
  has_free (with_attributes r) h = (refl, attributes_free r h)

  mode_free : {d : Mode} {a b : List Word} → IsMode d a b → AreNoItemWords b → AreNoItemWords a
  mode_free mode_missing h = h
  mode_free mode_all h = (refl, (refl, (refl, h)))
  mode_free mode_exists h = (refl, (refl, (refl, h)))

  builtin_free : {x : Builtin} {a b : List Word} → IsBuiltin x a b → AreNoItemWords b → AreNoItemWords a
  builtin_free spells_hashing h = (refl, h)
  builtin_free spells_symmetric h = (refl, (refl, (refl, h)))
  builtin_free spells_asymmetric h = (refl, (refl, (refl, h)))
  builtin_free spells_signing h = (refl, h)
  builtin_free spells_revealing h = (refl, (refl, (refl, h)))

  builtins_free : {bs : List Builtin} {a : List Word} → AreBuiltins bs a → AreNoItemWords a
  builtins_free (builtins_last r) = builtin_free r tt
  builtins_free (builtins_more r s) = builtin_free r (refl, builtins_free s)

  symbol_free : {x : Symbol} {a b : List Word} → IsSymbol x a b → AreNoItemWords b → AreNoItemWords a
  symbol_free (spells_public low le) h = (refl, (refl, (refl, h)))
  symbol_free (spells_private low le) h = (refl, (refl, (refl, (refl, (refl, (refl, h))))))

  symbols_free : {ss : List Symbol} {a : List Word} → AreSymbols ss a → AreNoItemWords a
  symbols_free (symbols_last r) = symbol_free r tt
  symbols_free (symbols_more r s) = symbol_free r (refl, symbols_free s)

  -- none begins behind an item's first word
  pub item_free : {g : Sig} {m : Limits} {v : TheoryItem} {a : List Word} → IsTheoryItem g m v a → AreNoItemWords (drop 1 a)
  item_free (item_builtins r) = (refl, builtins_free r)
  item_free (item_functions r) = (refl, symbols_free r)
  item_free (item_rule r) = (refl, (refl, body_free r))
  item_free (item_statement (is_restriction r)) = (refl, (refl, (refl, form_free _ _ _ _ _ _ r.spelled (refl, tt))))
  item_free (item_statement (is_lemma r s t)) = (refl, has_free r (refl, mode_free s (refl, form_free _ _ _ _ _ _ t.spelled (refl, tt))))
