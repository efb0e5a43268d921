-- The words of a file follow the table.
use Rattle.std.proofs.Common.{◌≡◌, ◌≤◌, ℕ, Bool, true, false, List, [], ◌∷◌, ◌++◌, None, refl, sym, subst, rules}
use Rattle.std.specs.Prelude.{codes, nat_le, ◌||◌}
use Rattle.std.specs.Str.{bytes_eq}
use Rattle.sap_terms.specs.Signature.{Sig}
use Rattle.sap_terms.specs.declared.signature.Symbol.{Symbol}
use Rattle.sap_terms.specs.declared.signature.Builtin.{Builtin}
use Rattle.sap_terms.specs.declared.limits.TheConstants.{MOST_ARITY}
use Rattle.sap_terms.proofs.PlainLaws.Known.{one_name}
use Rattle.sap_formula.specs.Form.{Form}
use Rattle.sap_formula.specs.declared.lemma.Mode.{Mode}
use Rattle.sap_formula_grammar.specs.FormulaGrammar.{IsShortFormula}
use Rattle.sap_grammar.specs.Words.{Word, mark, name, number}
use Rattle.sap_grammar.specs.Words as words_mod
use Rattle.sap_grammar.specs.Cut.{is_item_word}
use Rattle.sap_grammar.specs.Declarations.{AreBuiltins, AreSymbols, IsBuiltin, IsSymbol, builtins_last, builtins_more, spells_asymmetric, spells_hashing, spells_private, spells_public, spells_revealing, spells_signing, spells_symmetric, symbols_last, symbols_more, value}
use Rattle.sap_statements.specs.Statements.{AreAttributes, HasAttributes, IsAttribute, IsMode, IsStatement, attributes_last, attributes_more, is_lemma, is_restriction, is_reuse, is_sources, is_use_induction, mode_all, mode_exists, mode_missing, with_attributes, without_attributes}
use Rattle.sap_statements.specs.declared.statement.Statement.{Statement}
use Rattle.sap_draft.specs.ProcessGrammar.{Ending, closed, dangling}
use Rattle.sap_draft.specs.declared.limits.TheConstants.{FILE_LIMITS}
use Rattle.sap_read.specs.Item.{Item}
use Rattle.sap_read.specs.ItemGrammar.{AreParameters, HasParameters, IsItem, parameters_last, parameters_more, with_parameters, without_parameters, item_builtins, item_definition, item_functions, item_process, item_statement}
use Rattle.sap_expect.specs.declared.wanted.Limit.{Limit}
use Rattle.sap_expect.specs.declared.wanted.Limit.TheVariants.{OfFormula, Same}
use Rattle.sap_expect.specs.declared.wanted.Part.{Part}
use Rattle.sap_expect.specs.declared.wanted.Part.TheVariants.{Application, Attribute, Bars, Builtin as ABuiltin, Else, Equivalence, Function, Items, Lemma, Mode as AMode, MoreAttributes, MoreBuiltins, MoreFunctions, MoreParameters, Parameters, Privacy, Then}
use Rattle.sap_expect.specs.FileTable.{FollowsTable, Open, Reads, any_name, is_arity, part, reads_end, row, sign}
use Rattle.sap_expect.specs.FileWords.{AreItemWords, IsFileWords, one_item, only_end}
use Rattle.sap_expect.proofs.FollowFormula.{iff_follows}
use Rattle.sap_expect.proofs.FollowProcess.{Behind, par_follows}
use Rattle.sap_expect.proofs.OnRows.{NoRow, instead, on_nth, on_row, on_word}

-- nothing that an item before it is made of begins with this word
pub record Parts (w : Word) : Type 0 where
  pub no_terms : row Application w ≡ None
  pub no_then : row Then w ≡ None
  pub no_else : row Else w ≡ None
  pub no_bars : row Bars w ≡ None
  pub no_builtin : row MoreBuiltins w ≡ None
  pub no_privacy : row Privacy w ≡ None
  pub no_function : row MoreFunctions w ≡ None

-- an item stands next
pub data NextItem : List Word → Type 0 where
  next_item : {w : Word} {ws : List Word} → Parts w → NextItem (w ∷ ws)

-- it is this word, or one of the others
one_of : (m k : List ℕ) {others : Bool} → Parts (mark k) → (others ≡ true → Parts (mark m)) → (bytes_eq m k || others) ≡ true → Parts (mark m)
one_of m k {others = o} p f e = by (bytes_eq m k) refl e
  where
    by : (b : Bool) → bytes_eq m k ≡ b → (b || o) ≡ true → Parts (mark m)
    by true g h = subst (λ (x : List ℕ). Parts (mark x)) (sym (one_name m k g)) p
    by false g h = f h

none_left : (m : List ℕ) → false ≡ true → Parts (mark m)
none_left m e = absurd (cc)

parts_of : (m : List ℕ) → is_item_word (mark m) ≡ true → Parts (mark m)
parts_of m e =
    one_of m (codes "builtins") (record { no_terms = refl; no_then = refl; no_else = refl; no_bars = refl; no_builtin = refl; no_privacy = refl; no_function = refl }) (one_of m (codes "functions") (record { no_terms = refl; no_then = refl; no_else = refl; no_bars = refl; no_builtin = refl; no_privacy = refl; no_function = refl }) (one_of m (codes "let") (record { no_terms = refl; no_then = refl; no_else = refl; no_bars = refl; no_builtin = refl; no_privacy = refl; no_function = refl }) (one_of m (codes "process") (record { no_terms = refl; no_then = refl; no_else = refl; no_bars = refl; no_builtin = refl; no_privacy = refl; no_function = refl })
    (one_of m (codes "restriction") (record { no_terms = refl; no_then = refl; no_else = refl; no_bars = refl; no_builtin = refl; no_privacy = refl; no_function = refl }) (one_of m (codes "lemma") (record { no_terms = refl; no_then = refl; no_else = refl; no_bars = refl; no_builtin = refl; no_privacy = refl; no_function = refl }) (one_of m (codes "rule") (record { no_terms = refl; no_then = refl; no_else = refl; no_bars = refl; no_builtin = refl; no_privacy = refl; no_function = refl }) (one_of m (codes "end") (record { no_terms = refl; no_then = refl; no_else = refl; no_bars = refl; no_builtin = refl; no_privacy = refl; no_function = refl }) (none_left m)))))))) e

pub next_of : (w : Word) (ws : List Word) → is_item_word w ≡ true → NextItem (w ∷ ws)
next_of (mark m) ws e = next_item (parts_of m e)
next_of (name x) ws e = absurd (cc)
next_of (number x) ws e = absurd (cc)
next_of (words_mod.quoted x) ws e = absurd (cc)

few_of : (n : List ℕ) → value n ≤ MOST_ARITY → is_arity n ≡ true
few_of n le = small (value n) le
  where
    small : (m : ℕ) → m ≤ MOST_ARITY → nat_le m MOST_ARITY ≡ true
    small m le = search rules

-- a formula with its closing quotation mark
quoted_follows : (r : List Word) {g : Sig} {f : Form} {a b : List Word} {n : ℕ} {us : List Open} → IsShortFormula g FILE_LIMITS f a (mark (codes "\"") ∷ b) → ((k : ℕ) → Reads k us (b ++ r))
    → Reads n ((part Equivalence OfFormula, FILE_LIMITS.formula_levels) ∷ (sign (codes "\""), 0) ∷ us) (a ++ r)
quoted_follows r q h =
    iff_follows r q.spelled q.few_levels q.small (record { no_terms = refl; no_fact = refl }) (record { no_and = refl; no_or = refl; no_imp = refl; no_iff = refl; no_third = refl })
    (on_word refl (h _))

-- items follow, whatever ended before
abbrev pub ItemsFollow : ℕ → List Open → List Word → Type 0
ItemsFollow m vs ws = (n : ℕ) → Reads n ((part Items Same, m) ∷ vs) ws

module _ (r : List Word) (next : NextItem r) (m : ℕ) (vs : List Open) (h : ItemsFollow m vs r) where
  free : (p : Part) → ((w : Word) → Parts w → row p w ≡ None) → NoRow p r
  free p f = by r next
    where
      by : (ws : List Word) → NextItem ws → NoRow p ws
      by ws (next_item q) = f _ q

  builtin_follows : {b : Builtin} {a c : List Word} {n i : ℕ} {l : Limit} {us : List Open} → IsBuiltin b a c → Reads n us (c ++ r) → Reads n ((part ABuiltin l, i) ∷ us) (a ++ r)
  builtin_follows spells_hashing q = on_row refl refl q
  builtin_follows spells_symmetric q = on_row refl refl (on_word refl (on_word refl q))
  builtin_follows spells_asymmetric q = on_row refl refl (on_word refl (on_word refl q))
  builtin_follows spells_signing q = on_row refl refl q
  builtin_follows spells_revealing q = on_row refl refl (on_word refl (on_word refl q))

  builtins_follow : {bs : List Builtin} {a : List Word} {n : ℕ} → AreBuiltins bs a → Reads n ((part ABuiltin Same, m) ∷ (part MoreBuiltins Same, m) ∷ vs) (a ++ r)
  builtins_follow (builtins_last s) = builtin_follows s (instead r refl refl (free MoreBuiltins (λ w p. p.no_builtin)) (h _))
  builtins_follow (builtins_more s q) = builtin_follows s (on_row refl refl (builtins_follow q))

  symbol_follows : {s : Symbol} {a c : List Word} {n : ℕ} → IsSymbol s a c → NoRow Privacy (c ++ r) → Reads n ((part MoreFunctions Same, m) ∷ vs) (c ++ r)
      → Reads n ((part Function Same, m) ∷ vs) (a ++ r)
  symbol_follows (spells_public {f = f} {n = n} {a = a} low few) o q = on_nth Function 0 refl low refl (on_word refl (on_word (few_of n few) (instead (a ++ r) refl refl o q)))
  symbol_follows (spells_private {f = f} {n = n} low few) o q = on_nth Function 0 refl low refl (on_word refl (on_word (few_of n few) (on_row refl refl (on_word refl (on_word refl q)))))

  symbols_follow : {ss : List Symbol} {a : List Word} {n : ℕ} → AreSymbols ss a → Reads n ((part Function Same, m) ∷ vs) (a ++ r)
  symbols_follow (symbols_last s) = symbol_follows s (free Privacy (λ w p. p.no_privacy)) (instead r refl refl (free MoreFunctions (λ w p. p.no_function)) (h _))
  symbols_follow (symbols_more s q) = symbol_follows s refl (on_row refl refl (symbols_follow q))

  behind : (e : Ending) → Behind e r
  behind closed = record { no_parenthesis = free Application (λ w p. p.no_terms); no_semicolon = free Then (λ w p. p.no_then); no_else = tt }
  behind dangling = record { no_parenthesis = free Application (λ w p. p.no_terms); no_semicolon = free Then (λ w p. p.no_then); no_else = free Else (λ w p. p.no_else) }

  attribute_follows : {x : List ℕ} {n i : ℕ} {l : Limit} {us : List Open} {ws : List Word} → IsAttribute x → Reads n us ws → Reads n ((part Attribute l, i) ∷ us) (name x ∷ ws)
  attribute_follows is_reuse q = on_row refl refl q
  attribute_follows is_use_induction q = on_row refl refl q
  attribute_follows is_sources q = on_row refl refl q

  attributes_follow : {xs : List (List ℕ)} {a b : List Word} {n : ℕ} {us : List Open} → AreAttributes xs a b → Reads n us (b ++ r)
      → Reads n ((part Attribute Same, m) ∷ (part MoreAttributes Same, m) ∷ us) (a ++ r)
  attributes_follow (attributes_last x) q = attribute_follows x (on_row refl refl q)
  attributes_follow (attributes_more x s) q = attribute_follows x (on_row refl refl (attributes_follow s q))

  mode_follows : {d : Mode} {a b : List Word} {n i : ℕ} {l : Limit} {us : List Open} → IsMode d a (mark (codes "\"") ∷ b)
      → ((k : ℕ) → Reads k ((part Equivalence OfFormula, FILE_LIMITS.formula_levels) ∷ (sign (codes "\""), 0) ∷ us) (b ++ r)) → Reads n ((part AMode l, i) ∷ us) (a ++ r)
  mode_follows mode_missing q = on_row refl refl (q _)
  mode_follows mode_all q = on_row refl refl (on_word refl (on_word refl (on_word refl (q _))))
  mode_follows mode_exists q = on_row refl refl (on_word refl (on_word refl (on_word refl (q _))))

  lemma_follows : {xs : List (List ℕ)} {a b : List Word} {n : ℕ} {us : List Open} → HasAttributes xs a (mark (codes ":") ∷ b) → ((k : ℕ) → Reads k ((part AMode Same, m) ∷ us) (b ++ r))
      → Reads n ((part Lemma Same, m) ∷ us) (a ++ r)
  lemma_follows without_attributes q = on_row refl refl (q _)
  lemma_follows (with_attributes s) q = on_row refl refl (attributes_follow s (on_word refl (q _)))

  statement_follows : {g : Sig} {s : Statement} {a : List Word} {n : ℕ} → IsStatement g FILE_LIMITS s a → Reads n ((part Items Same, m) ∷ vs) (a ++ r)
  statement_follows (is_restriction q) = on_row refl refl (on_word refl (on_word refl (on_word refl (quoted_follows r q h))))
  statement_follows (is_lemma x d q) = on_row refl refl (on_word refl (lemma_follows x (λ j. mode_follows d (λ k. quoted_follows r q h))))

  parameters_follow : {xs : List (List ℕ)} {a b : List Word} {n : ℕ} {us : List Open} → AreParameters xs a b → Reads n us (b ++ r) → Reads n ((any_name, 0) ∷ (part MoreParameters Same, m) ∷ us) (a ++ r)
  parameters_follow parameters_last q = on_word refl (on_row refl refl q)
  parameters_follow (parameters_more s) q = on_word refl (on_row refl refl (parameters_follow s q))

  -- what is behind the name of a definition, up to its `=`
  heading_follows : {xs : List (List ℕ)} {a b : List Word} {n : ℕ} {us : List Open} → HasParameters xs a b → Reads n us (b ++ r) → Reads n ((part Parameters Same, m) ∷ us) (a ++ r)
  heading_follows without_parameters q = on_row refl refl q
  heading_follows (with_parameters s) q = on_row refl refl (parameters_follow s (on_word refl q))

  pub item_follows : {g : Sig} {i : Item} {a : List Word} {n : ℕ} → IsItem g i a → Reads n ((part Items Same, m) ∷ vs) (a ++ r)
  item_follows (item_builtins q) = on_row refl refl (on_word refl (builtins_follow q))
  item_follows (item_functions q) = on_row refl refl (on_word refl (symbols_follow q))
  item_follows (item_definition s q) =
      on_row refl refl (on_word refl (heading_follows s (par_follows r q.spelled q.few_levels behind (free Bars (λ w p. p.no_bars)) (h _))))
  item_follows (item_process q) = on_row refl refl (on_word refl (par_follows r q.spelled q.few_levels behind (free Bars (λ w p. p.no_bars)) (h _)))
  item_follows (item_statement q) = statement_follows q

-- an item stands first
begins : {g : Sig} {i : Item} {u : List Word} (r : List Word) → IsItem g i u → NextItem (u ++ r)
begins r (item_builtins q) = next_of _ _ refl
begins r (item_functions q) = next_of _ _ refl
begins r (item_definition s q) = next_of _ _ refl
begins r (item_process q) = next_of _ _ refl
begins r (item_statement (is_restriction q)) = next_of _ _ refl
begins r (item_statement (is_lemma x d q)) = next_of _ _ refl

next_words : {a : List Word} → AreItemWords a → NextItem a
next_words only_end = next_of _ _ refl
next_words (one_item {u = u} {a = a} s q) = begins a s.is

items_follow : {a : List Word} → AreItemWords a → (m : ℕ) → ItemsFollow m [] a
items_follow only_end m n = on_row refl refl reads_end
items_follow (one_item {u = u} {a = a} s q) m n = item_follows a (next_words q) m [] (items_follow q m) s.is

pub file_follows : (ws : List Word) → IsFileWords ws → FollowsTable ws
file_follows ws h = subst FollowsTable (sym h.header) (on_row refl refl (on_word refl (on_word refl (items_follow h.are 0 0))))
