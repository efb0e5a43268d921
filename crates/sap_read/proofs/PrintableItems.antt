-- What the items of a file say, where words of tokens spell them.
use Rattle.std.proofs.Common.{ℕ, List, [], ◌∷◌, ◌++◌, subst}
use Rattle.std.specs.Prelude.{All, map}
use Rattle.std.specs.List.{AllByRecursion}
use Rattle.std.proofs.lemmas.List.Elements.{All-nil, All-cons}
use Rattle.sap_text.specs.declared.token.Token.{Token}
use Rattle.sap_terms.specs.declared.signature.Symbol.{Symbol}
use Rattle.sap_terms.specs.declared.signature.Builtin.{Builtin}
use Rattle.sap_terms.specs.Signature.{Sig}
use Rattle.sap_formula.specs.Form.{Form}
use Rattle.sap_formula.specs.declared.lemma.Mode.{Mode}
use Rattle.sap_grammar.specs.declared.limits.Limits.{Limits}
use Rattle.sap_grammar.specs.Words.{Word, words_of}
use Rattle.sap_grammar.specs.Cut.{Placed, words, placed, IsCut, cut_none, cut_one, IsHeader, first_line}
use Rattle.sap_grammar.specs.ByteWords.{IsName, AreTokenWords}
use Rattle.sap_grammar.specs.Declarations.{of_builtin, of_symbol, IsSymbol, spells_public, spells_private, AreSymbols, symbols_last, symbols_more}
use Rattle.sap_grammar.specs.Items.{items_end, items_more}
use Rattle.sap_statements.specs.declared.statement.Statement.{Statement}
use Rattle.sap_formula_grammar.specs.FormulaGrammar.{Reach, IsIff}
use Rattle.sap_statements.specs.Statements.{IsAttribute, AreAttributes, attributes_last, attributes_more, HasAttributes, without_attributes, with_attributes, IsMode, mode_missing, mode_all, mode_exists, IsStatement, is_restriction, is_lemma}
use Rattle.sap_statements.specs.Printable.{IsTidyForm, IsFormOver, FormHasNames}
use Rattle.sap_macro.specs.Written.{Written}
use Rattle.sap_draft.specs.ProcessGrammar.{IsPar}
use Rattle.sap_draft.specs.Printable.{IsSpelledWritten}
use Rattle.sap_draft.specs.declared.limits.TheConstants.{FILE_LIMITS}
use Rattle.sap_read.specs.Item.{Item, Standing, Body, declared_by, declarations, body_of, bodies, stated_by, statements}
use Rattle.sap_read.specs.ItemGrammar.{AreParameters, parameters_last, parameters_more, HasParameters, without_parameters, with_parameters, IsItem, AreItems, item_builtins, item_functions, item_definition, item_process, item_statement}
use Rattle.sap_read.specs.Printable.{IsDeclarable}
use Rattle.sap_read.proofs.DeclaredSymbols.{IsDeclaredWell}
use Rattle.sap_read.proofs.EachOf.{both}
use Rattle.sap_read.proofs.PrintableStatements.{IsSpelledStatement}

-- what the laws of processes and formulas say of what words of tokens spell
pub record SpelledLaws : Type 0 where
  pub process : (most : ℕ) (g : Sig) (m : Limits) (p : Written) (n : ℕ) (a b : List Word) → IsPar g m p n a b → AreTokenWords most a
      → IsSpelledWritten most g p
  pub tidy : (g : Sig) (e : Reach) (f : Form) (n : ℕ) (a b : List Word) → IsIff g e f n a b → IsFormOver g f → IsTidyForm g f
  pub names : (most : ℕ) (g : Sig) (e : Reach) (f : Form) (n : ℕ) (a b : List Word) → IsIff g e f n a b → AreTokenWords most a
      → FormHasNames most f × AreTokenWords most b

module _ (most : ℕ) where
  -- Words on their lines.

  abbrev pub AreHeld : List Placed → Type 0
  AreHeld ps = AreTokenWords most (words ps)

  pub placed_held : (z : List ℕ) (ts : List Token) → AreTokenWords most (words_of z ts) → AreHeld (placed z ts)
  placed_held z [] h = tt
  placed_held z (t ∷ ts) h = (h.0, placed_held z ts h.1)

  pub header_held : (x : List ℕ) (all rest : List Placed) → IsHeader x all rest → AreHeld all → IsName most x × AreHeld rest
  header_held x all rest r h = let k = subst AreHeld r.spelled h in (k.1.0, k.1.1.1)

  parted : (ps qs : List Placed) → AreHeld (ps ++ qs) → AreHeld ps × AreHeld qs
  parted [] qs h = (tt, h)
  parted (p ∷ ps) qs h = let k = parted ps qs h.1 in ((h.0, k.0), k.1)

  pub cut_held : {ps : List Placed} {cut : List (List Placed)} → IsCut ps cut → AreHeld ps → AllByRecursion AreHeld cut
  cut_held cut_none h = tt
  cut_held (cut_one p ps rest free starts r) h = let k = parted ps rest h.1 in ((h.0, k.0), cut_held r k.1)

  -- Declarations.

  builtins_well : (bs : List Builtin) → AllByRecursion (IsDeclaredWell most) (map of_builtin bs)
  builtins_well [] = tt
  builtins_well (b ∷ bs) = (tt, builtins_well bs)

  symbol_well : {s : Symbol} {a b : List Word} → IsSymbol s a b → AreTokenWords most a → IsDeclarable most s × AreTokenWords most b
  symbol_well (spells_public low few) h = (record { lower = low; few = few; name = h.0 }, h.1.1.1)
  symbol_well (spells_private low few) h = (record { lower = low; few = few; name = h.0 }, h.1.1.1.1.1.1)

  symbols_well : {ss : List Symbol} {a : List Word} → AreSymbols ss a → AreTokenWords most a → AllByRecursion (IsDeclaredWell most) (map of_symbol ss)
  symbols_well (symbols_last r) h = ((symbol_well r h).0, tt)
  symbols_well (symbols_more r s) h = let k = symbol_well r h in (k.0, symbols_well s k.1.1)

  -- Restrictions and lemmas.

  attributes_held : {xs : List (List ℕ)} {a b : List Word} → AreAttributes xs a b → AreTokenWords most a → All IsAttribute xs × AreTokenWords most b
  attributes_held (attributes_last {x = x} is) h = (All-cons IsAttribute x [] is (All-nil IsAttribute), h.1.1)
  attributes_held (attributes_more {x = x} {xs = xs} is r) h = let k = attributes_held r h.1.1 in (All-cons IsAttribute x xs is k.0, k.1)

  has_attributes : {xs : List (List ℕ)} {a b : List Word} → HasAttributes xs a b → AreTokenWords most a → All IsAttribute xs × AreTokenWords most b
  has_attributes without_attributes h = (All-nil IsAttribute, h)
  has_attributes (with_attributes r) h = attributes_held r h.1

  mode_held : {d : Mode} {a b : List Word} → IsMode d a b → AreTokenWords most a → AreTokenWords most b
  mode_held mode_missing h = h
  mode_held mode_all h = h.1.1.1
  mode_held mode_exists h = h.1.1.1

  module _ (laws : SpelledLaws) (g : Sig) where
    statement_spelled : {s : Statement} {a : List Word} → IsStatement g FILE_LIMITS s a → AreTokenWords most a → IsSpelledStatement most g s
    statement_spelled (is_restriction {f = f} {a = a} r) h = record {
      name = h.1.0;
      attributes = All-nil IsAttribute;
      tidy = laws.tidy g r.reach f r.levels a _ r.spelled;
      names = (laws.names most g r.reach f r.levels a _ r.spelled h.1.1.1.1).0;
    }
    statement_spelled (is_lemma {f = f} {c = c} x d r) h =
        let k = has_attributes x h.1.1 in
        let m = mode_held d k.1.1 in
        record {
          name = h.1.0;
          attributes = k.0;
          tidy = laws.tidy g r.reach f r.levels c _ r.spelled;
          names = (laws.names most g r.reach f r.levels c _ r.spelled m.1).0;
        }

    -- Items.

    parameters_held : {xs : List (List ℕ)} {a b : List Word} → AreParameters xs a b → AreTokenWords most a → AreTokenWords most b
    parameters_held parameters_last h = h.1.1
    parameters_held (parameters_more r) h = parameters_held r h.1.1

    head_held : {xs : List (List ℕ)} {a b : List Word} → HasParameters xs a b → AreTokenWords most a → AreTokenWords most b
    head_held without_parameters h = h.1
    head_held (with_parameters r) h = (parameters_held r h.1).1

    abbrev pub IsSpelledBody : Body → Type 0
    IsSpelledBody b = IsSpelledWritten most g b.content

    item_bodies : {v : Item} {a : List Word} → IsItem g v a → AreTokenWords most a → (n : ℕ) → AllByRecursion IsSpelledBody (body_of v n)
    item_bodies (item_builtins r) h n = tt
    item_bodies (item_functions r) h n = tt
    item_bodies (item_definition {p = p} {b = b} k r) h n = (laws.process most g FILE_LIMITS p r.levels b [] r.spelled (head_held k h.1.1), tt)
    item_bodies (item_process {p = p} {a = a} r) h n = (laws.process most g FILE_LIMITS p r.levels a [] r.spelled h.1.1, tt)
    item_bodies (item_statement r) h n = tt

    item_declares : {v : Item} {a : List Word} → IsItem g v a → AreTokenWords most a → AllByRecursion (IsDeclaredWell most) (declared_by v)
    item_declares (item_builtins {bs = bs} r) h = builtins_well bs
    item_declares (item_functions r) h = symbols_well r h.1.1
    item_declares (item_definition k r) h = tt
    item_declares (item_process r) h = tt
    item_declares (item_statement r) h = tt

    item_states : {v : Item} {a : List Word} → IsItem g v a → AreTokenWords most a → AllByRecursion (IsSpelledStatement most g) (stated_by v)
    item_states (item_builtins r) h = tt
    item_states (item_functions r) h = tt
    item_states (item_definition k r) h = tt
    item_states (item_process r) h = tt
    item_states (item_statement r) h = (statement_spelled r h, tt)

    pub all_bodies : {cut : List (List Placed)} {is : List Standing} → AreItems g cut is → AllByRecursion AreHeld cut → AllByRecursion IsSpelledBody (bodies is)
    all_bodies (items_end e) h = tt
    all_bodies (items_more {i = i} {v = v} {vs = vs} r s) h =
        both IsSpelledBody (body_of v (first_line i)) (bodies vs) (item_bodies r h.0 (first_line i)) (all_bodies s h.1)

    pub all_declares : {cut : List (List Placed)} {is : List Standing} → AreItems g cut is → AllByRecursion AreHeld cut
        → AllByRecursion (IsDeclaredWell most) (declarations is)
    all_declares (items_end e) h = tt
    all_declares (items_more {v = v} {vs = vs} r s) h =
        both (IsDeclaredWell most) (declared_by v) (declarations vs) (item_declares r h.0) (all_declares s h.1)

    pub all_states : {cut : List (List Placed)} {is : List Standing} → AreItems g cut is → AllByRecursion AreHeld cut
        → AllByRecursion (IsSpelledStatement most g) (statements is)
    all_states (items_end e) h = tt
    all_states (items_more {v = v} {vs = vs} r s) h =
        both (IsSpelledStatement most g) (stated_by v) (statements vs) (item_states r h.0) (all_states s h.1)
