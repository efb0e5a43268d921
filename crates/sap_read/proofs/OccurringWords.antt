-- The names that occur in what words spell are those of the words.
use Rattle.std.proofs.Common.{ℕ, Bool, List, [], ◌∷◌, ◌++◌, subst}
use Rattle.std.specs.List.{AllByRecursion}
use Rattle.sap_text.specs.declared.token.Token.{Token}
use Rattle.sap_terms.specs.declared.fact.Fact.{Fact}
use Rattle.sap_terms.specs.declared.signature.Builtin.{Builtin}
use Rattle.sap_terms.specs.declared.signature.Symbol.{Symbol}
use Rattle.sap_terms.specs.Signature.{Sig}
use Rattle.sap_terms.specs.Tree.{Tree, trees_of}
use Rattle.sap_grammar.specs.Words.{Word, mark, name, number, quoted, words_of}
use Rattle.sap_grammar.specs.Cut.{Placed, words, placed, IsCut, cut_none, cut_one, IsHeader, first_line}
use Rattle.sap_grammar.specs.Declarations.{Declaration, of_builtin, of_symbol, IsSymbol, spells_public, spells_private, AreSymbols, symbols_last, symbols_more}
use Rattle.sap_grammar.specs.Items.{items_end, items_more}
use Rattle.sap_grammar.specs.declared.limits.Limits.{Limits}
use Rattle.sap_grammar.specs.TermGrammar.{IsTerm, term_constant, term_message, term_fresh, term_pub, term_quoted, term_symbol, term_tuple, IsRest, rest_last, rest_more, IsList, list_last, list_more, IsArgs, args_none, args_some}
use Rattle.sap_grammar.specs.FactGrammar.{IsFact, fact_linear, fact_persistent, AreSomeFacts, AreFacts, facts_last, facts_more, facts_none, facts_some}
use Rattle.sap_process.specs.Action.{Action}
use Rattle.sap_macro.specs.Written.{Written}
use Rattle.sap_draft.specs.declared.limits.TheConstants.{FILE_LIMITS}
use Rattle.sap_draft.specs.ProcessGrammar.{IsAction, action_new, action_new_fresh, action_out, action_send, action_input, action_receive, action_event, action_insert, action_delete, action_lock, action_unlock, action_rule, action_acts, Ending, IsSeq, seq_nil, seq_call, seq_use, seq_parentheses, seq_replicated, seq_action, seq_then, seq_if, seq_if_else, seq_lookup, seq_lookup_else, IsPar, par_one, par_more}
use Rattle.sap_read.specs.Item.{Item, Body, Standing, builtins, functions, body_of, bodies, declared_by, declarations}
use Rattle.sap_read.specs.ItemGrammar.{IsItem, AreItems, AreParameters, parameters_last, parameters_more, HasParameters, without_parameters, with_parameters, item_builtins, item_functions, item_definition, item_process, item_statement}
use Rattle.sap_read.specs.Occurring.{OfNames, NamesAre, AllNamesAre, FactNamesAre, FactsNamesAre, ActionNamesAre, WrittenNamesAre}
use Rattle.sap_read.proofs.EachOf.{both}

module _ (N M : OfNames) where
  -- the first is so of identifiers, the second of what stands between quotes
  abbrev pub WordNamesAre : Word → Type 0
  WordNamesAre (mark s) = Unit {0}
  WordNamesAre (name x) = N x
  WordNamesAre (number n) = Unit {0}
  WordNamesAre (quoted s) = M s

  abbrev pub WordsNamesAre : List Word → Type 0
  WordsNamesAre [] = Unit {0}
  WordsNamesAre (w ∷ ws) = WordNamesAre w × WordsNamesAre ws

  -- in arguments
  abbrev pub TermsNamesAre : List Tree → Type 0
  TermsNamesAre ts = AllNamesAre N M (trees_of ts)

  module _ (g : Sig) where
    mutual
      term_names : {t : Tree} {a b : List Word} → IsTerm g t a b → WordsNamesAre a → NamesAre N M t × WordsNamesAre b
      term_names (term_constant c) h = (tt, h.1)
      term_names (term_message n) h = (h.0, h.1)
      term_names term_fresh h = (h.1.0, h.1.1)
      term_names term_pub h = (h.1.0, h.1.1)
      term_names term_quoted h = (h.0, h.1)
      term_names (term_symbol low r) h = args_names r h.1.1
      term_names (term_tuple r s) h =
          let t = term_names r h.1 in let u = rest_names s t.1.1 in ((t.0, (u.0, tt)), u.1)

      rest_names : {t : Tree} {a b : List Word} → IsRest g t a b → WordsNamesAre a → NamesAre N M t × WordsNamesAre b
      rest_names (rest_last r) h = let t = term_names r h in (t.0, t.1.1)
      rest_names (rest_more r s) h =
          let t = term_names r h in let u = rest_names s t.1.1 in ((t.0, (u.0, tt)), u.1)

      list_names : {ts : List Tree} {a b : List Word} → IsList g ts a b → WordsNamesAre a → TermsNamesAre ts × WordsNamesAre b
      list_names (list_last r) h = let t = term_names r h in ((t.0, tt), t.1.1)
      list_names (list_more r s) h =
          let t = term_names r h in let u = list_names s t.1.1 in ((t.0, u.0), u.1)

      args_names : {ts : List Tree} {a b : List Word} → IsArgs g ts a b → WordsNamesAre a → TermsNamesAre ts × WordsNamesAre b
      args_names args_none h = (tt, h.1)
      args_names (args_some r) h = list_names r h

    fact_names : {f : Fact} {a b : List Word} → IsFact g f a b → WordsNamesAre a → FactNamesAre N M f × WordsNamesAre b
    fact_names (fact_linear up r) h = args_names r h.1.1
    fact_names (fact_persistent up r) h = args_names r h.1.1.1

    module _ (m : Limits) where
      some_facts : {allowed : Bool} {closing : List ℕ} {fs : List Fact} {a b : List Word} → AreSomeFacts g m allowed closing fs a b → WordsNamesAre a
          → FactsNamesAre N M fs × WordsNamesAre b
      some_facts (facts_last r) h = let f = fact_names r.spelled h in ((f.0, tt), f.1.1)
      some_facts (facts_more r s) h = let f = fact_names r.spelled h in let k = some_facts s f.1.1 in ((f.0, k.0), k.1)

      facts_names : {allowed : Bool} {closing : List ℕ} {fs : List Fact} {a b : List Word} → AreFacts g m allowed closing fs a b → WordsNamesAre a
          → FactsNamesAre N M fs × WordsNamesAre b
      facts_names facts_none h = (tt, h.1)
      facts_names (facts_some r) h = some_facts r h

      action_names : {x : Action} {a b : List Word} → IsAction g m x a b → WordsNamesAre a → ActionNamesAre N M x × WordsNamesAre b
      action_names action_new h = (h.1.0, h.1.1)
      action_names action_new_fresh h = (h.1.1.0, h.1.1.1)
      action_names (action_out r) h = let t = term_names r.spelled h.1.1 in (t.0, t.1.1)
      action_names (action_send r s) h =
          let t = term_names r.spelled h.1.1 in let u = term_names s.spelled t.1.1 in ((t.0, u.0), u.1.1)
      action_names (action_input r) h = let t = term_names r.spelled h.1.1 in (t.0, t.1.1)
      action_names (action_receive r s) h =
          let t = term_names r.spelled h.1.1 in let u = term_names s.spelled t.1.1 in ((t.0, u.0), u.1.1)
      action_names (action_event r) h = fact_names r.spelled h.1
      action_names (action_insert r s) h =
          let t = term_names r.spelled h.1 in let u = term_names s.spelled t.1.1 in ((t.0, u.0), u.1)
      action_names (action_delete r) h = term_names r.spelled h.1
      action_names (action_lock r) h = term_names r.spelled h.1
      action_names (action_unlock r) h = term_names r.spelled h.1
      action_names (action_rule r s) h =
          let l = facts_names r h.1 in let k = facts_names s l.1.1.1 in ((l.0, tt, k.0), k.1)
      action_names (action_acts r s t) h =
          let l = facts_names r h.1 in
          let e = facts_names s l.1.1 in
          let k = facts_names t e.1.1 in
          ((l.0, e.0, k.0), k.1)

      mutual
        seq_names : {e : Ending} {p : Written} {n : ℕ} {a b : List Word} → IsSeq g m e p n a b → WordsNamesAre a → WrittenNamesAre N M p × WordsNamesAre b
        seq_names seq_nil h = (tt, h.1)
        seq_names seq_call h = ((tt, tt), h.1)
        seq_names (seq_use r s) h = let ts = list_names r h.1.1 in ((ts.0, tt), ts.1)
        seq_names (seq_parentheses r) h = let p = par_names r h.1 in (p.0, p.1.1)
        seq_names (seq_replicated r) h = seq_names r h.1
        seq_names (seq_action r) h = let x = action_names r h in ((x.0, tt), x.1)
        seq_names (seq_then r s) h = let x = action_names r h in let p = seq_names s x.1.1 in ((x.0, p.0), p.1)
        seq_names (seq_if r s w) h =
            let t = term_names r.spelled h.1 in
            let u = term_names s.spelled t.1.1 in
            let p = seq_names w u.1.1 in
            ((t.0, u.0, p.0, tt), p.1)
        seq_names (seq_if_else r s w v) h =
            let t = term_names r.spelled h.1 in
            let u = term_names s.spelled t.1.1 in
            let p = seq_names w u.1.1 in
            let q = seq_names v p.1.1 in
            ((t.0, u.0, p.0, q.0), q.1)
        seq_names (seq_lookup r w) h =
            let t = term_names r.spelled h.1 in
            let p = seq_names w t.1.1.1.1 in
            ((t.0, t.1.1.0, p.0, tt), p.1)
        seq_names (seq_lookup_else r w v) h =
            let t = term_names r.spelled h.1 in
            let p = seq_names w t.1.1.1.1 in
            let q = seq_names v p.1.1 in
            ((t.0, t.1.1.0, p.0, q.0), q.1)

        par_names : {p : Written} {n : ℕ} {a b : List Word} → IsPar g m p n a b → WordsNamesAre a → WrittenNamesAre N M p × WordsNamesAre b
        par_names (par_one r) h = seq_names r h
        par_names (par_more w r s) h = let p = seq_names r h in let q = par_names s p.1.1 in ((p.0, q.0), q.1)

  -- Words on their lines.

  abbrev pub PlacedNamesAre : List Placed → Type 0
  PlacedNamesAre ps = WordsNamesAre (words ps)

  pub placed_names : (z : List ℕ) (ts : List Token) → WordsNamesAre (words_of z ts) → PlacedNamesAre (placed z ts)
  placed_names z [] h = tt
  placed_names z (t ∷ ts) h = (h.0, placed_names z ts h.1)

  pub header_names : (x : List ℕ) (all rest : List Placed) → IsHeader x all rest → PlacedNamesAre all → PlacedNamesAre rest
  header_names x all rest r h = let k = subst PlacedNamesAre r.spelled h in k.1.1.1

  parted : (ps qs : List Placed) → PlacedNamesAre (ps ++ qs) → PlacedNamesAre ps × PlacedNamesAre qs
  parted [] qs h = (tt, h)
  parted (p ∷ ps) qs h = let k = parted ps qs h.1 in ((h.0, k.0), k.1)

  pub cut_names : {ps : List Placed} {cut : List (List Placed)} → IsCut ps cut → PlacedNamesAre ps → AllByRecursion PlacedNamesAre cut
  cut_names cut_none h = tt
  cut_names (cut_one p ps rest free starts r) h = let k = parted ps rest h.1 in ((h.0, k.0), cut_names r k.1)

  -- Items.

  symbol_name : {s : Symbol} {a b : List Word} → IsSymbol s a b → WordsNamesAre a → N s.name × WordsNamesAre b
  symbol_name (spells_public low few) h = (h.0, h.1.1.1)
  symbol_name (spells_private low few) h = (h.0, h.1.1.1.1.1.1)

  -- so is the name of what is declared, but for builtins
  abbrev pub DeclaredNameIs : Declaration → Type 0
  DeclaredNameIs (of_builtin b) = Unit {0}
  DeclaredNameIs (of_symbol s) = N s.name

  symbols_names : {ss : List Symbol} {a : List Word} → AreSymbols ss a → WordsNamesAre a → AllByRecursion DeclaredNameIs (declared_by (functions ss))
  symbols_names (symbols_last r) h = ((symbol_name r h).0, tt)
  symbols_names (symbols_more r s) h = let k = symbol_name r h in (k.0, symbols_names s k.1.1)

  builtins_names : (bs : List Builtin) → AllByRecursion DeclaredNameIs (declared_by (builtins bs))
  builtins_names [] = tt
  builtins_names (b ∷ bs) = (tt, builtins_names bs)

  parameters_names : {xs : List (List ℕ)} {a b : List Word} → AreParameters xs a b → WordsNamesAre a → AllByRecursion N xs × WordsNamesAre b
  parameters_names parameters_last h = ((h.0, tt), h.1.1)
  parameters_names (parameters_more r) h = let xs = parameters_names r h.1.1 in ((h.0, xs.0), xs.1)

  head_names : {xs : List (List ℕ)} {a b : List Word} → HasParameters xs a b → WordsNamesAre a → AllByRecursion N xs × WordsNamesAre b
  head_names without_parameters h = (tt, h.1)
  head_names (with_parameters r) h = let xs = parameters_names r h.1 in (xs.0, xs.1.1)

  -- in parameters and in a body
  abbrev pub BodyNamesAre : Body → Type 0
  BodyNamesAre b = AllByRecursion N b.params × WrittenNamesAre N M b.content

  module _ (g : Sig) where
    item_names : {v : Item} {a : List Word} → IsItem g v a → WordsNamesAre a → (n : ℕ) → AllByRecursion BodyNamesAre (body_of v n)
    item_names (item_builtins r) h n = tt
    item_names (item_functions r) h n = tt
    item_names (item_definition r p) h n = let xs = head_names r h.1.1 in ((xs.0, (par_names g FILE_LIMITS p.spelled xs.1).0), tt)
    item_names (item_process p) h n = ((tt, (par_names g FILE_LIMITS p.spelled h.1.1).0), tt)
    item_names (item_statement r) h n = tt

    item_declares : {v : Item} {a : List Word} → IsItem g v a → WordsNamesAre a → AllByRecursion DeclaredNameIs (declared_by v)
    item_declares (item_builtins {bs = bs} r) h = builtins_names bs
    item_declares (item_functions r) h = symbols_names r h.1.1
    item_declares (item_definition r p) h = tt
    item_declares (item_process p) h = tt
    item_declares (item_statement r) h = tt

    pub bodies_names : {cut : List (List Placed)} {is : List Standing} → AreItems g cut is → AllByRecursion PlacedNamesAre cut → AllByRecursion BodyNamesAre (bodies is)
    bodies_names (items_end e) h = tt
    bodies_names (items_more {i = i} {v = v} {vs = vs} r s) h =
        both BodyNamesAre (body_of v (first_line i)) (bodies vs) (item_names r h.0 (first_line i)) (bodies_names s h.1)

    pub declared_names : {cut : List (List Placed)} {is : List Standing} → AreItems g cut is → AllByRecursion PlacedNamesAre cut
        → AllByRecursion DeclaredNameIs (declarations is)
    declared_names (items_end e) h = tt
    declared_names (items_more {v = v} {vs = vs} r s) h =
        both DeclaredNameIs (declared_by v) (declarations vs) (item_declares r h.0) (declared_names s h.1)
