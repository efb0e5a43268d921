use Rattle.std.proofs.Common.{◌≡◌, ◌≤◌, ◌<◌, ◌+◌, ◌^◌, ℕ, true, false, List, [], ◌∷◌, length, Ok, refl, sym, subst, ◌∙◌, arith}
use Rattle.std.specs.Prelude.{Result}
use Rattle.std.specs.List.{AllByRecursion}
use Rattle.std.proofs.lemmas.List.Elements.{All-from_recursion}
use Rattle.sap_text.specs.declared.token.Token.{Token}
use Rattle.sap_text.specs.Tokens.{IsLexed}
use Rattle.sap_terms.specs.Signature.{pairs_alone}
use Rattle.sap_terms.specs.Variables.{is_known}
use Rattle.sap_terms.specs.declared.limits.TheConstants.{MOST_FILE_NAME_BYTES, MOST_PROCESS_LEVELS, MOST_PROCESS_PLACES}
use Rattle.sap_process.specs.Proc.{Proc, level_count, node_count}
use Rattle.sap_process.specs.Sorted.{with_sorts}
use Rattle.sap_grammar.specs.ByteWords.{AreWords, AreTokenWords, IsContent, IsName}
use Rattle.sap_grammar.specs.Cut.{placed}
use Rattle.sap_grammar.specs.Declarations.{Declaration}
use Rattle.sap_grammar.specs.Signatures.{signature_from}
use Rattle.sap_grammar.specs.TermGrammar.{IsConstant}
use Rattle.sap_grammar.specs.Words.{Word, words_of}
use Rattle.sap_macro.specs.Expansion.{expansion, plain, plain_bodies, same_name, unchanged}
use Rattle.sap_macro.specs.NewNames.{candidate, new_name}
use Rattle.sap_macro.specs.Written.{Definition, call}
use Rattle.sap_draft.specs.Printable.{IsSpelledWritten}
use Rattle.sap_read.specs.FileProcess.{definitions_of}
use Rattle.sap_read.specs.Identifiers.{identifiers_of}
use Rattle.sap_read.specs.Item.{bodies, declarations, signature_of, statements}
use Rattle.sap_read.specs.HeldVariables.{IsAmong}
use Rattle.sap_read.specs.Occurring.{OfNames, Any, ProcessNamesAre, WrittenNamesAre}
use Rattle.sap_read.specs.declared.fault.ReadFault.{ReadFault}
use Rattle.sap_read.specs.declared.limits.TheConstants.{MOST_NEW_NAME_BYTES}
use Rattle.sap_read.specs.Files.{FileContent, IsRead, no_tokens, no_header, no_item, refused, unexpanded, ill, locked, unchecked, accepted}
use Rattle.sap_read.specs.Printable.{IsDeclarable, IsPrintableRestriction, IsPrintableLemma, IsPrintableFile, IsPrintableProcess}
use Rattle.sap_statements.specs.Stated.{restrictions_of, lemmas_of}
use Rattle.sap_grammar.proofs.ReadingLaws.Signatures.{map_held}
use Rattle.sap_read.proofs.DeclaredSymbols.{declared_can}
use Rattle.sap_read.proofs.FewNames.{definitions_so, identifiers_few, main_so, token_words}
use Rattle.sap_read.proofs.HeldVariables.{cut_known}
use Rattle.sap_read.proofs.NewNames.{candidate_name, candidate_no_constant}
use Rattle.sap_read.proofs.OccurringMeaning.{expansion_names, plain_bodies_names}
use Rattle.sap_read.proofs.OccurringSorts.{annotated_names, sorted_names}
use Rattle.sap_read.proofs.OccurringWords.{BodyNamesAre, DeclaredNameIs, bodies_names, declared_names}
use Rattle.sap_read.proofs.PrintableItems.{SpelledLaws, placed_held, header_held, cut_held, all_bodies, all_declares, all_states}
use Rattle.sap_read.proofs.PrintableLabels.{annotated_printable, annotated_levels}
use Rattle.sap_read.proofs.PrintableMeaning.{NewNamesAre, expansion_prints}
use Rattle.sap_read.proofs.PrintableSorts.{sorted_printable}
use Rattle.sap_read.proofs.PrintableStatements.{SortLaws, restrictions_printable, lemmas_printable}
use Rattle.sap_read.proofs.ProcessOver.{IsProcessOver, well_formed_over}
use Rattle.sap_read.proofs.Sizes.{sorts_keep_levels}
use Rattle.sap_read.proofs.Small.{AreOneSize, few_levels, few_places}
use Rattle.sap_read.proofs.TakenNames.{BindsFew, binds_few, room_left, taken_at_most}
use Rattle.sap_read.proofs.Unrefused.{pairs_stay}
use Rattle.sap_read.proofs.laws.files_are_printable.Goals as goal

-- what the laws of bytes say of the words of their tokens
record WordLaws : Type 0 where
  tokens : (most : ℕ) (z : List ℕ) (ts : List Token) → IsLexed most 0 1 z (Ok ts) → AreWords most z (words_of z ts)
  held : (most : ℕ) (z : List ℕ) (ws : List Word) → AreWords most z ws → AreTokenWords most ws

-- what is said of new names
record NewNameLaws : Type 0 where
  short : (taken : List (List ℕ)) (x : List ℕ) → length taken + 2 ≤ 2 ^ 64 → (number : ℕ) × (0 < number) × (number < 2 ^ 64) × (new_name taken x ≡ candidate x number)
  free : (taken : List (List ℕ)) (x : List ℕ) → is_known taken (new_name taken x) ≡ false

abbrev wide : ℕ
wide = MOST_NEW_NAME_BYTES

-- new names are names of the file's process, and none is a constant
new_names : (laws : NewNameLaws) (M : OfNames) (ds : List Declaration) (ids : List (List ℕ)) → AllByRecursion (DeclaredNameIs (IsAmong ids) M) ds
    → NewNamesAre MOST_FILE_NAME_BYTES wide (omega arith) (signature_from pairs_alone ds) ids
new_names laws M ds ids declared taken x stays room h =
    let s = laws.short taken x room in (
      subst (IsName wide) (sym s.3) (candidate_name MOST_FILE_NAME_BYTES wide x s.0 s.2 (omega arith) h),
      subst (λ y. IsConstant (signature_from pairs_alone ds) y → ⊥) (sym s.3) (candidate_no_constant (IsAmong ids) M ds x s.0 s.2 declared (λ known.
          let here : is_known taken (candidate x s.0) ≡ true = stays (candidate x s.0) known in
          let there : is_known taken (candidate x s.0) ≡ false = subst (λ y. is_known taken y ≡ false) s.3 (laws.free taken x) in
          absurd (cc (here, there)))),
    )

-- each of these binds no more names than there are
all_few : (ids : List (List ℕ)) (M : OfNames) (ds : List Definition) → AllByRecursion (λ (d : Definition). WrittenNamesAre (IsAmong ids) M d.body) ds → AllByRecursion (BindsFew (length ids)) ds
all_few ids M [] h = tt
all_few ids M (d ∷ ds) h = (binds_few ids M d h.0, all_few ids M ds h.1)

module _ (bytes : WordLaws) (spelled : SpelledLaws) (sorts : SortLaws) (names : NewNameLaws) (sizes : AreOneSize) where
  printable : (z : List ℕ) (o : Result FileContent ReadFault) (f : FileContent) → length z ≤ 2 ^ 52 → o ≡ Ok f → IsRead z o → IsPrintableFile MOST_FILE_NAME_BYTES wide f
  printable z o f few e (no_tokens l) = absurd (cc (e))
  printable z o f few e (no_header l h) = absurd (cc (e))
  printable z o f few e (no_item l h) = absurd (cc (e))
  printable z o f few e (refused l h c) = absurd (cc (e))
  printable z o f few e (unexpanded l h c u) = absurd (cc (e))
  printable z o f few e (ill l h c m w) = absurd (cc (e))
  printable z o f few e (locked l h c m w k) = absurd (cc (e))
  printable z o f few e (unchecked l h c m w a u) = absurd (cc (e))
  printable z _ f few e (accepted {ts = ts} {x = x} {cut = cut} {is = items} {p = p} {q = q} l h c m w a all) =
      let most = MOST_FILE_NAME_BYTES in
      let M : OfNames = IsContent most in
      let g = signature_of items in
      let ids = identifiers_of (words_of z ts) in
      let N : OfNames = IsAmong ids in
      let bs = bodies items in
      let ds = definitions_of bs in
      let whole : Proc = (expansion ds ids m.main).process in
      let levels : level_count q ≡ level_count p = annotated_levels (with_sorts [] p) q a ∙ sorts_keep_levels p [] in
      let words = bytes.held most z (words_of z ts) (bytes.tokens most z ts l.tokens) in
      let held = placed_held most z ts words in
      let header = header_held most x (placed z ts) l.rest l.header held in
      let pieces = cut_held most l.items header.1 in
      let named = cut_known M z ts x cut (token_words most (words_of z ts) words) l in
      let own = bodies_names N M g h named in
      let defs_named = definitions_so (BodyNamesAre N M) (λ d. WrittenNamesAre N M d.body) (λ b x so. so.1) bs own in
      let main_named = main_so (BodyNamesAre N M) (WrittenNamesAre N M) (λ b so. so.1) bs m.main own m.is_main in
      let spell = all_bodies most spelled g h pieces in
      let defs_spelled = definitions_so (λ b. IsSpelledWritten most g b.content) (λ d. IsSpelledWritten most g d.body) (λ b x so. so) bs spell in
      let main_spelled = main_so (λ b. IsSpelledWritten most g b.content) (IsSpelledWritten most g) (λ b so. so) bs m.main spell m.is_main in
      let empty : M [] = record { is = refl; short = omega arith } in
      let binds = all_few ids M (plain_bodies call ds) (plain_bodies_names N M empty ds defs_named) in
      let many = taken_at_most ids (plain_bodies call ds) unchanged same_name (plain ds m.main) binds in
      let nodes : node_count whole ≤ MOST_PROCESS_PLACES = subst (λ (r : Proc). node_count r ≤ MOST_PROCESS_PLACES) (sym m.whole) (few_places sizes g ids bs p m) in
      let less = identifiers_few most z ts l.tokens in
      let left = room_left (length ids) (node_count whole) (omega (arith, less, few)) nodes in
      let over = well_formed_over g p w in
      let over_whole = subst (IsProcessOver g) (sym m.whole) over in
      let fresh_names = new_names names M (declarations items) ids (declared_names N M g h named) in
      let written = expansion_prints most wide (omega arith) g ids fresh_names ds m.main defs_spelled main_spelled (omega (arith, many, left)) over_whole in
      let printed = subst (IsPrintableProcess wide g) m.whole written in
      let occurring = subst (ProcessNamesAre Any M) m.whole (expansion_names N M empty ds ids m.main defs_named main_named) in
      let said = all_states most spelled g h pieces in
      subst (IsPrintableFile most wide) (same _ f e) (record {
        name = header.0;
        is_map = map_held (declarations items);
        pairs = pairs_stay (declarations items);
        symbols = All-from_recursion (IsDeclarable most) g.symbols (declared_can most (omega arith) (declarations items) (all_declares most spelled g h pieces));
        process = annotated_printable wide g (with_sorts [] p) q a (sorted_printable wide g p [] tt over printed);
        contents = annotated_names M (with_sorts [] p) q a (sorted_names M p [] occurring);
        levels = subst (λ n. n ≤ MOST_PROCESS_LEVELS) (sym levels) (few_levels sizes g ids bs p m);
        restrictions = All-from_recursion (IsPrintableRestriction most g) (restrictions_of (statements items)) (restrictions_printable sorts most g (statements items) said all);
        lemmas = All-from_recursion (IsPrintableLemma most g) (lemmas_of (statements items)) (lemmas_printable sorts most g (statements items) said all);
      })
    where
      same : (a b : FileContent) → ◌≡◌ {A = Result FileContent ReadFault} (Ok a) (Ok b) → a ≡ b
      same a b e = cc

pub returns : goal.returns
returns c =
    let bytes : WordLaws = record { tokens = c.words_of_bytes.ensures.tokens; held = c.words_of_bytes.ensures.held } in
    let spelled : SpelledLaws = record {
      process = c.processes_are_printable.ensures;
      tidy = c.formulas_are_printable.ensures.tidy;
      names = c.formulas_are_printable.ensures.names;
    } in
    let sorts : SortLaws = record {
      twice = c.sorts_are_kept.ensures.twice;
      tidy = c.sorts_are_kept.ensures.tidy;
      own = c.faultless_formulas_keep_signs.ensures.sorts;
      over = c.faultless_formulas_keep_signs.ensures.over;
      names = c.sorts_are_kept.ensures.names;
    } in
    let names : NewNameLaws = record { short = c.new_names_are_short.ensures; free = c.new_names_are_least.ensures.free } in
    let sizes : AreOneSize = record { nodes = c.sizes_are_one.ensures.nodes; levels = c.sizes_are_one.ensures.levels } in
    λ z f few r. printable bytes spelled sorts names sizes z (Ok f) f few refl r
