-- Small files, read byte by byte.
use Rattle.std.proofs.Common.{◌≡◌, ◌<◌, ◌≤◌, ◌+◌, ℕ, zero, suc, List, [], ◌∷◌, ◌++◌, length, map, Bool, true, false, Some, Ok, Err, refl, sym, ap, subst, arith, slice_get, lit≤}
use Rattle.std.specs.Prelude.{codes}
use Rattle.std.specs.List.{list_all}
use Rattle.std.specs.Char.{is_ascii_digit}
use Rattle.std.proofs.lemmas.List.Elements.{All-nil}
use Rattle.sap_text.specs.Tokens.{IsToken, ident, number, IsLongest, IsLexed, Lexed, before, ended, skipped, taken, failed, blank, open_quote, Stops, is_word, is_content, stands_alone}
use Rattle.sap_text.specs.declared.fault.Lex.TheVariants.{OpenQuote}
use Rattle.sap_text.specs.declared.token.Kind.{Kind}
use Rattle.sap_text.specs.declared.token.Kind.TheVariants as kind
use Rattle.sap_text.specs.declared.token.Token.{Token}
use Rattle.sap_terms.specs.declared.signature.Builtin.TheVariants.{Signing}
use Rattle.sap_process.specs.Action.{out, unlock}
use Rattle.sap_process.specs.FlawExamples.{pairs_and_signing}
use Rattle.sap_process.specs.Flaws.{IsWellFormed, IsFirstFlaw}
use Rattle.sap_process.specs.Proc as whole
use Rattle.sap_process.specs.StepExamples.{x}
use Rattle.sap_process.specs.declared.flaw.Flaw.TheVariants.{Unbound}
use Rattle.sap_terms.specs.Tree.{public, variable}
use Rattle.sap_locks.specs.Annotation.{IsAnnotation, IsFirstLockFlaw, without}
use Rattle.sap_grammar.specs.Cut.{Placed, cut_none, cut_one}
use Rattle.sap_grammar.specs.Declarations.{builtins_last, spells_signing}
use Rattle.sap_grammar.specs.Items.{items_end, items_more, no_end}
use Rattle.sap_grammar.specs.TermGrammar.{IsShort, term_message, term_quoted}
use Rattle.sap_grammar.specs.Words.{Word, mark, name, number as number_word, quoted as quoted_word, is_mark}
use Rattle.sap_draft.specs.ProcessGrammar.{par_one, seq_call, seq_nil, seq_action, action_out, action_unlock}
use Rattle.sap_macro.specs.Written as written
use Rattle.sap_draft.specs.declared.limits.TheConstants.{FILE_LIMITS}
use Rattle.sap_formula.specs.Faults.{HasFault, HasNoFault, IsFirstFault, rank, told}
use Rattle.sap_formula.specs.Form.{Form, earlier}
use Rattle.sap_formula.specs.Parts.{Part, time, form_parts}
use Rattle.sap_formula.specs.declared.fault.FormulaFlaw.{FormulaFlaw}
use Rattle.sap_formula.specs.declared.fault.FormulaFlaw.TheVariants.{BadFunction, Destructor, Reserved, UnboundVar, Unguarded}
use Rattle.sap_formula.specs.declared.lemma.Mode.TheVariants.{AllTraces}
use Rattle.sap_formula_grammar.specs.FormulaGrammar.{closed, iff_one, imp_one, or_one, and_one, un_atom, atom_earlier, time_plain}
use Rattle.sap_statements.specs.Stated.{this_one}
use Rattle.sap_statements.specs.Statements.{formula_of, is_lemma, without_attributes, mode_missing}
use Rattle.sap_statements.specs.declared.statement.Statement.{Statement}
use Rattle.sap_statements.specs.declared.statement.Statement.TheVariants.{Lemma as lemma}
use Rattle.sap_read.specs.AsWritten.{IsWrittenAs}
use Rattle.sap_read.specs.Causes.{lock_fault}
use Rattle.sap_read.specs.FileExamples.{defined_file, doing_nothing, empty_file, endless_file, headless_file, quoting_file, timeless_file, told_whole, unbound_file, unlocking_file, using_p, whole_file}
use Rattle.sap_read.specs.Files.{IsRead, IsParted, no_tokens, no_header, no_item, refused, ill, locked, unchecked, accepted}
use Rattle.sap_read.specs.Item.{Standing, builtins, definition, process, statement}
use Rattle.sap_read.specs.ItemGrammar.{item_builtins, item_definition, item_process, item_statement, without_parameters}
use Rattle.sap_read.specs.declared.fault.ReadFault.TheVariants.{Formula, Header, Ill, Lex as LexFault, NoProcess, Syntax}
use Rattle.sap_read.proofs.CausesByHand.{is_expanded}

-- what the law of tokens says
pub record Longest : Type 0 where
  pub names : (p b : List ℕ) → IsToken kind.Ident p → Stops is_word b → IsLongest kind.Ident p b
  pub numbers : (p b : List ℕ) → IsToken kind.Number p → Stops is_ascii_digit b → IsLongest kind.Number p b
  pub quoted : (s b : List ℕ) → list_all is_content s ≡ true → IsLongest kind.Quoted (39 ∷ (s ++ (39 ∷ []))) b
  pub symbols : (s b : List ℕ) → stands_alone s b ≡ true → IsLongest kind.Symbol s b

-- a token of so many bytes from this offset on, on the first line
abbrev token : Kind → ℕ → ℕ → Token
token k at n = record { kind = k; from = at; to = at + n; line = 1 }

module _ (longest : Longest) where
  -- an identifier, a number and a symbol before what follows, and a space
  word : (p b : List ℕ) (at : ℕ) (o : Lexed) → IsToken kind.Ident p → Stops is_word b → length p ≤ 64 → IsLexed 64 (at + length p) 1 b o
      → IsLexed 64 at 1 (p ++ b) (before (token kind.Ident at (length p)) o)
  word p b at o is stops few h = taken (longest.names p b is stops) few h

  digits : (p b : List ℕ) (at : ℕ) (o : Lexed) → IsToken kind.Number p → Stops is_ascii_digit b → length p ≤ 64 → IsLexed 64 (at + length p) 1 b o
      → IsLexed 64 at 1 (p ++ b) (before (token kind.Number at (length p)) o)
  digits p b at o is stops few h = taken (longest.numbers p b is stops) few h

  sign : (p b : List ℕ) (at : ℕ) (o : Lexed) → stands_alone p b ≡ true → IsLexed 64 (at + length p) 1 b o
      → IsLexed 64 at 1 (p ++ b) (before (token kind.Symbol at (length p)) o)
  sign p b at o alone h = taken (longest.symbols p b alone) (omega arith) h

  space : (b : List ℕ) (at : ℕ) (o : Lexed) → IsLexed 64 (at + 1) 1 b o → IsLexed 64 at 1 (32 ∷ b) o
  space b at o h = skipped {p = 32 ∷ []} (blank refl) h

  -- the header, before what stands behind it, which begins with a space or is nothing
  abbrev header_tokens : List Token → List Token
  header_tokens ts = token kind.Ident 0 6 ∷ token kind.Ident 7 1 ∷ token kind.Ident 9 5 ∷ ts

  behind_begin : (b : List ℕ) (o : Lexed) → Stops is_word b → IsLexed 64 14 1 b o
      → IsLexed 64 0 1 (codes "theory T begin" ++ b) (before (token kind.Ident 0 6) (before (token kind.Ident 7 1) (before (token kind.Ident 9 5) o)))
  behind_begin b o stops h =
      word (codes "theory") (codes " T begin" ++ b) 0 (before (token kind.Ident 7 1) (before (token kind.Ident 9 5) o)) (ident refl refl) refl (lit≤ tt)
      (space (codes "T begin" ++ b) 6 (before (token kind.Ident 7 1) (before (token kind.Ident 9 5) o))
      (word (codes "T") (codes " begin" ++ b) 7 (before (token kind.Ident 9 5) o) (ident refl refl) refl (lit≤ tt)
      (space (codes "begin" ++ b) 8 (before (token kind.Ident 9 5) o)
      (word (codes "begin") b 9 o (ident refl refl) stops (lit≤ tt) h))))

  at_end : (at : ℕ) → IsLexed 64 at 1 (codes " end") (Ok (token kind.Ident (at + 1) 3 ∷ []))
  at_end at = space (codes "end") at (Ok (token kind.Ident (at + 1) 3 ∷ [])) (word (codes "end") [] (at + 1) (Ok []) (ident refl refl) tt (lit≤ tt) ended)

  -- no process
  abbrev empty_tokens : List Token
  empty_tokens = header_tokens (token kind.Ident 15 3 ∷ [])

  pub empty_is : IsRead empty_file (Err NoProcess)
  empty_is =
      let lexed : IsLexed 64 0 1 empty_file (Ok empty_tokens) = behind_begin (codes " end") (Ok (token kind.Ident 15 3 ∷ [])) refl (at_end 14) in
      let end : Placed = record { word = mark (codes "end"); line = 1 } in
      let parted : IsParted empty_file empty_tokens (codes "T") ((end ∷ []) ∷ []) = record {
        tokens = lexed;
        rest = end ∷ [];
        header = record { theory_line = 1; name_line = 1; begin_line = 1; spelled = refl };
        items = cut_one end [] [] tt tt cut_none;
      } in
      refused {is = []} parted (items_end refl) refl

  -- no `end`
  pub endless_is : IsRead endless_file (Err (Syntax 1))
  endless_is =
      let lexed : IsLexed 64 0 1 endless_file (Ok (header_tokens [])) = behind_begin [] (Ok []) tt ended in
      let parted : IsParted endless_file (header_tokens []) (codes "T") [] = record {
        tokens = lexed;
        rest = [];
        header = record { theory_line = 1; name_line = 1; begin_line = 1; spelled = refl };
        items = cut_none;
      } in
      no_item parted no_end

  -- no `begin`
  abbrev headless_tokens : List Token
  headless_tokens = token kind.Ident 0 6 ∷ token kind.Ident 7 1 ∷ token kind.Ident 9 3 ∷ []

  abbrev third_begins : List Placed → Bool
  third_begins (p ∷ q ∷ r ∷ ps) = is_mark (codes "begin") r.word
  third_begins _ = false

  pub headless_is : IsRead headless_file (Err Header)
  headless_is =
      let lexed : IsLexed 64 0 1 headless_file (Ok headless_tokens) =
      word (codes "theory") (codes " T end") 0 (Ok (token kind.Ident 7 1 ∷ token kind.Ident 9 3 ∷ [])) (ident refl refl) refl (lit≤ tt)
      (space (codes "T end") 6 (Ok (token kind.Ident 7 1 ∷ token kind.Ident 9 3 ∷ []))
      (word (codes "T") (codes " end") 7 (Ok (token kind.Ident 9 3 ∷ [])) (ident refl refl) refl (lit≤ tt) (at_end 8))) in
      no_header lexed (λ n rest h. let z : false ≡ true = ap third_begins h.spelled in cc)

  -- a quote that is not closed
  never_empty : (u v : List ℕ) (n : ℕ) → [] ≡ u ++ n ∷ v → ⊥
  never_empty [] v n e = cc
  never_empty (m ∷ u) v n e = cc

  pub quoting_is : IsRead quoting_file (Err (LexFault (OpenQuote 15)))
  quoting_is =
      no_tokens (behind_begin (codes " '") (Err (OpenQuote 15)) refl (space (codes "'") 14 (Err (OpenQuote 15)) (failed (open_quote (λ u v e inner. never_empty u v 39 e)))))

  -- what stands before a process: a builtin, `process` and a colon
  abbrev kinds_before : List Token → List Token
  kinds_before ts =
      token kind.Ident 15 8 ∷ token kind.Symbol 23 1 ∷ token kind.Ident 25 7 ∷ token kind.Ident 33 7 ∷ token kind.Symbol 40 1 ∷ ts

  behind_colon : (b : List ℕ) (ts : List Token) → stands_alone (codes ":") (codes " " ++ b) ≡ true → IsLexed 64 42 1 b (Ok ts)
      → IsLexed 64 14 1 (codes " builtins: signing process: " ++ b) (Ok (kinds_before ts))
  behind_colon b ts alone h =
      space (codes "builtins: signing process: " ++ b) 14 (Ok (kinds_before ts))
      (word (codes "builtins") (codes ": signing process: " ++ b) 15
      (Ok (token kind.Symbol 23 1 ∷ token kind.Ident 25 7 ∷ token kind.Ident 33 7 ∷ token kind.Symbol 40 1 ∷ ts)) (ident refl refl) refl (lit≤ tt)
      (sign (codes ":") (codes " signing process: " ++ b) 23 (Ok (token kind.Ident 25 7 ∷ token kind.Ident 33 7 ∷ token kind.Symbol 40 1 ∷ ts)) refl
      (space (codes "signing process: " ++ b) 24 (Ok (token kind.Ident 25 7 ∷ token kind.Ident 33 7 ∷ token kind.Symbol 40 1 ∷ ts))
      (word (codes "signing") (codes " process: " ++ b) 25 (Ok (token kind.Ident 33 7 ∷ token kind.Symbol 40 1 ∷ ts)) (ident refl refl) refl (lit≤ tt)
      (space (codes "process: " ++ b) 32 (Ok (token kind.Ident 33 7 ∷ token kind.Symbol 40 1 ∷ ts))
      (word (codes "process") (codes ": " ++ b) 33 (Ok (token kind.Symbol 40 1 ∷ ts)) (ident refl refl) refl (lit≤ tt)
      (sign (codes ":") (codes " " ++ b) 40 (Ok ts) alone (space b 41 (Ok ts) h))))))))

  -- a word on the first line
  abbrev there : Word → Placed
  there w = record { word = w; line = 1 }

  abbrev builtin_words : List Placed
  builtin_words = there (mark (codes "builtins")) ∷ there (mark (codes ":")) ∷ there (name (codes "signing")) ∷ []

  abbrev process_words : List Word → List Placed
  process_words ws = there (mark (codes "process")) ∷ there (mark (codes ":")) ∷ map there ws

  abbrev last_words : List Placed
  last_words = there (mark (codes "end")) ∷ []

  -- the items: the builtin, and this process
  abbrev items_of : written.Written → List Standing
  items_of p = record { item = builtins (Signing ∷ []); line = 1 } ∷ record { item = process p; line = 1 } ∷ []

  -- `0`
  abbrev whole_tokens : List Token
  whole_tokens = header_tokens (kinds_before (token kind.Number 42 1 ∷ token kind.Ident 44 3 ∷ []))

  whole_lexed : IsLexed 64 0 1 whole_file (Ok whole_tokens)
  whole_lexed =
      behind_begin (codes " builtins: signing process: 0 end") (Ok (kinds_before (token kind.Number 42 1 ∷ token kind.Ident 44 3 ∷ []))) refl
      (behind_colon (codes "0 end") (token kind.Number 42 1 ∷ token kind.Ident 44 3 ∷ []) refl
      (digits (codes "0") (codes " end") 42 (Ok (token kind.Ident 44 3 ∷ [])) (number refl refl) refl (lit≤ tt) (at_end 43)))

  whole_parted : IsParted whole_file whole_tokens (codes "T") (builtin_words ∷ process_words (number_word (codes "0") ∷ []) ∷ last_words ∷ [])
  whole_parted = record {
    tokens = whole_lexed;
    rest = builtin_words ++ (process_words (number_word (codes "0") ∷ []) ++ last_words);
    header = record { theory_line = 1; name_line = 1; begin_line = 1; spelled = refl };
    items = cut_one _ _ (process_words (number_word (codes "0") ∷ []) ++ last_words) (refl, (refl, tt)) refl
        (cut_one _ _ last_words (refl, (refl, tt)) refl (cut_one _ [] [] tt tt cut_none));
  }

  pub whole_is : IsWellFormed pairs_and_signing whole.nil → IsAnnotation whole.nil whole.nil → IsRead whole_file (Ok told_whole)
  whole_is sound alone =
      accepted {is = items_of written.nil} {p = whole.nil} {q = whole.nil} whole_parted
      (items_more (item_builtins (builtins_last spells_signing))
      (items_more (item_process (record { levels = 1; spelled = par_one seq_nil; few_levels = lit≤ tt })) (items_end refl)))
      refl (is_expanded _ _ written.nil refl refl refl (lit≤ tt) (lit≤ tt) refl tt _) sound alone (All-nil (λ (s : Statement). HasNoFault pairs_and_signing true (formula_of s)))

  -- `out(x)`
  abbrev unbound_tokens : List Token
  unbound_tokens =
      header_tokens (kinds_before (token kind.Ident 42 3 ∷ token kind.Symbol 45 1 ∷ token kind.Ident 46 1 ∷ token kind.Symbol 47 1 ∷ token kind.Ident 49 3 ∷ []))

  abbrev unbound_words : List Word
  unbound_words = mark (codes "out") ∷ mark (codes "(") ∷ name (codes "x") ∷ mark (codes ")") ∷ []

  unbound_lexed : IsLexed 64 0 1 unbound_file (Ok unbound_tokens)
  unbound_lexed =
      behind_begin (codes " builtins: signing process: out(x) end") (Ok (kinds_before _)) refl
      (behind_colon (codes "out(x) end") (token kind.Ident 42 3 ∷ token kind.Symbol 45 1 ∷ token kind.Ident 46 1 ∷ token kind.Symbol 47 1 ∷ token kind.Ident 49 3 ∷ []) refl
      (word (codes "out") (codes "(x) end") 42 (Ok (token kind.Symbol 45 1 ∷ token kind.Ident 46 1 ∷ token kind.Symbol 47 1 ∷ token kind.Ident 49 3 ∷ [])) (ident refl refl) refl (lit≤ tt)
      (sign (codes "(") (codes "x) end") 45 (Ok (token kind.Ident 46 1 ∷ token kind.Symbol 47 1 ∷ token kind.Ident 49 3 ∷ [])) refl
      (word (codes "x") (codes ") end") 46 (Ok (token kind.Symbol 47 1 ∷ token kind.Ident 49 3 ∷ [])) (ident refl refl) refl (lit≤ tt)
      (sign (codes ")") (codes " end") 47 (Ok (token kind.Ident 49 3 ∷ [])) refl (at_end 48))))))

  unbound_parted : IsParted unbound_file unbound_tokens (codes "T") (builtin_words ∷ process_words unbound_words ∷ last_words ∷ [])
  unbound_parted = record {
    tokens = unbound_lexed;
    rest = builtin_words ++ (process_words unbound_words ++ last_words);
    header = record { theory_line = 1; name_line = 1; begin_line = 1; spelled = refl };
    items = cut_one _ _ (process_words unbound_words ++ last_words) (refl, (refl, tt)) refl
        (cut_one _ _ last_words (refl, (refl, (refl, (refl, (refl, tt))))) refl (cut_one _ [] [] tt tt cut_none));
  }

  -- x is a variable, since the signature has no such constant
  x_is : IsShort pairs_and_signing FILE_LIMITS (variable x) (name (codes "x") ∷ mark (codes ")") ∷ []) (mark (codes ")") ∷ [])
  x_is = record { spelled = term_message (λ e. absurd (cc (e))); small = record { few_levels = omega arith; few_nodes = tt } }

  pub unbound_is : IsFirstFlaw pairs_and_signing (whole.act (out (variable x)) whole.nil) Unbound [] → IsRead unbound_file (Err (Ill Unbound []))
  unbound_is flawed =
      ill {is = items_of (written.act (out (variable x)) written.nil)} {p = whole.act (out (variable x)) whole.nil} unbound_parted
      (items_more (item_builtins (builtins_last spells_signing))
      (items_more (item_process (record { levels = 2; spelled = par_one (seq_action (action_out x_is)); few_levels = lit≤ tt })) (items_end refl)))
      refl (is_expanded _ _ (written.act (out (variable x)) written.nil) refl refl refl (lit≤ tt) (lit≤ tt) refl tt _) flawed

  -- `unlock 's'`
  abbrev unlocking_tokens : List Token
  unlocking_tokens = header_tokens (kinds_before (token kind.Ident 42 6 ∷ token kind.Quoted 49 3 ∷ token kind.Ident 53 3 ∷ []))

  abbrev unlocking_words : List Word
  unlocking_words = mark (codes "unlock") ∷ quoted_word (codes "s") ∷ []

  in_quotes : (b : List ℕ) (at : ℕ) (ts : List Token) → IsLexed 64 (at + 3) 1 b (Ok ts) → IsLexed 64 at 1 (codes "'s'" ++ b) (Ok (token kind.Quoted at 3 ∷ ts))
  in_quotes b at ts h = taken {p = codes "'s'"} (longest.quoted (codes "s") b refl) (lit≤ tt) h

  unlocking_lexed : IsLexed 64 0 1 unlocking_file (Ok unlocking_tokens)
  unlocking_lexed =
      behind_begin (codes " builtins: signing process: unlock 's' end") (Ok (kinds_before _)) refl
      (behind_colon (codes "unlock 's' end") (token kind.Ident 42 6 ∷ token kind.Quoted 49 3 ∷ token kind.Ident 53 3 ∷ []) refl
      (word (codes "unlock") (codes " 's' end") 42 (Ok (token kind.Quoted 49 3 ∷ token kind.Ident 53 3 ∷ [])) (ident refl refl) refl (lit≤ tt)
      (space (codes "'s' end") 48 (Ok (token kind.Quoted 49 3 ∷ token kind.Ident 53 3 ∷ []))
      (in_quotes (codes " end") 49 (token kind.Ident 53 3 ∷ []) (at_end 52)))))

  unlocking_parted : IsParted unlocking_file unlocking_tokens (codes "T") (builtin_words ∷ process_words unlocking_words ∷ last_words ∷ [])
  unlocking_parted = record {
    tokens = unlocking_lexed;
    rest = builtin_words ++ (process_words unlocking_words ++ last_words);
    header = record { theory_line = 1; name_line = 1; begin_line = 1; spelled = refl };
    items = cut_one _ _ (process_words unlocking_words ++ last_words) (refl, (refl, tt)) refl
        (cut_one _ _ last_words (refl, (refl, (refl, tt))) refl (cut_one _ [] [] tt tt cut_none));
  }

  s_is : IsShort pairs_and_signing FILE_LIMITS (public (codes "s")) (quoted_word (codes "s") ∷ []) []
  s_is = record { spelled = term_quoted; small = record { few_levels = omega arith; few_nodes = tt } }

  pub unlocking_is : IsWellFormed pairs_and_signing (whole.act (unlock (public (codes "s")) 0) whole.nil)
      → IsFirstLockFlaw (whole.act (unlock (public (codes "s")) 0) whole.nil) without []
      → IsRead unlocking_file (Err (lock_fault without []))
  unlocking_is sound flaw =
      locked {is = items_of (written.act (unlock (public (codes "s")) 0) written.nil)} {p = whole.act (unlock (public (codes "s")) 0) whole.nil} unlocking_parted
      (items_more (item_builtins (builtins_last spells_signing))
      (items_more (item_process (record { levels = 2; spelled = par_one (seq_action (action_unlock s_is)); few_levels = lit≤ tt })) (items_end refl)))
      refl (is_expanded _ _ (written.act (unlock (public (codes "s")) 0) written.nil) refl refl refl (lit≤ tt) (lit≤ tt) refl tt _) sound flaw

  -- a lemma
  abbrev lemma_tokens : List Token
  lemma_tokens =
      token kind.Ident 44 5 ∷ token kind.Ident 50 1 ∷ token kind.Symbol 51 1 ∷ token kind.Symbol 53 1 ∷ token kind.Ident 54 1 ∷ token kind.Symbol 56 1 ∷ token kind.Ident 58 1
      ∷ token kind.Symbol 59 1 ∷ token kind.Ident 61 3 ∷ []

  lemma_lexed : IsLexed 64 43 1 (codes " lemma l: \"i < i\" end") (Ok lemma_tokens)
  lemma_lexed =
      let last : List Token = token kind.Ident 61 3 ∷ [] in
      let quote : List Token = token kind.Symbol 59 1 ∷ last in
      let second : List Token = token kind.Ident 58 1 ∷ quote in
      let less : List Token = token kind.Symbol 56 1 ∷ second in
      let first : List Token = token kind.Ident 54 1 ∷ less in
      let opened : List Token = token kind.Symbol 53 1 ∷ first in
      let colon : List Token = token kind.Symbol 51 1 ∷ opened in
      let named : List Token = token kind.Ident 50 1 ∷ colon in
      space (codes "lemma l: \"i < i\" end") 43 (Ok (token kind.Ident 44 5 ∷ named))
      (word (codes "lemma") (codes " l: \"i < i\" end") 44 (Ok named) (ident refl refl) refl (lit≤ tt)
      (space (codes "l: \"i < i\" end") 49 (Ok named)
      (word (codes "l") (codes ": \"i < i\" end") 50 (Ok colon) (ident refl refl) refl (lit≤ tt)
      (sign (codes ":") (codes " \"i < i\" end") 51 (Ok opened) refl
      (space (codes "\"i < i\" end") 52 (Ok opened)
      (sign (codes "\"") (codes "i < i\" end") 53 (Ok first) refl
      (word (codes "i") (codes " < i\" end") 54 (Ok less) (ident refl refl) refl (lit≤ tt)
      (space (codes "< i\" end") 55 (Ok less)
      (sign (codes "<") (codes " i\" end") 56 (Ok second) refl
      (space (codes "i\" end") 57 (Ok second)
      (word (codes "i") (codes "\" end") 58 (Ok quote) (ident refl refl) refl (lit≤ tt)
      (sign (codes "\"") (codes " end") 59 (Ok last) refl (at_end 60)))))))))))))

  abbrev timeless_tokens : List Token
  timeless_tokens = header_tokens (kinds_before (token kind.Number 42 1 ∷ lemma_tokens))

  timeless_lexed : IsLexed 64 0 1 timeless_file (Ok timeless_tokens)
  timeless_lexed =
      behind_begin (codes " builtins: signing process: 0 lemma l: \"i < i\" end") (Ok (kinds_before (token kind.Number 42 1 ∷ lemma_tokens))) refl
      (behind_colon (codes "0 lemma l: \"i < i\" end") (token kind.Number 42 1 ∷ lemma_tokens) refl
      (digits (codes "0") (codes " lemma l: \"i < i\" end") 42 (Ok lemma_tokens) (number refl refl) refl (lit≤ tt) lemma_lexed))

  abbrev lemma_words : List Placed
  lemma_words =
      map there (mark (codes "lemma") ∷ name (codes "l") ∷ mark (codes ":") ∷ mark (codes "\"") ∷ name (codes "i") ∷ mark (codes "<") ∷ name (codes "i") ∷ mark (codes "\"") ∷ [])

  timeless_parted : IsParted timeless_file timeless_tokens (codes "T") (builtin_words ∷ process_words (number_word (codes "0") ∷ []) ∷ lemma_words ∷ last_words ∷ [])
  timeless_parted = record {
    tokens = timeless_lexed;
    rest = builtin_words ++ (process_words (number_word (codes "0") ∷ []) ++ (lemma_words ++ last_words));
    header = record { theory_line = 1; name_line = 1; begin_line = 1; spelled = refl };
    items = cut_one _ _ (process_words (number_word (codes "0") ∷ []) ++ (lemma_words ++ last_words)) (refl, (refl, tt)) refl
        (cut_one _ _ (lemma_words ++ last_words) (refl, (refl, tt)) refl
        (cut_one _ _ last_words (refl, (refl, (refl, (refl, (refl, (refl, (refl, tt))))))) refl (cut_one _ [] [] tt tt cut_none)));
  }

  -- i < i
  abbrev timeless : Form
  timeless = earlier (codes "i") (codes "i")

  abbrev timeless_lemma : Statement
  timeless_lemma = lemma (record { name = codes "l"; attributes = []; mode = AllTraces; formula = timeless })

  abbrev timeless_items : List Standing
  timeless_items = items_of written.nil ++ record { item = statement timeless_lemma; line = 1 } ∷ []

  part_is : (k : ℕ) (p : Part) → slice_get (form_parts [] timeless) k ≡ Some p → time [] (codes "i") ≡ p
  part_is zero p e = cc
  part_is (suc zero) p e = cc
  part_is (suc (suc k)) p e = cc

  none_less : (u : FormulaFlaw) → rank u < 4 → HasFault pairs_and_signing true u (time [] (codes "i")) → ⊥
  none_less BadFunction h f = f
  none_less Destructor h f = f
  none_less Reserved h f = f
  none_less UnboundVar h f = omega arith
  none_less Unguarded h f = f

  fault_is : IsFirstFault pairs_and_signing true timeless UnboundVar (codes "i")
  fault_is = record {
    at = 0;
    here = record { part = time [] (codes "i"); stands = refl; fault = λ e. cc };
    name_is = refl;
    first = λ k h f. omega arith;
    least = λ u h k f. none_less u h (subst (HasFault pairs_and_signing true u) (sym (part_is k f.part f.stands)) f.fault);
  }

  pub timeless_is : IsWellFormed pairs_and_signing whole.nil → IsAnnotation whole.nil whole.nil
      → IsRead timeless_file (Err (Formula (codes "l") (told UnboundVar (codes "i"))))
  timeless_is sound alone =
      unchecked {is = timeless_items} {p = whole.nil} {q = whole.nil} timeless_parted
      (items_more (item_builtins (builtins_last spells_signing))
      (items_more (item_process (record { levels = 1; spelled = par_one seq_nil; few_levels = lit≤ tt }))
      (items_more (item_statement (is_lemma without_attributes mode_missing (record {
        reach = closed;
        levels = 1;
        spelled = iff_one (imp_one (or_one (and_one (un_atom (atom_earlier refl time_plain time_plain)))));
        few_levels = lit≤ tt;
        small = tt;
      }))) (items_end refl))))
      refl (is_expanded _ _ written.nil refl refl refl (lit≤ tt) (lit≤ tt) refl tt _) sound alone (this_one fault_is)

  -- `let P = 0`, and `P`
  abbrev defined_tokens : List Token
  defined_tokens =
      header_tokens
      (token kind.Ident 15 3 ∷ token kind.Ident 19 1 ∷ token kind.Symbol 21 1 ∷ token kind.Number 23 1 ∷ token kind.Ident 25 7 ∷ token kind.Symbol 32 1 ∷ token kind.Ident 34 1
      ∷ token kind.Ident 36 3 ∷ [])

  defined_lexed : IsLexed 64 0 1 defined_file (Ok defined_tokens)
  defined_lexed =
      let last : List Token = token kind.Ident 36 3 ∷ [] in
      let used : List Token = token kind.Ident 34 1 ∷ last in
      let colon : List Token = token kind.Symbol 32 1 ∷ used in
      let main : List Token = token kind.Ident 25 7 ∷ colon in
      let nothing : List Token = token kind.Number 23 1 ∷ main in
      let equals : List Token = token kind.Symbol 21 1 ∷ nothing in
      let named : List Token = token kind.Ident 19 1 ∷ equals in
      behind_begin (codes " let P = 0 process: P end") (Ok (token kind.Ident 15 3 ∷ named)) refl
      (space (codes "let P = 0 process: P end") 14 (Ok (token kind.Ident 15 3 ∷ named))
      (word (codes "let") (codes " P = 0 process: P end") 15 (Ok named) (ident refl refl) refl (lit≤ tt)
      (space (codes "P = 0 process: P end") 18 (Ok named)
      (word (codes "P") (codes " = 0 process: P end") 19 (Ok equals) (ident refl refl) refl (lit≤ tt)
      (space (codes "= 0 process: P end") 20 (Ok equals)
      (sign (codes "=") (codes " 0 process: P end") 21 (Ok nothing) refl
      (space (codes "0 process: P end") 22 (Ok nothing)
      (digits (codes "0") (codes " process: P end") 23 (Ok main) (number refl refl) refl (lit≤ tt)
      (space (codes "process: P end") 24 (Ok main)
      (word (codes "process") (codes ": P end") 25 (Ok colon) (ident refl refl) refl (lit≤ tt)
      (sign (codes ":") (codes " P end") 32 (Ok used) refl
      (space (codes "P end") 33 (Ok used)
      (word (codes "P") (codes " end") 34 (Ok last) (ident refl refl) refl (lit≤ tt) (at_end 35))))))))))))))

  abbrev definition_words : List Placed
  definition_words = map there (mark (codes "let") ∷ name (codes "P") ∷ mark (codes "=") ∷ number_word (codes "0") ∷ [])

  defined_parted : IsParted defined_file defined_tokens (codes "T") (definition_words ∷ process_words (name (codes "P") ∷ []) ∷ last_words ∷ [])
  defined_parted = record {
    tokens = defined_lexed;
    rest = definition_words ++ (process_words (name (codes "P") ∷ []) ++ last_words);
    header = record { theory_line = 1; name_line = 1; begin_line = 1; spelled = refl };
    items = cut_one _ _ (process_words (name (codes "P") ∷ []) ++ last_words) (refl, (refl, (refl, tt))) refl
        (cut_one _ _ last_words (refl, (refl, tt)) refl (cut_one _ [] [] tt tt cut_none));
  }

  pub defined_is : IsWrittenAs defined_file (doing_nothing ∷ []) using_p
  defined_is = record {
    tokens = defined_tokens;
    name = codes "T";
    cut = definition_words ∷ process_words (name (codes "P") ∷ []) ∷ last_words ∷ [];
    items = record { item = definition (codes "P") [] written.nil; line = 1 } ∷ record { item = process using_p; line = 1 } ∷ [];
    parted = defined_parted;
    spelled = items_more (item_definition without_parameters (record { levels = 1; spelled = par_one seq_nil; few_levels = lit≤ tt }))
        (items_more (item_process (record { levels = 1; spelled = par_one seq_call; few_levels = lit≤ tt })) (items_end refl));
    definitions = refl;
    process = refl;
  }
