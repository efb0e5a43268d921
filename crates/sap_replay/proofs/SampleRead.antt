-- The text of the sample is read as a file.
use Rattle.std.proofs.Common.{◌≡◌, ℕ, List, [], ◌∷◌, ◌++◌, map, Bool, true, false, not, Result, Ok, Err, refl, sym, ap, arith, lit≤}
use Rattle.std.specs.Prelude.{codes}
use Rattle.std.specs.List.{list_all}
use Rattle.std.proofs.lemmas.List.Elements.{All-nil, All-cons}
use Rattle.sap_terms.proofs.PlainLaws.Tests.{and_left, and_right}
use Rattle.sap_terms.specs.Signature.{Sig, pairs_alone, added}
use Rattle.sap_terms.specs.declared.signature.Builtin.TheVariants.{Hashing}
use Rattle.sap_terms.specs.Tree.{variable}
use Rattle.sap_text.specs.Tokens.{IsLexed}
use Rattle.sap_grammar.specs.Cut.{Placed, NoItemWord, begins_item, cut_none, cut_one}
use Rattle.sap_grammar.specs.Declarations.{builtins_last, spells_hashing}
use Rattle.sap_grammar.specs.FactGrammar.{IsShortFact, fact_linear}
use Rattle.sap_grammar.specs.Items.{items_end, items_more}
use Rattle.sap_grammar.specs.Sizes.{IsSmall}
use Rattle.sap_grammar.specs.TermGrammar.{IsShort, args_some, list_last, term_fresh, term_message, term_quoted, term_symbol}
use Rattle.sap_grammar.specs.Words.{Word, mark, name, quoted}
use Rattle.sap_draft.specs.ProcessGrammar.{IsPar, action_event, action_input, action_insert, action_lock, action_new_fresh, action_out, action_unlock, par_one, seq_action, seq_parentheses, seq_replicated, seq_then}
use Rattle.sap_draft.specs.declared.limits.TheConstants.{FILE_LIMITS}
use Rattle.sap_process.specs.Action.{new, out, input, event, insert, lock, unlock}
use Rattle.sap_process.specs.Proc.{replicated}
use Rattle.sap_macro.specs.Written as written
use Rattle.sap_uses.specs.FaultCauses.{Holds}
use Rattle.sap_uses.specs.declared.fault.MacroFault.{MacroFault}
use Rattle.sap_uses.specs.declared.fault.MacroFault.TheVariants as uses
use Rattle.sap_formula.specs.Faults.{HasNoFault}
use Rattle.sap_statements.specs.Statements.{formula_of}
use Rattle.sap_statements.specs.declared.statement.Statement.{Statement}
use Rattle.sap_read.specs.Files.{FileContent, IsRead, IsParted, accepted}
use Rattle.sap_read.specs.Item.{Standing, builtins, process}
use Rattle.sap_read.specs.ItemGrammar.{item_builtins, item_process}
use Rattle.sap_read.specs.declared.fault.ReadFault.{ReadFault}
use Rattle.sap_read.specs.declared.fault.ReadFault.TheVariants as fault
use Rattle.sap_replay.specs.Sample.{sample_file_text, session_name, session_message, store_key, hash_of, got_message, session_process, told_sample}
use Rattle.sap_replay.proofs.PieceTokens.{Longest, Piece, word, quote, sign, gap, text, tokens, pieces_lexed}
use Rattle.sap_replay.proofs.SampleSound.{sample_well_formed}
use Rattle.sap_replay.proofs.SampleLabelled.{sample_annotated}

-- a space and a line feed
abbrev space : Piece
space = gap 32

abbrev feed : Piece
feed = gap 10

abbrev semicolon : Piece
semicolon = sign (codes ";")

abbrev header_pieces : List Piece
header_pieces = word 116 (codes "heory") ∷ space ∷ word 83 (codes "ample") ∷ space ∷ word 98 (codes "egin") ∷ feed ∷ []

abbrev builtin_pieces : List Piece
builtin_pieces = word 98 (codes "uiltins") ∷ sign (codes ":") ∷ space ∷ word 104 (codes "ashing") ∷ feed ∷ []

abbrev action_pieces : List Piece
action_pieces =
    word 110 (codes "ew") ∷ space ∷ sign (codes "~") ∷ word 107 [] ∷ semicolon ∷ space
    ∷ word 108 (codes "ock") ∷ space ∷ quote (codes "r") ∷ semicolon ∷ space
    ∷ word 105 (codes "nsert") ∷ space ∷ quote (codes "r") ∷ sign (codes ",") ∷ space ∷ sign (codes "~") ∷ word 107 [] ∷ semicolon ∷ space
    ∷ word 117 (codes "nlock") ∷ space ∷ quote (codes "r") ∷ semicolon ∷ space
    ∷ word 111 (codes "ut") ∷ sign (codes "(") ∷ word 104 [] ∷ sign (codes "(") ∷ sign (codes "~") ∷ word 107 [] ∷ sign (codes ")") ∷ sign (codes ")") ∷ semicolon ∷ space
    ∷ word 105 (codes "n") ∷ sign (codes "(") ∷ word 120 [] ∷ sign (codes ")") ∷ semicolon ∷ space
    ∷ word 101 (codes "vent") ∷ space ∷ word 71 (codes "ot") ∷ sign (codes "(") ∷ word 120 [] ∷ sign (codes ")") ∷ []

abbrev process_pieces : List Piece
process_pieces =
    word 112 (codes "rocess") ∷ sign (codes ":") ∷ space ∷ sign (codes "!") ∷ space ∷ sign (codes "(") ∷ (action_pieces ++ sign (codes ")") ∷ feed ∷ [])

abbrev pieces : List Piece
pieces = header_pieces ++ (builtin_pieces ++ (process_pieces ++ word 101 (codes "nd") ∷ feed ∷ []))

is_the_text : text pieces ≡ sample_file_text
is_the_text = refl

-- the words, each on its line
abbrev on : ℕ → List Word → List Placed
on n ws = map (λ (w : Word). record { word = w; line = n }) ws

abbrev builtin_words : List Placed
builtin_words = on 2 (mark (codes "builtins") ∷ mark (codes ":") ∷ name (codes "hashing") ∷ [])

abbrev action_words : List Word
action_words =
    mark (codes "new") ∷ mark (codes "~") ∷ name (codes "k") ∷ mark (codes ";")
    ∷ mark (codes "lock") ∷ quoted (codes "r") ∷ mark (codes ";")
    ∷ mark (codes "insert") ∷ quoted (codes "r") ∷ mark (codes ",") ∷ mark (codes "~") ∷ name (codes "k") ∷ mark (codes ";")
    ∷ mark (codes "unlock") ∷ quoted (codes "r") ∷ mark (codes ";")
    ∷ mark (codes "out") ∷ mark (codes "(") ∷ name (codes "h") ∷ mark (codes "(") ∷ mark (codes "~") ∷ name (codes "k") ∷ mark (codes ")") ∷ mark (codes ")") ∷ mark (codes ";")
    ∷ mark (codes "in") ∷ mark (codes "(") ∷ name (codes "x") ∷ mark (codes ")") ∷ mark (codes ";")
    ∷ mark (codes "event") ∷ name (codes "Got") ∷ mark (codes "(") ∷ name (codes "x") ∷ mark (codes ")") ∷ []

abbrev body_words : List Word
body_words = mark (codes "!") ∷ mark (codes "(") ∷ (action_words ++ mark (codes ")") ∷ [])

abbrev process_words : List Placed
process_words = on 3 (mark (codes "process") ∷ mark (codes ":") ∷ body_words)

abbrev last_words : List Placed
last_words = on 4 (mark (codes "end") ∷ [])

-- no item begins among words that fail the test
none_begins : (ps : List Placed) → list_all (λ p. not (begins_item p)) ps ≡ true → NoItemWord ps
none_begins [] h = tt
none_begins (p ∷ ps) h = (at (begins_item p) (and_left (not (begins_item p)) (list_all (λ q. not (begins_item q)) ps) h), none_begins ps (and_right (not (begins_item p)) (list_all (λ q. not (begins_item q)) ps) h)) where
  at : (b : Bool) → not b ≡ true → b ≡ false
  at true e = cc
  at false e = refl

abbrev sig : Sig
sig = added pairs_alone Hashing

-- the process as it is written
abbrev written_process : written.Written
written_process =
    written.replicated (written.act (new session_name) (written.act (lock store_key 0) (written.act (insert store_key (variable session_name)) (written.act (unlock store_key 0)
    (written.act (out (hash_of (variable session_name))) (written.act (input (variable session_message)) (written.act (event got_message) written.nil)))))))

abbrev items : List Standing
items = record { item = builtins (Hashing ∷ []); line = 2 } ∷ record { item = process written_process; line = 3 } ∷ []

-- its terms
store_key_is : (ws : List Word) → IsShort sig FILE_LIMITS store_key (quoted (codes "r") ∷ ws) ws
store_key_is ws = record { spelled = term_quoted; small = record { few_levels = omega arith; few_nodes = tt } }

name_is : (ws : List Word) → IsShort sig FILE_LIMITS (variable session_name) (mark (codes "~") ∷ name (codes "k") ∷ ws) ws
name_is ws = record { spelled = term_fresh; small = record { few_levels = omega arith; few_nodes = tt } }

hash_is : (ws : List Word) → IsShort sig FILE_LIMITS (hash_of (variable session_name)) (name (codes "h") ∷ mark (codes "(") ∷ mark (codes "~") ∷ name (codes "k") ∷ mark (codes ")") ∷ ws) ws
hash_is ws = record { spelled = term_symbol refl (args_some (list_last term_fresh)); small = record { few_levels = omega arith; few_nodes = tt } }

-- x is a variable, since the signature has no such constant
message_is : (ws : List Word) → IsShort sig FILE_LIMITS (variable session_message) (name (codes "x") ∷ ws) ws
message_is ws = record { spelled = term_message (λ e. absurd (cc (e))); small = record { few_levels = omega arith; few_nodes = tt } }

got_is : (ws : List Word) → IsShortFact sig FILE_LIMITS false got_message (name (codes "Got") ∷ mark (codes "(") ∷ name (codes "x") ∷ mark (codes ")") ∷ ws) ws
got_is ws = record {
  spelled = fact_linear refl (args_some (list_last (message_is _).spelled));
  small = All-cons (IsSmall FILE_LIMITS) (variable session_message) [] (message_is []).small (All-nil (IsSmall FILE_LIMITS));
  sign = λ e. absurd (cc (e));
}

process_is : IsPar sig FILE_LIMITS written_process 10 body_words []
process_is =
    par_one (seq_replicated (seq_parentheses (par_one (seq_then action_new_fresh (seq_then (action_lock (store_key_is _))
    (seq_then (action_insert (store_key_is _) (name_is _)) (seq_then (action_unlock (store_key_is _)) (seq_then (action_out (hash_is _))
    (seq_then (action_input (message_is _)) (seq_action (action_event (got_is _))))))))))))

-- it can be expanded: nothing is defined, and it is small
no_cause : (f : MacroFault) → Holds sig [] written_process f → ⊥
no_cause uses.Mem h = h
no_cause (uses.Parameters x) h = cc (h)
no_cause (uses.Arguments x) h = cc (h)
no_cause uses.TooMany h = let few = h [] in omega (arith, few)
no_cause uses.TooDeep h = let few = h [] in omega (arith, few)
no_cause (uses.Large x) h = cc (h)
no_cause (uses.Flawed x w path) h = let none = h.stands in cc (none)

module _ (longest : Longest) where
  lexed : IsLexed 64 0 1 sample_file_text (Ok (tokens 0 1 pieces))
  lexed = pieces_lexed longest pieces 0 1 refl

  parted : IsParted sample_file_text (tokens 0 1 pieces) (codes "Sample") (builtin_words ∷ process_words ∷ last_words ∷ [])
  parted = record {
    tokens = lexed;
    rest = builtin_words ++ (process_words ++ last_words);
    header = record { theory_line = 1; name_line = 1; begin_line = 1; spelled = refl };
    items = cut_one _ _ (process_words ++ last_words) (none_begins (on 2 (mark (codes ":") ∷ name (codes "hashing") ∷ [])) refl) refl
        (cut_one _ _ last_words (none_begins (on 3 (mark (codes ":") ∷ body_words)) refl) refl (cut_one _ [] [] tt tt cut_none));
  }

  pub sample_is_read : IsRead sample_file_text (Ok told_sample)
  sample_is_read =
      accepted {is = items} {p = replicated (session_process 0)} {q = replicated (session_process 1)} parted
      (items_more (item_builtins (builtins_last spells_hashing))
      (items_more (item_process (record { levels = 10; spelled = process_is; few_levels = lit≤ tt })) (items_end refl)))
      refl (record { main = written_process; is_main = refl; no_cause = no_cause; whole = refl }) sample_well_formed sample_annotated (All-nil (λ (s : Statement). HasNoFault sig true (formula_of s)))

-- whose file is told, where there is one
abbrev told_or : Result FileContent ReadFault → FileContent
told_or (Ok f) = f
told_or (Err e) = told_sample

-- so no other file is read
pub only_told : (f : FileContent) → ◌≡◌ {A = Result FileContent ReadFault} (Ok told_sample) (Ok f) → f ≡ told_sample
only_told f e = sym (ap told_or e)

-- and nothing is refused
pub never_refused : (e : ReadFault) → Ok told_sample ≡ Err e → ⊥
never_refused e h = cc

-- a fault that is none but want of memory is that
pub is_memory : (e : ReadFault) → ((e ≡ fault.Mem → ⊥) → ⊥) → e ≡ fault.Mem
is_memory fault.Mem h = refl
is_memory (fault.Lex f) h = absurd (h (λ e. cc))
is_memory fault.Header h = absurd (h (λ e. cc))
is_memory (fault.Syntax n) h = absurd (h (λ e. cc))
is_memory fault.NoProcess h = absurd (h (λ e. cc))
is_memory (fault.TwoProcesses n) h = absurd (h (λ e. cc))
is_memory (fault.UnknownProcess x) h = absurd (h (λ e. cc))
is_memory (fault.DuplicateName x) h = absurd (h (λ e. cc))
is_memory (fault.FunctionClash x) h = absurd (h (λ e. cc))
is_memory (fault.Parameters x) h = absurd (h (λ e. cc))
is_memory (fault.Arguments x) h = absurd (h (λ e. cc))
is_memory fault.TooMany h = absurd (h (λ e. cc))
is_memory fault.TooDeep h = absurd (h (λ e. cc))
is_memory (fault.Large x) h = absurd (h (λ e. cc))
is_memory (fault.Flawed x w path) h = absurd (h (λ e. cc))
is_memory (fault.Ill w path) h = absurd (h (λ e. cc))
is_memory (fault.Lock f) h = absurd (h (λ e. cc))
is_memory (fault.Formula x f) h = absurd (h (λ e. cc))
